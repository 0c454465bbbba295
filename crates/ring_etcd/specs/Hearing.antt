-- The reply that was heard last.
use Rattle.std.specs.Prelude.{◌≡◌, ◌+◌, ◌<◌, ℕ, List, Some}
use Rattle.serde_json.specs.Data.{Data}
use Rattle.serde_json.specs.Read.{read as read_text}

-- A text of JSON, of which this is so.
pub record Reads (P : Data → Type 0) (text : List ℕ) : Type 0 where
  pub json : Data
  pub is_read : read_text text ≡ Some json
  pub says : P json

-- One more reply was heard than before. This is so of the last one.
pub record Hears (P : Data → Type 0) (old new : ℕ) (last : List ℕ) : Type 0 where
  pub is_next : new ≡ old + 1
  pub reads : Reads P last

-- More replies were heard than before. This is so of the last one.
pub record HearsSince (P : Data → Type 0) (old new : ℕ) (last : List ℕ) : Type 0 where
  pub is_later : old < new
  pub reads : Reads P last
