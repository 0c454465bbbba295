-- Each value has one spelling, and each spelling one value.
use Rattle.std.specs.Prelude.{◌≡◌, ◌==◌, ℕ, false, List, [], ◌∷◌, ◌++◌}
use Rattle.std.specs.List.{list_any}
use Rattle.ring_events.specs.declared.reply.Reply.{Reply}
use Rattle.ring_grammar.specs.Spelling.{SpellsReply}

-- Each legal value has one spelling, and no line spells two values.
pub record HaveOneSpelling {V : Type 0} (IsLegal : V → Type 0) (spells : List ℕ → V → Type 0)
    : Type 0 where
  pub each : (value : V) → IsLegal value → (line : List ℕ) × spells line value
  pub one_line : (a b : List ℕ) (value : V) → spells a value → spells b value → a ≡ b
  pub one_value : (line : List ℕ) (a b : V) → spells line a → spells line b → a ≡ b

-- the spelling of a reply is one line: an LF ends it, and there is no other in it
abbrev pub RepliesAreLines : Type 0
RepliesAreLines =
    (text : List ℕ) (reply : Reply) → SpellsReply text reply
    → (line : List ℕ) × (text ≡ line ++ 10 ∷ []) × (list_any (λ byte. byte == 10) line ≡ false)
