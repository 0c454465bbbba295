-- Telling: a start, and the begins that it puts to the workers.
use Rattle.std.specs.Prelude.{ℕ, Bool, List, ◌++◌, map}
use Rattle.std.specs.Global.{Global}
use Rattle.std.specs.declared.sync.Arc.{Arc}
use Rattle.ring_any.specs.declared.any.Any.{Any}
use Rattle.ring_inbox.specs.Values.{SenderLog}
use Rattle.ring_node.specs.declared.charter.Charter.{Charter}
use Rattle.ring_service.specs.declared.pending.Waiting.{Waiting}
use Rattle.ring_service.specs.private.PendingBegins.{Tries, begins_from}
use Rattle.ring_table.specs.Accesses.{BeginsAtSeat}
use Rattle.ring_table.specs.declared.access.Answer.{Answer}
use Rattle.ring_table.specs.declared.entry.Entry.{Entry}
use Rattle.ring_workers.specs.declared.item.Item.{Item}

module _ {M S : Type 0} where
  -- The begins that waited were tried. Then one for each of these charters was added, the first for
  -- worker 0. All that waited were tried again: each was stored by the pass to its worker, or
  -- waits.
  pub record TellsAll (charters : List (Arc (Charter Any) Global)) (waiting after : List Waiting)
      (old new : List (SenderLog (Item Any M S))) : Type 0 where
    pub mid : List Waiting
    pub between : List (SenderLog (Item Any M S))
    pub first : Tries waiting mid old between
    pub last : Tries (mid ++ begins_from 0 charters) after between new

  -- A start with `workers` charters of the new term, and a begin to each worker. If no term began,
  -- there are no charters and no begins.
  pub record Begins (winner : Any → List ℕ → ℕ) (two_way greatest : Any → Bool) (session : ℕ)
      (group : List ℕ) (workers : ℕ) (mine : List (Entry Any)) (answer : Answer)
      (now : List (Entry Any))
      (waiting after : List Waiting) (old new : List (SenderLog (Item Any M S))) : Type 0 where
    pub charters : List (Arc (Charter Any) Global)
    pub gives : BeginsAtSeat winner two_way greatest session group workers mine answer
        (map (λ charter. charter.value) charters) now
    pub tells : TellsAll charters waiting after old new
