-- PendingBegins: the begins of terms that wait for the workers' inboxes.
use Rattle.std.specs.Prelude.{◌≡◌, ◌==◌, ◌+◌, ◌⊎◌, ℕ, List, [], ◌∷◌, ◌++◌, if◌then◌else◌, length, map, Option, None, Some, slice_get}
use Rattle.std.specs.List.{flat_map, range_with_len}
use Rattle.std.specs.Global.{Global}
use Rattle.std.specs.declared.sync.Arc.{Arc}
use Rattle.ring_any.specs.declared.any.Any.{Any}
use Rattle.ring_inbox.specs.Values.{SenderLog}
use Rattle.ring_node.specs.declared.charter.Charter.{Charter}
use Rattle.ring_service.specs.declared.pending.Waiting.{Waiting}
use Rattle.ring_workers.specs.declared.item.Item.{Item}
use Rattle.ring_workers.specs.declared.item.Item.TheVariants.{Begin}

-- a begin for each worker from this number on, with these charters in order
abbrev pub begins_from : ℕ → List (Arc (Charter Any) Global) → List Waiting
begins_from worker [] = []
begins_from worker (charter ∷ charters) =
    record { worker = worker; charter = charter } ∷ begins_from (worker + 1) charters

-- the content of a begin: the number of its worker, and its term's charter
abbrev pub says : Waiting → ℕ × Charter Any
says begin = (begin.worker, begin.charter.value)

-- a begin of one term for each worker below this number, in their order
abbrev pub term_begins : ℕ → Arc (Charter Any) Global → List (ℕ × Charter Any)
term_begins workers charter = map (λ worker. (worker, charter.value)) (range_with_len 0 workers)

-- a begin of each of these terms for each worker was added, in the order of the terms
pub record AddsTerms (workers : ℕ) (charters : List (Arc (Charter Any) Global))
    (old new : List Waiting) : Type 0 where
  pub begins : List Waiting
  pub said : map says begins ≡ flat_map (term_begins workers) charters
  pub added : new ≡ old ++ begins

-- the first list is made up of the other two, each in its order
abbrev pub MakeUp : {A : Type 0} → List A → List A → List A → Type 0
MakeUp [] some others = (some ≡ []) × (others ≡ [])
MakeUp {A} (x ∷ xs) some others =
    ((more : List A) × (some ≡ x ∷ more) × MakeUp xs more others)
    ⊎ ((more : List A) × (others ≡ x ∷ more) × MakeUp xs some more)

module _ {M S : Type 0} where
  -- the begins for the worker of this number, in their order, as items of its inbox
  abbrev pub begins_to : ℕ → List Waiting → List (Item Any M S)
  begins_to number [] = []
  begins_to number (begin ∷ begins) =
      if begin.worker == number then Begin begin.charter ∷ begins_to number begins
      else begins_to number begins

  -- a begin is stored after all that the pass stored, or its charter comes back and nothing changes
  abbrev pub PutsBegin : SenderLog (Item Any M S) → Arc (Charter Any) Global
      → Option (Arc (Charter Any) Global) → SenderLog (Item Any M S) → Type 0
  PutsBegin old charter None new = new ≡ record old { stored = old.stored ++ Begin charter ∷ [] }
  PutsBegin old charter (Some back) new = (back ≡ charter) × (new ≡ old)

  -- each pass has stored the begins for its worker, in this order, and nothing else
  pub record StoresBegins (begins : List Waiting)
      (old new : List (SenderLog (Item Any M S))) : Type 0 where
    pub count : length new ≡ length old
    pub each : (v : ℕ) (pass : SenderLog (Item Any M S)) → slice_get old v ≡ Some pass
        → slice_get new v ≡ Some (record pass { stored = pass.stored ++ begins_to v begins })

  -- each begin that waited was stored by the pass to its worker, or waits still, in order
  pub record Tries (waiting after : List Waiting)
      (old new : List (SenderLog (Item Any M S))) : Type 0 where
    pub stored : List Waiting
    pub whole : MakeUp waiting stored after
    pub passes : StoresBegins stored old new
