-- The deliveries of a drain, one after another.
use Rattle.std.proofs.Common.{◌≡◌, ◌<◌, ◌≤◌, ℕ, zero, suc, Bool, true, false, cond, List, [], ◌∷◌, length, Option, Some, None, get_or, refl, sym, ap, ◌∙◌, arith, inl, inr, subst}
use Rattle.std.specs.Map.{set_value}
use Rattle.std.specs.Str.{bytes_eq}
use Rattle.std.proofs.lemmas.Map.Steps.{set_value_same}
use Rattle.ring_id.specs.declared.side.Side.{Side}
use Rattle.ring_id.specs.declared.side.Side.TheVariants.{Left, Right}
use Rattle.ring_id.specs.declared.refusal.Refusal.TheVariants as refused
use Rattle.ring_id.specs.Identity.{number_of}
use Rattle.ring_id.specs.Refusals.{unless_some}
use Rattle.ring_roster.specs.Ring.{IsRing}
use Rattle.ring_election.specs.Tables.{Table}
use Rattle.ring_election.specs.Families.{Fitting}
use Rattle.ring_node.specs.declared.charter.Charter.{Charter}
use Rattle.ring_world.specs.Quiet.{IsQuiet}
use Rattle.ring_world.specs.Worlds.{IsFirstLink, IsReady, Running, in_flight, pending_below, pending_of, size_of}
use Rattle.ring_world.proofs.Links.{same_or_not}
use Rattle.ring_terms.specs.Commands.{running_refusal}
use Rattle.ring_terms.specs.Object.{GroupView, InGroup, Object, OfGroup, TermView, find, last_term, names, with_group}
use Rattle.ring_mux.specs.Journeys.{CanMove, CarriesTimes, HasCarried, with_world}
use Rattle.ring_mux.specs.private.Journeys.{MakesAmong}
use Rattle.ring_terms.specs.Steps.{MovesOf, MovesTimes}
use Rattle.ring_mux.specs.Views.{Held, IsHeld, IsWorldOf, world_in}
use Rattle.ring_mux.specs.private.Views.{IsSeat, IsSoundHeld}
use Rattle.ring_terms.proofs.Objects.{last_written}
use Rattle.ring_mux.proofs.Carrying.{position_here, running_ring, same_found, written_found}

module _ {E S M : Type 0} (t : E → Table S M) (world : Running E M) where
  -- where something is in flight on a link into a position, something is pending there
  side_waits : (n : ℕ) (side : Side) → 0 < length (in_flight t world n side) → 0 < pending_below t world (suc n)
  side_waits n Left waits = omega (arith, waits)
  side_waits n Right waits = omega (arith, waits)

  -- where something is in flight on a link below n, something is pending there
  some_below : (n i : ℕ) (side : Side) → i < n → 0 < length (in_flight t world i side) → 0 < pending_below t world n
  some_below zero i side below waits = absurd (omega arith)
  some_below (suc n) i side below waits =
      elim (same_or_not i n) [
        | inl here ↦ side_waits n side (rw here at waits)
        | inr differ ↦ let rest = some_below n i side (omega arith) waits in omega (arith, rest)
      ]

  -- where something can move something is pending
  pub some_pending : CanMove t world → 0 < pending_of t world
  some_pending moves = some_below (size_of world) moves.position moves.side moves.first.inside moves.first.waits

-- a value that is written twice is the last one
written_twice : {X : Type 0} (name : List ℕ) (es : List (List ℕ × X)) (v w : X) → set_value (bytes_eq name) (set_value (bytes_eq name) es v) w ≡ set_value (bytes_eq name) es w
written_twice name [] v w = refl
written_twice {X} name (e ∷ es) v w =
    elim (bytes_eq name e.0) as (λ b. bytes_eq name e.0 ≡ b → set_value (bytes_eq name) (cond b ((e.0, v) ∷ es) (e ∷ set_value (bytes_eq name) es v)) w ≡ cond b ((e.0, w) ∷ es) (e ∷ set_value (bytes_eq name) es w)) [
      | true ↦ λ here. rw here refl
      | false ↦ λ away. rw away (ap (λ (l : List (List ℕ × X)). e ∷ l) (written_twice name es v w))
    ] refl

-- no deliveries change nothing
pub none_moved : {E : Type 0} (greatest : E → Bool) (name : List ℕ) (object : Object E) (group : GroupView E) → find name object ≡ Some group → InGroup name (MovesTimes greatest 0) object object
none_moved greatest name object group found = record { before = group; after = group; found = found; does = refl; rest = sym (set_value_same (bytes_eq name) object group found) }

-- one delivery more
pub one_moved : {E : Type 0} (greatest : E → Bool) (name : List ℕ) (n node : ℕ) (old mid new : Object E) → InGroup name (MovesTimes greatest n) old mid → InGroup name (MovesOf greatest node) mid new → InGroup name (MovesTimes greatest (suc n)) old new
one_moved greatest name n node old mid new many one =
    let between : find name mid ≡ Some many.after = ap (find name) many.rest ∙ written_found name old many.before many.after many.found in
    let same : one.before ≡ many.after = same_found (find name mid) one.before many.after one.found between in
    record {
      before = many.before;
      after = one.after;
      found = many.found;
      does = (many.after, many.does, record { node = node; moves = rw same at one.does });
      rest = one.rest ∙ ap (with_group name one.after) many.rest ∙ written_twice name old many.after one.after;
    }

-- a group that a delivery moves still has its term
pub still_runs : {E : Type 0} (greatest : E → Bool) (name : List ℕ) (node : ℕ) (old new : Object E) → OfGroup name (λ g. running_refusal g ≡ None) old → InGroup name (MovesOf greatest node) old new → OfGroup name (λ g. running_refusal g ≡ None) new
still_runs greatest name node old new runs one = record {
  group = one.after;
  found = ap (find name) one.rest ∙ written_found name old one.before one.after one.found;
  says =
      let same : one.before ≡ runs.group = same_found (find name old) one.before runs.group one.found runs.found in
      elim one.does [
        | inl stays ↦ rw (stays, same) runs.says
        | inr informs ↦
            let in_last = informs.1 in
            let last : last_term one.after ≡ Some in_last.after = ap last_term in_last.rest ∙ last_written one.before.terms in_last.before in_last.after in_last.found in
            rw last refl
      ];
}

-- a group that runs has a last term
runs_term : (o : Option TermView) → unless_some o refused.NoTerm (λ _. None) ≡ None → (term : TermView) × (o ≡ Some term)
runs_term None h = cc
runs_term (Some term) h = (term, refl)

module _ {E S M : Type 0} (t : E → Table S M) (object : Object E) (worlds : List (List ℕ × Running E M)) (held : IsHeld t object worlds) (name : List ℕ) (runs : OfGroup name (λ g. running_refusal g ≡ None) object) where
  -- its world
  pub the_term : (term : TermView) × (last_term runs.group ≡ Some term)
  the_term = runs_term (last_term runs.group) runs.says

  pub kept : IsWorldOf t name runs.group (the_term.0) worlds
  kept = held.each name runs.group (the_term.0) runs.found (the_term.1)

  -- which is the one that is found
  pub kept_world : (world : Running E M) → world_in name worlds ≡ Some world → kept.world ≡ world
  kept_world world found = same_found (world_in name worlds) kept.world world kept.found found

  -- where nothing is ready it is quiet
  pub quiet_at : IsReady t kept.world None → (w : Running E M) → world_in name worlds ≡ Some w → IsQuiet t w
  quiet_at none w found = rw (same_found (world_in name worlds) w kept.world found kept.found) (record { idle = none })

  module _ (position : ℕ) (side : Side) (ready : IsFirstLink t kept.world position side) where
    -- a link that is ready is a seat, and something can move there
    pub seat_ready : IsSeat name position object
    seat_ready =
        let charter = running_ring name runs.group (the_term.0) kept.world.charter (the_term.1) kept.charter in
        let inside : position < length (the_term.0.ring) = subst (λ (c : Charter E). position < length c.roster) charter ready.inside in
        record { group = runs.group; found = runs.found; says = record { term = the_term.0; found = the_term.1; says = inside } }

    pub ready_at : (w : Running E M) → world_in name worlds ≡ Some w → CanMove t w
    ready_at w found = rw (same_found (world_in name worlds) w kept.world found kept.found) (record { position = position; side = side; first = ready })

    -- a delivery there is one more of the drain's
    pub carries_on : (greatest : E → Bool) (n : ℕ) (start new : Held E M) → IsRing kept.world.charter.roster
        → InGroup name (MovesTimes greatest n) start.object object
        → CarriesTimes t greatest name n start (record { object = object; worlds = worlds })
        → HasCarried t greatest name position side (record { object = object; worlds = worlds }) new
        → InGroup name (MovesTimes greatest (suc n)) start.object new.object × CarriesTimes t greatest name (suc n) start new × OfGroup name (λ g. running_refusal g ≡ None) new.object
    carries_on greatest n start new is_ring moves made carried =
        let same : carried.before ≡ kept.world = same_found (world_in name worlds) carried.before kept.world carried.found kept.found in
        let node : ℕ = number_of (get_or kept.world.charter.roster position 0) in
        let step = (carried.object) node (rw same (position_here kept.world.charter.roster position is_ring ready.inside)) in (
          one_moved greatest name n node start.object object new.object moves step,
          (record { object = object; worlds = worlds }, made, record { position = position; side = side; carried = carried; ready = rw same ready }),
          still_runs greatest name node object new.object runs step,
        )

-- what a delivery on the link into a position of a world has done, wherever the world stands among the worlds of a mux
abbrev pub HasCarriedAmong : {E S M : Type 0} (t : E → Table S M) (fits : E → Fitting M) (winner : E → List ℕ → ℕ) (greatest : E → Bool) (i : ℕ) (side : Side) (object : Object E) (world : Running E M) (object' : Object E) (world' : Running E M) → Type 0
HasCarriedAmong {E} {S} {M} t fits winner greatest i side object world object' world' =
    (name : List ℕ) (worlds : List (List ℕ × Running E M)) → IsSoundHeld t fits winner object worlds → world_in name worlds ≡ Some world → IsSeat name i object
    → HasCarried t greatest name i side (record { object = object; worlds = worlds }) (record { object = object'; worlds = with_world name world' worlds })
    × IsSoundHeld t fits winner object' (with_world name world' worlds)
    × (names object' ≡ names object)

-- what so many deliveries of a drain have done, wherever the world stands among the worlds of a mux
pub record HasDrained {E S M : Type 0} (t : E → Table S M) (fits : E → Fitting M) (winner : E → List ℕ → ℕ) (greatest : E → Bool) (name : List ℕ) (n : ℕ)
    (object : Object E) (worlds : List (List ℕ × Running E M)) (object' : Object E) (world' : Running E M) : Type 0 where
  pub moves : InGroup name (MovesTimes greatest n) object object'
  pub made : CarriesTimes t greatest name n (record { object = object; worlds = worlds }) (record { object = object'; worlds = with_world name world' worlds })
  pub runs : OfGroup name (λ g. running_refusal g ≡ None) object'
  pub found : world_in name (with_world name world' worlds) ≡ Some world'
  pub kept : IsSoundHeld t fits winner object' (with_world name world' worlds)

abbrev pub HasDrainedAmong : {E S M : Type 0} (t : E → Table S M) (fits : E → Fitting M) (winner : E → List ℕ → ℕ) (greatest : E → Bool) (n : ℕ) (object : Object E) (world : Running E M) (object' : Object E) (world' : Running E M) → Type 0
HasDrainedAmong {E} {S} {M} t fits winner greatest n object world object' world' =
    (name : List ℕ) (worlds : List (List ℕ × Running E M)) → IsSoundHeld t fits winner object worlds → world_in name worlds ≡ Some world → OfGroup name (λ g. running_refusal g ≡ None) object
    → HasDrained t fits winner greatest name n object worlds object' world'

module _ {E S M : Type 0} (t : E → Table S M) (fits : E → Fitting M) (winner : E → List ℕ → ℕ) (greatest : E → Bool) where
  -- none have done nothing
  pub none_drained : (object : Object E) (world : Running E M) → HasDrainedAmong t fits winner greatest 0 object world object world
  none_drained object world = λ name worlds kept found runs.
      let same : with_world name world worlds ≡ worlds = set_value_same (bytes_eq name) worlds world found in
      record {
        moves = none_moved greatest name object runs.group runs.found;
        made = ap (λ (l : List (List ℕ × Running E M)). record { object = object; worlds = l }) same;
        runs = runs;
        found = written_found name worlds world world found;
        kept = rw same kept;
      }

  -- one delivery more, at the link that is ready
  pub one_drained : (n position : ℕ) (side : Side) (object : Object E) (world : Running E M) (object' : Object E) (world' : Running E M) (object'' : Object E) (world'' : Running E M) →
      IsFirstLink t world' position side → IsRing world'.charter.roster →
      HasDrainedAmong t fits winner greatest n object world object' world' →
      HasCarriedAmong t fits winner greatest position side object' world' object'' world'' →
      HasDrainedAmong t fits winner greatest (suc n) object world object'' world''
  one_drained n position side object world object' world' object'' world'' ready ring drained carries = λ name worlds kept found runs.
      let before = drained name worlds kept found runs in
      let now : List (List ℕ × Running E M) = with_world name world' worlds in
      let here = kept_world t object' now before.kept.held name before.runs world' before.found in
      let seat = seat_ready t object' now before.kept.held name before.runs position side (rw (← here) at ready) in
      let carried = carries name now before.kept before.found seat in
      let twice : with_world name world'' now ≡ with_world name world'' worlds = written_twice name worlds world' world'' in
      let on = carries_on t object' now before.kept.held name before.runs position side (rw (← here) at ready) greatest n (record { object = object; worlds = worlds }) (record { object = object''; worlds = with_world name world'' now })
      (rw (← here) at ring) before.moves before.made (carried.0) in
      record {
        moves = on.0;
        made = rw twice at on.1;
        runs = on.2;
        found = written_found name worlds world world'' found;
        kept = rw twice at carried.1;
      }

  -- a drain ends where nothing is ready
  pub makes_ended : (count n : ℕ) (object : Object E) (world : Running E M) (object' : Object E) (world' : Running E M) → n ≤ count → HasDrainedAmong t fits winner greatest n object world object' world' →
      IsReady t world' None → MakesAmong t fits winner greatest count object world n false object' world'
  makes_ended count n object world object' world' few drained none = λ name worlds kept found runs.
      let now = drained name worlds kept found runs in
      let here = kept_world t object' (with_world name world' worlds) now.kept.held name now.runs world' now.found in (
        record {
          within = few;
          made = now.made;
          object = now.moves;
          runs = now.runs;
          ended = λ h. inr (quiet_at t object' (with_world name world' worlds) now.kept.held name now.runs (rw (← here) at none));
          stopped = λ h. cc;
        },
        now.kept,
      )

  -- or where all are made
  pub makes_all : (count : ℕ) (object : Object E) (world : Running E M) (object' : Object E) (world' : Running E M) → HasDrainedAmong t fits winner greatest count object world object' world' →
      MakesAmong t fits winner greatest count object world count false object' world'
  makes_all count object world object' world' drained = λ name worlds kept found runs.
      let now = drained name worlds kept found runs in (
        record { within = omega arith; made = now.made; object = now.moves; runs = now.runs; ended = λ h. inl refl; stopped = λ h. cc },
        now.kept,
      )

  -- or where one is refused memory, though a link is ready
  pub makes_starved : (count n position : ℕ) (side : Side) (object : Object E) (world : Running E M) (object' : Object E) (world' : Running E M) → n < count →
      HasDrainedAmong t fits winner greatest n object world object' world' → IsFirstLink t world' position side → MakesAmong t fits winner greatest count object world n true object' world'
  makes_starved count n position side object world object' world' few drained ready = λ name worlds kept found runs.
      let now = drained name worlds kept found runs in
      let here = kept_world t object' (with_world name world' worlds) now.kept.held name now.runs world' now.found in (
        record {
          within = omega (arith, few);
          made = now.made;
          object = now.moves;
          runs = now.runs;
          ended = λ h. cc;
          stopped = λ h. (few, ready_at t object' (with_world name world' worlds) now.kept.held name now.runs position side (rw (← here) at ready));
        },
        now.kept,
      )
