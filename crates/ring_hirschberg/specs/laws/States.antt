-- The states of one node: after any receipts it keeps its identity and decides only on itself.
use Rattle.std.specs.Prelude.{◌≡◌, ◌==◌, ℕ, true, false, if◌then◌else◌, List, Some, refl}
use Rattle.std.proofs.Common.{◌∙◌, ap, sym}
use Rattle.ring_id.specs.declared.side.Side.{Side}
use Rattle.ring_id.specs.declared.side.Side.TheVariants.{Left, Right}
use Rattle.ring_election.specs.Traces.{state_after}
use Rattle.ring_hirschberg.specs.declared.hirschberg.HirschbergMsg.{HirschbergMsg}
use Rattle.ring_hirschberg.specs.declared.hirschberg.HirschbergMsg.TheVariants.{Out, Back}
use Rattle.ring_hirschberg.specs.declared.hirschberg.HirschbergState.{HirschbergState}
use Rattle.ring_hirschberg.specs.Hirschberg.{counted, hirschberg_first, hirschberg_next, hirschberg_table}
use Rattle.ring_hirschberg.specs.laws.Receipts.{any_receipt, state_keeps}

-- a state of the node with identity `me`
pub record IsOwn (me : ℕ) (s : HirschbergState) : Type 0 where
  pub same : s.me ≡ me
  pub decides : (v : ℕ) → s.decided ≡ Some v → v ≡ me

pub own_first : (me : ℕ) → IsOwn me (hirschberg_first me)
own_first me = record { same = refl; decides = λ v e. absurd (cc) }

counted_own : (me : ℕ) (s : HirschbergState) (side : Side) → IsOwn me s → IsOwn me (counted s side)
counted_own me s Left is = record { same = is.same; decides = is.decides }
counted_own me s Right is = record { same = is.same; decides = is.decides }

-- one receipt keeps it so
pub own_next : (me : ℕ) (s : HirschbergState) (from : Side) (m : HirschbergMsg) → IsOwn me s → IsOwn me (hirschberg_next s from m)
own_next me s from (Out v hops) is =
    elim (v == s.me) as (λ b. IsOwn me (if b then record s { decided = Some s.me } else s)) [
      | true ↦ record { same = is.same; decides = λ w e. let given : w ≡ s.me = cc in given ∙ is.same }
      | false ↦ is
    ]
own_next me s from (Back v) is =
    elim (v == s.me) as (λ b. IsOwn me (if b then counted s from else s)) [
      | true ↦ counted_own me s from is
      | false ↦ is
    ]

-- after any receipts a node is still itself
pub own_after : (me : ℕ) (receipts : List (Side × HirschbergMsg)) → IsOwn me (state_after hirschberg_table me receipts)
own_after me receipts =
    state_keeps hirschberg_table (IsOwn me) (λ from m. Unit {0}) (λ from m. Unit {0}) (λ s from m is _. own_next me s from m is) (hirschberg_first me) receipts (own_first me) (any_receipt receipts)

-- a decision once made stays, since a node decides only on itself
pub decision_stays : (me : ℕ) (s : HirschbergState) (from : Side) (m : HirschbergMsg) (v : ℕ) → IsOwn me s → s.decided ≡ Some v → (hirschberg_next s from m).decided ≡ Some v
decision_stays me s from (Out w hops) v is decided =
    elim (w == s.me) as (λ b. (if b then record s { decided = Some s.me } else s).decided ≡ Some v) [
      | true ↦ ap Some (is.same ∙ sym (is.decides v decided))
      | false ↦ decided
    ]
decision_stays me s from (Back w) v is decided =
    elim (w == s.me) as (λ b. (if b then counted s from else s).decided ≡ Some v) [
      | true ↦ counted_stays s from v decided
      | false ↦ decided
    ]
  where
    counted_stays : (s : HirschbergState) (side : Side) (v : ℕ) → s.decided ≡ Some v → (counted s side).decided ≡ Some v
    counted_stays s Left v decided = decided
    counted_stays s Right v decided = decided
