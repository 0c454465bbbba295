-- A variant of a sum, and an algorithm on the variant as one on the sum.
use Rattle.std.specs.Prelude.{◌≡◌, ℕ, List, Option, Some, None, IsSomeAnd, option_map, option_and_then}
use Rattle.ring_id.specs.declared.side.Side.{Side}
use Rattle.ring_election.specs.declared.sends.Sends.{Sends}
use Rattle.ring_election.specs.Tables.{Table, nothing}
use Rattle.ring_election.specs.Families.{Fitting}

-- a variant of a sum: the way from its values into the sum, and from values of the sum back
pub record Variant (Whole Part : Type 0) : Type 0 where
  pub put : Part → Whole
  pub of : Whole → Option Part
  -- a value that was put in is found again
  pub of_put : (a : Part) → of (put a) ≡ Some a
  -- a value that is found was put in
  pub put_of : (w : Whole) (a : Part) → of w ≡ Some a → w ≡ put a

-- sends, with each message put into the sum
abbrev pub put_sends : {Whole Part : Type 0} → Variant Whole Part → Sends Part → Sends Whole
put_sends v sends =
    record { left = option_map v.put sends.left; right = option_map v.put sends.right }

-- the result for two values if both are there, otherwise another
abbrev pub of_both : {A B C : Type 0} → Option A → Option B → (A → B → C) → C → C
of_both None b f other = other
of_both (Some a) None f other = other
of_both (Some a) (Some b) f other = f a b

-- The table on the sum. A state or a message of another variant changes nothing, sends nothing and
-- decides nothing.
abbrev pub lift_table : {WS S WM M : Type 0} → Variant WS S → Variant WM M → Table S M → Table WS WM
lift_table {WS} {S} {WM} {M} states messages t = record {
  first = λ me. states.put (t.first me);
  first_sends = λ me. put_sends messages (t.first_sends me);
  next =
      λ s from m. of_both (states.of s) (messages.of m)
      (λ inner v. states.put (t.next inner from v)) s;
  next_sends =
      λ s from m. of_both (states.of s) (messages.of m)
      (λ inner v. put_sends messages (t.next_sends inner from v)) (nothing WM);
  decided = λ s. option_and_then t.decided (states.of s);
}

-- a message of another variant fits no link
abbrev pub lift_fits : {WM M : Type 0} → Variant WM M → Fitting M → List ℕ → ℕ → Side → ℕ → WM
    → Type 0
lift_fits messages fits ring i side k m = IsSomeAnd (messages.of m) (fits ring i side k)
