-- Lives are counted upwards, so the places of a later life are greater.
use Rattle.std.proofs.Common.{◌≡◌, ◌<◌, ◌+◌, ◌^◌, ◌∙◌, ℕ, zero, suc, List, [], ◌∷◌, Some, ap, arith}
use Rattle.std.specs.List.{slice_get}
use Rattle.std.proofs.lemmas.Option.{none-some, same_Some}
use Rattle.ring_recovery.specs.Places.{AreLives, Continues, JournalLife, PlacesRise, told_place}
use Rattle.ring_recovery.specs.Restarts.{RestartsAfterFirst}

-- a place of a life is less than each of a life with a greater number
rises : (earlier later a b : ℕ) → 0 < earlier → earlier < later → a < 2 ^ 44 → told_place earlier a < told_place later b
rises earlier later a b first before few = omega (arith, first, before, few)

module _ (law : RestartsAfterFirst) where
  -- the number of the next life
  next_number : (life next : JournalLife) → Continues life next → (0 < life.number) × (next.number ≡ life.number + 1)
  next_number life next continues =
      let after = law life.number life.entries life.sure life.found continues.recovered continues.left continues.recovers in
      (continues.left.counted.0, continues.number ∙ after.next)

  -- each later life has a greater number
  number_within : (life : JournalLife) (lives : List JournalLife) → AreLives (life ∷ lives) → (j : ℕ) (later : JournalLife) → slice_get lives j ≡ Some later → (0 < life.number) × (life.number < later.number)
  number_within life [] are j later there = absurd (none-some later there)
  number_within life (next ∷ lives) are zero later there =
      let step = next_number life next are.0 in
      (step.0, omega (arith, step.1, ap (λ (l : JournalLife). l.number) (same_Some next later there)))
  number_within life (next ∷ lives) are (suc j) later there =
      let step = next_number life next are.0 in
      let rest = number_within next lives are.1 j later there in
      (step.0, omega (arith, step.1, rest.1))

  rest_are : (life : JournalLife) (lives : List JournalLife) → AreLives (life ∷ lives) → AreLives lives
  rest_are life [] are = tt
  rest_are life (next ∷ lives) are = are.1

  numbers_rise : (lives : List JournalLife) → AreLives lives → (i j : ℕ) (earlier later : JournalLife) → i < j → slice_get lives i ≡ Some earlier → slice_get lives j ≡ Some later → (0 < earlier.number) × (earlier.number < later.number)
  numbers_rise [] are i j earlier later before first second = absurd (none-some earlier first)
  numbers_rise (life ∷ lives) are i zero earlier later before first second = absurd (omega (arith, before))
  numbers_rise (life ∷ lives) are zero (suc j) earlier later before first second =
      let found = number_within life lives are j later second in
      let same = ap (λ (l : JournalLife). l.number) (same_Some life earlier first) in
      (omega (arith, found.0, same), omega (arith, found.1, same))
  numbers_rise (life ∷ lives) are (suc i) (suc j) earlier later before first second = numbers_rise lives (rest_are life lives are) i j earlier later (omega (arith, before)) first second

  pub places_rise : PlacesRise
  places_rise lives are i j earlier later before first second a b told_a told_b =
      let numbers = numbers_rise lives are i j earlier later before first second in
      let less = rises earlier.number later.number told_a.0 told_b.0 numbers.0 numbers.1 told_a.1 in
      omega (arith, less, told_a.2, told_b.2)
