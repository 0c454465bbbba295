-- Nothing goes from a text that counts, and nothing is after a number at which nothing is.
use Rattle.std.proofs.Common.{◌≡◌, ◌≤◌, ◌<◌, ◌+◌, ◌-◌, inl, inr, ℕ, zero, suc, List, [], ◌∷◌, length, Option, Some, None, slice_get, refl, ap, sym, subst, ◌∙◌, arith}
use Rattle.std.proofs.lemmas.Bool.Decides.{eqb_tells}
use Rattle.std.proofs.lemmas.Option.{slice_get-get_or, slice_get_past}
use Rattle.ring_etcd.specs.Lasting.{ValuesStay}
use Rattle.ring_etcd.specs.Log.{AreAll, AreFresh, AreInTurn, Log, Request, Text, WereAt, changed, log_after}
use Rattle.ring_etcd.proofs.Fresh.{Counted, counted, fresh_before, is_new}
use Rattle.ring_etcd.proofs.Steps.{none_some, passes, puts, stays, steps, turns}

pub values_stay : ValuesStay
values_stay [] text number value fresh was counts = was.1
values_stay (request ∷ earlier) text number value fresh (inl is) counts = is.1
values_stay (request ∷ earlier) text number value fresh (inr was) counts =
    let before = values_stay earlier text number value (fresh_before (request ∷ []) earlier fresh) was in
    elim (steps (log_after earlier) request) [
      | passes fails is ↦ ap (λ (l : Log). l.at number) is ∙ before (sym (ap (λ (l : Log). l.text) is) ∙ counts)
      | puts entry asks done is ↦
          ap (λ (l : Log). l.at number) is ∙ stays (log_after earlier) request.number number entry value done.1 (before (sym (ap (λ (l : Log). l.text) is) ∙ counts))
      | turns new bytes asks done is ↦
          absurd (is_new request earlier new bytes fresh asks done (subst (λ (t : ℕ). Counted earlier t) (sym counts ∙ ap (λ (l : Log). l.text) is) (counted earlier text number value was)))
    ]

-- Something is before each entry.
abbrev HasNoGap : Log → Type 0
HasNoGap log = (n : ℕ) (value : List ℕ) → log.at (suc n) ≡ Some value → (before : List ℕ) × (log.at n ≡ Some before)

text_alone : (log : Log) (number new : ℕ) (bytes : List ℕ) → HasNoGap (changed log number (Text new bytes))
text_alone log number new bytes = λ n value there.
    elim (eqb_tells (suc n) 0) [
      | inl equal ↦ absurd (omega (arith, equal.1))
      | inr other ↦ absurd (none_some refl (rw other.0 at there))
    ]

no_gap : (history : List Request) → AreFresh history → AreInTurn history → HasNoGap (log_after history)
no_gap [] fresh turn = text_alone (log_after []) 0 0 []
no_gap (request ∷ earlier) fresh turn =
    let fresh_earlier = fresh_before (request ∷ []) earlier fresh in
    let before = no_gap earlier fresh_earlier turn.1 in
    let next = turn.0 in
    elim (steps (log_after earlier) request) [
      | passes fails is ↦ subst HasNoGap (sym is) before
      | turns new bytes asks done is ↦ subst HasNoGap (sym is) (text_alone (log_after earlier) request.number new bytes)
      | puts entry asks done is ↦ subst HasNoGap (sym is) (λ n value there. elim (eqb_tells (suc n) request.number) [
        | inl equal ↦
            let last_is : next.last ≡ n = omega (arith, equal.1, next.next) in
            let there_before = values_stay earlier request.text next.last next.value fresh_earlier next.was done.0 in
            (next.value, stays (log_after earlier) request.number n entry next.value done.1 (ap (log_after earlier).at (sym last_is) ∙ there_before))
        | inr other ↦
            let b = before n value (rw other.0 at there) in
            (b.0, stays (log_after earlier) request.number n entry b.0 done.1 b.1)
      ])
    ]

none_after : (log : Log) → HasNoGap log → (n k : ℕ) → log.at n ≡ None → log.at (n + k) ≡ None
none_after log whole n zero none = ap log.at (omega arith) ∙ none
none_after log whole n (suc k) none = of (none_after log whole n k none) (log.at (n + suc k)) refl
  where
    of : log.at (n + k) ≡ None → (there : Option (List ℕ)) → log.at (n + suc k) ≡ there → log.at (n + suc k) ≡ None
    of before None is = is
    of before (Some value) is =
        let next : n + suc k ≡ suc (n + k) = omega arith in
        absurd (none_some before (whole (n + k) value (ap log.at (sym next) ∙ is)).1)

-- What was read up to a number at which nothing is, is all.
pub all_read : (history : List Request) (text : ℕ) (read : List (List ℕ)) → AreFresh history → AreInTurn history → WereAt history text read → (log_after history).text ≡ text → (log_after history).at (length read) ≡ None → AreAll (log_after history) read
all_read history text read fresh turn were counts none number = of (slice_get read number) refl
  where
    past : length read ≤ number → (log_after history).at number ≡ slice_get read number
    past far =
        let sum : length read + (number - length read) ≡ number = omega (arith, far) in
        ap (log_after history).at (sym sum) ∙ none_after (log_after history) (no_gap history fresh turn) (length read) (number - length read) none ∙ sym (slice_get_past read number far)

    of : (there : Option (List ℕ)) → slice_get read number ≡ there → (log_after history).at number ≡ slice_get read number
    of (Some value) is = values_stay history text number value fresh (were number value is) counts ∙ sym is
    of None is = past (omega (arith, λ (within : number < length read). none_some is (slice_get-get_or read number [] within)))
