-- What is at a number of a text is there for good, and the next text follows all of it.
use Rattle.std.proofs.Common.{◌≡◌, ◌≢◌, ◌⊎◌, inl, inr, ℕ, zero, suc, true, false, List, [], ◌∷◌, ◌++◌, length, Some, slice_get, refl, ap, sym, subst, ◌∙◌}
use Rattle.std.proofs.Math.Dec.{eqb}
use Rattle.std.proofs.lemmas.Bool.Decides.{eqb_tells}
use Rattle.ring_etcd.specs.Lasting.{EntriesAreHeld, MarksFollowAll, NumbersHaveOneValue, RepeatsChangeNothing, TakenNumbersRefuse, TextsAreHeld, TextsFollowAll, TextsNeverReturn}
use Rattle.ring_etcd.specs.Log.{AreFresh, Asked, Entry, Log, Request, Succeeds, Text, WasAt, changed, log_after, put, switch}
use Rattle.ring_etcd.proofs.Fresh.{Counted, counts_now, fresh_before, have_come, is_new, never_returns, was_later}
use Rattle.ring_etcd.proofs.Steps.{carried_out, none_some, passes, put_there, puts, same, steps, turns}
use Rattle.ring_etcd.proofs.Whole.{all_read, values_stay}

pub one_value : NumbersHaveOneValue
one_value [] text number a b fresh was_a was_b = same was_a.1 was_b.1
one_value (request ∷ earlier) text number a b fresh (inl is) was_b = same is.1 (values_stay (request ∷ earlier) text number b fresh was_b is.0)
one_value (request ∷ earlier) text number a b fresh (inr was) (inl is) = same (values_stay (request ∷ earlier) text number a fresh (inr was) is.0) is.1
one_value (request ∷ earlier) text number a b fresh (inr was_a) (inr was_b) = one_value earlier text number a b (fresh_before (request ∷ []) earlier fresh) was_a was_b

pub never_return : TextsNeverReturn
never_return = never_returns

pub taken_refuses : TakenNumbersRefuse
taken_refuses history request value fresh was done = none_some done.1 (values_stay history request.text request.number value fresh was done.0)

-- an entry that was put is there
entry_is : (request : Request) (earlier : List Request) (entry : List ℕ) → request.asked ≡ Entry entry → Succeeds (log_after earlier) request → WasAt (request ∷ earlier) request.text request.number entry
entry_is request earlier entry asks done =
    let is = carried_out (log_after earlier) request done ∙ ap (λ (a : Asked). changed (log_after earlier) request.number a) asks in
    inl (ap (λ (l : Log). l.text) is ∙ done.0, ap (λ (l : Log). l.at request.number) is ∙ put_there (log_after earlier) request.number entry)

-- the text before does not count any more
is_gone : (request : Request) (earlier : List Request) (new : ℕ) (bytes : List ℕ) → AreFresh (request ∷ earlier) → request.asked ≡ Text new bytes → Succeeds (log_after earlier) request → (log_after (request ∷ earlier)).text ≢ request.text
is_gone request earlier new bytes fresh asks done = λ back.
    let is = carried_out (log_after earlier) request done ∙ ap (λ (a : Asked). changed (log_after earlier) request.number a) asks in
    is_new request earlier new bytes fresh asks done (counts_now earlier new (done.0 ∙ sym back ∙ ap (λ (l : Log). l.text) is))

fails_again : (later earlier : List Request) (request : Request) (asked : Asked) → request.asked ≡ asked → AreFresh (later ++ request ∷ earlier) → Succeeds (log_after earlier) request → Succeeds (log_after (later ++ request ∷ earlier)) request → ⊥
fails_again later earlier request (Entry entry) asks fresh done =
    taken_refuses (later ++ request ∷ earlier) request entry fresh (was_later (λ log. (log.text ≡ request.text) × (log.at request.number ≡ Some entry)) later (request ∷ earlier) (entry_is request earlier entry asks done))
fails_again later earlier request (Text new bytes) asks fresh done = λ again.
    never_returns later (request ∷ earlier) request.text fresh (inr (counts_now earlier request.text done.0)) (is_gone request earlier new bytes (fresh_before later (request ∷ earlier) fresh) asks done) again.0

pub repeats_pass : RepeatsChangeNothing
repeats_pass later earlier request fresh done =
    let fails = fails_again later earlier request request.asked refl fresh done in
    elim (steps (log_after (later ++ request ∷ earlier)) request) [
      | passes never is ↦ is
      | puts entry asks again is ↦ absurd (fails again)
      | turns new bytes asks again is ↦ absurd (fails again)
    ]

last_there : (xs : List (List ℕ)) (x : List ℕ) → slice_get (xs ++ x ∷ []) (length xs) ≡ Some x
last_there [] x = refl
last_there (y ∷ xs) x = last_there xs x

others_there : (xs : List (List ℕ)) (x : List ℕ) (number : ℕ) → number ≢ length xs → slice_get xs number ≡ slice_get (xs ++ x ∷ []) number
others_there [] x zero other = absurd (other refl)
others_there [] x (suc number) other = refl
others_there (y ∷ xs) x zero other = refl
others_there (y ∷ xs) x (suc number) other = others_there xs x number (λ equal. other (ap suc equal))

pub marks_follow : MarksFollowAll
marks_follow earlier text read mark fresh turn were done = λ number.
    let log = log_after earlier in
    ap (λ (l : Log). l.at number) (carried_out log (put text (length read) mark) done) ∙ elim (eqb_tells number (length read)) [
      | inl equal ↦ ap (changed log (length read) (Entry mark)).at equal.1 ∙ put_there log (length read) mark ∙ sym (last_there read mark) ∙ ap (slice_get (read ++ mark ∷ [])) (sym equal.1)
      | inr other ↦ rw other.0 (all_read earlier text read fresh turn were done.0 done.1 number ∙ others_there read mark number other.1)
    ]

-- What was ever at a text was there before the text was gone.
only_before : (later earlier : List Request) (request : Request) (text number : ℕ) (value : List ℕ) → AreFresh (later ++ request ∷ earlier) → Counted earlier text → (log_after (request ∷ earlier)).text ≢ text → WasAt (later ++ request ∷ earlier) text number value → WasAt earlier text number value
only_before [] earlier request text number value fresh before gone (inl is) = absurd (gone is.0)
only_before [] earlier request text number value fresh before gone (inr was) = was
only_before (r ∷ later) earlier request text number value fresh before gone (inl is) = absurd (never_returns (r ∷ later) (request ∷ earlier) text fresh (inr before) gone is.0)
only_before (r ∷ later) earlier request text number value fresh before gone (inr was) = only_before later earlier request text number value (fresh_before (r ∷ []) (later ++ request ∷ earlier) fresh) before gone was

-- A list that has all elements of another one at their places begins with it.
begins : (held read : List (List ℕ)) → ((number : ℕ) (value : List ℕ) → slice_get held number ≡ Some value → slice_get read number ≡ Some value) → (more : List (List ℕ)) × (read ≡ held ++ more)
begins [] read has = (read, refl)
begins (x ∷ held) [] has = absurd (none_some refl (has 0 x refl))
begins (x ∷ held) (y ∷ read) has =
    let rest = begins held read (λ number value there. has (suc number) value there) in
    let first : y ≡ x = same refl (has 0 x refl) in
    (rest.0, ap (λ (z : List ℕ). z ∷ read) first ∙ ap (λ (l : List (List ℕ)). x ∷ l) rest.1)

pub texts_follow : TextsFollowAll
texts_follow later earlier text new bytes read held fresh turn were done holds =
    let request = switch text (length read) new bytes in
    let fresh_then = fresh_before later (request ∷ earlier) fresh in
    let fresh_earlier = fresh_before (request ∷ []) earlier fresh_then in
    let gone = is_gone request earlier new bytes fresh_then refl done in
    begins held read (λ number value there.
    let was = only_before later earlier request text number value fresh (counts_now earlier text done.0) gone (holds number value there) in
    sym (all_read earlier text read fresh_earlier turn were done.0 done.1 number) ∙ values_stay earlier text number value fresh_earlier was done.0)

pub entries_held : EntriesAreHeld
entries_held earlier text held entry were is number value there = of (eqb_tells number (length held))
  where
    entry_was : Succeeds (log_after earlier) (put text (length held) entry) ⊎ WasAt earlier text (length held) entry → WasAt (put text (length held) entry ∷ earlier) text (length held) entry
    entry_was (inl done) = entry_is (put text (length held) entry) earlier entry refl done
    entry_was (inr was) = inr was

    of : ((eqb number (length held) ≡ true) × (number ≡ length held)) ⊎ ((eqb number (length held) ≡ false) × (number ≢ length held)) → WasAt (put text (length held) entry ∷ earlier) text number value
    of (inl equal) =
        let as_put : entry ≡ value = same (last_there held entry) (ap (slice_get (held ++ entry ∷ [])) (sym equal.1) ∙ there) in
        subst (λ (v : List ℕ). WasAt (put text (length held) entry ∷ earlier) text number v) as_put (subst (λ (n : ℕ). WasAt (put text (length held) entry ∷ earlier) text n entry) (sym equal.1) (entry_was is))
    of (inr other) = inr (were number value (others_there held entry number other.1 ∙ there))

pub texts_held : TextsAreHeld
texts_held history place text number new bytes fresh at counts zero value there =
    elim (have_come history fresh new (counts_now history new counts)) [
      | inl first ↦ absurd (fresh.not_first place text number bytes (subst (λ (n : ℕ). slice_get history place ≡ Some (switch text number n bytes)) first at))
      | inr c ↦
          let as_asked = (fresh.one_text c.place place new c.old c.number text number c.bytes bytes c.there at).1 in
          subst (λ (v : List ℕ). WasAt history new 0 v) (as_asked ∙ same refl there) c.was
    ]
texts_held history place text number new bytes fresh at counts (suc n) value there = absurd (none_some refl there)
