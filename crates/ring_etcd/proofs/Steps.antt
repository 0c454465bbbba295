-- What a request does to the log.
use Rattle.std.proofs.Common.{◌≡◌, ◌≢◌, ◌⊎◌, inl, inr, ℕ, true, false, List, Option, Some, None, refl, ap, sym, ◌∙◌}
use Rattle.std.proofs.Math.Dec.{eqb}
use Rattle.std.proofs.lemmas.Bool.Decides.{eqb_tells}
use Rattle.ring_etcd.specs.Log.{Asked, Entry, Log, Request, Succeeds, Text, changed, step}

-- It changes nothing, or puts an entry, or makes another text count.
pub data Steps (log : Log) (request : Request) : Type 0 where
  passes : (Succeeds log request → ⊥) → step log request ≡ log → Steps log request
  puts : (entry : List ℕ) → request.asked ≡ Entry entry → Succeeds log request → step log request ≡ changed log request.number (Entry entry) → Steps log request
  turns : (new : ℕ) (bytes : List ℕ) → request.asked ≡ Text new bytes → Succeeds log request → step log request ≡ changed log request.number (Text new bytes) → Steps log request

pub none_some : {A : Type 0} {x : A} {o : Option A} → o ≡ None → o ≡ Some x → ⊥
none_some none some = cc

pub same : {A : Type 0} {x y : A} {o : Option A} → o ≡ Some x → o ≡ Some y → x ≡ y
same is_x is_y = cc

does : (log : Log) (request : Request) (asked : Asked) → request.asked ≡ asked → Succeeds log request → step log request ≡ changed log request.number asked → Steps log request
does log request (Entry entry) asks done is = puts entry asks done is
does log request (Text new bytes) asks done is = turns new bytes asks done is

by_cases : (log : Log) (request : Request) (there : Option (List ℕ)) → log.at request.number ≡ there → ((eqb log.text request.text ≡ true) × (log.text ≡ request.text)) ⊎ ((eqb log.text request.text ≡ false) × (log.text ≢ request.text)) → Steps log request
by_cases log request None none (inl equal) = does log request request.asked refl (equal.1, none) (rw (equal.0, none) refl)
by_cases log request (Some x) some (inl equal) = passes (λ done. none_some done.1 some) (rw (equal.0, some) refl)
by_cases log request there is (inr other) = passes (λ done. other.1 done.0) (rw other.0 refl)

pub steps : (log : Log) (request : Request) → Steps log request
steps log request = by_cases log request (log.at request.number) refl (eqb_tells log.text request.text)

-- a request whose condition holds is carried out
pub carried_out : (log : Log) (request : Request) → Succeeds log request → step log request ≡ changed log request.number request.asked
carried_out log request done =
    elim (steps log request) [
      | passes fails is ↦ absurd (fails done)
      | puts entry asks d is ↦ is ∙ ap (λ (a : Asked). changed log request.number a) (sym asks)
      | turns new bytes asks d is ↦ is ∙ ap (λ (a : Asked). changed log request.number a) (sym asks)
    ]

-- an entry that is put is there, and all else is as before
pub put_there : (log : Log) (number : ℕ) (entry : List ℕ) → (changed log number (Entry entry)).at number ≡ Some entry
put_there log number entry = elim (eqb_tells number number) [ inl equal ↦ rw equal.0 refl | inr other ↦ absurd (other.1 refl) ]

pub stays : (log : Log) (number n : ℕ) (entry value : List ℕ) → log.at number ≡ None → log.at n ≡ Some value → (changed log number (Entry entry)).at n ≡ Some value
stays log number n entry value none there =
    elim (eqb_tells n number) [
      | inl equal ↦ absurd (none_some none (sym (ap log.at equal.1) ∙ there))
      | inr other ↦ rw other.0 there
    ]
