-- What is at the keys of a journal in etcd, and what each request does to it at its instant.
use Rattle.std.specs.Prelude.{◌≡◌, ◌⊎◌, ◌+◌, ◌==◌, ◌&&◌, ℕ, List, [], ◌∷◌, Option, Some, None, is_none, if◌then◌else◌, slice_get}

-- The identity of the text that counts, and what is at each number of it. The bytes of the text are
-- at number 0, and the entries after it are at 1, 2, 3 and so on.
pub record Log : Type 0 where
  pub text : ℕ
  pub at : ℕ → Option (List ℕ)

-- an entry; or another text, by its identity and its bytes
pub data Asked : Type 0 where
  Entry : List ℕ → Asked
  Text : ℕ → List ℕ → Asked

-- A process asks for this on a condition: the text counts, and nothing is at the number.
pub record Request : Type 0 where
  pub text : ℕ
  pub number : ℕ
  pub asked : Asked

abbrev pub put : ℕ → ℕ → List ℕ → Request
put text number entry = record { text = text; number = number; asked = Entry entry }

abbrev pub switch : ℕ → ℕ → ℕ → List ℕ → Request
switch text number new bytes = record { text = text; number = number; asked = Text new bytes }

-- the condition of a request holds, so it is carried out
abbrev pub Succeeds : Log → Request → Type 0
Succeeds log request = (log.text ≡ request.text) × (log.at request.number ≡ None)

-- The entry is at the number. Or the other text counts, and nothing is after it.
abbrev pub changed : Log → ℕ → Asked → Log
changed log number (Entry entry) =
    record { text = log.text; at = λ n. if n == number then Some entry else log.at n }
changed log number (Text new bytes) =
    record { text = new; at = λ n. if n == 0 then Some bytes else None }

-- the log after a request, which changes nothing if its condition does not hold
abbrev pub step : Log → Request → Log
step log request =
    if (log.text == request.text) && is_none (log.at request.number)
    then changed log request.number request.asked
    else log

-- The log after a history: all requests by their instants, the last one first. A request that etcd
-- gets twice is there twice. The first text has the identity 0 and no bytes.
abbrev pub log_after : List Request → Log
log_after [] = record { text = 0; at = λ n. if n == 0 then Some [] else None }
log_after (request ∷ earlier) = step (log_after earlier) request

-- this was so of the log at some moment of a history
abbrev pub Was : (Log → Type 0) → List Request → Type 0
Was P [] = P (log_after [])
Was P (request ∷ earlier) = P (log_after (request ∷ earlier)) ⊎ Was P earlier

-- A text counted, and had this at a number. If a reply has a value, or says that it was put, it was
-- there.
abbrev pub WasAt : List Request → ℕ → ℕ → List ℕ → Type 0
WasAt history text number value =
    Was (λ log. (log.text ≡ text) × (log.at number ≡ Some value)) history

-- These were at the numbers of a text from 0 on, be it at different moments. A process that takes
-- over reads such a list. An engine holds such a list, without the first byte of each entry.
abbrev pub WereAt : List Request → ℕ → List (List ℕ) → Type 0
WereAt history text values =
    (number : ℕ) (value : List ℕ) → slice_get values number ≡ Some value
    → WasAt history text number value

-- these are at the numbers from 0 on, and nothing is at any other
abbrev pub AreAll : Log → List (List ℕ) → Type 0
AreAll log values = (number : ℕ) → log.at number ≡ slice_get values number

-- Each new text has an identity of its own, the revision of a put. It is asked for in the place of
-- one text and with the same bytes, however often. The first text is not asked for.
pub record AreFresh (history : List Request) : Type 0 where
  pub not_first : (place text number : ℕ) (bytes : List ℕ)
      → slice_get history place ≡ Some (switch text number 0 bytes) → ⊥
  pub one_text : (i j new t n u m : ℕ) (x y : List ℕ)
      → slice_get history i ≡ Some (switch t n new x)
      → slice_get history j ≡ Some (switch u m new y)
      → (t ≡ u) × (x ≡ y)

-- The number of a request is the one after a number at which something was.
pub record IsNext (request : Request) (earlier : List Request) : Type 0 where
  pub last : ℕ
  pub value : List ℕ
  pub next : request.number ≡ last + 1
  pub was : WasAt earlier request.text last value

-- the processes ask for no other numbers
abbrev pub AreInTurn : List Request → Type 0
AreInTurn [] = Unit {0}
AreInTurn (request ∷ earlier) = IsNext request earlier × AreInTurn earlier
