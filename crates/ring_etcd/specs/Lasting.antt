-- A value at a number of a text is there for good, and the next text follows all of them. This is
-- so in each history of requests, with late and repeated ones.
use Rattle.std.specs.Prelude.{◌≡◌, ◌≢◌, ◌⊎◌, ℕ, List, [], ◌∷◌, ◌++◌, Some, length, slice_get}
use Rattle.ring_etcd.specs.Log.{AreAll, AreFresh, AreInTurn, Request, Succeeds, Was, WasAt, WereAt, log_after, put, switch}

-- A value that was at a number is there as long as its text counts.
abbrev pub ValuesStay : Type 0
ValuesStay =
    (history : List Request) (text number : ℕ) (value : List ℕ)
    → AreFresh history → WasAt history text number value
    → (log_after history).text ≡ text → (log_after history).at number ≡ Some value

-- Nothing else is ever at that number of that text.
abbrev pub NumbersHaveOneValue : Type 0
NumbersHaveOneValue =
    (history : List Request) (text number : ℕ) (a b : List ℕ)
    → AreFresh history → WasAt history text number a → WasAt history text number b → a ≡ b

-- A text that does not count any more never counts again.
abbrev pub TextsNeverReturn : Type 0
TextsNeverReturn =
    (later earlier : List Request) (text : ℕ)
    → AreFresh (later ++ earlier) → Was (λ log. log.text ≡ text) earlier
    → (log_after earlier).text ≢ text → (log_after (later ++ earlier)).text ≢ text

-- If anything was ever at its number, a request is not carried out.
abbrev pub TakenNumbersRefuse : Type 0
TakenNumbersRefuse =
    (history : List Request) (request : Request) (value : List ℕ)
    → AreFresh history → WasAt history request.text request.number value
    → Succeeds (log_after history) request → ⊥

-- A request that was carried out changes nothing when it comes again.
abbrev pub RepeatsChangeNothing : Type 0
RepeatsChangeNothing =
    (later earlier : List Request) (request : Request)
    → AreFresh (later ++ request ∷ earlier) → Succeeds (log_after earlier) request
    → log_after (request ∷ (later ++ request ∷ earlier)) ≡ log_after (later ++ request ∷ earlier)

-- A process read these, and its own entry is put at the next number. So nothing else is there.
abbrev pub MarksFollowAll : Type 0
MarksFollowAll =
    (earlier : List Request) (text : ℕ) (read : List (List ℕ)) (mark : List ℕ)
    → AreFresh earlier → AreInTurn earlier → WereAt earlier text read
    → Succeeds (log_after earlier) (put text (length read) mark)
    → AreAll (log_after (put text (length read) mark ∷ earlier)) (read ++ mark ∷ [])

-- A process read these, and its own text counts by a request with the next number. So all that any
-- process holds of the text before, then or later, is the first part of what was read.
abbrev pub TextsFollowAll : Type 0
TextsFollowAll =
    (later earlier : List Request) (text new : ℕ) (bytes : List ℕ) (read held : List (List ℕ))
    → AreFresh (later ++ switch text (length read) new bytes ∷ earlier) → AreInTurn earlier
    → WereAt earlier text read → Succeeds (log_after earlier) (switch text (length read) new bytes)
    → WereAt (later ++ switch text (length read) new bytes ∷ earlier) text held
    → (more : List (List ℕ)) × (read ≡ held ++ more)

-- An entry is put at the number after what an engine holds, or was there. So the engine holds it.
abbrev pub EntriesAreHeld : Type 0
EntriesAreHeld =
    (earlier : List Request) (text : ℕ) (held : List (List ℕ)) (entry : List ℕ)
    → WereAt earlier text held
    → Succeeds (log_after earlier) (put text (length held) entry)
    ⊎ WasAt earlier text (length held) entry
    → WereAt (put text (length held) entry ∷ earlier) text (held ++ entry ∷ [])

-- The text counts that an engine asked for. So the engine holds its bytes.
abbrev pub TextsAreHeld : Type 0
TextsAreHeld =
    (history : List Request) (place text number new : ℕ) (bytes : List ℕ)
    → AreFresh history → slice_get history place ≡ Some (switch text number new bytes)
    → (log_after history).text ≡ new → WereAt history new (bytes ∷ [])
