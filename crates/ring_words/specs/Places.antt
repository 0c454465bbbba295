-- The texts of places to listen, and of modes.
use Rattle.std.specs.Prelude.{◌≡◌, ◌≤◌, ◌<◌, ◌⊎◌, ⊤, ℕ, Contains, IfSome, Option, length, option_map, string_bytes}
use Rattle.std.specs.Str.Parse.{IsNumeral, digits_value, without_leading_plus}
use Rattle.clap.specs.Words.{Text}
use Rattle.ring_words.specs.Journals.{NamesJournal}
use Rattle.ring_words.specs.declared.places.Place.{Place}
use Rattle.ring_words.specs.declared.places.Place.TheVariants.{Path, Port}
use Rattle.ring_words.specs.declared.words.Order.{Order}
use Rattle.ring_words.specs.declared.words.Order.TheVariants.{Journal, Replay, Run, Serve}

-- The text is a number in this radix, from the least to the most.
pub record IsNumberOf (radix least most : ℕ) (text : Text) (n : ℕ) : Type 0 where
  pub numeral : IsNumeral radix (without_leading_plus text)
  pub value : n ≡ digits_value radix (without_leading_plus text)
  pub some : least ≤ n
  pub few : n ≤ most

-- the number of a port, and a mode in octal
abbrev pub IsPort : Text → ℕ → Type 0
IsPort text port = IsNumberOf 10 1 65535 text port

abbrev pub IsMode : Text → ℕ → Type 0
IsMode text mode = IsNumberOf 8 0 511 text mode

-- the text has a slash
abbrev pub HasSlash : Text → Type 0
HasSlash text = Contains text 47

-- the place that a text gives: itself as a path if it has a slash, otherwise a port
abbrev pub IsPlaceOf : Text → Place → Type 0
IsPlaceOf text (Port port) = (HasSlash text → ⊥) × IsPort text port
IsPlaceOf text (Path path) = HasSlash text × (path.now ≡ text)

-- the text has no slash, and is no number of a port
abbrev pub GivesNoPlace : Text → Type 0
GivesNoPlace text = (HasSlash text → ⊥) × ((port : ℕ) → IsPort text port → ⊥)

-- what an option takes, if it is given: a place, a path that is not empty, a mode, a journal
abbrev pub HasPlace : Option Text → Type 0
HasPlace given = IfSome given (λ text. HasSlash text ⊎ ((port : ℕ) × IsPort text port))

abbrev pub HasPath : Option Text → Type 0
HasPath given = IfSome given (λ text. 0 < length text)

abbrev pub HasMode : Option Text → Type 0
HasMode given = IfSome given (λ text. (mode : ℕ) × IsMode text mode)

abbrev pub HasJournal : Option Text → Type 0
HasJournal given = IfSome given NamesJournal

-- each text of an order is what its option takes
abbrev pub IsWellGiven : Order → Type 0
IsWellGiven Replay = ⊤
IsWellGiven (Serve path connections socket mode) =
    HasPath (option_map string_bytes socket) × HasMode (option_map string_bytes mode)
IsWellGiven (Run path sessions idle places journal campaign http socket mode) =
    HasPlace (option_map string_bytes campaign) × HasPlace (option_map string_bytes http)
    × HasPath (option_map string_bytes socket) × HasMode (option_map string_bytes mode)
    × HasJournal (option_map string_bytes journal)
IsWellGiven (Journal path) = NamesJournal (string_bytes path)
