-- The addresses at which a service may be.
use Rattle.std.specs.Prelude.{◌≡◌, ◌≢◌, ◌<◌, ◌==◌, ◌∷◌, ◌++◌, ◌⊎◌, [], ℕ, All, Contains, List, codes, length}
use Rattle.std.specs.List.{slice_split}
use Rattle.std.specs.Str.Parse.{IsNumeral, digits_value, without_leading_plus}

-- The text is the number of a port, 1 to 65535.
pub record IsPort (text : List ℕ) : Type 0 where
  pub numeral : IsNumeral 10 (without_leading_plus text)
  pub some : 0 < digits_value 10 (without_leading_plus text)
  pub few : digits_value 10 (without_leading_plus text) < 65536

-- The text is a host and a port, with its last colon between them.
pub record IsHostAndPort (text host port : List ℕ) : Type 0 where
  pub spelled : text ≡ host ++ (58 ∷ port)
  pub last : Contains port 58 → ⊥
  pub named : 0 < length host
  pub numbered : IsPort port

-- the text is the path of a socket after `unix:`
abbrev pub IsOfSocket : List ℕ → List ℕ → Type 0
IsOfSocket text path = text ≡ codes "unix:" ++ path

-- an address: a path of one byte or more after `unix:`, or in any other text a host and a port
abbrev pub IsAddress : List ℕ → Type 0
IsAddress text =
    ((path : List ℕ) × IsOfSocket text path × (0 < length path))
    ⊎ (((path : List ℕ) → text ≢ codes "unix:" ++ path)
    × ((host : List ℕ) × (port : List ℕ) × IsHostAndPort text host port))

-- the parts of a text at its commas
abbrev pub parts_of : List ℕ → List (List ℕ)
parts_of text = slice_split (λ b. b == 44) text

-- each part is an address
abbrev pub AreAddresses : List ℕ → Type 0
AreAddresses text = All IsAddress (parts_of text)

-- the addresses that a text names: its parts if each is an address, otherwise the text itself
abbrev pub Names : List ℕ → List (List ℕ) → Type 0
Names text addresses =
    (AreAddresses text × (addresses ≡ parts_of text))
    ⊎ ((AreAddresses text → ⊥) × (addresses ≡ text ∷ []))
