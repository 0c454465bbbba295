-- The keys of what is in a journal, before they are in base 64.
use Rattle.std.specs.Prelude.{ℕ, List, [], ◌∷◌, ◌+◌, ◌++◌, ◌-◌, codes, decimal, length, replicate}
use Rattle.base64.specs.Engines.{standard}
use Rattle.base64.specs.GeneralPurpose.{encode_of}

-- the 20 digits of a number, with zeros first
abbrev pub twenty_digits : ℕ → List ℕ
twenty_digits number = replicate (20 - length (decimal number)) 48 ++ decimal number

-- an entry after a text, by its number
abbrev pub entry_key : List ℕ → ℕ → ℕ → List ℕ
entry_key name text number =
    codes "ring/" ++ (name ++ (codes "/t/" ++ (twenty_digits text
    ++ (codes "/e/" ++ twenty_digits number))))

-- a piece of a text, by its number
abbrev pub piece_key : List ℕ → ℕ → ℕ → List ℕ
piece_key name text number =
    codes "ring/" ++ (name ++ (codes "/t/" ++ (twenty_digits text
    ++ (codes "/p/" ++ twenty_digits number))))

-- an entry's key in base 64
abbrev pub entry_code : List ℕ → ℕ → ℕ → List ℕ
entry_code name text number = encode_of standard (entry_key name text number)

-- a piece's key in base 64
abbrev pub piece_code : List ℕ → ℕ → ℕ → List ℕ
piece_code name text number = encode_of standard (piece_key name text number)

-- the keys of the numbers from the first on, one for each of these values
abbrev pub codes_from : (ℕ → List ℕ) → ℕ → List (List ℕ) → List (List ℕ)
codes_from code first [] = []
codes_from code first (value ∷ values) = code first ∷ codes_from code (first + 1) values
