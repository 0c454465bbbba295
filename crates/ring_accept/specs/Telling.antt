-- The lines on standard output of a service that listens and closes.
use Rattle.std.specs.Prelude.{ℕ, List, [], ◌∷◌, ◌++◌, codes}
use Rattle.std.specs.Fmt.{decimal}

-- the line that is written before the first client is accepted
abbrev pub listening_line : ℕ → List ℕ
listening_line port = codes "listening 127.0.0.1:" ++ decimal port ++ 10 ∷ []

-- the same for the path of a socket
abbrev pub listening_at : List ℕ → List ℕ
listening_at path = codes "listening " ++ path ++ 10 ∷ []

-- the line that is written when all sessions have ended
abbrev pub closed_line : ℕ → List ℕ
closed_line connections = codes "closed " ++ decimal connections ++ 10 ∷ []
