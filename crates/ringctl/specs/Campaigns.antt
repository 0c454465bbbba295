-- The replies with which a campaign goes on.
use Rattle.std.specs.Prelude.{◌≡◌, ◌⊎◌, ◌++◌, ℕ, List, codes}
use Rattle.ringctl.specs.declared.reply.Reply.{Reply}
use Rattle.ringctl.specs.declared.reply.Reply.TheVariants.{Done, Refused}

-- this list begins with these bytes
abbrev pub Begins : List ℕ → List ℕ → Type 0
Begins start line = (rest : List ℕ) × (line ≡ start ++ rest)

-- The reply to the join says that the member has joined.
abbrev pub IsJoined : Reply → Type 0
IsJoined (Done line) = line.now ≡ codes "ok"
IsJoined (Refused word) = ⊥

-- The reply says what the member knows of the leader of the last term.
abbrev pub IsOfTerm : Reply → Type 0
IsOfTerm (Done line) = Begins (codes "leader ") line.now ⊎ Begins (codes "undecided ") line.now
IsOfTerm (Refused word) = (word.now ≡ codes "not-in-term") ⊎ (word.now ≡ codes "no-term")
