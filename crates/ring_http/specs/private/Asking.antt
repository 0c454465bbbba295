-- What is asked, step by step.
use Rattle.std.specs.Prelude.{◌≡◌, ℕ, List, [], ◌∷◌, ◌++◌, Option, Result, Ok, Err, map}
use Rattle.std.specs.List.{flat_map}
use Rattle.ring_id.specs.declared.refusal.Refusal.TheVariants as refused
use Rattle.ring_any.specs.declared.any.Any.{Any}
use Rattle.ring_events.specs.declared.event.Command.{Command}
use Rattle.ring_events.specs.declared.event.Command.TheVariants.{Groups, Members, Terms, Who}
use Rattle.ring_events.specs.declared.reply.Reply.{Reply}
use Rattle.ring_events.specs.declared.reply.Reply.TheVariants.{Refused}
use Rattle.ring_events.specs.declared.reply.Reply.TheVariants as reply
use Rattle.ring_table.specs.declared.entry.Entry.{Entry}
use Rattle.ring_table.specs.declared.entry.Entry.TheVariants.{Call}
use Rattle.ring_http.specs.Asking.{AddsQuestions, IsQuestion, Lacks, asked_of, hears, hears_of, who_of}
use Rattle.ring_http.specs.declared.asking.Lack.{Lack}
use Rattle.ring_http.specs.declared.asking.Lack.TheVariants.{Late, NoGroup, Unplaced}

-- the command is a question
abbrev pub IsAsked : ℕ → Command Any → Type 0
IsAsked session command = (answer : Reply) → IsQuestion session (Call session command answer)

-- a question was placed with this reply
abbrev pub Asks : ℕ → Command Any → Reply → List (Entry Any) → List (Entry Any) → Type 0
Asks session command answer mine now = now ≡ mine ++ Call session command answer ∷ []

-- a list of groups
abbrev pub SaysNames : Reply → Type 0
SaysNames (reply.Groups names) = Unit {0}
SaysNames _ = ⊥

-- a list of members, or that there is no such group
abbrev pub SaysMembers : Reply → Type 0
SaysMembers (reply.Members members) = Unit {0}
SaysMembers (Refused refusal) = refusal ≡ refused.NoGroup
SaysMembers _ = ⊥

-- a list of terms, or that there is no such group
abbrev pub SaysTerms : Reply → Type 0
SaysTerms (reply.Terms leaders) = Unit {0}
SaysTerms (Refused refusal) = refusal ≡ refused.NoGroup
SaysTerms _ = ⊥

-- why a reply has no list
abbrev pub LacksList : Reply → Lack → Type 0
LacksList answer (Unplaced refusal) = ⊥
LacksList answer NoGroup = answer ≡ Refused refused.NoGroup
LacksList answer Late = ⊥

-- the list in a reply
abbrev pub GivesMembers : Reply → Result (List ℕ) Lack → Type 0
GivesMembers answer (Ok members) = answer ≡ reply.Members members
GivesMembers answer (Err lack) = LacksList answer lack

abbrev pub GivesTerms : Reply → Result (List (Option ℕ)) Lack → Type 0
GivesTerms answer (Ok leaders) = answer ≡ reply.Terms leaders
GivesTerms answer (Err lack) = LacksList answer lack

module _ (session : ℕ) where
  -- the names of all groups
  abbrev pub AsksNames : List (Entry Any) → Result (List (List ℕ)) Lack → List (Entry Any) → Type 0
  AsksNames mine (Ok names) now = now ≡ mine ++ Call session Groups (reply.Groups names) ∷ []
  AsksNames mine (Err lack) now = Lacks session lack mine now

  -- the members of a group
  abbrev pub AsksMembers : List ℕ → List (Entry Any) → Result (List ℕ) Lack → List (Entry Any)
      → Type 0
  AsksMembers group mine (Ok members) now =
      now ≡ mine ++ Call session (Members group) (reply.Members members) ∷ []
  AsksMembers group mine (Err lack) now = Lacks session lack mine now

  -- the leaders of a group's terms
  abbrev pub AsksTerms : List ℕ → List (Entry Any) → Result (List (Option ℕ)) Lack
      → List (Entry Any) → Type 0
  AsksTerms group mine (Ok leaders) now =
      now ≡ mine ++ Call session (Terms group) (reply.Terms leaders) ∷ []
  AsksTerms group mine (Err lack) now = Lacks session lack mine now

  -- Each of these members was asked what it knows of its leader, and these know one.
  pub record AddsEach (group members : List ℕ) (informed : List ℕ)
      (mine now : List (Entry Any)) : Type 0 where
    pub adds : AddsQuestions session mine now
    pub asks : map asked_of adds.added ≡ map (who_of session group) members
    pub hears : informed ≡ flat_map hears adds.added

  -- A member was asked, given its number, and its number was noted if it knows a leader.
  pub record Hears (group : List ℕ) (number : ℕ) (informed later : List ℕ)
      (mine now : List (Entry Any)) : Type 0 where
    pub answer : Reply
    pub gained : now ≡ mine ++ Call session (Who group number) answer ∷ []
    pub heard : later ≡ informed ++ hears_of number answer
