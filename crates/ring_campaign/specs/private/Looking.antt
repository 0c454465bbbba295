-- What a candidate asks, and what it finds.
use Rattle.std.specs.Prelude.{◌≡◌, ◌⊎◌, ℕ, Bool, true, false, List, [], ◌∷◌, ◌++◌, Option, Some, None, All}
use Rattle.std.specs.List.{flat_map, list_any}
use Rattle.ring_id.specs.declared.refusal.Refusal.{Refusal}
use Rattle.ring_roster.specs.Ring.{has_number}
use Rattle.ring_any.specs.declared.any.Any.{Any}
use Rattle.ring_events.specs.declared.event.Command.{Command}
use Rattle.ring_events.specs.declared.event.Command.TheVariants.{Members, Start, Who}
use Rattle.ring_events.specs.declared.reply.Reply.{Reply}
use Rattle.ring_events.specs.declared.reply.Reply.TheVariants.{Done, Leader, Refused, Undecided}
use Rattle.ring_events.specs.declared.reply.Reply.TheVariants as reply
use Rattle.ring_table.specs.declared.entry.Entry.{Entry}
use Rattle.ring_table.specs.declared.entry.Entry.TheVariants.{Call}
use Rattle.ring_campaign.specs.Campaigns.{told_of}
use Rattle.ring_campaign.specs.Entries.{FindNobody, Follows, HasLeader, IsFirst, IsQuiet, Looks, StartsOnce}
use Rattle.ring_campaign.specs.declared.finding.Found.{Found}
use Rattle.ring_campaign.specs.declared.finding.Found.TheVariants as found
use Rattle.ring_campaign.specs.declared.finding.Last.{Last}
use Rattle.ring_campaign.specs.declared.finding.Last.TheVariants as last
use Rattle.ring_campaign.specs.declared.candidate.Look.{Look}
use Rattle.ring_campaign.specs.declared.candidate.Look.TheVariants as look

-- a reply that a client is told while it campaigns
abbrev pub IsTold : Reply → Type 0
IsTold Done = Unit {0}
IsTold (Leader term leader) = Unit {0}
IsTold (Undecided term) = Unit {0}
IsTold (Refused refusal) = Unit {0}
IsTold _ = ⊥

-- a command was placed with this reply, or the seat gained nothing
abbrev pub Asks : ℕ → Command Any → List (Entry Any) → Option Reply → List (Entry Any) → Type 0
Asks session command mine (Some answer) now = now ≡ mine ++ Call session command answer ∷ []
Asks session command mine None now = now ≡ mine

-- what the list of leaders says of the last term
abbrev pub SaysLast : Reply → Last → Type 0
SaysLast answer last.Unknown = Unit {0}
SaysLast answer last.NoTerm = answer ≡ reply.Terms []
SaysLast answer last.Undecided = (leaders : List (Option ℕ))
    × (answer ≡ reply.Terms (leaders ++ None ∷ []))
SaysLast answer (last.Leader leader) = (leaders : List (Option ℕ))
    × (answer ≡ reply.Terms (leaders ++ Some leader ∷ []))

-- what the list of members says of one of them
abbrev pub SaysMember : ℕ → Reply → Option Bool → Type 0
SaysMember leader answer None = Unit {0}
SaysMember leader answer (Some there) = (members : List ℕ) × (answer ≡ reply.Members members)
    × (there ≡ list_any (has_number leader) members)

-- The list of members begins with this number.
abbrev pub SaysFirst : ℕ → Reply → Type 0
SaysFirst number (reply.Members members) = IsFirst number members
SaysFirst number _ = ⊥

-- no list of members
abbrev pub Never : List ℕ → Type 0
Never _ = ⊥

module _ (session : ℕ) (group : List ℕ) (number : ℕ) where
  -- Questions of which nothing is told were added.
  pub record AddsQuestions (mine now : List (Entry Any)) : Type 0 where
    pub added : List (Entry Any)
    pub gained : now ≡ mine ++ added
    pub quiet : All (IsQuiet session group number) added
    pub silent : flat_map told_of added ≡ []

  -- Such questions found another member that leads.
  pub record AddsLeader (mine now : List (Entry Any)) : Type 0 where
    pub asked : AddsQuestions mine now
    pub leader : HasLeader session group number true asked.added

  -- Such questions found nobody, and a start is behind them.
  pub record AddsStart (mine : List (Entry Any)) (answer : Reply) (now : List (Entry Any))
      : Type 0 where
    pub asked : List (Entry Any)
    pub gained : now ≡ mine ++ (asked ++ Call session (Start group) answer ∷ [])
    pub nobody : FindNobody session group number asked
    pub silent : flat_map told_of asked ≡ []

  -- whether there is a leader to follow, or a term was started
  abbrev pub Finds : List (Entry Any) → Found → List (Entry Any) → Type 0
  Finds mine found.Unknown now = AddsQuestions mine now
  Finds mine found.Follows now = AddsLeader mine now
      ⊎ ((answer : Reply) × AddsStart mine answer now
      × (told_of (Call session (Start group) answer) ≡ []))
  Finds mine (found.Refused refusal) now = AddsStart mine (Refused refusal) now

  -- The members were asked for, and their list is such.
  pub record AddsMembers (Such : List ℕ → Type 0) (mine now : List (Entry Any)) : Type 0 where
    pub members : List ℕ
    pub such : Such members
    pub gained : now ≡ mine ++ Call session (Members group) (reply.Members members) ∷ []

  -- Their list is such, and a start was placed behind the question.
  pub record SeeksOn (Such : List ℕ → Type 0) (mine : List (Entry Any)) (answer : Reply)
      (now : List (Entry Any)) : Type 0 where
    pub between : List (Entry Any)
    pub asked : AddsMembers Such mine between
    pub gained : now ≡ between ++ Call session (Start group) answer ∷ []

  -- whether the members say that there is a leader to follow, or a term was started since they say
  -- that there is none
  abbrev pub Seeks : (There Gone : List ℕ → Type 0) → List (Entry Any) → Found → List (Entry Any) → Type 0
  Seeks There Gone mine found.Unknown now = AddsQuestions mine now
  Seeks There Gone mine found.Follows now = AddsMembers There mine now
      ⊎ ((answer : Reply) × SeeksOn Gone mine answer now
      × (told_of (Call session (Start group) answer) ≡ []))
  Seeks There Gone mine (found.Refused refusal) now = SeeksOn Gone mine (Refused refusal) now

  -- a start, given the entries before it
  abbrev pub Starts : List (Entry Any) → Found → List (Entry Any) → Type 0
  Starts mine found.Unknown now = now ≡ mine
  Starts mine found.Follows now = (answer : Reply)
      × (now ≡ mine ++ Call session (Start group) answer ∷ [])
      × (told_of (Call session (Start group) answer) ≡ [])
  Starts mine (found.Refused refusal) now =
      now ≡ mine ++ Call session (Start group) (Refused refusal) ∷ []

  -- One start, which was not refused.
  pub record StartsTerm (entries : List (Entry Any)) : Type 0 where
    pub once : StartsOnce session group number entries
    pub begun : (refusal : Refusal) → once.answer ≡ Refused refusal → ⊥

  -- the entries since the join, before a term to follow was found and after that
  abbrev pub IsAt : Bool → List (Entry Any) → Type 0
  IsAt false entries = All (IsQuiet session group number) entries
  IsAt true entries = Follows session group number entries ⊎ StartsTerm entries

  -- what is told after a look
  abbrev pub tells : Look → List Reply
  tells look.Nothing = []
  tells (look.Tell answer) = answer ∷ []
  tells (look.Last refusal) = Refused refusal ∷ []

  -- the entries since the join, after a look: nothing may follow a last one
  abbrev pub IsAfter : Look → Bool → List (Entry Any) → Type 0
  IsAfter (look.Last refusal) new entries = Looks session group number entries
  IsAfter _ new entries = IsAt new entries

  -- what is so of a look besides
  abbrev pub IsLook : Look → List (Entry Any) → Type 0
  IsLook look.Nothing added = Unit {0}
  IsLook (look.Tell answer) added = IsTold answer
  IsLook (look.Last refusal) added = (before : List (Entry Any))
      × (added ≡ before ++ Call session (Start group) (Refused refusal) ∷ [])

  -- The member's question was placed, or nothing was.
  abbrev pub AddsWho : List (Entry Any) → Look → List (Entry Any) → Type 0
  AddsWho mine look.Nothing now = now ≡ mine
  AddsWho mine (look.Tell answer) now = (now ≡ mine ++ Call session (Who group number) answer ∷ [])
      × IsTold answer
  AddsWho mine (look.Last refusal) now = ⊥

  -- A look adds entries behind those since the join.
  pub record AddsLook (old : Bool) (mine : List (Entry Any)) (result : Look) (new : Bool)
      (now : List (Entry Any)) : Type 0 where
    pub added : List (Entry Any)
    pub gained : now ≡ mine ++ added
    pub at : (during : List (Entry Any)) → IsAt old during → IsAfter result new (during ++ added)
    pub told : flat_map told_of added ≡ tells result
    pub is : IsLook result added
