-- The leaders that replies name: a term of a group has one leader.
use Rattle.std.specs.Prelude.{◌≡◌, ◌⊎◌, ◌+◌, ℕ, List, Option, Some, slice_get}
use Rattle.ring_events.specs.declared.event.Command.TheVariants.{Who, Terms}
use Rattle.ring_events.specs.declared.reply.Reply.TheVariants as reply
use Rattle.ring_table.specs.declared.entry.Entry.{Entry}
use Rattle.ring_table.specs.declared.entry.Entry.TheVariants.{Call}

-- A client asked for the leader of a group, and got this leader of this term.
pub record IsAnswer {E : Type 0} (group : List ℕ) (term leader : ℕ) (entry : Entry E) : Type 0 where
  pub session : ℕ
  pub node : ℕ
  pub is : entry ≡ Call session (Who group node) (reply.Leader term leader)

-- A client asked for the terms of a group, and got this leader of this term among them.
pub record IsListed {E : Type 0} (group : List ℕ) (term leader : ℕ) (entry : Entry E) : Type 0 where
  pub session : ℕ
  pub leaders : List (Option ℕ)
  pub is : entry ≡ Call session (Terms group) (reply.Terms leaders)
  pub place : ℕ
  pub numbered : term ≡ place + 1
  pub there : slice_get leaders place ≡ Some (Some leader)

-- a client got this leader of this term of a group
abbrev pub Names : {E : Type 0} → List ℕ → ℕ → ℕ → Entry E → Type 0
Names group term leader entry = IsAnswer group term leader entry ⊎ IsListed group term leader entry

-- an entry is in a history
abbrev pub IsIn : {E : Type 0} → Entry E → List (Entry E) → Type 0
IsIn entry history = (place : ℕ) × (slice_get history place ≡ Some entry)

-- no two of these entries name different leaders of one term of a group
abbrev pub NameOneLeader : {E : Type 0} → List (Entry E) → Type 0
NameOneLeader {E} history =
    (group : List ℕ) (term a b : ℕ) (first second : Entry E)
    → IsIn first history → IsIn second history
    → Names group term a first → Names group term b second
    → a ≡ b
