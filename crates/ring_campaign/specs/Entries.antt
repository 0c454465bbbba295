-- What a campaign adds to the entries of its seat: its join, then questions about its group, and
-- last its leave. Here they are those of a session, for a group and for the number of its member.
use Rattle.std.specs.Prelude.{◌≡◌, ◌⊎◌, ◌==◌, ℕ, Bool, true, false, List, [], ◌∷◌, ◌++◌, Option, None, Some, All}
use Rattle.std.specs.List.{list_any}
use Rattle.ring_id.specs.Identity.{number_of}
use Rattle.ring_id.specs.declared.refusal.Refusal.{Refusal}
use Rattle.ring_roster.specs.Ring.{has_number}
use Rattle.ring_any.specs.declared.any.Any.{Any}
use Rattle.ring_events.specs.declared.event.Command.TheVariants.{Join, Leave, Members, Start, Terms, Who}
use Rattle.ring_events.specs.declared.reply.Reply.{Reply}
use Rattle.ring_events.specs.declared.reply.Reply.TheVariants.{Leader, Undecided}
use Rattle.ring_events.specs.declared.reply.Reply.TheVariants as reply
use Rattle.ring_table.specs.declared.entry.Entry.{Entry}
use Rattle.ring_table.specs.declared.entry.Entry.TheVariants.{Call}

-- whether this member has to be followed once it has gone: it leads the last term, or has not heard
-- who does
abbrev pub may_lead : ℕ → Reply → Bool
may_lead number (Leader term leader) = number_of leader == number
may_lead number (Undecided term) = true
may_lead number _ = false

-- whether this leader is one of the members
abbrev pub HasMember : ℕ → Bool → List ℕ → Type 0
HasMember leader there members = list_any (has_number leader) members ≡ there

-- The first of the members, who joined before all others, has this number.
abbrev pub IsFirst : ℕ → List ℕ → Type 0
IsFirst number [] = ⊥
IsFirst number (member ∷ members) = number_of member ≡ number

module _ (session : ℕ) (group : List ℕ) (number : ℕ) where
  -- a question about this group, of whose answer nothing is told
  abbrev pub IsQuiet : Entry Any → Type 0
  IsQuiet (Call caller (Members name) answer) = (caller ≡ session) × (name ≡ group)
  IsQuiet (Call caller (Terms name) answer) = (caller ≡ session) × (name ≡ group)
  IsQuiet _ = ⊥

  -- such a question, or one of who leads this member
  abbrev pub IsQuestion : Entry Any → Type 0
  IsQuestion (Call caller (Who name node) answer) = (caller ≡ session) × (name ≡ group)
      × (node ≡ number)
  IsQuestion (Call caller (Members name) answer) = (caller ≡ session) × (name ≡ group)
  IsQuestion (Call caller (Terms name) answer) = (caller ≡ session) × (name ≡ group)
  IsQuestion _ = ⊥

  -- The last answers say whether the leader of the last term is a member still.
  pub record HasLeader (there : Bool) (asked : List (Entry Any)) : Type 0 where
    pub earlier : List (Entry Any)
    pub leaders : List (Option ℕ)
    pub leader : ℕ
    pub members : List ℕ
    pub whole : asked ≡ earlier
        ++ Call session (Terms group) (reply.Terms (leaders ++ Some leader ∷ []))
        ∷ Call session (Members group) (reply.Members members)
        ∷ []
    pub is : HasMember leader there members
    pub other : number_of leader ≡ number → ⊥

  -- The last answer says that this number leads the last term, in which another connection had it.
  pub record HasOldTerm (asked : List (Entry Any)) : Type 0 where
    pub earlier : List (Entry Any)
    pub leaders : List (Option ℕ)
    pub leader : ℕ
    pub whole : asked ≡ earlier
        ++ Call session (Terms group) (reply.Terms (leaders ++ Some leader ∷ []))
        ∷ []
    pub own : number_of leader ≡ number

  -- The last answer says that no term has begun.
  pub record HasNoTerm (asked : List (Entry Any)) : Type 0 where
    pub earlier : List (Entry Any)
    pub whole : asked ≡ earlier ++ Call session (Terms group) (reply.Terms []) ∷ []

  -- The last answers say that the last term is undecided, and that this member joined before all
  -- others. It found that term when it had joined, so nobody is left who may decide it.
  pub record HasLeftTerm (asked : List (Entry Any)) : Type 0 where
    pub earlier : List (Entry Any)
    pub leaders : List (Option ℕ)
    pub members : List ℕ
    pub whole : asked ≡ earlier
        ++ Call session (Terms group) (reply.Terms (leaders ++ None ∷ []))
        ∷ Call session (Members group) (reply.Members members)
        ∷ []
    pub first : IsFirst number members

  -- there is no leader to follow
  abbrev pub HasNobody : List (Entry Any) → Type 0
  HasNobody asked = HasNoTerm asked ⊎ HasLeader false asked ⊎ HasOldTerm asked ⊎ HasLeftTerm asked

  -- questions, the last of which say that there is no leader to follow
  abbrev pub FindNobody : List (Entry Any) → Type 0
  FindNobody asked = All IsQuiet asked × HasNobody asked

  -- One start, behind questions that found nobody. Questions follow it, unless it was refused: then
  -- nothing does.
  pub record StartsOnce (entries : List (Entry Any)) : Type 0 where
    pub asked : List (Entry Any)
    pub answer : Reply
    pub later : List (Entry Any)
    pub whole : entries ≡ asked ++ Call session (Start group) answer ∷ later
    pub nobody : FindNobody asked
    pub questions : All IsQuestion later
    pub final : (refusal : Refusal) → answer ≡ reply.Refused refusal → later ≡ []

  -- No start, but questions that found another member which leads. Questions follow them.
  pub record Follows (entries : List (Entry Any)) : Type 0 where
    pub asked : List (Entry Any)
    pub later : List (Entry Any)
    pub whole : entries ≡ asked ++ later
    pub quiet : All IsQuiet asked
    pub leader : HasLeader true asked
    pub questions : All IsQuestion later

  -- Between the join and the leave: it is asked whether there is a leader to follow. Who leads this
  -- member is asked only behind that, or behind a start.
  abbrev pub Looks : List (Entry Any) → Type 0
  Looks entries = All IsQuiet entries ⊎ Follows entries ⊎ StartsOnce entries

  -- a start exactly if there may be a leader to follow no more
  abbrev pub StartsIf : Bool → List (Entry Any) → Type 0
  StartsIf true entries = (answer : Reply) × (entries ≡ Call session (Start group) answer ∷ [])
  StartsIf false entries = entries ≡ []

  -- The member is taken out. Then a term is started exactly if the member may lead the last one.
  pub record Leaves (entries : List (Entry Any)) : Type 0 where
    pub left : Reply
    pub told : Reply
    pub again : List (Entry Any)
    pub whole : entries ≡ Call session (Leave group number) left
        ∷ Call session (Who group number) told
        ∷ again
    pub starts : StartsIf (may_lead number told) again

module _ (session : ℕ) (mine now : List (Entry Any)) where
  -- A join was placed and not done.
  pub record GainsRefusal : Type 0 where
    pub group : List ℕ
    pub node : ℕ
    pub answer : Reply
    pub refused : answer ≡ reply.Done → ⊥
    pub gained : now ≡ mine ++ Call session (Join group node) answer ∷ []

  -- A join was done, and the member left at last.
  pub record GainsMember : Type 0 where
    pub group : List ℕ
    pub node : ℕ
    pub during : List (Entry Any)
    pub ending : List (Entry Any)
    pub gained : now ≡ mine ++ Call session (Join group node) reply.Done ∷ (during ++ ending)
    pub looks : Looks session group (number_of node) during
    pub leaves : Leaves session group (number_of node) ending

  -- what a campaign adds to the entries of its seat
  abbrev pub GainsCampaign : Type 0
  GainsCampaign = (now ≡ mine) ⊎ GainsRefusal ⊎ GainsMember
