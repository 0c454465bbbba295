-- What is asked about groups, as entries of the seat by which it is asked, and what the answers
-- say.
use Rattle.std.specs.Prelude.{◌≡◌, ◌≤◌, ◌<◌, ◌+◌, ℕ, List, [], ◌∷◌, ◌++◌, Option, None, Some, All, map}
use Rattle.std.specs.List.{flat_map}
use Rattle.ring_id.specs.Identity.{number_of}
use Rattle.ring_id.specs.declared.refusal.Refusal.TheVariants as refused
use Rattle.ring_any.specs.declared.any.Any.{Any}
use Rattle.ring_events.specs.declared.event.Command.{Command}
use Rattle.ring_events.specs.declared.event.Command.TheVariants.{Groups, Members, Terms, Who}
use Rattle.ring_events.specs.declared.reply.Reply.{Reply}
use Rattle.ring_events.specs.declared.reply.Reply.TheVariants.{Leader, Refused}
use Rattle.ring_events.specs.declared.reply.Reply.TheVariants as reply
use Rattle.ring_table.specs.Accesses.{LeavesOut}
use Rattle.ring_table.specs.declared.entry.Entry.{Entry}
use Rattle.ring_table.specs.declared.entry.Entry.TheVariants.{Call, Filing}
use Rattle.ring_http.specs.declared.asking.Lack.{Lack}
use Rattle.ring_http.specs.declared.asking.Lack.TheVariants.{Late, NoGroup, Unplaced}
use Rattle.ring_http.specs.declared.picture.GroupPicture.{GroupPicture}

-- a place in a response, given the number that is added to each, and how many the access has
abbrev pub IsPlaceFrom : ℕ → ℕ → ℕ → Type 0
IsPlaceFrom base most place = (base ≤ place) × (place < base + most)

-- the same of a place that is greater than the last one
abbrev pub IsPlaceAfter : ℕ → ℕ → ℕ → ℕ → Type 0
IsPlaceAfter base most last place = IsPlaceFrom base most place × (last < place)

-- a member's number, if it answered that it knows its leader
abbrev pub hears_of : ℕ → Reply → List ℕ
hears_of number (Leader term leader) = number ∷ []
hears_of number _ = []

-- the same of an entry
abbrev pub hears : Entry Any → List ℕ
hears (Call session (Who group number) answer) = hears_of number answer
hears _ = []

-- the session and the command of an entry, if it is a call
abbrev pub asked_of : Entry Any → Option (ℕ × Command Any)
asked_of (Call session command answer) = Some (session, command)
asked_of (Filing group term member leader noting) = None

-- the question what a member knows of its leader
abbrev pub who_of : ℕ → List ℕ → ℕ → Option (ℕ × Command Any)
who_of session group member = Some (session, Who group (number_of member))

module _ (session : ℕ) where
  -- a question, which changes nothing
  abbrev pub IsQuestion : Entry Any → Type 0
  IsQuestion (Call caller Groups answer) = caller ≡ session
  IsQuestion (Call caller (Members group) answer) = caller ≡ session
  IsQuestion (Call caller (Terms group) answer) = caller ≡ session
  IsQuestion (Call caller (Who group number) answer) = caller ≡ session
  IsQuestion _ = ⊥

  -- Questions were added, and nothing else.
  pub record AddsQuestions (mine now : List (Entry Any)) : Type 0 where
    pub added : List (Entry Any)
    pub gained : now ≡ mine ++ added
    pub questions : All IsQuestion added

  -- These entries ask about a group, and a picture is what they answer: its members, the leaders of
  -- its terms, and the members that know a leader.
  pub record IsPictured (asked : List (Entry Any)) (group : GroupPicture) : Type 0 where
    pub each : List (Entry Any)
    pub whole : asked ≡ Call session (Members group.name) (reply.Members group.members)
        ∷ Call session (Terms group.name) (reply.Terms group.leaders) ∷ each
    pub asks : map asked_of each ≡ map (who_of session group.name) group.members
    pub informed : group.informed.items ≡ flat_map hears each

  -- one picture after another
  abbrev pub ArePictured : List (Entry Any) → List GroupPicture → Type 0
  ArePictured asked [] = asked ≡ []
  ArePictured asked (group ∷ groups) = (first : List (Entry Any)) × (rest : List (Entry Any))
      × (asked ≡ first ++ rest) × IsPictured first group × ArePictured rest groups

  -- A group was asked about.
  pub record AddsPicture (group : GroupPicture) (mine now : List (Entry Any)) : Type 0 where
    pub adds : AddsQuestions mine now
    pub pictured : IsPictured adds.added group

  -- All these groups were asked about.
  pub record AddsPictures (names : List (List ℕ)) (groups : List GroupPicture)
      (mine now : List (Entry Any)) : Type 0 where
    pub adds : AddsQuestions mine now
    pub pictured : ArePictured adds.added groups
    pub named : map (λ group. group.name) groups ≡ names

  -- The last answer is that there is no such group.
  pub record EndsRefused (added : List (Entry Any)) : Type 0 where
    pub earlier : List (Entry Any)
    pub command : Command Any
    pub whole : added ≡ earlier ++ Call session command (Refused refused.NoGroup) ∷ []

  -- why there is no answer: a question was not placed, there is no such group, or the last question
  -- was answered at a place that did not rise
  abbrev pub Because : Lack → List (Entry Any) → Type 0
  Because (Unplaced refusal) added = LeavesOut refusal
  Because NoGroup added = EndsRefused added
  Because Late added = Unit {0}

  -- Questions were added, and there is no answer.
  pub record Lacks (lack : Lack) (mine now : List (Entry Any)) : Type 0 where
    pub adds : AddsQuestions mine now
    pub because : Because lack adds.added
