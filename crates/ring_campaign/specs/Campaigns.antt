-- Campaigns: a client is a member of a group for as long as its connection lasts. However its
-- reader and its writer end, a member that joined is taken out. The client gets the reply to its
-- join, and then each answer to `who` that differs from the one before. They come in the order of
-- the entries of the seat.
use Rattle.std.specs.Prelude.{◌≡◌, ◌⊎◌, ℕ, Bool, true, false, List, [], ◌∷◌, ◌++◌}
use Rattle.std.specs.List.{flat_map, list_all}
use Rattle.ring_id.specs.Identity.{number_of}
use Rattle.ring_id.specs.declared.refusal.Refusal.{Refusal}
use Rattle.ring_id.specs.declared.refusal.Refusal.TheVariants.{BadLine}
use Rattle.ring_any.specs.Any.{any_greatest, any_two_way, any_winner}
use Rattle.ring_any.specs.declared.any.Any.{Any}
use Rattle.ring_events.specs.declared.event.Command.TheVariants.{Join, Start, Who}
use Rattle.ring_events.specs.declared.event.Event.TheVariants.{Client}
use Rattle.ring_events.specs.declared.reply.Reply.{Reply}
use Rattle.ring_events.specs.declared.reply.Reply.TheVariants.{Done, Refused}
use Rattle.ring_grammar.specs.Spelling.{Spells, reply_line}
use Rattle.ring_lines.specs.Buffer.{BufferView}
use Rattle.ring_lines.specs.Ends.{CallsLead, LastOf, Reading, Writing, Wrote, WroteFront, goes_on}
use Rattle.ring_lines.specs.Reader.{GivesNext}
use Rattle.ring_lines.specs.Rounds.{text_of}
use Rattle.ring_lines.specs.declared.answers.Next.{Next}
use Rattle.ring_lines.specs.declared.answers.Next.TheVariants as next
use Rattle.ring_lines.specs.declared.answers.Phase.TheVariants as phase
use Rattle.ring_table.specs.Accesses.{AnswersAtSeat, reply_of}
use Rattle.ring_table.specs.declared.access.Answer.{Answer}
use Rattle.ring_table.specs.declared.entry.Entry.{Entry}
use Rattle.ring_table.specs.declared.entry.Entry.TheVariants.{Call}
use Rattle.ring_campaign.specs.Entries.{Leaves, Looks}

-- the replies that the client gets for an entry: each answer to `who`, and the refusal of a start
abbrev pub told_of : Entry Any → List Reply
told_of (Call session (Who group number) answer) = answer ∷ []
told_of (Call session (Start group) (Refused refusal)) = Refused refusal ∷ []
told_of _ = []

-- The answers that differ from the one before, with `last` before the first. `now` is the last of
-- all answers, or `last` if there are none.
abbrev pub Changes : Reply → List Reply → List Reply → Reply → Type 0
Changes last [] told now = (told ≡ []) × (now ≡ last)
Changes last (answer ∷ answers) told now =
    ((answer ≡ last) × Changes last answers told now)
    ⊎ ((answer ≡ last → ⊥) × (rest : List Reply) × (told ≡ answer ∷ rest)
    × Changes answer answers rest now)

-- the buffer of lines before the first read call
abbrev pub no_line_yet : BufferView
no_line_yet = record { held = []; reads = 4294967295; phase = phase.Open }

-- The first line that the reader gives leads from one of its states to another.
pub record GivesFirst {S : Type 0} (reading : S → Reading → S → Type 0) (from : S) (first : Next)
    (to : S) : Type 0 where
  pub buffer : BufferView
  pub gives : GivesNext reading from no_line_yet first to buffer

-- the writer got this text: it took all of it, or failed after a prefix of it
abbrev pub Given : {V : Type 0} → (V → Writing → V → Type 0) → V → List ℕ → V → Type 0
Given writing from text to = Wrote writing from text to ⊎ WroteFront writing from text to

-- No read call may follow the last of these, and one could follow each before it.
pub record HasEnded (calls : List Reading) : Type 0 where
  pub last : Reading
  pub is : LastOf calls last
  pub ends : goes_on last ≡ false

-- the line spells no join
abbrev pub IsNoJoin : Next → Type 0
IsNoJoin (next.Line line) = (group : List ℕ) (node : ℕ) → Spells line (Client (Join group node)) → ⊥
IsNoJoin next.Long = Unit {0}
IsNoJoin _ = ⊥

-- there is no line
abbrev pub IsNoLine : Next → Type 0
IsNoLine next.End = Unit {0}
IsNoLine (next.Fault fault) = Unit {0}
IsNoLine _ = ⊥

-- The first line spells the join of this member.
pub record AsksJoin {S : Type 0} (reading : S → Reading → S → Type 0) (from : S) (group : List ℕ)
    (node : ℕ) (to : S) : Type 0 where
  pub line : List ℕ
  pub read : GivesFirst reading from (next.Line line) to
  pub spelled : Spells line (Client (Join group node))

-- the last entry is a start that was refused
pub record EndsRefused (entries : List (Entry Any)) : Type 0 where
  pub before : List (Entry Any)
  pub session : ℕ
  pub group : List ℕ
  pub refusal : Refusal
  pub whole : entries ≡ before ++ Call session (Start group) (Refused refusal) ∷ []

-- why a campaign is over: no read call may follow the last one, the writer failed, or a start was
-- refused
abbrev pub IsOver : {V : Type 0} → (V → Writing → V → Type 0) → List Reading → List (Entry Any) → V
    → List ℕ → V → Type 0
IsOver writing calls during from text to =
    (Wrote writing from text to × HasEnded calls)
    ⊎ (WroteFront writing from text to × (list_all goes_on calls ≡ true))
    ⊎ (Wrote writing from text to × (list_all goes_on calls ≡ true) × EndsRefused during)

module _ {S V : Type 0} (reading : S → Reading → S → Type 0) (writing : V → Writing → V → Type 0)
    (session : ℕ) where
  module _ (group : List ℕ) (node : ℕ) (mine : List (Entry Any)) (reader : S) (writer : V)
      (now : List (Entry Any)) (reader_now : S) (writer_now : V) where
    -- The join was not done. The client got its reply and nothing else.
    pub record IsTurnedAway : Type 0 where
      pub answer : Answer
      pub answered : AnswersAtSeat any_winner any_two_way any_greatest session (Join group node)
          mine answer now
      pub refused : reply_of answer ≡ Done → ⊥
      pub unread : reader_now ≡ reader
      pub told : Given writing writer (reply_line (reply_of answer)) writer_now

    -- The join was done. Whatever was read, and however reading and writing ended, the member left
    -- at last.
    pub record HasCampaigned : Type 0 where
      pub during : List (Entry Any)
      pub ending : List (Entry Any)
      pub gained : now ≡ mine ++ Call session (Join group node) Done ∷ (during ++ ending)
      pub looks : Looks session group (number_of node) during
      pub leaves : Leaves session group (number_of node) ending
      pub calls : List Reading
      pub reads : CallsLead reading reader calls reader_now
      pub told : List Reply
      pub last : Reply
      pub changes : Changes Done (flat_map told_of during) told last
      pub over : IsOver writing calls during writer (text_of reply_line (Done ∷ told)) writer_now

    -- the result of a join
    abbrev pub Joins : Type 0
    Joins = IsTurnedAway ⊎ HasCampaigned

  module _ (mine : List (Entry Any)) (reader : S) (writer : V) (now : List (Entry Any))
      (reader_now : S) (writer_now : V) where
    -- An allocation failed before the first read call.
    pub record HasNoMemory : Type 0 where
      pub same : now ≡ mine
      pub unread : reader_now ≡ reader
      pub silent : writer_now ≡ writer

    -- No first line came. The client got nothing, and the seat gained no entry.
    pub record AsksNothing : Type 0 where
      pub same : now ≡ mine
      pub first : Next
      pub read : GivesFirst reading reader first reader_now
      pub none : IsNoLine first
      pub silent : writer_now ≡ writer

    -- The first line spells no join, and is refused. The seat gained no entry.
    pub record AsksNoJoin : Type 0 where
      pub same : now ≡ mine
      pub first : Next
      pub read : GivesFirst reading reader first reader_now
      pub no_join : IsNoJoin first
      pub told : Given writing writer (reply_line (Refused BadLine)) writer_now

    -- The first line spells a join.
    pub record HasAsked : Type 0 where
      pub group : List ℕ
      pub node : ℕ
      pub asked : S
      pub asks : AsksJoin reading reader group node asked
      pub joins : Joins group node mine asked writer now reader_now writer_now

    -- a campaign, and whether its first line was refused
    abbrev pub Campaigns : Bool → Type 0
    Campaigns true = AsksNoJoin
    Campaigns false = HasNoMemory ⊎ AsksNothing ⊎ HasAsked
