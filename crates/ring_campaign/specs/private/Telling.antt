-- The replies that a client gets, step by step.
use Rattle.std.specs.Prelude.{◌≡◌, ℕ, Bool, true, false, List, ◌++◌}
use Rattle.std.specs.List.{flat_map}
use Rattle.ring_any.specs.declared.any.Any.{Any}
use Rattle.ring_events.specs.declared.reply.Reply.{Reply}
use Rattle.ring_events.specs.declared.reply.Reply.TheVariants.{Done}
use Rattle.ring_grammar.specs.Spelling.{Spells, reply_line}
use Rattle.ring_lines.specs.Ends.{CallsLead, Reading, Writing, Wrote, WroteFront}
use Rattle.ring_lines.specs.Rounds.{text_of}
use Rattle.ring_table.specs.declared.entry.Entry.{Entry}
use Rattle.ring_campaign.specs.Campaigns.{AsksJoin, Changes, EndsRefused, GivesFirst, IsNoJoin, IsNoLine, IsOver, told_of}
use Rattle.ring_campaign.specs.Entries.{Leaves, Looks}
use Rattle.ring_campaign.specs.private.Looking.{IsAt}
use Rattle.ring_campaign.specs.declared.attending.Turn.{Turn}
use Rattle.ring_campaign.specs.declared.attending.Turn.TheVariants as turn
use Rattle.ring_campaign.specs.declared.opening.First.{First}
use Rattle.ring_campaign.specs.declared.opening.First.TheVariants as first
use Rattle.ring_lines.specs.declared.answers.Next.{Next}
use Rattle.ring_lines.specs.declared.answers.Next.TheVariants as next
use Rattle.ring_events.specs.declared.event.Command.{Command}
use Rattle.ring_events.specs.declared.event.Command.TheVariants.{Join}
use Rattle.ring_events.specs.declared.event.Event.TheVariants.{Client}

-- the first line has this content
abbrev pub Asked : {S : Type 0} → (S → Reading → S → Type 0) → S → First → S → Type 0
Asked reading from first.NoLine to = (line : Next) × IsNoLine line × GivesFirst reading from line to
Asked reading from first.NoJoin to = (line : Next) × IsNoJoin line × GivesFirst reading from line to
Asked reading from (first.Join wish) to = AsksJoin reading from wish.group wish.node to

-- the command has this content
abbrev pub Wishes : Command Any → First → Type 0
Wishes command first.NoLine = ⊥
Wishes command first.NoJoin = (group : List ℕ) (node : ℕ) → command ≡ Join group node → ⊥
Wishes command (first.Join wish) = command ≡ Join wish.group wish.node

-- the line has this content
abbrev pub IsWish : List ℕ → First → Type 0
IsWish line first.NoLine = ⊥
IsWish line first.NoJoin = IsNoJoin (next.Line line)
IsWish line (first.Join wish) = Spells line (Client (Join wish.group wish.node))

-- a text was written, or a prefix of it and then the writer failed
abbrev pub Puts : {V : Type 0} → (V → Writing → V → Type 0) → V → List ℕ → Bool → V → Type 0
Puts writing from text true to = Wrote writing from text to
Puts writing from text false to = WroteFront writing from text to

-- The client got those of these answers that differ from the one before.
pub record Tells {V : Type 0} (writing : V → Writing → V → Type 0) (last : Reply) (from : V)
    (answers : List Reply) (all : Bool) (now : Reply) (to : V) : Type 0 where
  pub told : List Reply
  pub changes : Changes last answers told now
  pub puts : Puts writing from (text_of reply_line told) all to

-- whether all replies of a turn are written
abbrev pub is_heard : Turn → Bool
is_heard turn.On = true
is_heard turn.Over = true
is_heard turn.Failed = false

-- a turn after which the campaign is over ends with a start that was refused
abbrev pub IsTurn : Turn → List (Entry Any) → Type 0
IsTurn turn.Over added = EndsRefused added
IsTurn _ added = Unit {0}

-- the entries since the join, after a turn: nothing may follow one after which the campaign is over
abbrev pub GoesOn : ℕ → List ℕ → ℕ → Turn → Bool → List (Entry Any) → Type 0
GoesOn session group number turn.On new entries = IsAt session group number new entries
GoesOn session group number _ new entries = Looks session group number entries

-- A turn: a look, and the replies after it.
pub record Turns {V : Type 0} (writing : V → Writing → V → Type 0) (session : ℕ) (group : List ℕ)
    (number : ℕ) (old : Bool) (last : Reply) (mine : List (Entry Any)) (from : V) (result : Turn)
    (new : Bool) (last_now : Reply) (now : List (Entry Any)) (to : V) : Type 0 where
  pub added : List (Entry Any)
  pub gained : now ≡ mine ++ added
  pub at : (during : List (Entry Any)) → IsAt session group number old during
      → GoesOn session group number result new (during ++ added)
  pub tells : Tells writing last from (flat_map told_of added) (is_heard result) last_now to
  pub is : IsTurn result added

-- The turns up to one with this result, and the replies after them.
pub record HasTurned {V : Type 0} (writing : V → Writing → V → Type 0) (session : ℕ)
    (group : List ℕ) (number : ℕ) (mine : List (Entry Any)) (from : V) (result : Turn) (new : Bool)
    (last : Reply) (now : List (Entry Any)) (to : V) : Type 0 where
  pub during : List (Entry Any)
  pub gained : now ≡ mine ++ during
  pub at : GoesOn session group number result new during
  pub tells : Tells writing Done from (flat_map told_of during) (is_heard result) last to

-- The turns between the join and the leave, and their replies.
pub record Attends {S V : Type 0} (reading : S → Reading → S → Type 0)
    (writing : V → Writing → V → Type 0) (session : ℕ) (group : List ℕ) (number : ℕ)
    (mine : List (Entry Any)) (reader : S) (from : V) (now : List (Entry Any)) (reader_now : S)
    (to : V) : Type 0 where
  pub during : List (Entry Any)
  pub gained : now ≡ mine ++ during
  pub looks : Looks session group number during
  pub calls : List Reading
  pub reads : CallsLead reading reader calls reader_now
  pub told : List Reply
  pub last : Reply
  pub changes : Changes Done (flat_map told_of during) told last
  pub over : IsOver writing calls during from (text_of reply_line told) to

-- The member has left.
pub record AddsLeave (session : ℕ) (group : List ℕ) (number : ℕ)
    (mine now : List (Entry Any)) : Type 0 where
  pub ending : List (Entry Any)
  pub gained : now ≡ mine ++ ending
  pub leaves : Leaves session group number ending
