-- Lines both ways: each line is its words in order, joined by one space. No value has two
-- spellings, since the words are functions of the value.
use Rattle.std.specs.Prelude.{◌≡◌, ◌<◌, ◌≤◌, ◌+◌, ◌^◌, ℕ, Bool, true, false, List, [], ◌∷◌, ◌++◌, length, map, Option, None, Some, All, IfSome, codes, decimal}
use Rattle.std.specs.List.{join_with_byte}
use Rattle.ring_id.specs.GroupName.{IsName}
use Rattle.ring_id.specs.Refusals.{word_in_table}
use Rattle.ring_id.specs.Term.{IsTerm}
use Rattle.ring_id.specs.declared.side.Side.{Side}
use Rattle.ring_id.specs.declared.side.Side.TheVariants.{Left, Right}
use Rattle.ring_any.specs.Any.{word_of}
use Rattle.ring_any.specs.declared.any.Any.{Any}
use Rattle.ring_events.specs.declared.event.Command.{Command}
use Rattle.ring_events.specs.declared.event.Command.TheVariants.{Create, Join, Leave, Start, Who, Members, Terms, Groups}
use Rattle.ring_events.specs.declared.event.Event.{Event}
use Rattle.ring_events.specs.declared.event.Event.TheVariants.{Client, Deliver, Cut, Pending, Drain}
use Rattle.ring_events.specs.declared.reply.Reply.{Reply}
use Rattle.ring_events.specs.declared.reply.Reply.TheVariants.{Done, Term, Leader, Undecided, Moved, Idle, Drained, Refused}
use Rattle.ring_events.specs.declared.reply.Reply.TheVariants as reply
use Rattle.ring_grammar.specs.Identities.{IsNode, IsNumber, node_word}

-- words joined by one space
abbrev pub line_of : List (List ℕ) → List ℕ
line_of words = join_with_byte 32 words

-- a side is spelled by its name
abbrev pub side_word : Side → List ℕ
side_word Left = codes "left"
side_word Right = codes "right"

-- the words of a client command: `join` spells the identity, and other commands the number
abbrev pub command_words : Command Any → List (List ℕ)
command_words (Create group kind) = codes "create" ∷ group ∷ word_of kind ∷ []
command_words (Join group node) = codes "join" ∷ group ∷ node_word node ∷ []
command_words (Leave group number) = codes "leave" ∷ group ∷ decimal number ∷ []
command_words (Start group) = codes "start" ∷ group ∷ []
command_words (Who group number) = codes "who" ∷ group ∷ decimal number ∷ []
command_words (Members group) = codes "members" ∷ group ∷ []
command_words (Terms group) = codes "terms" ∷ group ∷ []
command_words Groups = codes "groups" ∷ []

-- the words of an event: a client command, or a line of a schedule
abbrev pub event_words : Event Any → List (List ℕ)
event_words (Client command) = command_words command
event_words (Deliver group number side) =
    codes "deliver" ∷ group ∷ decimal number ∷ side_word side ∷ []
event_words (Cut group number side) = codes "cut" ∷ group ∷ decimal number ∷ side_word side ∷ []
event_words (Pending group) = codes "pending" ∷ group ∷ []
event_words (Drain group count) = codes "drain" ∷ group ∷ decimal count ∷ []

-- the commands of the grammar
abbrev pub IsCommand : Command Any → Type 0
IsCommand (Create group kind) = IsName group
IsCommand (Join group node) = IsName group × IsNode node
IsCommand (Leave group number) = IsName group × IsNumber number
IsCommand (Start group) = IsName group
IsCommand (Who group number) = IsName group × IsNumber number
IsCommand (Members group) = IsName group
IsCommand (Terms group) = IsName group
IsCommand Groups = Unit {0}

-- the events of the grammar: a drain makes at most 1000000000 deliveries
abbrev pub IsEvent : Event Any → Type 0
IsEvent (Client command) = IsCommand command
IsEvent (Deliver group number side) = IsName group × IsNumber number
IsEvent (Cut group number side) = IsName group × IsNumber number
IsEvent (Pending group) = IsName group
IsEvent (Drain group count) = IsName group × (count ≤ 1000000000)

-- These bytes spell this event: at most 128 bytes, which are its words.
pub record Spells (line : List ℕ) (event : Event Any) : Type 0 where
  pub short : length line ≤ 128
  pub legal : IsEvent event
  pub same : line ≡ line_of (event_words event)

-- a named leader is spelled as an identity, and no leader by a hyphen
abbrev pub leader_word : Option ℕ → List ℕ
leader_word None = codes "-"
leader_word (Some leader) = node_word leader

-- a term is spelled by its number, a colon and its leader
abbrev pub term_word : ℕ → Option ℕ → List ℕ
term_word number leader = decimal number ++ (codes ":" ++ leader_word leader)

-- a word for each term, the first having this number
abbrev pub term_words : ℕ → List (Option ℕ) → List (List ℕ)
term_words number [] = []
term_words number (leader ∷ leaders) = term_word number leader ∷ term_words (number + 1) leaders

-- a last word if a drain was starved
abbrev pub starved_words : Bool → List (List ℕ)
starved_words true = codes "no-memory" ∷ []
starved_words false = []

-- the words of a reply
abbrev pub reply_words : Reply → List (List ℕ)
reply_words Done = codes "ok" ∷ []
reply_words (Term term) = codes "term" ∷ decimal term ∷ []
reply_words (Leader term leader) = codes "leader" ∷ decimal term ∷ node_word leader ∷ []
reply_words (Undecided term) = codes "undecided" ∷ decimal term ∷ []
reply_words (reply.Members members) = codes "members" ∷ map node_word members
reply_words (reply.Terms leaders) = codes "terms" ∷ term_words 1 leaders
reply_words (reply.Groups names) = codes "groups" ∷ names
reply_words Moved = codes "moved" ∷ []
reply_words Idle = codes "idle" ∷ []
reply_words (reply.Pending left) = codes "pending" ∷ decimal left ∷ []
reply_words (Drained done left starved) =
    codes "drained" ∷ decimal done ∷ codes "left" ∷ decimal left ∷ starved_words starved
reply_words (Refused refusal) = codes "no" ∷ word_in_table refusal ∷ []

-- the line of a reply: its words, and an LF
abbrev pub reply_line : Reply → List ℕ
reply_line reply = line_of (reply_words reply) ++ 10 ∷ []

-- the replies of the grammar: at most 1000 terms, and numbers within their types
abbrev pub IsReply : Reply → Type 0
IsReply (Term term) = IsTerm term
IsReply (Leader term leader) = IsTerm term × IsNode leader
IsReply (Undecided term) = IsTerm term
IsReply (reply.Members members) = All IsNode members
IsReply (reply.Terms leaders) =
    (length leaders ≤ 1000) × All (λ leader. IfSome leader IsNode) leaders
IsReply (reply.Groups names) = All IsName names
IsReply (reply.Pending left) = left < 2 ^ 128
IsReply (Drained done left starved) = (done < 2 ^ 32) × (left < 2 ^ 128)
IsReply _ = Unit {0}

-- These bytes spell this reply: they are its line.
pub record SpellsReply (line : List ℕ) (reply : Reply) : Type 0 where
  pub legal : IsReply reply
  pub same : line ≡ reply_line reply
