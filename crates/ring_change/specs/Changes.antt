-- The changes that commands and reports make. A question, a refusal and a report that was known or
-- stale change nothing.
use Rattle.std.specs.Prelude.{ℕ, Bool, true, false, List, Option, Some, None}
use Rattle.ring_events.specs.declared.event.Command.{Command}
use Rattle.ring_events.specs.declared.event.Command.TheVariants.{Create, Join, Leave, Start, Who, Members, Terms, Groups}
use Rattle.ring_events.specs.declared.reply.Reply.{Reply}
use Rattle.ring_events.specs.declared.reply.Reply.TheVariants.{Refused}
use Rattle.ring_terms.specs.declared.standing.Noting.{Noting}
use Rattle.ring_terms.specs.declared.standing.Noting.TheVariants.{Noted, Known, Stale}
use Rattle.ring_change.specs.declared.change.Change.{Change}
use Rattle.ring_change.specs.declared.change.Change.TheVariants as change

-- whether a reply is a refusal
abbrev pub is_refused : Reply → Bool
is_refused (Refused refusal) = true
is_refused _ = false

-- the change that a command asks for; a question asks for none
abbrev pub asked_change : {E : Type 0} → Command E → Option (Change E)
asked_change (Create group algorithm) = Some (change.Create group algorithm)
asked_change (Join group node) = Some (change.Join group node)
asked_change (Leave group node) = Some (change.Leave group node)
asked_change (Start group) = Some (change.Start group)
asked_change (Who group node) = None
asked_change (Members group) = None
asked_change (Terms group) = None
asked_change Groups = None

-- no value if the test holds
abbrev pub unless : {A : Type 0} → Bool → Option A → Option A
unless true x = None
unless false x = x

-- the change that a command with this reply made
abbrev pub change_by : {E : Type 0} → Command E → Reply → Option (Change E)
change_by command reply = unless (is_refused reply) (asked_change command)

-- the change that a report made, by the outcome of its filing
abbrev pub noted_change : {E : Type 0} → List ℕ → ℕ → ℕ → ℕ → Noting → Option (Change E)
noted_change group term member leader Noted = Some (change.Know group term member leader)
noted_change group term member leader Known = None
noted_change group term member leader Stale = None
