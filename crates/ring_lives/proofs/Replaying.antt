-- A history has the effect of its changes, and the same changes lead to the same object.
use Rattle.std.proofs.Common.{◌≡◌, ℕ, Bool, true, false, List, [], ◌∷◌, Option, Some, None, refl, ap, sym, ◌∙◌, subst}
use Rattle.std.proofs.lemmas.Bool.{true≢false, false≢true}
use Rattle.std.proofs.lemmas.Option.{same_Some}
use Rattle.ring_id.specs.Identity.{number_of}
use Rattle.ring_id.specs.declared.refusal.Refusal.{Refusal}
use Rattle.ring_events.specs.declared.event.Command.{Command}
use Rattle.ring_events.specs.declared.event.Command.TheVariants.{Create, Join, Leave, Start, Who, Members, Terms, Groups}
use Rattle.ring_events.specs.declared.reply.Reply.{Reply}
use Rattle.ring_events.specs.declared.reply.Reply.TheVariants as reply
use Rattle.ring_terms.specs.Commands.{Joins, Leaves, Starts}
use Rattle.ring_terms.specs.Moves.{InformsIn, inform}
use Rattle.ring_terms.specs.Object.{GroupView, InGroup, InLast, Object, TermView, with_group, with_last}
use Rattle.ring_terms.specs.Steps.{Replies, StepOf}
use Rattle.ring_terms.specs.declared.standing.Noting.TheVariants.{Noted, Known, Stale}
use Rattle.ring_table.specs.Histories.{InformsOf, IsEntry}
use Rattle.ring_table.specs.declared.entry.Entry.{Entry}
use Rattle.ring_table.specs.declared.entry.Entry.TheVariants.{Call, Filing}
use Rattle.ring_change.specs.Changes.{is_refused}
use Rattle.ring_change.specs.declared.change.Change.{Change}
use Rattle.ring_change.specs.declared.change.Change.TheVariants as change
use Rattle.ring_lives.specs.Changes.{change_in, changes_of, onto}
use Rattle.ring_lives.specs.Replays.{AreExact, Does, HaveTheirEffect, Replays}

-- a relation that leads from one value to one value at most
abbrev pub IsExact : {S : Type 0} → (S → S → Type 0) → Type 0
IsExact {S} does = (old a b : S) → does old a → does old b → a ≡ b

-- a relation on a group, on its last term or on a member is exact if the inner one is
in_group_exact : {E : Type 0} (name : List ℕ) (does : GroupView E → GroupView E → Type 0) → IsExact does → IsExact (InGroup name does)
in_group_exact {E} name does exact old a b f g =
    let before : f.before ≡ g.before = same_Some f.before g.before (sym f.found ∙ g.found) in
    let after : f.after ≡ g.after = exact g.before f.after g.after (subst (λ (x : GroupView E). does x f.after) before f.does) g.does in
    f.rest ∙ ap (λ (x : GroupView E). with_group name x old) after ∙ sym g.rest

in_last_exact : {E : Type 0} (does : TermView → TermView → Type 0) → IsExact does → IsExact (InLast {E = E} does)
in_last_exact {E} does exact old a b f g =
    let before : f.before ≡ g.before = same_Some f.before g.before (sym f.found ∙ g.found) in
    let after : f.after ≡ g.after = exact g.before f.after g.after (subst (λ (x : TermView). does x f.after) before f.does) g.does in
    f.rest ∙ ap (λ (x : TermView). with_last x old) after ∙ sym g.rest

informs_exact : (greatest : Bool) (node leader : ℕ) → IsExact (InformsIn greatest node leader)
informs_exact greatest node leader old a b f g =
    let at : f.position ≡ g.position = same_Some f.position g.position (sym f.placed ∙ g.placed) in
    f.changed ∙ ap (λ (p : ℕ). inform p leader old) at ∙ sym g.changed

informs_of_exact : {E : Type 0} (greatest : E → Bool) (term member leader : ℕ) → IsExact (InformsOf greatest term member leader)
informs_of_exact greatest term member leader old a b f g =
    in_last_exact (InformsIn (greatest old.algorithm) member leader) (informs_exact (greatest old.algorithm) member leader) old a b f.informs g.informs

joins_exact : {E : Type 0} (node : ℕ) → IsExact (Joins {E = E} node)
joins_exact node old a b f g = f ∙ sym g

leaves_exact : {E : Type 0} (node : ℕ) → IsExact (Leaves {E = E} node)
leaves_exact node old a b f g = f ∙ sym g

-- two starts of a group, whatever their numbers
Started : {E : Type 0} → GroupView E → GroupView E → Type 0
Started old new = (term : ℕ) × Starts term old new

started_exact : {E : Type 0} → IsExact (Started {E = E})
unfolding Started
started_exact old a b f g = f.1.started ∙ sym g.1.started

started_in : {E : Type 0} (name : List ℕ) (term : ℕ) (old new : Object E) → InGroup name (Starts term) old new → InGroup name Started old new
unfolding Started
started_in name term old new f = record { before = f.before; after = f.after; found = f.found; does = (term, f.does); rest = f.rest }

-- a change leads to one object
does_exact : {E : Type 0} (greatest : E → Bool) (one : Change E) (old a b : Object E) → Does greatest old one a → Does greatest old one b → a ≡ b
does_exact greatest (change.Create group algorithm) old a b f g = f ∙ sym g
does_exact greatest (change.Join group node) old a b f g = in_group_exact group (Joins node) (joins_exact node) old a b f g
does_exact greatest (change.Leave group node) old a b f g = in_group_exact group (Leaves node) (leaves_exact node) old a b f g
does_exact greatest (change.Start group) old a b f g = in_group_exact group Started started_exact old a b (started_in group f.0 old a f.1) (started_in group g.0 old b g.1)
does_exact greatest (change.Know group term member leader) old a b f g =
    in_group_exact group (InformsOf greatest term (number_of member) leader) (informs_of_exact greatest term (number_of member) leader) old a b f g

-- changes one after another lead to one object
pub replays_exact : {E : Type 0} (greatest : E → Bool) → AreExact greatest
replays_exact greatest [] old a b f g = f ∙ sym g
replays_exact {E} greatest (one ∷ changes) old a b f g =
    let mid : f.0 ≡ g.0 = does_exact greatest one old f.0 g.0 f.1 g.1 in
    replays_exact greatest changes g.0 a b (subst (λ (m : Object E). Replays greatest m changes a) mid f.2) g.2

-- a refusal changes nothing
refused_same : {S : Type 0} (first : Option Refusal) (grows : Bool) (old new : S) (answer : Reply) (does : Reply → Type 0) → is_refused answer ≡ true → Replies first grows old answer new does → new ≡ old
refused_same first grows old new (reply.Refused refusal) does is says = says.0
refused_same first grows old new reply.Done does is says = absurd (false≢true is)
refused_same first grows old new (reply.Term term) does is says = absurd (false≢true is)
refused_same first grows old new (reply.Leader term leader) does is says = absurd (false≢true is)
refused_same first grows old new (reply.Undecided term) does is says = absurd (false≢true is)
refused_same first grows old new (reply.Members members) does is says = absurd (false≢true is)
refused_same first grows old new (reply.Terms terms) does is says = absurd (false≢true is)
refused_same first grows old new (reply.Groups names) does is says = absurd (false≢true is)
refused_same first grows old new reply.Moved does is says = absurd (false≢true is)
refused_same first grows old new reply.Idle does is says = absurd (false≢true is)
refused_same first grows old new (reply.Pending left) does is says = absurd (false≢true is)
refused_same first grows old new (reply.Drained done left starved) does is says = absurd (false≢true is)

-- with any other reply the command has its effect
other_does : {S : Type 0} (first : Option Refusal) (grows : Bool) (old new : S) (answer : Reply) (does : Reply → Type 0) → is_refused answer ≡ false → Replies first grows old answer new does → does answer
other_does first grows old new (reply.Refused refusal) does is says = absurd (true≢false is)
other_does first grows old new reply.Done does is says = says.1
other_does first grows old new (reply.Term term) does is says = says.1
other_does first grows old new (reply.Leader term leader) does is says = says.1
other_does first grows old new (reply.Undecided term) does is says = says.1
other_does first grows old new (reply.Members members) does is says = says.1
other_does first grows old new (reply.Terms terms) does is says = says.1
other_does first grows old new (reply.Groups names) does is says = says.1
other_does first grows old new reply.Moved does is says = says.1
other_does first grows old new reply.Idle does is says = says.1
other_does first grows old new (reply.Pending left) does is says = says.1
other_does first grows old new (reply.Drained done left starved) does is says = says.1

-- the effect of an entry is that of its change; without a change it has no effect
unfoldable pub DoesSome : {E : Type 0} → (E → Bool) → Object E → Option (Change E) → Object E → Type 0
DoesSome greatest old None new = new ≡ old
DoesSome greatest old (Some one) new = Does greatest old one new

call_does : {E : Type 0} (two_way greatest : E → Bool) (session : ℕ) (command : Command E) (answer : Reply) (old new : Object E) (refused : Bool)
    → is_refused answer ≡ refused → StepOf two_way greatest old command answer new → DoesSome greatest old (change_in (Call session command answer)) new
unfolding DoesSome
call_does two_way greatest session (Create group algorithm) answer old new true is step = rw is (refused_same _ _ old new answer _ is step)
call_does two_way greatest session (Join group node) answer old new true is step = rw is (refused_same _ _ old new answer _ is step)
call_does two_way greatest session (Leave group node) answer old new true is step = rw is (refused_same _ _ old new answer _ is step)
call_does two_way greatest session (Start group) answer old new true is step = rw is (refused_same _ _ old new answer _ is step)
call_does two_way greatest session (Who group node) answer old new true is step = rw is (refused_same _ _ old new answer _ is step)
call_does two_way greatest session (Members group) answer old new true is step = rw is (refused_same _ _ old new answer _ is step)
call_does two_way greatest session (Terms group) answer old new true is step = rw is (refused_same _ _ old new answer _ is step)
call_does two_way greatest session Groups answer old new true is step = rw is (refused_same _ _ old new answer _ is step)
call_does two_way greatest session (Create group algorithm) answer old new false is step = rw is (other_does _ _ old new answer _ is step).1
call_does two_way greatest session (Join group node) answer old new false is step = rw is (other_does _ _ old new answer _ is step).1
call_does two_way greatest session (Leave group node) answer old new false is step = rw is (other_does _ _ old new answer _ is step).1
call_does two_way greatest session (Start group) answer old new false is step = let did = other_does _ _ old new answer _ is step in rw is (did.0, did.2)
call_does two_way greatest session (Who group node) answer old new false is step = rw is (other_does _ _ old new answer _ is step).0
call_does two_way greatest session (Members group) answer old new false is step = rw is (other_does _ _ old new answer _ is step).0
call_does two_way greatest session (Terms group) answer old new false is step = rw is (other_does _ _ old new answer _ is step).0
call_does two_way greatest session Groups answer old new false is step = rw is (other_does _ _ old new answer _ is step).0

-- an entry has the effect of its change
pub entry_does : {E : Type 0} (two_way greatest : E → Bool) (entry : Entry E) (old new : Object E) → IsEntry two_way greatest old entry new → DoesSome greatest old (change_in entry) new
unfolding DoesSome
entry_does two_way greatest (Call session command answer) old new is = call_does two_way greatest session command answer old new (is_refused answer) refl is.step
entry_does two_way greatest (Filing group term member leader Noted) old new is = is
entry_does two_way greatest (Filing group term member leader Known) old new is = is.0
entry_does two_way greatest (Filing group term member leader Stale) old new is = is

onto_replays : {E : Type 0} (greatest : E → Bool) (one : Option (Change E)) (changes : List (Change E)) (old mid new : Object E) → DoesSome greatest old one mid → Replays greatest mid changes new → Replays greatest old (onto one changes) new
unfolding DoesSome
onto_replays {E} greatest None changes old mid new same rest = subst (λ (m : Object E). Replays greatest m changes new) same rest
onto_replays greatest (Some one) changes old mid new does rest = (mid, does, rest)

-- a history replays its changes
pub follows_replays : {E : Type 0} (two_way greatest : E → Bool) → HaveTheirEffect two_way greatest
follows_replays two_way greatest [] old new follows = follows
follows_replays two_way greatest (entry ∷ entries) old new follows =
    onto_replays greatest (change_in entry) (changes_of entries) old follows.0 new (entry_does two_way greatest entry old follows.0 follows.1) (follows_replays two_way greatest entries follows.0 new follows.2)
