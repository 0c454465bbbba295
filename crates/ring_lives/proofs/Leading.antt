-- A term keeps its leader in a history, so no two replies of it name different ones.
use Rattle.std.proofs.Common.{◌≡◌, ◌+◌, ◌-◌, ℕ, zero, suc, Bool, true, false, cond, List, [], ◌∷◌, ◌++◌, Option, Some, None, length, slice_get, slice_set, refl, ap, sym, ◌∙◌, subst, arith, inl, inr}
use Rattle.std.specs.Option.{option_map}
use Rattle.std.specs.Str.{bytes_eq}
use Rattle.std.proofs.lemmas.Option.{same_Some, slice_get_within, slice_get-map}
use Rattle.ring_id.specs.Identity.{number_of}
use Rattle.ring_election.proofs.Members.{slice_get-append_left}
use Rattle.ring_events.specs.declared.event.Command.TheVariants.{Who, Terms}
use Rattle.ring_events.specs.declared.reply.Reply.TheVariants as reply
use Rattle.ring_terms.specs.Commands.{Joins, Leaves, Starts}
use Rattle.ring_terms.specs.Moves.{LeadsAfter}
use Rattle.ring_terms.specs.Object.{GroupView, InGroup, Object, TermView, find, leaders}
use Rattle.ring_terms.specs.Standings.{Tells}
use Rattle.ring_terms.specs.Steps.{StepOf, standing_reply}
use Rattle.ring_terms.specs.declared.standing.Standing.{Standing}
use Rattle.ring_terms.specs.declared.standing.Standing.TheVariants as standing
use Rattle.ring_terms.proofs.Objects.{find-with_group, same_name, set_elsewhere, set_here}
use Rattle.ring_world.proofs.Links.{same_or_not}
use Rattle.ring_table.specs.Histories.{Follows, InformsOf, IsEntry, IsLegal}
use Rattle.ring_table.specs.declared.entry.Entry.{Entry}
use Rattle.ring_lives.specs.Leaders.{NameOneLeader, Names}
use Rattle.ring_lives.specs.Replays.{Does}
use Rattle.ring_change.specs.declared.change.Change.{Change}
use Rattle.ring_change.specs.declared.change.Change.TheVariants as change
use Rattle.ring_lives.specs.Changes.{change_in}
use Rattle.ring_lives.proofs.Replaying.{DoesSome, entry_does}

-- a term at a place has this leader
record HasLeader (place leader : ℕ) (terms : List TermView) : Type 0 where
  term : TermView
  stands : slice_get terms place ≡ Some term
  leads : term.leader ≡ Some leader

-- a term of a group has this leader
record Leads {E : Type 0} (group : List ℕ) (place leader : ℕ) (object : Object E) : Type 0 where
  view : GroupView E
  found : find group object ≡ Some view
  has : HasLeader place leader view.terms

-- a term of a group has one leader
has_one : (place a b : ℕ) (terms : List TermView) → HasLeader place a terms → HasLeader place b terms → a ≡ b
has_one place a b terms p q =
    let term : p.term ≡ q.term = same_Some p.term q.term (sym p.stands ∙ q.stands) in
    same_Some a b (sym p.leads ∙ ap (λ (t : TermView). t.leader) term ∙ q.leads)

leads_one : {E : Type 0} (group : List ℕ) (place a b : ℕ) (object : Object E) → Leads group place a object → Leads group place b object → a ≡ b
leads_one {E} group place a b object p q =
    let view : p.view ≡ q.view = same_Some p.view q.view (sym p.found ∙ q.found) in
    has_one place a b q.view.terms (subst (λ (v : GroupView E). HasLeader place a v.terms) view p.has) q.has

-- this relation of two groups keeps each leader
abbrev Keeps : {E : Type 0} → GroupView E → GroupView E → Type 0
Keeps old new = (place leader : ℕ) → HasLeader place leader old.terms → HasLeader place leader new.terms

-- if one group changes by such a relation, all groups keep their leaders
in_group_leads : {E : Type 0} (name : List ℕ) (does : GroupView E → GroupView E → Type 0) → ((old new : GroupView E) → does old new → Keeps old new)
    → (old new : Object E) → InGroup name does old new → (group : List ℕ) (place leader : ℕ) → Leads group place leader old → Leads group place leader new
in_group_leads {E} name does keeps old new inside group place leader leads =
    let after : find group new ≡ cond (bytes_eq name group) (Some inside.after) (find group old) =
    ap (λ (o : Object E). find group o) inside.rest ∙ find-with_group name inside.before inside.after old inside.found group in
    elim (bytes_eq name group) as (λ same. bytes_eq name group ≡ same → find group new ≡ cond same (Some inside.after) (find group old) → Leads group place leader new) [
      | true ↦ λ is found.
          let before : inside.before ≡ leads.view = same_Some inside.before leads.view (sym inside.found ∙ ap (λ (n : List ℕ). find n old) (same_name name group is) ∙ leads.found) in
          record { view = inside.after; found = found; has = keeps inside.before inside.after inside.does place leader (subst (λ (v : GroupView E). HasLeader place leader v.terms) (sym before) leads.has) }
      | false ↦ λ is found. record { view = leads.view; found = found ∙ leads.found; has = leads.has }
    ] refl after

-- a group is found after another was added
found_more : {E : Type 0} (group : List ℕ) (object added : Object E) (view : GroupView E) → find group object ≡ Some view → find group (object ++ added) ≡ Some view
found_more group [] added view found = cc
found_more {E} group (entry ∷ object) added view found =
    elim (bytes_eq group entry.0) as (λ same. cond same (Some entry.1) (find group object) ≡ Some view → cond same (Some entry.1) (find group (object ++ added)) ≡ Some view) [
      | true ↦ λ here. here
      | false ↦ λ there. found_more group object added view there
    ] found

joins_keeps : {E : Type 0} (node : ℕ) (old new : GroupView E) → Joins node old new → Keeps old new
joins_keeps {E} node old new does place leader has = subst (λ (v : GroupView E). HasLeader place leader v.terms) (sym does) has

leaves_keeps : {E : Type 0} (node : ℕ) (old new : GroupView E) → Leaves node old new → Keeps old new
leaves_keeps {E} node old new does place leader has = subst (λ (v : GroupView E). HasLeader place leader v.terms) (sym does) has

starts_keeps : {E : Type 0} (term : ℕ) (old new : GroupView E) → Starts term old new → Keeps old new
starts_keeps {E} term old new does place leader has =
    subst (λ (v : GroupView E). HasLeader place leader v.terms) (sym does.started)
    (record { term = has.term; stands = slice_get-append_left old.terms _ place has.term has.stands; leads = has.leads })

-- a leader that is there stays
leads_after : (greatest : Bool) (ring : List ℕ) (was : Option ℕ) (leader told : ℕ) → was ≡ Some leader → LeadsAfter greatest ring was told → told ≡ leader
leads_after greatest ring None leader told is after = cc
leads_after greatest ring (Some here) leader told is after = after ∙ same_Some here leader is

informs_keeps : {E : Type 0} (greatest : E → Bool) (number member told : ℕ) (old new : GroupView E) → InformsOf greatest number member told old new → Keeps old new
informs_keeps {E} greatest number member told old new does place leader has =
    let last = length old.terms - 1 in
    let informs = does.informs.does in
    subst (λ (v : GroupView E). HasLeader place leader v.terms) (sym does.informs.rest)
    (elim (same_or_not place last) [
      | inl here ↦
          let before : has.term ≡ does.informs.before = same_Some has.term does.informs.before (sym has.stands ∙ ap (slice_get old.terms) here ∙ does.informs.found) in
          let stays : told ≡ leader = leads_after (greatest old.algorithm) does.informs.before.ring does.informs.before.leader leader told (sym (ap (λ (t : TermView). t.leader) before) ∙ has.leads) informs.leads in
          record {
            term = does.informs.after;
            stands = ap (slice_get (slice_set old.terms last does.informs.after)) here ∙ set_here old.terms last does.informs.after (slice_get_within old.terms last does.informs.before does.informs.found);
            leads = ap (λ (t : TermView). t.leader) informs.changed ∙ ap (λ (l : ℕ). Some l) stays;
          }
      | inr elsewhere ↦ record { term = has.term; stands = set_elsewhere old.terms last place does.informs.after elsewhere ∙ has.stands; leads = has.leads }
    ])

-- a change keeps each leader
does_leads : {E : Type 0} (greatest : E → Bool) (one : Change E) (old new : Object E) → Does greatest old one new → (group : List ℕ) (place leader : ℕ) → Leads group place leader old → Leads group place leader new
does_leads {E} greatest (change.Create name algorithm) old new does group place leader leads =
    subst (λ (o : Object E). Leads group place leader o) (sym does) (record { view = leads.view; found = found_more group old _ leads.view leads.found; has = leads.has })
does_leads greatest (change.Join name node) old new does group place leader leads = in_group_leads name (Joins node) (joins_keeps node) old new does group place leader leads
does_leads greatest (change.Leave name node) old new does group place leader leads = in_group_leads name (Leaves node) (leaves_keeps node) old new does group place leader leads
does_leads greatest (change.Start name) old new does group place leader leads = in_group_leads name (Starts does.0) (starts_keeps does.0) old new does.1 group place leader leads
does_leads greatest (change.Know name term member told) old new does group place leader leads =
    in_group_leads name (InformsOf greatest term (number_of member) told) (informs_keeps greatest term (number_of member) told) old new does group place leader leads

-- the change of an entry keeps each leader
some_leads : {E : Type 0} (greatest : E → Bool) (one : Option (Change E)) (old new : Object E) → DoesSome greatest old one new → (group : List ℕ) (place leader : ℕ) → Leads group place leader old → Leads group place leader new
unfolding DoesSome
some_leads {E} greatest None old new same group place leader leads = subst (λ (o : Object E). Leads group place leader o) (sym same) leads
some_leads greatest (Some one) old new does group place leader leads = does_leads greatest one old new does group place leader leads

-- the leader that a group names to a member is the leader of its last term
tells_leads : {E : Type 0} (node term leader : ℕ) (view : GroupView E) (said : Standing) → reply.Leader term leader ≡ standing_reply said → Tells node said view → (place : ℕ) × (term ≡ place + 1) × HasLeader place leader view.terms
tells_leads node term leader view (standing.Leader named told) is tells =
    let number : term ≡ named = cc in
    let name : leader ≡ told = cc in
    let some = slice_get_within view.terms (length view.terms - 1) tells.term tells.found in
    (length view.terms - 1, omega (arith, number, tells.says.0, some), record { term = tells.term; stands = tells.found; leads = tells.says.1.leads ∙ ap (λ (l : ℕ). Some l) (sym name) })
tells_leads node term leader view (standing.Undecided named) is tells = cc

-- a leader in a list is the leader of its term
listed_leads : (place leader : ℕ) (terms : List TermView) (at : Option TermView) → slice_get terms place ≡ at → option_map (λ t. t.leader) at ≡ Some (Some leader) → HasLeader place leader terms
listed_leads place leader terms None at there = cc
listed_leads place leader terms (Some term) at there = record { term = term; stands = at; leads = same_Some term.leader (Some leader) there }

module _ {E : Type 0} (two_way greatest : E → Bool) where
  -- a term has this leader now
  LeadsNow : List ℕ → ℕ → ℕ → Object E → Type 0
  LeadsNow group term leader object = (place : ℕ) × (term ≡ place + 1) × Leads group place leader object

  -- a leader that a reply names is the leader of its term
  answer_leads : (old new : Object E) (node term leader : ℕ) (group : List ℕ) → StepOf two_way greatest old (Who group node) (reply.Leader term leader) new → LeadsNow group term leader old
  unfolding LeadsNow
  answer_leads old new node term leader group step =
      let of = step.1.1 in
      let leads = tells_leads node term leader of.group of.says.said of.says.reply_is of.says.tells in
      (leads.0, leads.1, record { view = of.group; found = of.found; has = leads.2 })

  terms_leads : (old new : Object E) (told : List (Option ℕ)) (term place leader : ℕ) (group : List ℕ) → StepOf two_way greatest old (Terms group) (reply.Terms told) new → term ≡ place + 1 → slice_get told place ≡ Some (Some leader) → LeadsNow group term leader old
  unfolding LeadsNow
  terms_leads old new told term place leader group step numbered there =
      let of = step.1.1 in
      let list : told ≡ leaders of.group = cc in
      let listed = sym (slice_get-map (λ t. t.leader) of.group.terms place) ∙ ap (λ (l : List (Option ℕ)). slice_get l place) (sym list) ∙ there in
      (place, numbered, record { view = of.group; found = of.found; has = listed_leads place leader of.group.terms (slice_get of.group.terms place) refl listed })

  named_leads : (old new : Object E) (entry : Entry E) (term leader : ℕ) (group : List ℕ) → IsEntry two_way greatest old entry new → Names group term leader entry → LeadsNow group term leader old
  named_leads old new entry term leader group is (inl answer) =
      let call = subst (λ (e : Entry E). IsEntry two_way greatest old e new) answer.is is in
      answer_leads old new answer.node term leader group call.step
  named_leads old new entry term leader group is (inr listed) =
      let call = subst (λ (e : Entry E). IsEntry two_way greatest old e new) listed.is is in
      terms_leads old new listed.leaders term listed.place leader group call.step listed.numbered listed.there

  -- an entry keeps each leader, and so do entries that follow one another
  entry_leads : (old new : Object E) (entry : Entry E) (term leader : ℕ) (group : List ℕ) → IsEntry two_way greatest old entry new → LeadsNow group term leader old → LeadsNow group term leader new
  unfolding LeadsNow
  entry_leads old new entry term leader group is leads =
      (leads.0, leads.1, some_leads greatest (change_in entry) old new (entry_does two_way greatest entry old new is) group leads.0 leader leads.2)

  follows_leads : (entries : List (Entry E)) (old new : Object E) (term leader : ℕ) (group : List ℕ) → Follows two_way greatest old entries new → LeadsNow group term leader old → LeadsNow group term leader new
  follows_leads [] old new term leader group follows leads = subst (λ (o : Object E). LeadsNow group term leader o) (sym follows) leads
  follows_leads (entry ∷ entries) old new term leader group follows leads =
      follows_leads entries follows.0 new term leader group follows.2 (entry_leads old follows.0 entry term leader group follows.1 leads)

  -- each leader that was named is the leader of its term at the end
  named_at : (entries : List (Entry E)) (old new : Object E) (place : ℕ) (entry : Entry E) (term leader : ℕ) (group : List ℕ) → Follows two_way greatest old entries new
      → slice_get entries place ≡ Some entry → Names group term leader entry → LeadsNow group term leader new
  named_at [] old new place entry term leader group follows at names = cc
  named_at (first ∷ entries) old new zero entry term leader group follows at names =
      let same : first ≡ entry = same_Some first entry at in
      let is = subst (λ (e : Entry E). IsEntry two_way greatest old e follows.0) same follows.1 in
      follows_leads entries follows.0 new term leader group follows.2 (entry_leads old follows.0 entry term leader group is (named_leads old follows.0 entry term leader group is names))
  named_at (first ∷ entries) old new (suc place) entry term leader group follows at names = named_at entries follows.0 new place entry term leader group follows.2 at names

  -- a legal history names one leader of a term
  pub legal_names_one : (history : List (Entry E)) (book : Object E) → IsLegal two_way greatest history book → NameOneLeader history
  unfolding LeadsNow
  legal_names_one history book legal group term a b first second i j names_a names_b =
      let x = named_at history [] book i.0 first term a group legal i.1 names_a in
      let y = named_at history [] book j.0 second term b group legal j.1 names_b in
      let place : x.0 ≡ y.0 = omega (arith, x.1, y.1) in
      leads_one group y.0 a b book (subst (λ (p : ℕ). Leads group p a book) place x.2) y.2
