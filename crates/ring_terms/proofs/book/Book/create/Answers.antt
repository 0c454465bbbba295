-- A group may be created, and it is the last one then.
use Rattle.std.proofs.Common.{sym, ap, ◌∙◌, arith, refl}
use Rattle.std.specs.Map.{lookup}
use Rattle.std.specs.Str.{bytes_eq}
use Rattle.indexmap.proofs.CallerLemmas.{insert_entry-new}
use Rattle.ring_terms.specs.Books.{object_view}
use Rattle.ring_terms.specs.Object.{new_group}
use Rattle.ring_terms.proofs.BookFacts.{create_exists, create_free, create_full, kept_after_push, length_in, shown_push, some_in}
use Rattle.ring_terms.proofs.Entries.{none_there}
use Rattle.ring_terms.proofs.book.Book.create.Goals as goal

pub returns-then-contains_key : goal.returns-then-contains_key
returns-then-contains_key g c =
    let there = some_in c.self.inside.groups.entries c.args.self.now c.self.view_is c.args.group ∙ sym c.contains_key.ensures ∙ c.if-contains_key.true in
    (refl, create_exists c.args.group c.args.self.now there)

pub returns-then-len-ge-MOST_GROUPS : goal.returns-then-len-ge-MOST_GROUPS
returns-then-len-ge-MOST_GROUPS g c =
    let there = some_in c.self.inside.groups.entries c.args.self.now c.self.view_is c.args.group ∙ sym c.contains_key.ensures ∙ c.if-contains_key.false in
    (refl, create_full c.args.group c.args.self.now there (omega (arith, length_in c.self.inside.groups.entries c.args.self.now c.self.view_is)))

pub returns-in_default : goal.returns-in_default
returns-in_default g c =
    let there = some_in c.self.inside.groups.entries c.args.self.now c.self.view_is c.args.group ∙ sym c.contains_key.ensures ∙ c.if-contains_key.false in
    let free = create_free c.args.group c.args.self.now there (omega (arith, length_in c.self.inside.groups.entries c.args.self.now c.self.view_is)) in
    (ap (object_view {E = g.row.E.Denot}) c.in_default.ensures.err ∙ c.self.view_is, rw free (refl, refl))

pub invariant_of-self-2 : goal.invariant_of-self-2
invariant_of-self-2 g c =
    let absent = none_there (lookup (bytes_eq c.args.group) c.self.inside.groups.entries) (sym c.contains_key.ensures ∙ c.if-contains_key.false) in
    let grown = c.in-Ok.ensures.entries ∙ insert_entry-new bytes_eq c.self.inside.groups c.args.group c.new-made.result absent in
    rw grown (kept_after_push g.E.RingElection.winner c.self.inside.groups.entries c.self.invariant c.args.group c.new-made.result c.new-made.ensures.kept (omega (arith, c.len.ensures.value, length_in c.self.inside.groups.entries c.args.self.now c.self.view_is)))

pub returns : goal.returns
returns g c =
    let there = some_in c.self.inside.groups.entries c.args.self.now c.self.view_is c.args.group ∙ sym c.contains_key.ensures ∙ c.if-contains_key.false in
    let free = create_free c.args.group c.args.self.now there (omega (arith, length_in c.self.inside.groups.entries c.args.self.now c.self.view_is)) in
    let absent = none_there (lookup (bytes_eq c.args.group) c.self.inside.groups.entries) (sym c.contains_key.ensures ∙ c.if-contains_key.false) in
    let grown = c.in-Ok.ensures.entries ∙ insert_entry-new bytes_eq c.self.inside.groups c.args.group c.new-made.result absent in
    (free, ap (object_view {E = g.row.E.Denot}) grown ∙ shown_push c.self.inside.groups.entries c.args.self.now c.self.view_is c.args.group c.new-made.result (new_group c.args.algorithm) c.new-made.ensures.shown)
