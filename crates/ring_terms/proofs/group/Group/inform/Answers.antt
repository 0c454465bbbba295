-- Informing a member of the last term, which is of this charter, informs it in the group.
use Rattle.std.proofs.Common.{◌≡◌, ◌-◌, ◌<◌, refl, sym, ap, ◌∙◌, slice_set, subst, arith, length}
use Rattle.std.specs.Prelude.{slice_index, vec_len}
use Rattle.std.proofs.lemmas.Bool.{false≢true}
use Rattle.std.proofs.lemmas.Option.{same_Some}
use Rattle.ring_node.specs.declared.charter.Charter.{Charter}
use Rattle.ring_terms.specs.private.Books.{NotesTerm}
use Rattle.ring_terms.proofs.GroupFacts.{last_chartered, last_kept, last_notes, last_read, last_sound, some_term}
use Rattle.ring_terms.proofs.group.Group.inform.Goals as goal

pub unreachable-requires : goal.unreachable-requires
unreachable-requires g c =
    let some : 0 < vec_len c.args.self.now.terms = omega (arith, some_term c.args.self.now.name c.args.self.now c.args.charter.now c.requires.running, c.args.self.now.terms.ok.0) in
    false≢true (c.in_default.ensures.variant.1 some)

pub inform-requires : goal.inform-requires
inform-requires g c =
    let terms = c.args.self.now.terms in
    let at = last_read terms.items _ _ terms.ok.0 (c.in-Some.ensures.variant.0 refl) c.in-Some.ensures.value in
    let same = same_Some _ _ (sym (last_chartered g.E.RingElection.winner c.args.self.now.name c.args.self.now c.requires.kept c.in-Some.term.now at) ∙ c.requires.running) in
    record {
      sound = last_sound g.E.RingElection.winner c.args.self.now.name c.args.self.now c.requires.kept c.in-Some.term.now at;
      inside = subst (λ (charter : Charter g.row.E.Denot). c.args.position < length charter.roster) (sym same) c.requires.inside;
      wins = subst (λ (charter : Charter g.row.E.Denot). c.args.leader ≡ g.E.RingElection.winner charter.algorithm charter.roster) (sym same) c.requires.wins;
    }

pub returns-clause-notes : goal.returns-clause-notes
returns-clause-notes g c =
    let terms = c.args.self.now.terms in
    let at = last_read terms.items _ _ terms.ok.0 (c.in-Some.ensures.variant.0 refl) c.in-Some.ensures.value in
    let same = same_Some _ _ (sym (last_chartered g.E.RingElection.winner c.args.self.now.name c.args.self.now c.requires.kept c.in-Some.term.now at) ∙ c.requires.running) in
    last_notes g.E.RingElection.winner c.args.self.now.name c.args.self.now c.requires.kept c.in-Some.term.now at c.inform.new.self _ (ap (λ n. slice_set terms.items (n - 1) c.inform.new.self) terms.ok.0)
    g.E.RingElection.is_greatest _ c.inform.result
    (subst (λ (charter : Charter g.row.E.Denot). NotesTerm g.E.RingElection.is_greatest (record { charter = charter; member = slice_index charter.roster c.args.position; leader = c.args.leader }) c.in-Some.term.now c.inform.result c.inform.new.self)
    same c.inform.ensures.notes)

pub returns-clause-kept : goal.returns-clause-kept
returns-clause-kept g c =
    let terms = c.args.self.now.terms in
    let at = last_read terms.items _ _ terms.ok.0 (c.in-Some.ensures.variant.0 refl) c.in-Some.ensures.value in
    last_kept g.E.RingElection.winner c.args.self.now.name c.args.self.now c.requires.kept c.in-Some.term.now at c.inform.new.self _ (ap (λ n. slice_set terms.items (n - 1) c.inform.new.self) terms.ok.0)
    _ refl refl refl refl g.E.RingElection.is_greatest _ c.inform.result c.inform.ensures.notes c.inform.ensures.kept
