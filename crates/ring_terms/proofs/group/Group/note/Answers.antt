-- Filing a report in the last term files it in the group.
use Rattle.std.proofs.Common.{◌-◌, refl, ap, slice_set}
use Rattle.ring_terms.proofs.GroupFacts.{last_kept, last_notes, last_read, last_sound}
use Rattle.ring_terms.proofs.group.Group.note.Goals as goal

pub note-requires : goal.note-requires
note-requires g c =
    last_sound g.E.RingElection.winner c.args.self.now.name c.args.self.now c.requires c.in-Some.term.now (last_read c.args.self.now.terms.items _ _ c.args.self.now.terms.ok.0 (c.in-Some.ensures.variant.0 refl) c.in-Some.ensures.value)

pub returns-clause-notes : goal.returns-clause-notes
returns-clause-notes g c =
    let terms = c.args.self.now.terms in
    let at = last_read terms.items _ _ terms.ok.0 (c.in-Some.ensures.variant.0 refl) c.in-Some.ensures.value in
    last_notes g.E.RingElection.winner c.args.self.now.name c.args.self.now c.requires c.in-Some.term.now at c.note.new.self _ (ap (λ n. slice_set terms.items (n - 1) c.note.new.self) terms.ok.0)
    g.E.RingElection.is_greatest c.args.report.now c.note.result c.note.ensures.notes

pub returns-clause-kept : goal.returns-clause-kept
returns-clause-kept g c =
    let terms = c.args.self.now.terms in
    let at = last_read terms.items _ _ terms.ok.0 (c.in-Some.ensures.variant.0 refl) c.in-Some.ensures.value in
    last_kept g.E.RingElection.winner c.args.self.now.name c.args.self.now c.requires c.in-Some.term.now at c.note.new.self _ (ap (λ n. slice_set terms.items (n - 1) c.note.new.self) terms.ok.0)
    _ refl refl refl refl g.E.RingElection.is_greatest c.args.report.now c.note.result c.note.ensures.notes c.note.ensures.kept
