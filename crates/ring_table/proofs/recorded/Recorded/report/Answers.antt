-- The history goes on with the entry of the report, and that entry says what the book made of it.
use Rattle.std.proofs.Common.{inl, refl}
use Rattle.ring_table.proofs.Following.{filing_of, follows_more}
use Rattle.ring_table.proofs.recorded.Recorded.report.Goals as goal

pub invariant_of-self-2 : goal.invariant_of-self-2
invariant_of-self-2 g c =
    rw (c.record_filing.ensures.added, c.in-Ok.ensures.items)
    (follows_more _ _ _ _ _ _ _ c.self.invariant (filing_of _ _ _ _ _ c.note-noting.ensures))

pub returns-clause-files : goal.returns-clause-files
returns-clause-files g c =
    rw (← c.self.view_is)
    (inl (record {
      became = c.note-noting.result;
      noted = c.note-noting.ensures;
      answered = c.filed_from.ensures;
      added = rw (c.record_filing.ensures.added, c.in-Ok.ensures.items) refl;
    }))
