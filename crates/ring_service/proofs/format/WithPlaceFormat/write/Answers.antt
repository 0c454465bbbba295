-- The answer of the access, with its place counted from the base.
use Rattle.std.proofs.Common.{◌≡◌, sym, ◌∙◌}
use Rattle.ring_id.specs.declared.refusal.Refusal.TheVariants.{BadLine}
use Rattle.ring_table.specs.declared.access.Answer.TheVariants.{Placed, Unplaced}
use Rattle.ring_service.proofs.Placing.{places_line, unread_place}
use Rattle.ring_service.proofs.format.WithPlaceFormat.write.Goals as goal

pub returns-in-Placed-clause-command : goal.returns-in-Placed-clause-command
returns-in-Placed-clause-command c = λ most session line command mine now below spelled seated.
    places_line c.args.self.now.base most session line command mine (Placed c.in-Placed.reply c.in-Placed.place) now spelled (rw c.in-Placed.is at seated) (rw c.in-Placed.is at below)

pub returns-in-Unplaced-clause-command : goal.returns-in-Unplaced-clause-command
returns-in-Unplaced-clause-command c = λ most session line command mine now below spelled seated.
    places_line c.args.self.now.base most session line command mine (Unplaced c.in-Unplaced.refusal) now spelled (rw c.in-Unplaced.is at seated) (rw c.in-Unplaced.is at below)

pub returns-in-Unplaced-clause-unread : goal.returns-in-Unplaced-clause-unread
returns-in-Unplaced-clause-unread c = λ is most session line mine unread.
    let both : Unplaced c.in-Unplaced.refusal ≡ Unplaced BadLine = sym c.in-Unplaced.is ∙ is in
    let same : c.in-Unplaced.refusal ≡ BadLine = cc in
    rw same (unread_place c.args.self.now.base most session line mine unread)
