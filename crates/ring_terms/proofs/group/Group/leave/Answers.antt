-- Members that differ in their numbers still do when some are out.
use Rattle.std.proofs.Common.{ℕ, not, refl, arith}
use Rattle.ring_roster.specs.Ring.{is_numbered}
use Rattle.ring_terms.proofs.Members.{has_repeat-filter, length-filter-le}
use Rattle.ring_terms.proofs.group.Group.leave.Goals as goal

pub returns-clause-kept : goal.returns-clause-kept
returns-clause-kept g c =
    let members = c.args.self.now.members in
    let stays = λ (member : ℕ). not (is_numbered c.args.node member) in
    record {
      named = refl;
      few = rw c.take_out.ensures (omega (arith, length-filter-le stays members.items, c.requires.few));
      distinct = rw c.take_out.ensures (has_repeat-filter stays members.items c.requires.distinct);
      short = c.requires.short;
      each = c.requires.each;
    }
