-- One more member, with another number, and there was room.
use Rattle.std.proofs.Common.{ℕ, List, refl, ap, sym, ◌∙◌, arith}
use Rattle.std.proofs.lemmas.List.{length_push}
use Rattle.ring_terms.specs.Books.{group_view}
use Rattle.ring_terms.proofs.GroupFacts.{allowed_join}
use Rattle.ring_terms.proofs.Members.{has_repeat-push}
use Rattle.ring_terms.proofs.group.Group.join.Goals as goal

-- No member has the number and there was room, so it isn't refused, and the members are those before and the new one.
pub returns-clause-answer : goal.returns-clause-answer
returns-clause-answer g c =
    let view = group_view c.args.self.now in (
      allowed_join view c.args.node (rw c.number.ensures.value at (sym c.has_member.ensures ∙ c.if-has_member.false)) (omega (arith, c.if-len-ge-MOST.false)),
      ap (λ (members : List ℕ). record view { members = members }) c.in-Ok.ensures.items,
    )

pub returns-clause-kept : goal.returns-clause-kept
returns-clause-kept g c =
    let members = c.args.self.now.members in
    record {
      named = refl;
      few = rw c.in-Ok.ensures.items (omega (arith, length_push members.items c.args.node, members.ok.0));
      distinct = rw c.in-Ok.ensures.items (has_repeat-push members.items c.args.node c.requires.distinct (rw c.number.ensures.value at (sym c.has_member.ensures ∙ c.if-has_member.false)));
      short = c.requires.short;
      each = c.requires.each;
    }
