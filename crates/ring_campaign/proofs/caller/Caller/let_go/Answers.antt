-- One member leaves after another.
use Rattle.std.proofs.Common.{◌∙◌, ◌+◌, ◌++◌, ◌∷◌, [], ap, append_assoc, drop, refl, subst, sym}
use Rattle.std.proofs.lemmas.List.{drop_all, drop_more}
use Rattle.ring_id.specs.Identity.{number_of}
use Rattle.ring_events.specs.declared.event.Command.TheVariants.{Leave}
use Rattle.ring_table.specs.declared.entry.Entry.TheVariants.{Call}
use Rattle.ring_campaign.specs.Clearing.{LetsGo}
use Rattle.ring_campaign.proofs.Cleared.{adds_all, lets_go_more}
use Rattle.ring_campaign.proofs.caller.Caller.let_go.Goals as goal

pub loop-member-preserved : goal.loop-member-preserved
loop-member-preserved g c =
    let members = c.args.members.now in
    let before = c.loop-member.invariant in
    let member = c.member-item.result in
    let next = drop_more members c.loop-member.member-index member c.loop-member-test.true ∙ ap (λ m. m ∷ drop (c.loop-member.member-index + 1) members) (sym c.member-item.is) in
    let left = Call c.args.self.now.session (Leave c.args.group (number_of member)) c.insist-left.result ∷ [] in
    let entry = rw c.number.ensures.value at c.insist-left.ensures.entry in
    record {
      has = c.insist-left.ensures.seat;
      added = before.added ++ left;
      gained = entry ∙ ap (λ entries. entries ++ left) before.gained ∙ append_assoc (g.A.Access.mine c.args.seat.now) before.added left;
      completes = λ rest gone.
          subst (LetsGo c.args.self.now.session c.args.group members) (sym (append_assoc before.added left rest))
          (before.completes (left ++ rest) (lets_go_more c.args.self.now.session c.args.group members c.loop-member.member-index member c.insist-left.result rest next gone));
    }

pub returns-clause-gone : goal.returns-clause-gone
returns-clause-gone g c =
    let members = c.args.members.now in
    let before = c.loop-member.invariant in
    let such = LetsGo c.args.self.now.session c.args.group in
    let over = drop_all c.loop-member.member-index members c.loop-member-test.false in
    adds_all (such members) _ _ before.added before.gained (before.completes [] (subst (λ l. such l []) (sym over) refl))
