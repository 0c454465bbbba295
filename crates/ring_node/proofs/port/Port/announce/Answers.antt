-- The announcement comes after all packets that were sent before.
use Rattle.std.proofs.Common.{◌≡◌, ℕ, length, Some, sym, ap, ◌∙◌, arith}
use Rattle.ring_node.specs.private.Journals.{leader_place}
use Rattle.ring_node.proofs.Announcing.{leader_place-announcement}
use Rattle.ring_node.proofs.port.Port.announce.Goals as goal

pub invariant_of-self : goal.invariant_of-self
invariant_of-self g c =
    let behind : c.len.result ≡ length c.args.self.now.sent.items = omega (arith, c.len.ensures, c.args.self.now.sent.ok.0) in
    record {
      announced_is =
          ap (λ (n : ℕ). Some n) behind
          ∙ sym (ap leader_place c.push_reserved.ensures.items ∙ leader_place-announcement c.args.self.now.sent.items _);
    }
