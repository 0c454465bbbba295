use Rattle.std.proofs.Common.{◌≡◌, ℕ, refl, sym, ap, ◌∙◌, subst, arith}
use Rattle.std.proofs.lemmas.Result.{err_from_is_err_and}
use Rattle.ring_id.specs.declared.side.Side.TheVariants.{Left, Right}
use Rattle.ring_node.specs.Nodes.{Seated, envelope_of, receiving}
use Rattle.ring_id.specs.Sides.{other}
use Rattle.ring_workers.specs.private.Posts.{Posts}
use Rattle.ring_workers.proofs.Posting.{extended_from, extended_many, extended_room, rest_many, rest_room}
use Rattle.ring_workers.proofs.post.hand_to.Goals as goal

pub post-requires : goal.post-requires
post-requires g c =
    let journal : c.take.new.self ≡ receiving c.args.node.now (other c.args.envelope.side) c.args.envelope.packet = c.in_ok-report.ensures.takes.journal in
    record {
      copies = λ k d within. c.requires.copies k d within ∙ sym (ap (λ (n : Seated _ _). n.charter) journal);
      from = extended_from _ _ _ _ c.sent-left.ensures c.in_ok-report.ensures.gains.left;
      many = extended_many _ _ _ _ c.sent-left.ensures c.in_ok-report.ensures.gains.left _ (omega (arith, c.requires.many));
      room = extended_room _ _ _ _ c.sent-left.ensures c.in_ok-report.ensures.gains.left _ _ (omega (arith, c.requires.room));
    }

pub post-requires-2 : goal.post-requires-2
post-requires-2 g c = record {
  copies = c.post.ensures.copies;
  from = extended_from _ _ _ _ c.sent-right.ensures c.in_ok-report.ensures.gains.right;
  many = extended_many _ _ _ _ c.sent-right.ensures c.in_ok-report.ensures.gains.right _
      (rest_many _ _ _ _ c.sent-left.ensures c.in_ok-report.ensures.gains.left _ _ 2 c.requires.many c.post.ensures.many);
  room = extended_room _ _ _ _ c.sent-right.ensures c.in_ok-report.ensures.gains.right _ _
      (rest_room _ _ _ _ c.sent-left.ensures c.in_ok-report.ensures.gains.left _ _ _ _ 2 c.requires.room c.post.ensures.len c.post.ensures.room);
}

pub returns : goal.returns
returns g c =
    let journal : c.take.new.self ≡ receiving c.args.node.now (other c.args.envelope.side) c.args.envelope.packet = c.in_ok-report.ensures.takes.journal in
    let charter : c.take.new.self.charter ≡ c.args.node.now.charter = ap (λ (n : Seated _ _). n.charter) journal in
    record {
      copies = λ k d within. c.post-2.ensures.copies k d within ∙ charter;
      handed = record {
        between = c.post.new.outbox.items;
        led = c.in_ok-report.ensures.takes.here;
        next = c.in_ok-report.ensures.takes.next;
        journal = journal;
        left = subst (λ (n : ℕ). Posts (envelope_of g.E.RingElection.table c.take.new.self Left) n c.args.outbox.now.items c.post.new.outbox.items) c.sent-left.ensures c.post.ensures.posts;
        right = subst (λ (n : ℕ). Posts (envelope_of g.E.RingElection.table c.take.new.self Right) n c.post.new.outbox.items c.post-2.new.outbox.items) c.sent-right.ensures c.post-2.ensures.posts;
      };
      gains = c.in_ok-report.ensures.gains;
      refused = tt;
    }

pub returns-in_err-report : goal.returns-in_err-report
returns-in_err-report g c =
    let p = err_from_is_err_and c.from_residual.result c.from_residual.ensures.1 in
    rw (p.1, p.2)
    (record {
      copies = c.requires.copies;
      handed = (c.in_err-report.ensures.takes.back_is, c.in_err-report.ensures.takes.unchanged, refl);
      gains = tt;
      refused = c.in_err-report.ensures.takes.why;
    })
