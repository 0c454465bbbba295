use Rattle.std.proofs.Common.{◌≡◌, ◌<◌, ◌≤◌, length, Some, refl, sym, ap, ◌∙◌, arith}
use Rattle.std.proofs.lemmas.List.Elements.{All-pop}
use Rattle.std.proofs.lemmas.Option.{slice_get_past}
use Rattle.std.specs.Prelude.{option_map}
use Rattle.ring_node.specs.Nodes.{envelope_of, sent_of}
use Rattle.ring_workers.proofs.Posting.{mapped_within, posted_next, posted_none, posts_all}
use Rattle.ring_workers.proofs.post.post.Goals as goal

pub loop-place-init : goal.loop-place-init
loop-place-init g c = record {
  copies = c.requires.copies;
  posted = posted_none (envelope_of g.E.RingElection.table c.args.node.now c.args.side) c.args.from c.args.outbox.now.items;
  within = c.requires.from;
  many = refl;
  len = refl;
  room = refl;
}

pub envelope-requires : goal.envelope-requires
envelope-requires g c = rw c.unwrap-copy.ensures at (All-pop (λ copy. copy.value ≡ c.args.node.now.charter) c.loop-place.copies.items c.pop.new.self.items c.pop.result c.pop.ensures.items c.loop-place.invariant.copies).1

pub unwrap-envelope-requires : goal.unwrap-envelope-requires
unwrap-envelope-requires g c =
    let within : c.loop-place.place < length (sent_of g.E.RingElection.table c.args.node.now c.args.side) = omega arith in
    rw c.envelope.ensures (mapped_within _ (sent_of g.E.RingElection.table c.args.node.now c.args.side) c.loop-place.place within)

pub loop-place-preserved : goal.loop-place-preserved
loop-place-preserved g c =
    let is : envelope_of g.E.RingElection.table c.args.node.now c.args.side c.loop-place.place ≡ Some c.unwrap-envelope.result = sym c.envelope.ensures ∙ c.unwrap-envelope.ensures in
    let popped = rw c.unwrap-copy.ensures at c.pop.ensures.cases in
    record {
      copies = (All-pop (λ copy. copy.value ≡ c.args.node.now.charter) c.loop-place.copies.items c.pop.new.self.items c.pop.result c.pop.ensures.items c.loop-place.invariant.copies).0;
      posted = rw c.push_back_reserved.ensures.items
          (posted_next (envelope_of g.E.RingElection.table c.args.node.now c.args.side) c.args.from c.loop-place.place c.args.outbox.now.items c.loop-place.outbox.items c.unwrap-envelope.result
          c.loop-place.invariant.posted is);
      within = omega arith;
      many = omega arith;
      len = omega arith;
      room = c.push_back_reserved.ensures.capacity ∙ c.loop-place.invariant.room;
    }

pub returns-clause-posts : goal.returns-clause-posts
returns-clause-posts g c =
    let all : length (sent_of g.E.RingElection.table c.args.node.now c.args.side) ≤ c.loop-place.place = omega arith in
    posts_all (envelope_of g.E.RingElection.table c.args.node.now c.args.side) c.args.from c.loop-place.place c.args.outbox.now.items c.loop-place.outbox.items c.loop-place.invariant.posted
    (λ k past. ap (option_map _) (slice_get_past (sent_of g.E.RingElection.table c.args.node.now c.args.side) k (omega arith)))
