-- A node is seated at its own place, and what it sends has joined the outbox.
use Rattle.std.proofs.Common.{◌≡◌, ◌<◌, length, Some, slice_get, set, sym, ap, ◌∙◌, subst, arith}
use Rattle.std.specs.Prelude.{slice_index}
use Rattle.std.proofs.lemmas.Result.{err_from_is_err_and}
use Rattle.ring_workers.specs.private.Goings.{Goes}
use Rattle.ring_workers.specs.Owners.{owner_of}
use Rattle.ring_workers.specs.Seatings.{seated_in}
use Rattle.ring_workers.proofs.Seatings.{node_there, seating_set}
use Rattle.ring_workers.proofs.Taking.{get_set-same, goes_seated, goes_still}
use Rattle.ring_id.specs.declared.side.Side.TheVariants.{Left, Right}
use Rattle.ring_workers.proofs.Posting.{first_many, first_room, second_many, second_room}
use Rattle.ring_workers.proofs.term_nodes.TermNodes.seat.Goals as goal

pub returns-clause-kept : goal.returns-clause-kept
returns-clause-kept g c =
    let charter_is = ap (λ n. n.charter) c.in_ok-node.ensures.node ∙ c.in_ok-copy.ensures in
    let position_is = ap (λ n. n.position) c.in_ok-node.ensures.node in
    let owned = subst (λ s. owner_of s.workers (slice_index s.charter.roster c.args.position) ≡ s.number) (sym c.self.view_is) c.requires.owned in
    let member = ap (λ ch. slice_index ch.roster c.in_ok-node.node.position) charter_is ∙ ap (slice_index c.self.inside.charter.value.roster) position_is in
    seating_set c.self.inside.owner.number c.self.inside.owner.workers c.self.inside.charter.value c.self.inside.places.items c.args.position c.in_ok-node.node c.self.invariant.0
    (record { charter_is = charter_is; position_is = position_is; owned = ap (owner_of c.self.inside.owner.workers) member ∙ owned })

pub invariant_of-self-2 : goal.invariant_of-self-2
invariant_of-self-2 g c =
    let charter_is = ap (λ n. n.charter) c.in_ok-node.ensures.node ∙ c.in_ok-copy.ensures in
    (returns-clause-kept g c, λ k d h. c.post-2.ensures.copies k d h ∙ charter_is)

pub returns-clause-goes : goal.returns-clause-goes
returns-clause-goes g c =
    let empty = ap (λ s. slice_get s.places c.args.position) c.self.view_is ∙ c.requires.empty in
    subst (λ s. Goes g.E.RingElection.table (seated_in s.places) (seated_in (set c.self.inside.places.items c.args.position (Some c.in_ok-node.node))) c.args.outbox.now.items c.post-2.new.outbox.items) c.self.view_is
    (subst (λ u. Goes g.E.RingElection.table (seated_in c.self.inside.places.items) (seated_in (set c.self.inside.places.items c.args.position (Some c.in_ok-node.node))) u c.post-2.new.outbox.items) c.find_room.ensures.outbox
    (goes_seated g.E.RingElection.table c.self.inside.places.items c.args.position c.in_ok-node.node c.find_room.new.outbox.items c.post.new.outbox.items c.post-2.new.outbox.items empty c.post.ensures.posts c.post-2.ensures.posts))

pub returns-clause-seated : goal.returns-clause-seated
returns-clause-seated g c =
    let inside = subst (λ s. c.args.position < length s.charter.roster) (sym c.self.view_is) c.requires.inside in
    let within : c.args.position < length c.self.inside.places.items = omega (arith, c.self.invariant.0.size, inside) in
    node_there c.self.inside.owner.number c.self.inside.owner.workers c.self.inside.charter.value (set c.self.inside.places.items c.args.position (Some c.in_ok-node.node)) c.args.position c.in_ok-node.node
    (returns-clause-kept g c) (get_set-same c.self.inside.places.items c.args.position (Some c.in_ok-node.node) within)

pub find_room-requires : goal.find_room-requires
find_room-requires g c = c.self.invariant.1

pub seat-requires : goal.seat-requires
seat-requires g c =
    subst (λ ch. c.args.position < length ch.roster) (sym c.in_ok-copy.ensures) (subst (λ s. c.args.position < length s.charter.roster) (sym c.self.view_is) c.requires.inside)

pub post-requires : goal.post-requires
post-requires g c =
    let charter_is = ap (λ n. n.charter) c.in_ok-node.ensures.node ∙ c.in_ok-copy.ensures in
    record {
      copies = λ k d h. c.find_room.ensures.copies k d h ∙ sym charter_is;
      from = omega arith;
      many = first_many _ _ (c.in_ok-node.ensures.few.each Left) c.in_ok-find_room.ensures.many;
      room = first_room _ _ _ (c.in_ok-node.ensures.few.each Left) c.in_ok-find_room.ensures.room;
    }

pub post-requires-2 : goal.post-requires-2
post-requires-2 g c = record {
  copies = c.post.ensures.copies;
  from = omega arith;
  many = second_many _ _ _ _ (c.in_ok-node.ensures.few.each Right) (c.in_ok-node.ensures.few.each Left) c.in_ok-find_room.ensures.many c.post.ensures.many;
  room = second_room _ _ _ _ _ _ (c.in_ok-node.ensures.few.each Right) (c.in_ok-node.ensures.few.each Left) c.in_ok-find_room.ensures.room c.post.ensures.len c.post.ensures.room;
}

pub index_mut-requires : goal.index_mut-requires
index_mut-requires g c =
    let inside = subst (λ s. c.args.position < length s.charter.roster) (sym c.self.view_is) c.requires.inside in
    omega (arith, c.self.invariant.0.size, inside, c.self.inside.places.ok)

pub returns-in_err-find_room : goal.returns-in_err-find_room
returns-in_err-find_room g c =
    let p = err_from_is_err_and c.from_residual.result c.from_residual.ensures.1 in
    rw p.1
    (record {
      term = record { number_is = ap (λ s. s.number) c.self.view_is; workers_is = ap (λ s. s.workers) c.self.view_is; charter_is = ap (λ s. s.charter) c.self.view_is };
      kept = c.self.invariant.0;
      goes = goes_still g.E.RingElection.table _ _ _ _ (ap (λ s. seated_in s.places) c.self.view_is) c.find_room.ensures.outbox;
      seated = tt;
    })

pub returns-in_err-copy : goal.returns-in_err-copy
returns-in_err-copy g c =
    let p = err_from_is_err_and c.from_residual-in_err-copy.result c.from_residual-in_err-copy.ensures.1 in
    rw p.1
    (record {
      term = record { number_is = ap (λ s. s.number) c.self.view_is; workers_is = ap (λ s. s.workers) c.self.view_is; charter_is = ap (λ s. s.charter) c.self.view_is };
      kept = c.self.invariant.0;
      goes = goes_still g.E.RingElection.table _ _ _ _ (ap (λ s. seated_in s.places) c.self.view_is) c.find_room.ensures.outbox;
      seated = tt;
    })

pub returns-in_err-node : goal.returns-in_err-node
returns-in_err-node g c =
    let p = err_from_is_err_and c.from_residual-in_err-node.result c.from_residual-in_err-node.ensures.1 in
    rw p.1
    (record {
      term = record { number_is = ap (λ s. s.number) c.self.view_is; workers_is = ap (λ s. s.workers) c.self.view_is; charter_is = ap (λ s. s.charter) c.self.view_is };
      kept = c.self.invariant.0;
      goes = goes_still g.E.RingElection.table _ _ _ _ (ap (λ s. seated_in s.places) c.self.view_is) c.find_room.ensures.outbox;
      seated = tt;
    })

pub returns-clause-term : goal.returns-clause-term
returns-clause-term g c = record { number_is = ap (λ s. s.number) c.self.view_is; workers_is = ap (λ s. s.workers) c.self.view_is; charter_is = ap (λ s. s.charter) c.self.view_is }
