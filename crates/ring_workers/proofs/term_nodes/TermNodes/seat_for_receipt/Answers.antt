-- Where room is refused nothing happens.
use Rattle.std.proofs.Common.{◌≡◌, ◌<◌, length, Some, None, slice_get, sym, ap, subst}
use Rattle.std.specs.Prelude.{slice_index}
use Rattle.std.proofs.lemmas.Result.{err_from_is_err_and}
use Rattle.ring_workers.specs.Owners.{owner_of}
use Rattle.ring_workers.specs.Seatings.{seated_in}
use Rattle.ring_workers.proofs.Taking.{goes_still}
use Rattle.ring_workers.proofs.term_nodes.TermNodes.seat_for_receipt.Goals as goal

pub find_room-requires : goal.find_room-requires
find_room-requires g c = c.self.invariant.1

pub seat-requires : goal.seat-requires
seat-requires g c = record {
  inside = subst (λ s. c.args.position < length s.charter.roster) (sym c.self.view_is) c.requires.inside;
  empty = subst (λ s. slice_get s.places c.args.position ≡ Some None) (sym c.self.view_is) c.requires.empty;
  owned = subst (λ s. owner_of s.workers (slice_index s.charter.roster c.args.position) ≡ s.number) (sym c.self.view_is) c.requires.owned;
}

pub returns-in_err-find_room : goal.returns-in_err-find_room
returns-in_err-find_room g c =
    let p = err_from_is_err_and c.from_residual.result c.from_residual.ensures.1 in
    rw p.1
    (record {
      term = record { number_is = ap (λ s. s.number) c.self.view_is; workers_is = ap (λ s. s.workers) c.self.view_is; charter_is = ap (λ s. s.charter) c.self.view_is };
      kept = c.self.invariant.0;
      goes = goes_still g.E.RingElection.table _ _ _ _ (ap (λ s. seated_in s.places) c.self.view_is) c.find_room.ensures.outbox;
      seated = tt;
    })
