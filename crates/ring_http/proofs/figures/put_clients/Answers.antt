-- The heading, and then the samples.
use Rattle.std.proofs.lemmas.Result.{on_ok_weaker}
use Rattle.ring_http.specs.Figures.{clients_heading}
use Rattle.ring_http.proofs.Listing.{more}
use Rattle.ring_http.proofs.figures.put_clients.Goals as goal

pub returns : goal.returns
returns c =
    on_ok_weaker c.put_ports.result
    (λ put. more c.args.out.now.items _ _ clients_heading _ c.in_ok-put_heading.ensures put)
    (rw c.now_in.ensures at c.put_ports.ensures)
