-- Each of the two positions has decided on the winner of the ring.
use Rattle.std.proofs.Common.{sym, ◌∙◌}
use Rattle.std.proofs.lemmas.Option.{slice_get_within}
use Rattle.ring_election.proofs.agreement.one_winner.Goals as goal

pub returns : goal.returns
returns g c = λ algorithm ring family is fits one another.
    let laws = g.met.E.RingElection.lawful algorithm in
    let first = laws.decides_winner ring one.position one.me (family one.position) one.leader is one.there
    (fits.at one.position (slice_get_within ring one.position one.me one.there)) one.decided in
    let second = laws.decides_winner ring another.position another.me (family another.position) another.leader is another.there
    (fits.at another.position (slice_get_within ring another.position another.me another.there)) another.decided in
    first ∙ sym second
