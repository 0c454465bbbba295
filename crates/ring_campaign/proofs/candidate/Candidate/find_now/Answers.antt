-- What is found of the leader of the last term.
use Rattle.std.proofs.Common.{◌≡◌, ◌∙◌, sym, true≢false}
use Rattle.std.proofs.lemmas.Bool.{eq-eqb, eqb-true}
use Rattle.ring_id.specs.Identity.{number_of}
use Rattle.ring_campaign.proofs.Looking.{finds_first, finds_leader, finds_no_term, finds_old_term}
use Rattle.ring_campaign.proofs.candidate.Candidate.find_now.Goals as goal

pub returns-else-eq-clause-finds : goal.returns-else-eq-clause-finds
returns-else-eq-clause-finds g c =
    let says = c.in-Leader.ensures in
    let other : number_of c.in-Leader.leader ≡ c.args.self.now.number → ⊥ =
    λ own. true≢false (sym (eq-eqb _ _ (c.number.ensures.value ∙ own)) ∙ sym c.if-eq.ensures)
    in
    finds_leader _ _ _ _ _ _ _ says.0 _ other (rw says.1 at c.in-Some.ensures.asks) c.find_leader.ensures.seeks

pub returns-then-eq-clause-finds : goal.returns-then-eq-clause-finds
returns-then-eq-clause-finds g c =
    let says = c.in-Leader.ensures in
    let own = sym c.number.ensures.value ∙ eqb-true _ _ (sym (c.if-eq.ensures)) in
    finds_old_term _ _ _ _ _ _ _ says.0 _ own (rw says.1 at c.in-Some.ensures.asks) c.start-then-eq.ensures.starts

pub returns-in-NoTerm-clause-finds : goal.returns-in-NoTerm-clause-finds
returns-in-NoTerm-clause-finds g c = finds_no_term _ _ _ _ _ _ _ (rw c.in-NoTerm.ensures at c.in-Some.ensures.asks) c.start.ensures.starts

pub returns-in-Undecided-clause-finds : goal.returns-in-Undecided-clause-finds
returns-in-Undecided-clause-finds g c =
    let says = c.in-Undecided.ensures in finds_first _ _ _ _ _ _ _ says.0 (rw says.1 at c.in-Some.ensures.asks) c.find_first.ensures.seeks
