-- The line is its verb and the name of its group, and then the rest.
use Rattle.std.proofs.Common.{subst}
use Rattle.std.proofs.lemmas.Result.{on_err_weaker, on_ok_weaker}
use Rattle.ring_change.specs.private.Parts.{rest_text}
use Rattle.ring_change.proofs.Putting.{on_err_anyway}
use Rattle.ring_change.proofs.OneChange.{parted}
use Rattle.ring_change.proofs.print.print_change.Goals as goal

pub returns-in_err-put_both-clause-err : goal.returns-in_err-put_both-clause-err
returns-in_err-put_both-clause-err g c =
    on_err_anyway c.from_residual.result
    (subst (λ text. g.S.Sink.takes_front c.args.out.now text c.put_both.new.out) (parted c.args.change.now)
    (g.met.S.Sink.laws.front _ _ _ (rest_text c.args.change.now) (rw (c.verb.ensures, c.bytes.ensures.value, c.group.ensures) at c.in_err-put_both.ensures.err)))

pub returns-clause-ok : goal.returns-clause-ok
returns-clause-ok g c =
    on_ok_weaker c.put_rest.result
    (λ put. subst (λ text. g.S.Sink.takes c.args.out.now text c.put_rest.new.out) (parted c.args.change.now)
    (g.met.S.Sink.laws.then _ _ _ _ _ (rw (c.verb.ensures, c.bytes.ensures.value, c.group.ensures) at c.in_ok-put_both.ensures.ok) put))
    c.put_rest.ensures.ok

pub returns-clause-err : goal.returns-clause-err
returns-clause-err g c =
    on_err_weaker c.put_rest.result
    (λ put. subst (λ text. g.S.Sink.takes_front c.args.out.now text c.put_rest.new.out) (parted c.args.change.now)
    (g.met.S.Sink.laws.then_front _ _ _ _ _ (rw (c.verb.ensures, c.bytes.ensures.value, c.group.ensures) at c.in_ok-put_both.ensures.ok) put))
    c.put_rest.ensures.err
