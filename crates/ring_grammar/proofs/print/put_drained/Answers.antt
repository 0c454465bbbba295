use Rattle.std.proofs.Common.{subst, true}
use Rattle.std.proofs.lemmas.Result.{on_err_weaker, on_ok_weaker}
use Rattle.ring_grammar.proofs.Putting.{drained_text, on_err_anyway, starved_text}
use Rattle.ring_grammar.proofs.print.put_drained.Goals as goal

pub returns-in_err-put_numbers-clause-err : goal.returns-in_err-put_numbers-clause-err
returns-in_err-put_numbers-clause-err g c =
    on_err_anyway c.from_residual.result
    (subst (λ text. g.W.Sink.takes_front c.args.out.now text c.put_numbers.new.out) (drained_text c.args.done c.args.left c.args.starved)
    (g.met.W.Sink.laws.front _ _ _ (starved_text c.args.starved) c.in_err-put_numbers.ensures.err))

pub returns-then-starved-clause-ok : goal.returns-then-starved-clause-ok
returns-then-starved-clause-ok g c =
    rw c.if-starved.true
    (on_ok_weaker c.put.result
    (λ put. subst (λ text. g.W.Sink.takes c.args.out.now text c.put.new.self) (drained_text c.args.done c.args.left true)
    (g.met.W.Sink.laws.then _ _ _ _ _ c.in_ok-put_numbers.ensures.ok put))
    c.put.ensures.ok)

pub returns-then-starved-clause-err : goal.returns-then-starved-clause-err
returns-then-starved-clause-err g c =
    rw c.if-starved.true
    (on_err_weaker c.put.result
    (λ put. subst (λ text. g.W.Sink.takes_front c.args.out.now text c.put.new.self) (drained_text c.args.done c.args.left true)
    (g.met.W.Sink.laws.then_front _ _ _ _ _ c.in_ok-put_numbers.ensures.ok put))
    c.put.ensures.err)
