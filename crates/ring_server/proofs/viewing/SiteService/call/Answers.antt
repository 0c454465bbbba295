-- A request is answered as the seat does it. At an error the seat is as it was, and so is all the
-- rest.
use Rattle.std.proofs.Common.{◌≡◌, ◌∙◌, ap, refl}
use Rattle.std.proofs.lemmas.Result.{on_err_weaker, on_ok_weaker}
use Rattle.std.specs.Coded.{Coded-set}
use Rattle.atomic_table.specs.Seated.{table_id_coded}
use Rattle.ring_server.proofs.Keeping.{same_with}
use Rattle.ring_server.proofs.viewing.SiteService.call.Goals as goal

pub returns-clause-ok : goal.returns-clause-ok
returns-clause-ok g c =
    on_ok_weaker c.answer.result
    (λ answers. (record { answers = answers; gained = c.answer.ensures.questions; told = c.answer.ensures.told }, refl, refl))
    c.answer.ensures.ok

pub returns-clause-err : goal.returns-clause-err
returns-clause-err g c =
    let site = c.args.self.now in
    on_err_weaker {P = (c.answer.new.seat ≡ site.seated.seat) × (c.answer.new.last ≡ site.last)} c.answer.result
    (λ same.
    same_with same.0 (λ seat. seat.lock ≡ site.seated.front.now.id) (λ seat. Coded-set table_id_coded _ _)
    (λ seat of_front. record site { seated = record site.seated { seat = seat; of_front = of_front }; last = c.answer.new.last }) _ site.seated.of_front
    ∙ ap (λ last. record site { last = last }) same.1)
    c.answer.ensures.err
