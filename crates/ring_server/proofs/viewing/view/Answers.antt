-- The seat answered the requests of the connection, one after another.
use Rattle.std.proofs.Common.{ap}
use Rattle.http_server.proofs.Theorems.{always_served}
use Rattle.http_server.specs.Connection.{history}
use Rattle.ring_server.proofs.Walking.{walked}
use Rattle.ring_server.proofs.viewing.view.Goals as goal

pub returns-clause-served : goal.returns-clause-served
returns-clause-served g c =
    let all = walked g.T.Tabled.most (λ site. site.base.number) (λ site. site.session) (λ site. (site.seated.seat, site.last)) _ (λ old request response new answers. answers) _ _ _ _ (ap (λ h. h.calls) c.new-connection.ensures.history) c.serve.ensures.calls in
    record { config = _; history = history c.serve.new.connection; served = always_served c.serve.new.connection; last = _; answered = rw c.requires at all.answered }

pub returns-clause-gained : goal.returns-clause-gained
returns-clause-gained g c =
    let all = walked g.T.Tabled.most (λ site. site.base.number) (λ site. site.session) (λ site. (site.seated.seat, site.last)) _ (λ old request response new answers. answers) _ _ _ _ (ap (λ h. h.calls) c.new-connection.ensures.history) c.serve.ensures.calls in
    all.gained

pub returns-clause-told : goal.returns-clause-told
returns-clause-told g c =
    let all = walked g.T.Tabled.most (λ site. site.base.number) (λ site. site.session) (λ site. (site.seated.seat, site.last)) _ (λ old request response new answers. answers) _ _ _ _ (ap (λ h. h.calls) c.new-connection.ensures.history) c.serve.ensures.calls in
    all.told
