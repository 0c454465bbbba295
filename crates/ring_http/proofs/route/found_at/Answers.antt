-- A path that is none of the texts.
use Rattle.std.proofs.Common.{sym, true≢false}
use Rattle.ring_http.proofs.Paths.{finds_rest}
use Rattle.ring_http.proofs.route.found_at.Goals as goal

pub returns : goal.returns
returns c =
    finds_rest _ c.group_at.result (λ same. true≢false (sym (c.if-is.ensures.1 same))) (λ same. true≢false (sym (c.if-is-2.ensures.1 same))) (λ same. true≢false (sym (c.if-is-3.ensures.1 same)))
    (λ same. true≢false (sym (c.if-is-4.ensures.1 same))) (λ same. true≢false (sym (c.if-is-5.ensures.1 same))) (λ same. true≢false (sym (c.if-is-6.ensures.1 same))) c.group_at.ensures
