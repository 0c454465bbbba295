-- The places that are new are so many that the place is one.
use Rattle.std.proofs.Common.{rules, ◌≡◌, ◌+◌, length, replicate, None, ap, ◌∙◌, arith}
use Rattle.std.proofs.lemmas.List.{length-append, length-replicate}
use Rattle.ring_mux.proofs.mux.make_place.Goals as goal

pub returns-clause-grown : goal.returns-clause-grown
returns-clause-grown g c =
    let old : length c.args.list.now.items ≡ c.len.result = search rules in
    let new : length c.loop.list.items ≡ length c.args.list.now.items + c.loop.counter =
    ap length c.loop.invariant.items ∙ length-append c.args.list.now.items (replicate c.loop.counter None) ∙ ap (λ n. length c.args.list.now.items + n) (length-replicate c.loop.counter None) in
    let more = c.saturating_sub-more.ensures in
    let all = c.loop-test.false in
    let most = c.loop.auto.counter-end in
    record {
      more = c.loop.counter;
      items = c.loop.invariant.items;
      inside = omega (arith, old, new, more, all);
      within = λ bound few place. omega (arith, old, new, more, most, few, place);
    }
