-- The first bit of the word that the summary's first bit names is the first.
use Rattle.std.proofs.Common.{◌≡◌, ◌<◌, ◌^◌, length, get_or, arith, rules, w64}
use Rattle.std.specs.Int.{trailing_zeros}
use Rattle.ring_world.proofs.Bits.{summed_first, summed_within}
use Rattle.ring_world.proofs.link_set.LinkSet.first.Goals as goal

pub bounds-self-index : goal.bounds-self-index
bounds-self-index c =
    let set = c.args.self.now in
    let fits : set.summary < 2 ^ 64 = search rules in
    let size : length set.words ≡ 8 = search rules in
    omega (arith, size, summed_within set.words set.summary set.sums c.if-self-eq0.false fits)

pub returns : goal.returns
returns c =
    let set = c.args.self.now in
    let fits : set.summary < 2 ^ 64 = search rules in
    let few : get_or set.words (trailing_zeros w64 set.summary) 0 < 2 ^ 64 = search rules in
    summed_first set.words set.summary set.sums c.if-self-eq0.false fits few
