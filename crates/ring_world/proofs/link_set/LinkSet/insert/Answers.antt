-- One bit of a word is put, and the summary's bit for that word.
use Rattle.std.proofs.Common.{◌≡◌, ◌/◌, ◌%◌, ℕ, length, ap, ◌∙◌, arith, rules, get_or-set_same}
use Rattle.std.specs.Int.{bit_at}
use Rattle.ring_world.proofs.Bits.{bit_not_zero, others_stay, summed_put}
use Rattle.ring_world.proofs.link_set.LinkSet.insert.Goals as goal

pub offset_bounds-self-index : goal.offset_bounds-self-index
offset_bounds-self-index c = omega arith

pub bounds-self-index : goal.bounds-self-index
bounds-self-index c = omega arith

pub with_bit-requires : goal.with_bit-requires
with_bit-requires c = omega arith

pub offset_bounds-self-index-2 : goal.offset_bounds-self-index-2
offset_bounds-self-index-2 c = omega arith

pub bounds-self-index-2 : goal.bounds-self-index-2
bounds-self-index-2 c = omega arith

pub with_bit-self-requires : goal.with_bit-self-requires
with_bit-self-requires c = omega arith

pub invariant_of-self : goal.invariant_of-self
invariant_of-self c =
    let set = c.args.self.now in
    let size : length set.words ≡ 8 = search rules in
    record {
      sums =
          summed_put set.words set.summary c.with_bit-self.result (c.args.place / 64) c.with_bit.result set.sums (omega arith) (omega arith) (λ empty. absurd (omega (arith, empty, c.with_bit-self.ensures.here)))
          (λ _. bit_not_zero c.with_bit.result (c.args.place % 64) c.with_bit.ensures.here) c.with_bit-self.ensures.others;
    }

pub returns-clause-here : goal.returns-clause-here
returns-clause-here c =
    let words = c.args.self.now.words in
    let size : length words ≡ 8 = search rules in
    ap (λ (n : ℕ). bit_at n (c.args.place % 64)) (get_or-set_same words (c.args.place / 64) c.with_bit.result 0 (omega arith)) ∙ c.with_bit.ensures.here

pub returns-clause-others : goal.returns-clause-others
returns-clause-others c =
    let words = c.args.self.now.words in
    let size : length words ≡ 8 = search rules in
    others_stay words c.args.place c.with_bit.result (omega arith) c.with_bit.ensures.others
