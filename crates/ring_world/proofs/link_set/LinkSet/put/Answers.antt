-- One bit of a word is put, and the summary's bit for that word.
use Rattle.std.proofs.Common.{◌≡◌, ◌/◌, ◌%◌, ℕ, length, ap, ◌∙◌, arith, rules, get_or-set_same}
use Rattle.std.specs.Int.{bit_at}
use Rattle.ring_world.proofs.Bits.{marked_none, marked_some, others_stay, summed_put}
use Rattle.ring_world.proofs.link_set.LinkSet.put.Goals as goal

pub offset_bounds-self-index : goal.offset_bounds-self-index
offset_bounds-self-index c = omega arith

pub bounds-self-index : goal.bounds-self-index
bounds-self-index c = omega arith

pub with_bit-word-requires : goal.with_bit-word-requires
with_bit-word-requires c = omega arith

pub offset_bounds-self-index-2 : goal.offset_bounds-self-index-2
offset_bounds-self-index-2 c = omega arith

pub bounds-self-index-2 : goal.bounds-self-index-2
bounds-self-index-2 c = omega arith

pub with_bit-self-requires : goal.with_bit-self-requires
with_bit-self-requires c = omega arith

pub invariant_of-self : goal.invariant_of-self
invariant_of-self c =
    let set = c.args.self.now in
    let size : length set.words ≡ 8 = search rules in
    record {
      sums =
          summed_put set.words set.summary c.with_bit-self.result (c.args.place / 64) c.with_bit-word.result set.sums (omega arith) (omega arith)
          (marked_none c.with_bit-word.result _ c.with_bit-self.ensures.here) (marked_some c.with_bit-word.result _ c.with_bit-self.ensures.here) c.with_bit-self.ensures.others;
    }

pub returns-clause-here : goal.returns-clause-here
returns-clause-here c =
    let words = c.args.self.now.words in
    let size : length words ≡ 8 = search rules in
    ap (λ (n : ℕ). bit_at n (c.args.place % 64)) (get_or-set_same words (c.args.place / 64) c.with_bit-word.result 0 (omega arith)) ∙ c.with_bit-word.ensures.here

pub returns-clause-others : goal.returns-clause-others
returns-clause-others c =
    let words = c.args.self.now.words in
    let size : length words ≡ 8 = search rules in
    others_stay words c.args.place c.with_bit-word.result (omega arith) c.with_bit-word.ensures.others
