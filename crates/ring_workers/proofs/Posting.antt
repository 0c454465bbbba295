-- Posting: the envelopes from a place on join a list, one at a time.
use Rattle.std.proofs.Common.{◌≡◌, ◌+◌, ◌<◌, ◌≤◌, ℕ, List, [], ◌∷◌, ◌++◌, Option, Some, None, refl, sym, ap, ◌∙◌, inl, inr, append_assoc, length, length-append, slice_get, zero, suc, arith}
use Rattle.std.specs.Prelude.{IsSome, option_map}
use Rattle.std.proofs.lemmas.List.{append-nil}
use Rattle.std.proofs.lemmas.Bool.{cases_eq, cases_lt}
use Rattle.ring_node.specs.declared.packet.Packet.{Packet}
use Rattle.ring_node.specs.Nodes.{Extends}
use Rattle.ring_workers.specs.private.Posts.{Posted, Posts}
use Rattle.ring_workers.proofs.Among.{among_last, among_left}

-- none has joined
pub posted_none : {A : Type 0} (envelope : ℕ → Option A) (from : ℕ) (old : List A) → Posted envelope from from old old
posted_none envelope from old = record {
  more = [];
  behind = sym (append-nil old);
  each = λ k e above below _. absurd (omega arith);
}

-- the next one has joined
pub posted_next : {A : Type 0} (envelope : ℕ → Option A) (from to : ℕ) (old new : List A) (e : A)
    → Posted envelope from to old new → envelope to ≡ Some e → Posted envelope from (to + 1) old (new ++ e ∷ [])
posted_next {A} envelope from to old new e posted is = record {
  more = posted.more ++ e ∷ [];
  behind = ap (λ l. l ++ e ∷ []) posted.behind ∙ append_assoc old posted.more (e ∷ []);
  each = λ k d above below there. elim (cases_eq k to) [
    | inl same ↦
        let at : envelope to ≡ Some d = ap envelope (sym same) ∙ there in
        let one : e ≡ d = cc in
        rw (← one) (among_last posted.more e)
    | inr differ ↦ among_left posted.more (e ∷ []) d (posted.each k d above (omega arith) there)
  ];
}

-- all have joined
pub posts_all : {A : Type 0} (envelope : ℕ → Option A) (from to : ℕ) (old new : List A)
    → Posted envelope from to old new → ((k : ℕ) → to ≤ k → envelope k ≡ None) → Posts envelope from old new
posts_all envelope from to old new posted none = record {
  more = posted.more;
  behind = posted.behind;
  each = λ k e above there. elim (cases_lt k to) [
    | inl below ↦ posted.each k e above below there
    | inr past ↦ let no : None ≡ Some e = sym (none k past) ∙ there in cc
  ];
}

-- within a list there is an element, and what it is mapped to
pub mapped_within : {A B : Type 0} (f : A → B) (xs : List A) (k : ℕ) → k < length xs → IsSome (option_map f (slice_get xs k))
mapped_within f [] k within = absurd (omega arith)
mapped_within f (x ∷ xs) zero within = refl
mapped_within f (x ∷ xs) (suc k) within = mapped_within f xs k (omega arith)

-- What a node has sent to a side when it took a packet, against what it had sent: how much there is to post, for which
-- there is room.
module _ {M : Type 0} (from most : ℕ) (old new : List (Packet M)) (is : from ≡ length old) (extends : Extends old most new) where
  longer : length new ≡ from + length extends.more
  longer = ap length extends.behind ∙ length-append old extends.more ∙ ap (λ n. n + length extends.more) (sym is)

  pub extended_from : from ≤ length new
  extended_from = let l = longer in omega arith

  pub extended_many : (have : ℕ) → most ≤ have → length new ≤ have + from
  extended_many have enough = let l = longer in let few : length extends.more ≤ most = extends.few in omega arith

  pub extended_room : (len capacity : ℕ) → len + most ≤ capacity → len + length new ≤ capacity + from
  extended_room len capacity enough = let l = longer in let few : length extends.more ≤ most = extends.few in omega arith

  -- what is left behind it
  pub rest_many : (have after rest : ℕ) → most + rest ≤ have → after + length new ≡ have + from → rest ≤ after
  rest_many have after rest enough left = let l = longer in let few : length extends.more ≤ most = extends.few in omega arith

  pub rest_room : (len after capacity left rest : ℕ) → len + (most + rest) ≤ capacity → after + from ≡ len + length new → left ≡ capacity → after + rest ≤ left
  rest_room len after capacity left rest enough grown same = let l = longer in let few : length extends.more ≤ most = extends.few in omega arith

-- within a list there is an element
pub is_within : {A : Type 0} (xs : List A) (k : ℕ) → k < length xs → IsSome (slice_get xs k)
is_within [] k within = absurd (omega arith)
is_within (x ∷ xs) zero within = refl
is_within (x ∷ xs) (suc k) within = is_within xs k (omega arith)

-- one more is stored, where there is room for so many
pub more_fits : (len capacity missing counter : ℕ) → len + missing ≤ capacity + counter → counter < missing → len < capacity
more_fits len capacity missing counter room less = omega arith

pub more_many : (after len before counter : ℕ) → after ≡ len + 1 → len ≡ before + counter → after ≡ before + (counter + 1)
more_many after len before counter one many = omega arith

pub more_room : (after len left capacity missing counter : ℕ) → after ≡ len + 1 → left ≡ capacity → len + missing ≤ capacity + counter → after + missing ≤ left + (counter + 1)
more_room after len left capacity missing counter one same room = omega arith

-- A node that is seated has sent few to each side: there is room for what it sent to one side, and then for the other.
pub first_many : (few have : ℕ) → few ≤ 1 → 2 ≤ have → few ≤ have + 0
first_many few have one enough = omega arith

pub first_room : (len few capacity : ℕ) → few ≤ 1 → len + 2 ≤ capacity → len + few ≤ capacity + 0
first_room len few capacity one enough = omega arith

pub second_many : (few sent have after : ℕ) → few ≤ 1 → sent ≤ 1 → 2 ≤ have → after + sent ≡ have + 0 → few ≤ after + 0
second_many few sent have after one other enough left = omega arith

pub second_room : (few sent len after capacity left : ℕ) → few ≤ 1 → sent ≤ 1 → len + 2 ≤ capacity → after + 0 ≡ len + sent → left ≡ capacity → after + few ≤ left + 0
second_room few sent len after capacity left one other enough grown same = omega arith
