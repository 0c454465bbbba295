-- Meshing: inboxes are opened one after another, and senders are handed out from the last one on.
use Rattle.std.proofs.Common.{◌≡◌, ◌+◌, ◌<◌, ◌≤◌, ℕ, List, [], ◌∷◌, ◌++◌, Some, length, map, set, slice_get, take, get_or, All, vec_len, refl, sym, ap, ◌∙◌, subst, inl, inr, arith}
use Rattle.std.specs.Prelude.{Vec}
use Rattle.std.specs.Global.{Global}
use Rattle.std.specs.List.{range_with_len}
use Rattle.std.proofs.lemmas.List.{ext_get_or, get_or-map, get_or-set_other, get_or-set_same, get_or_append_left, get_or_push, get_or_read, length-append, length-map, length-set, take_more}
use Rattle.std.proofs.lemmas.Bool.{cases_lt}
use Rattle.std.proofs.lemmas.List.FromFn.{length-map-range_with_len, map-range_with_len_more}
use Rattle.std.proofs.lemmas.Option.{slice_get-get_or}
use Rattle.ring_inbox.specs.Values.{ReceiverLog, SenderLog, fresh_sender}
use Rattle.ring_service.specs.private.Meshes.{LastsOf, SendersOf}
use Rattle.ring_service.proofs.Lists.{get_there, push_same}

-- the lists have as many senders as are left of each inbox
pub senders_counted : {T : Type 0} (left : ℕ) (receivers : List (ReceiverLog T)) (senders : List (Vec (SenderLog T) Global)) → length senders ≡ length receivers → SendersOf left receivers senders
    → All (λ list. vec_len list ≡ left) senders
senders_counted {T} left receivers senders long all v list within =
    let receiver = (get_there receivers v (omega (arith, within, long))).0 in
    let one = fresh_sender (get_or receivers v receiver).inbox in
    omega (arith, (get_or senders v list).ok.0, ap length (all v receiver list (omega (arith, within, long))), length-map-range_with_len one 0 left)

-- the last receiver that is left is that of the worker of this number
pub takes_receiver : {A : Type 0} (receivers now after : List A) (one : A) (number : ℕ) → now ≡ take (number + 1) receivers → now ≡ after ++ one ∷ [] → number < length receivers
    → (after ≡ take number receivers) × (slice_get receivers number ≡ Some one)
takes_receiver receivers now after one number front last within =
    let same = push_same after (take number receivers) one (get_or receivers number one) (sym last ∙ front ∙ take_more receivers number one within) in
    (same.0, slice_get-get_or receivers number one within ∙ ap (λ x. Some x) (sym same.1))

-- one more inbox is opened
pub opens_more : {T : Type 0} (left : ℕ) (receivers : List (ReceiverLog T)) (senders : List (Vec (SenderLog T) Global)) (one : ReceiverLog T) (own : Vec (SenderLog T) Global)
    → length receivers ≡ length senders → own.items ≡ map (fresh_sender one.inbox) (range_with_len 0 left) → SendersOf left receivers senders
    → SendersOf left (receivers ++ one ∷ []) (senders ++ own ∷ [])
opens_more {T} left receivers senders one own long fresh opened v receiver list within = elim (cases_lt v (length receivers)) [
  | inl before ↦ rw (get_or_append_left receivers (one ∷ []) receiver v before, get_or_append_left senders (own ∷ []) list v (omega (arith, before, long))) (opened v receiver list before)
  | inr not_before ↦
      let last : length receivers ≡ v = omega (arith, not_before, within, length-append receivers (one ∷ [])) in
      rw (get_or_push receivers one receiver v last, get_or_push senders own list v (omega (arith, last, long))) fresh
]

-- the elements that were taken of the lists so far, and the lists that are left
pub record TakesSome {A : Type 0} (index : ℕ) (old now : List (Vec A Global)) (taken : List A) : Type 0 where
  pub lasts : (v : ℕ) (list : Vec A Global) (last : A) → v < index → (get_or old v list).items ≡ (get_or now v list).items ++ get_or taken v last ∷ []
  pub rest : (v : ℕ) (list : Vec A Global) → index ≤ v → get_or now v list ≡ get_or old v list
  pub count : length now ≡ length old
  pub taken_count : length taken ≡ index

pub takes_none : {A : Type 0} (lists : List (Vec A Global)) (taken : List A) → taken ≡ [] → TakesSome 0 lists lists taken
takes_none lists taken none = record {
  lasts = λ v list last below. absurd (omega (arith, below));
  rest = λ v list above. refl;
  count = refl;
  taken_count = ap length none;
}

-- the last of one more list is taken
pub takes_more : {A : Type 0} (index : ℕ) (old now : List (Vec A Global)) (taken after : List A) (own left : Vec A Global) (x : A) → TakesSome index old now taken → index < length now
    → own ≡ get_or now index own → own.items ≡ left.items ++ x ∷ [] → after ≡ taken ++ x ∷ [] → TakesSome (index + 1) old (set now index left) after
takes_more {A} index old now taken after own left x some within is last added = record {
  lasts = λ v list e below. elim (cases_lt v index) [
    | inl before ↦ rw (get_or-set_other now index v left list (omega (arith, before)), added, get_or_append_left taken (x ∷ []) e v (omega (arith, before, some.taken_count))) (some.lasts v list e before)
    | inr not_before ↦
        let here : v ≡ index = omega (arith, below, not_before) in
        let same : get_or old index list ≡ own = sym (some.rest index list (omega arith)) ∙ sym (get_or_read now index own within is list) in
        rw (here, same, get_or-set_same now index left list within, added, get_or_push taken x e index some.taken_count) last
  ];
  rest = λ v list above. get_or-set_other now index v left list (omega (arith, above)) ∙ some.rest v list (omega (arith, above));
  count = length-set now index left ∙ some.count;
  taken_count = rw added (length-append taken (x ∷ []) ∙ ap (λ (n : ℕ). n + 1) some.taken_count);
}

-- one sender of each inbox was taken
pub senders_left : {T : Type 0} (left : ℕ) (receivers : List (ReceiverLog T)) (old new : List (Vec (SenderLog T) Global)) (taken : List (SenderLog T)) → length old ≡ length receivers
    → SendersOf (left + 1) receivers old → LastsOf old new taken → SendersOf left receivers new
senders_left {T} left receivers old new taken long all lasts v receiver list within =
    let one = fresh_sender (get_or receivers v receiver).inbox in
    let last : SenderLog T = one left in
    sym ((push_same (map one (range_with_len 0 left)) (get_or new v list).items (one left) (get_or taken v last)
    (sym (map-range_with_len_more one 0 left left (omega arith)) ∙ sym (all v receiver list within) ∙ lasts v list last (omega (arith, within, long)))).0)

-- and those are the last of each
pub taken_all : {T : Type 0} (left : ℕ) (receivers : List (ReceiverLog T)) (old new : List (Vec (SenderLog T) Global)) (taken : List (SenderLog T)) → length old ≡ length receivers
    → length taken ≡ length receivers → SendersOf (left + 1) receivers old → LastsOf old new taken → taken ≡ map (λ receiver. fresh_sender receiver.inbox left) receivers
taken_all {T} left [] old new [] long count all lasts = refl
taken_all {T} left [] old new (s ∷ taken) long count all lasts = absurd (omega (arith, count))
taken_all {T} left (r ∷ receivers) old new [] long count all lasts = absurd (omega (arith, count))
taken_all {T} left (r ∷ receivers) [] new (s ∷ taken) long count all lasts = absurd (omega (arith, long))
taken_all {T} left (r ∷ receivers) (o ∷ old) new (s ∷ taken) long count all lasts =
    ext_get_or s (s ∷ taken) (map (λ receiver. fresh_sender receiver.inbox left) (r ∷ receivers)) (rw (length-map (r ∷ receivers) (λ receiver. fresh_sender receiver.inbox left)) count)
    (λ v below.
    let one = fresh_sender (get_or (r ∷ receivers) v r).inbox in
    let within : v < length (r ∷ receivers) = omega (arith, below, count) in
    sym ((push_same (map one (range_with_len 0 left)) (get_or new v o).items (one left) (get_or (s ∷ taken) v s)
    (sym (map-range_with_len_more one 0 left left (omega arith)) ∙ sym (all v r o within) ∙ lasts v o s (omega (arith, within, long)))).1)
    ∙ sym (get_or-map (λ receiver. fresh_sender receiver.inbox left) (r ∷ receivers) v r s within))
