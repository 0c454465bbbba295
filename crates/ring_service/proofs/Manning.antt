-- Manning: a thread for each worker is started, and all are joined.
use Rattle.std.proofs.Common.{◌≡◌, ◌+◌, ◌-◌, ℕ, List, [], ◌∷◌, ◌++◌, Some, length, slice_get, refl, sym, ap, ◌∙◌, subst, inl, inr, arith}
use Rattle.std.specs.declared.thread.PromisedHandle.{PromisedHandle}
use Rattle.std.proofs.lemmas.List.{length-append}
use Rattle.ring_any.specs.declared.any.Any.{Any}
use Rattle.ring_any.specs.declared.any.AnyMsg.{AnyMsg}
use Rattle.ring_any.specs.declared.any.AnyState.{AnyState}
use Rattle.ring_inbox.specs.Values.{ReceiverLog}
use Rattle.ring_service.specs.Handing.{AllHand, HandsAmong}
use Rattle.ring_service.specs.declared.pool.Work.{Work}
use Rattle.ring_service.specs.private.Pools.{IsManned, IsWhole, Joins, Keeps, StartsOne, inboxes_of, number_of}
use Rattle.ring_service.proofs.Lists.{get_before, get_last, get_push, get_there, get_within}
use Rattle.ring_workers.specs.declared.handed.Handed.{Handed}
use Rattle.ring_workers.specs.declared.item.Item.{Item}

-- no threads
pub manned_none : (inboxes : List (ReceiverLog (Item Any AnyMsg AnyState))) (threads : List (PromisedHandle (Handed Any AnyMsg AnyState) Work)) → length threads ≡ 0 → IsManned inboxes threads
manned_none inboxes threads none = record { each = λ place thread there. absurd (omega (arith, none, get_within threads place thread there)) }

-- one more thread, for the worker before
pub manned_more : (inboxes : List (ReceiverLog (Item Any AnyMsg AnyState))) (number : ℕ) (old new : List (PromisedHandle (Handed Any AnyMsg AnyState) Work)) → IsManned inboxes old
    → StartsOne inboxes number old new → number + (length old + 1) ≡ length inboxes → IsManned inboxes new
manned_more inboxes number old new manned starts next = record {
  each = λ place thread there. elim (get_push old starts.thread thread place (subst (λ (l : List (PromisedHandle (Handed Any AnyMsg AnyState) Work)). slice_get l place ≡ Some thread) starts.added there)) [
    | inl before ↦ manned.each place thread before
    | inr last ↦ (rw last.1 starts.inboxes_are, rw (last.1, last.0) (omega (arith, starts.number_is, next)))
  ];
}

-- some threads were joined, and these are left
pub record JoinsSome (all threads : List (PromisedHandle (Handed Any AnyMsg AnyState) Work)) (handed : List (Handed Any AnyMsg AnyState)) : Type 0 where
  pub count : length threads + length handed ≡ length all
  pub rest : (place : ℕ) (thread : PromisedHandle (Handed Any AnyMsg AnyState) Work) → slice_get threads place ≡ Some thread → slice_get all place ≡ Some thread
  pub each : (place behind : ℕ) (thread : PromisedHandle (Handed Any AnyMsg AnyState) Work) (one : Handed Any AnyMsg AnyState) → place + (behind + 1) ≡ length all →
      slice_get all behind ≡ Some thread → slice_get handed place ≡ Some one → Keeps thread.promise one

pub joins_none : (all : List (PromisedHandle (Handed Any AnyMsg AnyState) Work)) (handed : List (Handed Any AnyMsg AnyState)) → length handed ≡ 0 → JoinsSome all all handed
joins_none all handed none = record {
  count = omega (arith, none);
  rest = λ place thread there. there;
  each = λ place behind thread one sum left there. absurd (omega (arith, none, get_within handed place one there));
}

pub joins_more : (all threads left : List (PromisedHandle (Handed Any AnyMsg AnyState) Work)) (thread : PromisedHandle (Handed Any AnyMsg AnyState) Work)
    (handed after : List (Handed Any AnyMsg AnyState)) (one : Handed Any AnyMsg AnyState) → JoinsSome all threads handed → threads ≡ left ++ thread ∷ [] → after ≡ handed ++ one ∷ []
    → Keeps thread.promise one → JoinsSome all left after
joins_more all threads left thread handed after one some last added keeps =
    let there : slice_get all (length left) ≡ Some thread = some.rest (length left) thread (subst (λ (l : List (PromisedHandle (Handed Any AnyMsg AnyState) Work)). slice_get l (length left) ≡ Some thread) (sym last) (get_last left thread)) in
    let longer : length threads ≡ length left + 1 = ap length last ∙ length-append left (thread ∷ []) in
    record {
      count = omega (arith, some.count, longer, ap length added, length-append handed (one ∷ []));
      rest = λ place other here. some.rest place other (subst (λ (l : List (PromisedHandle (Handed Any AnyMsg AnyState) Work)). slice_get l place ≡ Some other) (sym last) (get_before left thread other place here));
      each = λ place behind other two sum of here. elim (get_push handed one two place (subst (λ (l : List (Handed Any AnyMsg AnyState)). slice_get l place ≡ Some two) added here)) [
        | inl before ↦ some.each place behind other two sum of before
        | inr new ↦
            let at : behind ≡ length left = omega (arith, new.0, some.count, longer, sum) in
            let at_end : slice_get all (length left) ≡ Some other = subst (λ (n : ℕ). slice_get all n ≡ Some other) at of in
            let same : other ≡ thread = cc in
            rw (same, new.1) keeps
      ];
    }

pub joins_all : (all threads : List (PromisedHandle (Handed Any AnyMsg AnyState) Work)) (handed : List (Handed Any AnyMsg AnyState)) → JoinsSome all threads handed → length threads ≡ 0 → Joins all handed
joins_all all threads handed some none = record { count = omega (arith, some.count, none); each = some.each }

-- the results of the workers, once all are joined
pub all_hand : (threads : List (PromisedHandle (Handed Any AnyMsg AnyState) Work)) (handed : List (Handed Any AnyMsg AnyState)) → IsWhole threads → Joins threads handed → AllHand handed
all_hand threads handed whole joins = record {
  inboxes = whole.inboxes;
  fresh = whole.fresh;
  count = joins.count ∙ whole.count;
  each = λ number one there.
      let below = get_within handed number one there in
      let behind : (n : ℕ) × (number + (n + 1) ≡ length threads) = (length handed - (number + 1), omega (arith, below, joins.count)) in
      let thread = get_there threads behind.0 (omega (arith, behind.1)) in
      let keeps = joins.each number behind.0 thread.0 one behind.1 thread.1 there in
      let is = whole.manned.each behind.0 thread.0 thread.1 in
      let same : number_of thread.0.promise ≡ number = omega (arith, is.1, behind.1, whole.count) in
      subst (λ (n : ℕ). HandsAmong whole.inboxes n one) same (subst (λ (l : List (ReceiverLog (Item Any AnyMsg AnyState))). HandsAmong l (number_of thread.0.promise) one) is.0 keeps);
}
