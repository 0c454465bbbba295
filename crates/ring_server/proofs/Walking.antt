-- Requests that a seat answers one after another: what each does, all of them do.
use Rattle.std.proofs.Common.{◌≡◌, ◌∙◌, ℕ, inl, inr, List, [], ◌∷◌, ◌++◌, ap, subst, sym}
use Rattle.http.specs.declared.request.Request.{Request}
use Rattle.http_server.specs.Exchange.{Call, Calls, Chain}
use Rattle.http_server.specs.declared.response.Response.{Response}
use Rattle.ring_any.specs.declared.any.Any.{Any}
use Rattle.ring_http.proofs.Questions.{adds_more, adds_none}
use Rattle.ring_turn.specs.Seats.{SeatView}
use Rattle.ring_server.specs.Viewing.{AnswersRequest, GainsQuestions, IsTold}
use Rattle.ring_server.specs.private.Viewing.{Views}

-- a seat that was told after it was told, or not changed
told_after : (old mid new : SeatView Any) → IsTold old mid → IsTold mid new → IsTold old new
told_after old mid new first (inl same) = subst (IsTold old) (sym same) first
told_after old mid new first (inr settled) = inr settled

-- The seat answered these requests.
pub record Walks (base most session : ℕ) (old : SeatView Any × ℕ) (calls : List Call) (new : SeatView Any × ℕ) : Type 0 where
  pub answered : Chain (AnswersRequest base most session) old calls new
  pub gained : GainsQuestions session old.0 new.0
  pub told : IsTold old.0 new.0

module _ {S : Type 0} (most : ℕ) (base_of session_of : S → ℕ) (state_of : S → SeatView Any × ℕ) (answers : S → Request (List ℕ) → Response → S → Type 0)
    (each : (old : S) (request : Request (List ℕ)) (response : Response) (new : S) → answers old request response new
    → Views (base_of old) most (session_of old) (state_of old) request response (state_of new) × (base_of new ≡ base_of old) × (session_of new ≡ session_of old)) where
  pub walks : (calls : List Call) (old new : S) → Chain answers old calls new → Walks (base_of old) most (session_of old) (state_of old) calls (state_of new)
  walks [] old new same = record { answered = ap state_of same; gained = adds_none (session_of old) _ _ (ap (λ (s : S). (state_of s).0.mine) same); told = inl (ap (λ (s : S). (state_of s).0) same) }
  walks (call ∷ calls) old new chain =
      let step = each old call.0 call.1 chain.0 chain.1 in
      let mid = state_of chain.0 in
      let rest : Walks (base_of chain.0) most (session_of chain.0) mid calls (state_of new) = walks calls chain.0 new chain.2 in
      let based : Walks (base_of old) most (session_of chain.0) mid calls (state_of new) = subst (λ (b : ℕ). Walks b most (session_of chain.0) mid calls (state_of new)) step.1 rest in
      let later : Walks (base_of old) most (session_of old) mid calls (state_of new) = subst (λ (k : ℕ). Walks (base_of old) most k mid calls (state_of new)) step.2 based in record {
        answered = (mid, step.0.answers, later.answered);
        gained = adds_more (session_of old) _ _ _ step.0.gained later.gained;
        told = told_after (state_of old).0 mid.0 (state_of new).0 step.0.told later.told;
      }

  -- all calls of a connection that had none
  pub walked : (before after : List Call) (old new : S) → before ≡ [] → Calls answers old new before after → Walks (base_of old) most (session_of old) (state_of old) after (state_of new)
  walked before after old new none calls =
      subst (λ (all : List Call). Walks (base_of old) most (session_of old) (state_of old) all (state_of new)) (sym (calls.1 ∙ ap (λ (first : List Call). first ++ calls.0) none)) (walks calls.0 old new calls.2)
