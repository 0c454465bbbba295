-- A text that a request makes count did not count before.
use Rattle.std.proofs.Common.{◌≡◌, ◌≢◌, ◌⊎◌, inl, inr, ℕ, suc, List, [], ◌∷◌, ◌++◌, Some, slice_get, ap, sym, subst, ◌∙◌}
use Rattle.ring_etcd.specs.Log.{AreFresh, Asked, Log, Request, Succeeds, Text, Was, WasAt, changed, log_after, switch}
use Rattle.ring_etcd.proofs.Steps.{passes, puts, steps, turns}

pub fresh_before : (later earlier : List Request) → AreFresh (later ++ earlier) → AreFresh earlier
fresh_before [] earlier fresh = fresh
fresh_before (request ∷ later) earlier fresh = fresh_before later earlier (record {
  not_first = λ place t n x there. fresh.not_first (suc place) t n x there;
  one_text = λ i j new t n u m x y at_i at_j. fresh.one_text (suc i) (suc j) new t n u m x y at_i at_j;
})

abbrev pub Counted : List Request → ℕ → Type 0
Counted history text = Was (λ log. log.text ≡ text) history

pub counts_now : (history : List Request) (text : ℕ) → (log_after history).text ≡ text → Counted history text
counts_now [] text is = is
counts_now (request ∷ earlier) text is = inl is

-- it was so, seen later
pub was_later : (P : Log → Type 0) (later earlier : List Request) → Was P earlier → Was P (later ++ earlier)
was_later P [] earlier was = was
was_later P (request ∷ later) earlier was = inr (was_later P later earlier was)

pub counted : (history : List Request) (text number : ℕ) (value : List ℕ) → WasAt history text number value → Counted history text
counted [] text number value was = was.0
counted (request ∷ earlier) text number value (inl is) = inl is.0
counted (request ∷ earlier) text number value (inr was) = inr (counted earlier text number value was)

-- A text came by a request, in the place of another one that does not count any more.
pub record Came (history : List Request) (text : ℕ) : Type 0 where
  pub place : ℕ
  pub old : ℕ
  pub number : ℕ
  pub bytes : List ℕ
  pub there : slice_get history place ≡ Some (switch old number text bytes)
  pub was : WasAt history text 0 bytes
  pub before : Counted history old
  pub gone : (log_after history).text ≢ old

-- each text that counted is the first one, or came so
abbrev HaveCome : List Request → Type 0
HaveCome history = (text : ℕ) → Counted history text → (text ≡ 0) ⊎ Came history text

-- the request by what it asks for
as_switch : {new : ℕ} {bytes : List ℕ} (request : Request) → request.asked ≡ Text new bytes → ◌≡◌ {A = Request} request (switch request.text request.number new bytes)
as_switch request asks = ap (λ (a : Asked). let r : Request = record { text = request.text; number = request.number; asked = a } in r) asks

module _ (request : Request) (earlier : List Request) (fresh : AreFresh (request ∷ earlier)) (come : HaveCome earlier) where
  not_before : (new : ℕ) (bytes : List ℕ) → request.asked ≡ Text new bytes → Succeeds (log_after earlier) request → Counted earlier new → ⊥
  not_before new bytes asks done was =
      let there : slice_get (request ∷ earlier) 0 ≡ Some (switch request.text request.number new bytes) = ap (λ (r : Request). Some r) (as_switch request asks) in
      elim (come new was) [
        | inl first ↦ fresh.not_first 0 request.text request.number bytes (subst (λ (n : ℕ). slice_get (request ∷ earlier) 0 ≡ Some (switch request.text request.number n bytes)) first there)
        | inr c ↦ c.gone (done.0 ∙ (fresh.one_text 0 (suc c.place) new request.text request.number c.old c.number bytes c.bytes there c.there).0)
      ]

  -- A text that came before came so, if the one that it replaced does not count now.
  came_before : {text : ℕ} (c : Came earlier text) → (log_after (request ∷ earlier)).text ≢ c.old → Came (request ∷ earlier) text
  came_before c gone = record { place = suc c.place; old = c.old; number = c.number; bytes = c.bytes; there = c.there; was = inr c.was; before = inr c.before; gone = gone }

  same_text : (log_after (request ∷ earlier)).text ≡ (log_after earlier).text → HaveCome (request ∷ earlier)
  same_text same text was =
      elim (come text (elim was [ inl is ↦ counts_now earlier text (sym same ∙ is) | inr b ↦ b ])) [
        | inl first ↦ inl first
        | inr c ↦ inr (came_before c (λ is. c.gone (sym same ∙ is)))
      ]

  new_text : (new : ℕ) (bytes : List ℕ) → request.asked ≡ Text new bytes → Succeeds (log_after earlier) request → log_after (request ∷ earlier) ≡ changed (log_after earlier) request.number (Text new bytes) → HaveCome (request ∷ earlier)
  new_text new bytes asks done is text was =
      let is_text : (log_after (request ∷ earlier)).text ≡ new = ap (λ (l : Log). l.text) is in
      let never = not_before new bytes asks done in
      elim was [
        | inl counts ↦
            inr (subst (λ (t : ℕ). Came (request ∷ earlier) t) (sym is_text ∙ counts) (record {
              place = 0;
              old = request.text;
              number = request.number;
              bytes = bytes;
              there = ap (λ (r : Request). Some r) (as_switch request asks);
              was = inl (is_text, ap (λ (l : Log). l.at 0) is);
              before = inr (counts_now earlier request.text done.0);
              gone = λ back. never (counts_now earlier new (done.0 ∙ sym back ∙ is_text));
            }))
        | inr before ↦ elim (come text before) [
          | inl first ↦ inl first
          | inr c ↦ inr (came_before c (λ back. never (subst (λ (t : ℕ). Counted earlier t) (sym back ∙ is_text) c.before)))
        ]
      ]

pub have_come : (history : List Request) → AreFresh history → HaveCome history
have_come [] fresh = λ text was. inl (sym was)
have_come (request ∷ earlier) fresh =
    let come = have_come earlier (fresh_before (request ∷ []) earlier fresh) in
    elim (steps (log_after earlier) request) [
      | passes fails is ↦ same_text request earlier fresh come (ap (λ (l : Log). l.text) is)
      | puts entry asks done is ↦ same_text request earlier fresh come (ap (λ (l : Log). l.text) is)
      | turns new bytes asks done is ↦ new_text request earlier fresh come new bytes asks done is
    ]

pub is_new : (request : Request) (earlier : List Request) (new : ℕ) (bytes : List ℕ) → AreFresh (request ∷ earlier) → request.asked ≡ Text new bytes → Succeeds (log_after earlier) request → Counted earlier new → ⊥
is_new request earlier new bytes fresh =
    not_before request earlier fresh (have_come earlier (fresh_before (request ∷ []) earlier fresh)) new bytes

-- A text that does not count any more never counts again.
pub never_returns : (later earlier : List Request) (text : ℕ) → AreFresh (later ++ earlier) → Counted earlier text → (log_after earlier).text ≢ text → (log_after (later ++ earlier)).text ≢ text
never_returns [] earlier text fresh was gone = gone
never_returns (request ∷ later) earlier text fresh was gone =
    let still = never_returns later earlier text (fresh_before (request ∷ []) (later ++ earlier) fresh) was gone in
    elim (steps (log_after (later ++ earlier)) request) [
      | passes fails is ↦ λ back. still (sym (ap (λ (l : Log). l.text) is) ∙ back)
      | puts entry asks done is ↦ λ back. still (sym (ap (λ (l : Log). l.text) is) ∙ back)
      | turns new bytes asks done is ↦ λ back. is_new request (later ++ earlier) new bytes fresh asks done
          (subst (λ (t : ℕ). Counted (later ++ earlier) t) (sym back ∙ ap (λ (l : Log). l.text) is) (was_later (λ log. log.text ≡ text) later earlier was))
    ]
