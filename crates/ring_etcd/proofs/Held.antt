-- What an engine holds, with one more entry.
use Rattle.std.proofs.Common.{◌≡◌, ℕ, List, [], ◌∷◌, ◌++◌, length, map, refl, ap, sym, ◌∙◌, append_assoc, append-nil}
use Rattle.std.specs.Prelude.{None}
use Rattle.ring_etcd.specs.Holding.{joined, moment_of}

pub joined-push : (held : List (List ℕ)) (entry : List ℕ) → joined (held ++ entry ∷ []) ≡ joined held ++ entry
joined-push [] entry = append-nil entry
joined-push (first ∷ held) entry = ap (λ (l : List ℕ). first ++ l) (joined-push held entry) ∙ sym (append_assoc first (joined held) entry)

pub map_push : {A : Type 0} (f : A → List ℕ) (old : List A) (x : A) → map f (old ++ x ∷ []) ≡ map f old ++ f x ∷ []
map_push f [] x = refl
map_push f (first ∷ old) x = ap (λ l. f first ∷ l) (map_push f old x)

pub put_all : (new old : List (List ℕ)) (entry left text : List ℕ) → new ≡ old ++ entry ∷ [] → left ≡ [] → joined old ++ entry ≡ text → joined new ++ left ≡ text
put_all new old entry left text put none whole =
    ap (λ l. joined new ++ l) none ∙ append-nil (joined new) ∙ ap joined put ∙ joined-push old entry ∙ whole

pub put_len : (new old : List (List ℕ)) (entry text : List ℕ) → new ≡ old ++ entry ∷ [] → joined old ++ entry ≡ text → length (joined new) ≡ length text
put_len new old entry text put whole = ap length (ap joined put ∙ joined-push old entry ∙ whole)

pub begun : (held : List (List ℕ)) (pending text : List ℕ) → held ≡ text ∷ [] → pending ≡ [] → moment_of held pending None ≡ record { text = text; kept = length text; other = None }
begun held pending text is none =
    ap (λ p. moment_of held p None) none ∙ ap (λ h. moment_of h [] None) is ∙ (λ i. record { text = (append-nil (text ++ []) ∙ append-nil text) i; kept = length (append-nil text i); other = None })
