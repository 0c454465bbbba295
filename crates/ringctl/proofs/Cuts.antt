-- A text is cut in one way: its port follows its last colon.
use Rattle.std.proofs.Common.{◌≡◌, ◌≢◌, ◌<◌, ◌∙◌, [], ◌∷◌, ◌++◌, ℕ, Err, List, None, Ok, Result, arith, inl, inr, length, lit<, refl, subst, sym, take}
use Rattle.std.specs.Prelude.{◌==◌, ◌↔◌, ◌⊎◌, All, Bool, Contains, IsTrue, IfOk, MatchBool, codes, false, true}
use Rattle.std.specs.List.{AllWithin, HoldsAt}
use Rattle.std.specs.Str.{NoCharPasses}
use Rattle.std.specs.Str.Pattern.{RFindsChar, SplitsAroundMatch}
use Rattle.std.proofs.lemmas.Grind.{get_or_default_zero}
use Rattle.std.proofs.lemmas.List.{take-append-drop}
use Rattle.std.proofs.lemmas.List.Elements.{Contains-append_right}
use Rattle.std.proofs.lemmas.Str.Pattern.{NoCharPasses-char, drop_at_char}
use Rattle.ringctl.specs.Addresses.{IsAddress, IsHostAndPort, IsPort}

-- a colon between two parts of a text is in the text
has_colon : (host port : List ℕ) → Contains (host ++ (58 ∷ port)) 58
has_colon host port = Contains-append_right host (58 ∷ port) 58 (0, omega arith, refl)

-- two cuts at a last colon are one
same_cut : (host port name number : List ℕ) → (Contains port 58 → ⊥) → (Contains number 58 → ⊥)
    → host ++ (58 ∷ port) ≡ name ++ (58 ∷ number) → (host ≡ name) × (port ≡ number)
same_cut [] port [] number last only same = (refl, cc)
same_cut [] port (n ∷ name) number last only same =
    let rest : port ≡ name ++ (58 ∷ number) = cc in
    absurd (last (subst (λ (l : List ℕ). Contains l 58) (sym rest) (has_colon name number)))
same_cut (h ∷ host) port [] number last only same =
    let rest : host ++ (58 ∷ port) ≡ number = cc in
    absurd (only (subst (λ (l : List ℕ). Contains l 58) rest (has_colon host port)))
same_cut (h ∷ host) port (n ∷ name) number last only same =
    let rest : host ++ (58 ∷ port) ≡ name ++ (58 ∷ number) = cc in
    let first : h ≡ n = cc in
    let both = same_cut host port name number last only rest in
    let one : host ≡ name = both.0 in
    (cc, both.1)

-- a text of which no character is a colon has none
no_colon : (text : List ℕ) → NoCharPasses (λ d. d == 58) text → Contains text 58 → ⊥
no_colon text none (k, within, is) =
    NoCharPasses-char 58 text k none (lit< tt) within (sym (get_or_default_zero text k 58 within) ∙ is)

module _ (text : List ℕ) (other : (path : List ℕ) → text ≢ codes "unix:" ++ path) where
  -- a text without a colon is no address, if it does not begin with `unix:`
  pub uncut : RFindsChar 58 text None → IsTrue false ↔ IsAddress text
  uncut none = (λ is. absurd (cc), back)
    where
      back : IsAddress text → IsTrue false
      back (inl (path, is, _)) = absurd (other path is)
      back (inr (_, (host, port, at))) =
          absurd (no_colon text none (subst (λ (l : List ℕ). Contains l 58) (sym at.spelled) (has_colon host port)))

  -- if it is cut at its last colon, it is an address exactly if it has a host and a port
  pub cut : (host port : List ℕ) (r : Bool) → SplitsAroundMatch (RFindsChar 58) text host port
      → (IsTrue r ↔ ((0 < length host) × IsPort port)) → IsTrue r ↔ IsAddress text
  cut host port r (i, j, (none, at), front, rear, _, _, _) both = (λ is. inr (other, (host, port, forth is)), back)
    where
      spelled : text ≡ host ++ (58 ∷ port)
      spelled = subst (λ (l : List ℕ). text ≡ l ++ (58 ∷ port)) (sym front) (subst (λ (l : List ℕ). text ≡ take i text ++ (58 ∷ l)) (sym rear) (subst (λ (l : List ℕ). text ≡ take i text ++ l) (drop_at_char 58 text i j at (lit< tt)) (sym (take-append-drop i text))))

      last : Contains port 58 → ⊥
      last = no_colon port (subst (NoCharPasses (λ d. d == 58)) (sym rear) none)

      forth : IsTrue r → IsHostAndPort text host port
      forth is = record { spelled = spelled; last = last; named = (both.0 is).0; numbered = (both.0 is).1 }

      back : IsAddress text → IsTrue r
      back (inl (path, is, _)) = absurd (other path is)
      back (inr (_, (name, number, there))) =
          let same = same_cut host port name number last there.last (sym spelled ∙ there.spelled) in
          both.1 (subst (λ (l : List ℕ). 0 < length l) (sym same.0) there.named, subst IsPort (sym same.1) there.numbered)

-- `all` over the parts of a text says whether each of them is an address
pub all_of : (r : Bool) (parts : List (List ℕ))
    → MatchBool r (AllWithin IsAddress parts 0 (length parts)) ((k : ℕ) × (k < length parts) × HoldsAt (λ part. IsAddress part → ⊥) parts k)
    → IsTrue r ↔ All IsAddress parts
all_of true parts each = (λ _ k d within. each k d (omega arith) within, λ _. refl)
all_of false parts (k, within, other) = (λ is. absurd (cc), λ all. absurd (other [] (all k [] within)))

-- a text that is not one address may still be several
pub several : (one many : Bool) (P Q : Type 0) → one ≡ false → (IsTrue one ↔ P) → (IsTrue many ↔ Q) → IsTrue many ↔ (P ⊎ Q)
several one many P Q none is are = (λ all. inr (are.0 all), back)
  where
    back : P ⊎ Q → IsTrue many
    back (inl p) = let one_is : one ≡ true = is.1 p in absurd (cc)
    back (inr q) = are.1 q

-- what follows from the value of a result
pub ok_then : {V E : Type 0} (r : Result V E) (P Q : V → Type 0) → ((v : V) → P v → Q v) → IfOk r P → IfOk r Q
ok_then (Ok v) P Q then p = then v p
ok_then (Err e) P Q then p = p
