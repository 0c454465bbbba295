-- The number that is read for an option, if its text is in the option's range.
use Rattle.std.proofs.Common.{◌≡◌, ◌∙◌, ◌<◌, ◌^◌, ℕ, Bor, Option, Some, None, Result, Ok, ap, sym, refl, subst, inl, inr, option_map}
use Rattle.std.specs.Prelude.{pos, unwrap_or}
use Rattle.std.specs.Str.Parse.{ParsesUnsigned}
use Rattle.clap.specs.Lexer.{without_minus}
use Rattle.clap.specs.Matches.{ReadsOne, one_text}
use Rattle.clap.specs.Values.{IsSignedIn}
use Rattle.clap.specs.Walk.{Text, one_of, rows_of}
use Rattle.clap.specs.declared.parser.matches.Found.{Found}
use Rattle.clap.proofs.CallerReads.{signed_reads}
use Rattle.clap.proofs.WalkLemmas.{one_text-rows}
use Rattle.ring_words.specs.Words.{IsGivenOr, IsNumberIn}
use Rattle.ring_words.specs.private.Words.{MayHaveNumber}

-- what parsing a text as a number of 32 bits comes to
abbrev pub Parses : {E : Type 0} → Text → Result ℕ E → Type 0
Parses text answer = ParsesUnsigned 32 10 text answer

module _ {E : Type 0} (gives : Text → Result ℕ E → Type 0) (only : (text : Text) (answer : Result ℕ E) → gives text answer → Parses text answer) (least most : ℕ) (fits : most < 2 ^ 32) where
  -- the number of a text that passed the range
  pub number_read : (text : Text) (r : Option ℕ) → ReadsOne gives (without_minus text) r → IsSignedIn (pos least) (pos most) text → (n : ℕ) × (r ≡ Some n) × IsNumberIn least most (without_minus text) n
  number_read text r reads passed =
      let got = signed_reads E gives 32 least most text r reads only fits passed in
      let here : ReadsOne gives (without_minus text) (Some got.0) = subst (λ (o : Option ℕ). ReadsOne gives (without_minus text) o) got.1 reads in
      (got.0, got.1, record { value = (only (without_minus text) (Ok got.0) here).1; some = got.2; few = got.3 })

  -- the number that is given for an option, or the usual one
  pub number_or : (usual : ℕ) (name : Text) (found : Found) (r : Option ℕ) → (one_text found name ≡ None → r ≡ None) → ((text : Text) → one_text found name ≡ Some text → ReadsOne gives text r)
      → MayHaveNumber name least most (rows_of found) → IsGivenOr usual least most (one_of name (rows_of found)) (unwrap_or r usual)
  number_or usual name found r none some (inl left_out) =
      subst (λ (o : Option Text). IsGivenOr usual least most o (unwrap_or r usual)) (sym left_out)
      (ap (λ (o : Option ℕ). unwrap_or o usual) (none (one_text-rows found name ∙ left_out)))
  number_or usual name found r none some (inr has) =
      let got = number_read has.text r (some (without_minus has.text) (one_text-rows found name ∙ has.given)) has.passed in
      subst (λ (o : Option Text). IsGivenOr usual least most o (unwrap_or r usual)) (sym has.given)
      (subst (λ (o : Option ℕ). IsNumberIn least most (without_minus has.text) (unwrap_or o usual)) (sym got.1) got.2)

-- a text that is there is not missing
pub text_given : (r : Option (Bor Text)) (path : Text) → option_map (λ s. s.now) r ≡ Some path → ((s : Bor Text) → r ≡ Some s → ⊥) → ⊥
text_given None path given none = absurd (cc)
text_given (Some s) path given none = none s refl

-- and is the one that was read
pub text_read : (r : Option (Bor Text)) (s : Bor Text) (path : Text) → option_map (λ t. t.now) r ≡ Some path → r ≡ Some s → s.now ≡ path
text_read None s path given is = absurd (cc)
text_read (Some t) s path given is = cc
