-- A text in etcd is read in one way: its members end at the first slash after `etcd://`.
use Rattle.std.proofs.Common.{◌≡◌, ◌≢◌, ◌<◌, ◌∙◌, ◌∷◌, ◌++◌, ℕ, Bor, None, Some, ap, get_or, length, lit<, subst, sym}
use Rattle.std.specs.Prelude.{◌==◌, Contains, false, codes}
use Rattle.std.specs.List.{list_all, slice_split}
use Rattle.std.specs.Str.Pattern.{FindsTextPrefix, StripsPrefix}
use Rattle.std.proofs.lemmas.Grind.{get_or_default_zero}
use Rattle.std.proofs.lemmas.List.Elements.{Contains-get_or}
use Rattle.std.proofs.lemmas.List.Prefix.{front_rest}
use Rattle.std.proofs.lemmas.Str.Pattern.{IsSplitOnceResult, split_after, split_parts}
use Rattle.clap.specs.Words.{Text}
use Rattle.ring_words.specs.Journals.{IsInEtcd, IsJournalName, NamesNoJournal, has_colon}

-- a text without a slash has no slash at any place
no_slash_at : (text : Text) → (Contains text 47 → ⊥) → (i : ℕ) → i < length text → get_or text i 0 ≢ 47
no_slash_at text plain i within is = plain (subst (Contains text) is (Contains-get_or text i 0 within))

-- a text with no slash at any place has none
no_slash : (text : Text) → ((i : ℕ) → i < length text → get_or text i 0 ≢ 47) → Contains text 47 → ⊥
no_slash text other (k, within, is) = other k within (sym (get_or_default_zero text k 47 within) ∙ is)

-- the text after `etcd://`
after_scheme : (text rest more : Text) → text ≡ codes "etcd://" ++ rest → text ≡ codes "etcd://" ++ more → rest ≡ more
after_scheme text rest more is also =
    sym (front_rest text (codes "etcd://") rest is) ∙ front_rest text (codes "etcd://") more also

-- The text is cut around a slash, and any way to read it is this cut.
pub record IsOnlyCut (text members name : Text) : Type 0 where
  pub spelled : text ≡ codes "etcd://" ++ (members ++ (47 ∷ name))
  pub plain : Contains members 47 → ⊥
  pub only : (others other : Text) → IsInEtcd text others other → (members ≡ others) × (name ≡ other)

-- a text whose beginning is stripped
pub stripped : (text rest : Text) → StripsPrefix (FindsTextPrefix (codes "etcd://")) text rest → text ≡ codes "etcd://" ++ rest
stripped text rest (n, (_, is, _), dropped, _) = is ∙ ap (λ (l : Text). codes "etcd://" ++ l) (sym dropped)

-- without a slash after `etcd://` the text names no journal
pub uncut : (text rest : Text) → text ≡ codes "etcd://" ++ rest → IsSplitOnceResult 47 rest None → NamesNoJournal text
uncut text rest is split = (
  (rest, is),
  (λ members name at. split_after 47 rest members name None split (lit< tt) (after_scheme text rest (members ++ (47 ∷ name)) is at.spelled) (no_slash_at members at.asked.plain)),
)

-- a cut at the first slash after `etcd://`
pub cut : (text rest : Text) (members name : Bor Text) → text ≡ codes "etcd://" ++ rest → IsSplitOnceResult 47 rest (Some (members, name)) → IsOnlyCut text members.now name.now
cut text rest members name is split =
    let parts = split_parts 47 rest (Some (members, name)) split (lit< tt) in
    record {
      spelled = is ∙ ap (λ (l : Text). codes "etcd://" ++ l) parts.0;
      plain = no_slash members.now parts.1;
      only = λ others other at. split_after 47 rest others other (Some (members, name)) split (lit< tt) (after_scheme text rest (others ++ (47 ∷ other)) is at.spelled) (no_slash_at others at.asked.plain);
    }

-- a text names no journal if a member has no colon, or if its name is none
pub unasked : (text members name : Text) → IsOnlyCut text members name → list_all has_colon (slice_split (λ b. b == 44) members) ≡ false → NamesNoJournal text
unasked text members name at none = (
  (members ++ (47 ∷ name), at.spelled),
  (λ others other read. absurd (let same = (at.only others other read).0 in let each = read.asked.each in cc)),
)

pub misnamed : (text members name : Text) → IsOnlyCut text members name → (IsJournalName name → ⊥) → NamesNoJournal text
misnamed text members name at none = (
  (members ++ (47 ∷ name), at.spelled),
  (λ others other read. none (subst IsJournalName (sym (at.only others other read).1) read.named)),
)
