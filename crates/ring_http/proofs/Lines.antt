-- A text followed by an LF reads as the text alone: the lexer passes over the LF.
use Rattle.std.proofs.Common.{◌≡◌, ◌++◌, ◌∷◌, ◌∙◌, ◌&&◌, [], ℕ, Bool, List, Option, Some, true, false, cond, ap, ap₂, append_assoc, codes, option_and_then, refl, subst, sym}
use Rattle.json.specs.Json as json
use Rattle.json.specs.Token.{Token, begin_object, end_object, begin_array, end_array, key, string, number, boolean, null, bad}
use Rattle.json.specs.Word.{ends_word, word}
use Rattle.json.specs.Lex.{between, colon, comma, fresh, lex, punctuate, string_token, token, tokens}
use Rattle.json.specs.Print.{ArePrintableOrBad, IsPrintableOrBad, begins, ends, escape, print, print_from, quoted, separator, token_text}
use Rattle.json.proofs.Numbered.{ArePrintableOrBad-tokens}
use Rattle.json.proofs.Printed.Numbers.{in_word-ended, lex-number}
use Rattle.json.proofs.Printed.Strings.{content-escape, lex-escape}
use Rattle.serde_json.specs.Data.{Data}
use Rattle.serde_json.specs.Read.{max_depth, of_json, read}
use Rattle.serde_json.specs.Written.{compact_text}

-- ---- one token, and the text after it

lex-quoted : (s r : List ℕ) → lex between (quoted s ++ r) ≡ token (string s) ∷ lex between r
unfolding lex
lex-quoted s r =
    ap (λ l. lex between (34 ∷ l)) (append_assoc (escape s) (34 ∷ []) r)
    ∙ ap₂ (λ o l. token (string_token o) ∷ l) (content-escape s r) (lex-escape s r)

lex-key : (s r : List ℕ)
    → lex between ((quoted s ++ 58 ∷ []) ++ r) ≡ token (string s) ∷ colon ∷ lex between r
unfolding lex
lex-key s r = ap (lex between) (append_assoc (quoted s) (58 ∷ []) r) ∙ lex-quoted s (58 ∷ r)

lex-boolean : (b : Bool) (r : List ℕ) → ends_word r ≡ true
    → lex between (token_text (boolean b) ++ r) ≡ token (boolean b) ∷ lex between r
unfolding lex word
lex-boolean true r over =
    ap₂ (λ b l. token (cond b (boolean true) bad) ∷ l) over (in_word-ended r over)
lex-boolean false r over =
    ap₂ (λ b l. token (cond b (boolean false) bad) ∷ l) over (in_word-ended r over)

lex-null : (r : List ℕ) → ends_word r ≡ true
    → lex between (token_text null ++ r) ≡ token null ∷ lex between r
unfolding lex word
lex-null r over = ap₂ (λ b l. token (cond b null bad) ∷ l) over (in_word-ended r over)

-- ---- two texts that are read alike

-- a token that ends a value is over before this text
abbrev IsOver : Token → List ℕ → Type 0
IsOver t r = ends t ≡ true → ends_word r ≡ true

-- they are read alike after a token
alike : (t : Token) (r s : List ℕ) → IsPrintableOrBad t → IsOver t r → IsOver t s
    → lex between r ≡ lex between s
    → lex between (token_text t ++ r) ≡ lex between (token_text t ++ s)
unfolding lex
alike begin_object r s h over_r over_s same = ap (λ l. token begin_object ∷ l) same
alike end_object r s h over_r over_s same = ap (λ l. token end_object ∷ l) same
alike begin_array r s h over_r over_s same = ap (λ l. token begin_array ∷ l) same
alike end_array r s h over_r over_s same = ap (λ l. token end_array ∷ l) same
alike (key k) r s h over_r over_s same =
    lex-key k r ∙ ap (λ l. token (string k) ∷ colon ∷ l) same ∙ sym (lex-key k s)
alike (string k) r s h over_r over_s same =
    lex-quoted k r ∙ ap (λ l. token (string k) ∷ l) same ∙ sym (lex-quoted k s)
alike (number n) r s h over_r over_s same =
    lex-number n r h (over_r refl) ∙ ap (λ l. token (number n) ∷ l) same
    ∙ sym (lex-number n s h (over_s refl))
alike (boolean b) r s h over_r over_s same =
    lex-boolean b r (over_r refl) ∙ ap (λ l. token (boolean b) ∷ l) same
    ∙ sym (lex-boolean b s (over_s refl))
alike null r s h over_r over_s same =
    lex-null r (over_r refl) ∙ ap (λ l. token null ∷ l) same ∙ sym (lex-null s (over_s refl))
alike bad r s h over_r over_s same = same

-- they are read alike after a comma, if there is one
alike_later : (later : Bool) (r s : List ℕ) → lex between r ≡ lex between s
    → lex between (cond later (44 ∷ []) [] ++ r) ≡ lex between (cond later (44 ∷ []) [] ++ s)
unfolding lex
alike_later true r s same = ap (λ l. comma ∷ l) same
alike_later false r s same = same

-- ---- a text with an LF

-- a value is followed by a comma, a closing bracket or the end
over_text : (ts : List Token) → ends_word (print_from true ts) ≡ true
unfolding print_from
over_text [] = refl
over_text (bad ∷ ts) = refl
over_text (t ∷ ts) = refl

-- or by the LF
over_line : (ts : List Token) → ends_word (print_from true ts ++ 10 ∷ []) ≡ true
unfolding print_from
over_line [] = refl
over_line (bad ∷ ts) = refl
over_line (t ∷ ts) = refl

lex-line : (later : Bool) (ts : List Token) → ArePrintableOrBad ts
    → lex between (print_from later ts ++ 10 ∷ []) ≡ lex between (print_from later ts)
unfolding lex print_from
lex-line later [] h = refl
lex-line later (t ∷ ts) h =
    let rest = print_from (ends t) ts in
    let line = rest ++ 10 ∷ [] in
    let over_l : IsOver t line =
    λ e. ap (λ b. ends_word (print_from b ts ++ 10 ∷ [])) e ∙ over_line ts in
    let over_r : IsOver t rest = λ e. ap (λ b. ends_word (print_from b ts)) e ∙ over_text ts in
    let comma = separator later t in
    ap (lex between) (append_assoc comma (token_text t ++ rest) (10 ∷ []))
    ∙ ap (λ l. lex between (comma ++ l)) (append_assoc (token_text t) rest (10 ∷ []))
    ∙ alike_later (later && begins t) _ _
    (alike t line rest h.0 over_l over_r (lex-line (ends t) ts h.1))

-- ---- what is read

-- the value that tokens are
abbrev value_of : List Token → Option Data
value_of ts =
    option_and_then of_json
    (option_and_then (λ p. json.if_last p.0 p.1) (json.value max_depth ts))

-- a text as it is printed reads the same with an LF
read_line : (text : List ℕ) → text ≡ print (tokens text)
    → read (text ++ codes "\n") ≡ read text
read_line text printed =
    ap (λ l. value_of (punctuate fresh l))
    (ap (λ l. lex between (l ++ 10 ∷ [])) printed
    ∙ lex-line false (tokens text) (ArePrintableOrBad-tokens text)
    ∙ sym (ap (lex between) printed))

-- A value that was written as these bytes reads back from its line.
pub line_reads : (bytes : List ℕ) (value : Data) → bytes ≡ compact_text value
    → bytes ≡ print (tokens bytes) → read bytes ≡ Some value
    → read (compact_text value ++ codes "\n") ≡ Some value
line_reads bytes value text compact back =
    let whole = read_line bytes compact ∙ back in
    subst (λ (l : List ℕ). read (l ++ codes "\n") ≡ Some value) text whole
