-- Lines put word by word.
use Rattle.std.proofs.Common.{◌≡◌, ◌<◌, ◌≤◌, ◌+◌, ℕ, Bool, true, false, List, [], ◌∷◌, ◌++◌, length, take, drop, get_or, map, Option, Result, Ok, Err, OnErr, OnOk, zero, suc, refl, sym, ◌∙◌, ap, subst, append_assoc, append-nil, arith, codes, decimal, if◌then◌else◌}
use Rattle.std.proofs.lemmas.List.{get_or-map, length-map, take-append-drop, take_all, take_more}
use Rattle.std.proofs.lemmas.List.Elements.{All-more}
use Rattle.std.specs.List.{All}
use Rattle.std.specs.Result.{is_ok}
use Rattle.ring_grammar.specs.Sinks.{IsSequence}
use Rattle.ring_grammar.specs.Spelling.{line_of, starved_words, term_word, term_words}

-- what holds anyway holds at an error
pub on_err_anyway : {T E P : Type 0} (result : Result T E) → P → OnErr result P
on_err_anyway (Ok value) p = tt
on_err_anyway (Err fault) p = p

-- and at a value
pub on_ok_anyway : {T E P : Type 0} (result : Result T E) → P → OnOk result P
on_ok_anyway (Ok value) p = p
on_ok_anyway (Err fault) p = tt

-- if a list grew by a text when one result is a value, it grew by it when an equal result is one
pub appended_whole : {T E U F : Type 0} (first : Result T E) (second : Result U F) (old text new : List ℕ) → new ≡ (if is_ok first then old ++ text else old) → is_ok second ≡ is_ok first → OnOk second (new ≡ old ++ text)
appended_whole first (Ok value) old text new items same = rw (← same) at items
appended_whole first (Err fault) old text new items same = tt

-- the end of a reply to a drain
abbrev pub starved_text : Bool → List ℕ
starved_text true = codes " no-memory"
starved_text false = []

-- a reply to a drain, in the parts that are put
pub drained_text : (done left : ℕ) (starved : Bool) → ((codes "drained " ++ decimal done) ++ (codes " left " ++ decimal left)) ++ starved_text starved ≡ line_of (codes "drained" ∷ decimal done ∷ codes "left" ∷ decimal left ∷ starved_words starved)
drained_text done left true = rw append_assoc refl
drained_text done left false = rw append-nil refl

-- a space and each word
abbrev pub spaced : List (List ℕ) → List ℕ
spaced [] = []
spaced (word ∷ words) = 32 ∷ (word ++ spaced words)

-- a line is its first word, and a space and each further word
pub line_of-spaced : (word : List ℕ) (words : List (List ℕ)) → line_of (word ∷ words) ≡ word ++ spaced words
line_of-spaced word [] = sym (append-nil word)
line_of-spaced word (next ∷ words) = ap (λ (text : List ℕ). word ++ 32 ∷ text) (line_of-spaced next words)

spaced-append : (first second : List (List ℕ)) → spaced (first ++ second) ≡ spaced first ++ spaced second
spaced-append [] second = refl
spaced-append (word ∷ words) second = rw (spaced-append words second, append_assoc) refl

-- an element of a list, with its place
pub record IsAt {X : Type 0} (xs : List X) (i : ℕ) (x : X) : Type 0 where
  pub below : i < length xs
  pub is : x ≡ get_or xs i x

-- a value equal to an element is there
pub at_same : {X : Type 0} (xs : List X) (i : ℕ) (x y : X) → y ≡ x → IsAt xs i x → IsAt xs i y
at_same xs i x y same at = rw same at

-- the word of an element is at the element's place
pub at_map : {X : Type 0} (word_of : X → List ℕ) (xs : List X) (i : ℕ) (x : X) → IsAt xs i x → IsAt (map word_of xs) i (word_of x)
at_map word_of xs i x at = record {
  below = omega (arith, at.below, length-map xs word_of);
  is = ap word_of at.is ∙ sym (get_or-map word_of xs i x (word_of x) at.below);
}

-- and so does that of a term
pub at_terms : (first : ℕ) (leaders : List (Option ℕ)) (i number : ℕ) (leader : Option ℕ) → number ≡ first + i → IsAt leaders i leader → IsAt (term_words first leaders) i (term_word number leader)
at_terms first [] i number leader counted at = let bad : i < 0 = at.below in absurd (omega arith)
at_terms first (other ∷ leaders) zero number leader counted at =
    let same : number ≡ first = omega arith in
    record { below = omega arith; is = rw (same, at.is) refl }
at_terms first (other ∷ leaders) (suc i) number leader counted at =
    let rest = at_terms (first + 1) leaders i number leader (omega arith) (record { below = omega (arith, at.below); is = at.is }) in
    record { below = omega (arith, rest.below); is = rest.is }

-- a word for each term
pub length-term_words : (first : ℕ) (leaders : List (Option ℕ)) → length (term_words first leaders) ≡ length leaders
length-term_words first [] = refl
length-term_words first (leader ∷ leaders) = ap suc (length-term_words (first + 1) leaders)

-- So much was put, and what it spells is legal.
pub record PutSoFar {S X : Type 0} (takes : S → List ℕ → S → Type 0) (IsLegal : X → Type 0) (from : S) (text : List ℕ) (spelled : List X) (to : S) : Type 0 where
  pub put : takes from text to
  pub legal : All IsLegal spelled

-- one legal element more
pub legal_more : {X : Type 0} (IsLegal : X → Type 0) (xs : List X) (i : ℕ) (x : X) → IsAt xs i x → All IsLegal (take i xs) → IsLegal x → All IsLegal (take (i + 1) xs)
legal_more IsLegal xs i x at all one = All-more IsLegal xs i x at.below all (subst IsLegal at.is one)

-- all of them
pub legal_all : {X : Type 0} (IsLegal : X → Type 0) (xs : List X) (i : ℕ) → length xs ≤ i → All IsLegal (take i xs) → All IsLegal xs
legal_all IsLegal xs i past all = subst (λ (l : List _). All IsLegal l) (take_all i xs past) all

-- one word more
spaced_more : (head : List ℕ) (words : List (List ℕ)) (i : ℕ) (word : List ℕ) → IsAt words i word → (head ++ spaced (take i words)) ++ (32 ∷ word) ≡ head ++ spaced (take (i + 1) words)
spaced_more head words i word at = rw (take_more words i word at.below, spaced-append, ← at.is, append_assoc, append-nil) refl

-- all words
spaced_all : (head : List ℕ) (words : List (List ℕ)) (i : ℕ) → (head ++ spaced (take i words)) ++ spaced (drop i words) ≡ line_of (head ∷ words)
spaced_all head words i = rw (append_assoc, ← spaced-append, take-append-drop) (sym (line_of-spaced head words))

-- if a second piece was not put, a prefix of it was, and so a prefix of both
pub put_stopped_last : {S T E : Type 0} {takes takes_front : S → List ℕ → S → Type 0} (laws : IsSequence takes takes_front) (result : Result T E) (a b c : S) (first second : List ℕ) → takes a first b → OnErr result (takes_front b second c) → OnErr result (takes_front a (first ++ second) c)
put_stopped_last laws (Ok value) a b c first second put next = tt
put_stopped_last laws (Err fault) a b c first second put next = laws.then_front a b c first second put next

module _ {S : Type 0} {takes takes_front : S → List ℕ → S → Type 0} (laws : IsSequence takes takes_front) (head : List ℕ) (words : List (List ℕ)) where
  -- the first word was put
  pub put_first : {a b : S} → takes a head b → takes a (head ++ spaced (take 0 words)) b
  put_first {a} {b} put = subst (λ text. takes a text b) (sym (append-nil head)) put

  -- a prefix of the first word was put
  pub put_none : {a b : S} → takes_front a head b → takes_front a (line_of (head ∷ words)) b
  put_none {a} {b} put = subst (λ text. takes_front a text b) (sym (line_of-spaced head words)) (laws.front a b head (spaced words) put)

  -- one word more was put
  pub put_next : {a b c : S} (i : ℕ) (word : List ℕ) → IsAt words i word → takes a (head ++ spaced (take i words)) b → takes b (32 ∷ word) c → takes a (head ++ spaced (take (i + 1) words)) c
  put_next {a} {b} {c} i word at put next = subst (λ text. takes a text c) (spaced_more head words i word at) (laws.then a b c (head ++ spaced (take i words)) (32 ∷ word) put next)

  -- a prefix of one more word was put
  pub put_stopped : {a b c : S} (i : ℕ) (word : List ℕ) → IsAt words i word → takes a (head ++ spaced (take i words)) b → takes_front b (32 ∷ word) c → takes_front a (line_of (head ∷ words)) c
  put_stopped {a} {b} {c} i word at put next =
      let more = laws.then_front a b c (head ++ spaced (take i words)) (32 ∷ word) put next in
      subst (λ text. takes_front a text c) (ap (λ (text : List ℕ). text ++ spaced (drop (i + 1) words)) (spaced_more head words i word at) ∙ spaced_all head words (i + 1))
      (laws.front a c ((head ++ spaced (take i words)) ++ (32 ∷ word)) (spaced (drop (i + 1) words)) more)

  -- all words were put
  pub put_last : {a b : S} (i : ℕ) → length words ≤ i → takes a (head ++ spaced (take i words)) b → takes a (line_of (head ∷ words)) b
  put_last {a} {b} i past put = subst (λ text. takes a text b) (rw (take_all i words past) (sym (line_of-spaced head words))) put
