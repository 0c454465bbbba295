-- Each reply has one spelling, and no bytes spell two replies.
use Rattle.std.proofs.Common.{◌≡◌, ◌<◌, ◌^◌, ◌+◌, ℕ, Bool, true, false, List, [], ◌∷◌, ◌++◌, length, get_or, map, Option, None, Some, IfSome, All, sym, ◌∙◌, ap, arith, refl, codes, decimal}
use Rattle.std.specs.Str.Parse.{digits_value}
use Rattle.std.proofs.Math.ListN.{get_or-append}
use Rattle.std.proofs.lemmas.Bool.{and_from}
use Rattle.std.proofs.lemmas.Fmt.{decimal_is_IsNumeral_wide}
use Rattle.std.proofs.lemmas.Str.Parse.{digit_at}
use Rattle.std.proofs.lemmas.List.{append_cancel_left, append_cancel_right}
use Rattle.std.proofs.lemmas.List.Elements.{All-head, All-tail}
use Rattle.std.proofs.lemmas.List.Folds.{list_all-append}
use Rattle.ring_id.specs.GroupName.{IsName}
use Rattle.ring_id.specs.Identity.{number_of, weight_of}
use Rattle.ring_id.specs.Refusals.{word_in_table}
use Rattle.ring_id.specs.declared.refusal.Refusal.{Refusal}
use Rattle.ring_id.specs.declared.refusal.Refusal.TheVariants.{BadLine, NoGroup, Exists, GroupLimit, Member, NotMember, RingFull, Empty, TermLimit, NoTerm, NotInTerm, OneWay, NoMemory, SeatSpent}
use Rattle.ring_events.specs.declared.reply.Reply.{Reply}
use Rattle.ring_events.specs.declared.reply.Reply.TheVariants.{Done, Term, Leader, Undecided, Members, Terms, Groups, Moved, Idle, Pending, Drained, Refused}
use Rattle.ring_grammar.specs.OneSpelling.{HaveOneSpelling, RepliesAreLines}
use Rattle.ring_grammar.specs.private.Reading.{words_in}
use Rattle.ring_grammar.specs.Identities.{IsNode, node_word, weight_text}
use Rattle.ring_grammar.specs.Spelling.{IsReply, SpellsReply, leader_word, line_of, reply_line, reply_words, starved_words, term_word, term_words}
use Rattle.ring_grammar.proofs.Identities.{same_node}
use Rattle.ring_grammar.proofs.OneEvent.{number_of_first, number_of_word}
use Rattle.ring_grammar.proofs.Plain.{all_plain, is_plain, no_lf-line_of, plain-decimal, plain-name}
use Rattle.ring_grammar.proofs.Words.{plain-node, words_in-line_of_some}

-- no two numbers have one word
same_number : (a b : ℕ) → a < 10 ^ 64 → b < 10 ^ 64 → decimal a ≡ decimal b → a ≡ b
same_number a b p q same = sym (decimal_is_IsNumeral_wide a p).1 ∙ ap (digits_value 10) same ∙ (decimal_is_IsNumeral_wide b q).1

-- no two refusals have one word
same_refusal : (a b : Refusal) → word_in_table a ≡ word_in_table b → a ≡ b
same_refusal BadLine BadLine same = refl
same_refusal NoGroup NoGroup same = refl
same_refusal Exists Exists same = refl
same_refusal GroupLimit GroupLimit same = refl
same_refusal Member Member same = refl
same_refusal NotMember NotMember same = refl
same_refusal RingFull RingFull same = refl
same_refusal Empty Empty same = refl
same_refusal TermLimit TermLimit same = refl
same_refusal NoTerm NoTerm same = refl
same_refusal NotInTerm NotInTerm same = refl
same_refusal OneWay OneWay same = refl
same_refusal NoMemory NoMemory same = refl
same_refusal SeatSpent SeatSpent same = refl
same_refusal _ _ same = absurd (omega (arith, ap number_of_word same))

-- no two lists of identities have the same words
same_nodes : (a b : List ℕ) → All IsNode a → All IsNode b → map node_word a ≡ map node_word b → a ≡ b
same_nodes [] [] p q same = refl
same_nodes [] (y ∷ b) p q same = cc
same_nodes (x ∷ a) [] p q same = cc
same_nodes (x ∷ a) (y ∷ b) p q same =
    let first = same_node x y (All-head IsNode x a p) (All-head IsNode y b q) cc in
    let rest = same_nodes a b (All-tail IsNode x a p) (All-tail IsNode y b q) cc in
    cc

-- a word that begins with a number is no hyphen
no_hyphen : (n : ℕ) (rest : List ℕ) → n < 10 ^ 64 → codes "-" ≡ decimal n ++ rest → ⊥
no_hyphen n rest short same =
    let numeral = (decimal_is_IsNumeral_wide n short).0 in
    let digit = digit_at (decimal n) 0 numeral.1 numeral.0 in
    absurd (omega (arith, digit.0, get_or-append (decimal n) rest 0 0 numeral.0, ap (λ (word : List ℕ). get_or word 0 0) same))

-- no two leaders have one word, and none has that of no leader
same_leader : (a b : Option ℕ) → IfSome a IsNode → IfSome b IsNode → leader_word a ≡ leader_word b → a ≡ b
same_leader None None p q same = refl
same_leader None (Some b) p q same = absurd (no_hyphen (number_of b) (weight_text (weight_of b)) (omega (arith, q.0.1)) same)
same_leader (Some a) None p q same = absurd (no_hyphen (number_of a) (weight_text (weight_of a)) (omega (arith, p.0.1)) (sym same))
same_leader (Some a) (Some b) p q same = ap (λ (n : ℕ). Some n) (same_node a b p q same)

-- no two lists of terms have the same words
same_terms : (first : ℕ) (a b : List (Option ℕ)) → All (λ leader. IfSome leader IsNode) a → All (λ leader. IfSome leader IsNode) b → term_words first a ≡ term_words first b → a ≡ b
same_terms first [] [] p q same = refl
same_terms first [] (y ∷ b) p q same = cc
same_terms first (x ∷ a) [] p q same = cc
same_terms first (x ∷ a) (y ∷ b) p q same =
    let word : term_word first x ≡ term_word first y = cc in
    let colon = append_cancel_left (decimal first) (codes ":" ++ leader_word x) (codes ":" ++ leader_word y) word in
    let leader = same_leader x y (All-head (λ leader. IfSome leader IsNode) x a p) (All-head (λ leader. IfSome leader IsNode) y b q) (append_cancel_left (codes ":") (leader_word x) (leader_word y) colon) in
    let rest = same_terms (first + 1) a b (All-tail (λ leader. IfSome leader IsNode) x a p) (All-tail (λ leader. IfSome leader IsNode) y b q) cc in
    cc

-- whether a drain was starved shows in its last words
same_starved : (a b : Bool) → starved_words a ≡ starved_words b → a ≡ b
same_starved true true same = refl
same_starved true false same = cc
same_starved false true same = cc
same_starved false false same = refl

-- no two replies have the same words
same_reply : (a b : Reply) → IsReply a → IsReply b → reply_words a ≡ reply_words b → a ≡ b
same_reply Done Done p q same = refl
same_reply (Term m) (Term n) p q same = let term = same_number m n (omega arith) (omega arith) cc in cc
same_reply (Leader m a) (Leader n b) p q same = let term = same_number m n (omega arith) (omega arith) cc in let leader = same_node a b p.1 q.1 cc in cc
same_reply (Undecided m) (Undecided n) p q same = let term = same_number m n (omega arith) (omega arith) cc in cc
same_reply (Members a) (Members b) p q same = let members = same_nodes a b p q cc in cc
same_reply (Terms a) (Terms b) p q same = let leaders = same_terms 1 a b p.1 q.1 cc in cc
same_reply (Groups a) (Groups b) p q same = cc
same_reply Moved Moved p q same = refl
same_reply Idle Idle p q same = refl
same_reply (Pending m) (Pending n) p q same = let left = same_number m n (omega arith) (omega arith) cc in cc
same_reply (Drained d m s) (Drained e n t) p q same =
    let done = same_number d e (omega arith) (omega arith) cc in
    let left = same_number m n (omega arith) (omega arith) cc in
    let starved = same_starved s t cc in
    cc
same_reply (Refused r) (Refused t) p q same = let refusal = same_refusal r t cc in cc
same_reply _ _ p q same = absurd (omega (arith, ap number_of_first same))

-- the words of identities are plain
plain-nodes : (nodes : List ℕ) → All IsNode nodes → all_plain (map node_word nodes) ≡ true
plain-nodes [] legal = refl
plain-nodes (node ∷ nodes) legal =
    and_from (is_plain (node_word node)) (all_plain (map node_word nodes)) (plain-node node (All-head IsNode node nodes legal)) (plain-nodes nodes (All-tail IsNode node nodes legal))

-- names are plain
plain-names : (names : List (List ℕ)) → All IsName names → all_plain names ≡ true
plain-names [] legal = refl
plain-names (name ∷ names) legal =
    and_from (is_plain name) (all_plain names) (plain-name name (All-head IsName name names legal)) (plain-names names (All-tail IsName name names legal))

-- the word of a term is plain
plain-leader : (leader : Option ℕ) → IfSome leader IsNode → is_plain (leader_word leader) ≡ true
plain-leader None legal = refl
plain-leader (Some leader) legal = plain-node leader legal

plain-term : (number : ℕ) (leader : Option ℕ) → number < 10 ^ 64 → IfSome leader IsNode → is_plain (term_word number leader) ≡ true
plain-term number leader short legal = rw (list_all-append, plain-decimal number short) (plain-leader leader legal)

plain-terms : (first : ℕ) (leaders : List (Option ℕ)) → first + length leaders < 10 ^ 64 → All (λ leader. IfSome leader IsNode) leaders → all_plain (term_words first leaders) ≡ true
plain-terms first [] short legal = refl
plain-terms first (leader ∷ leaders) short legal =
    and_from (is_plain (term_word first leader)) (all_plain (term_words (first + 1) leaders))
    (plain-term first leader (omega arith) (All-head (λ leader. IfSome leader IsNode) leader leaders legal))
    (plain-terms (first + 1) leaders (omega arith) (All-tail (λ leader. IfSome leader IsNode) leader leaders legal))

plain-refusal : (refusal : Refusal) → is_plain (word_in_table refusal) ≡ true
plain-refusal BadLine = refl
plain-refusal NoGroup = refl
plain-refusal Exists = refl
plain-refusal GroupLimit = refl
plain-refusal Member = refl
plain-refusal NotMember = refl
plain-refusal RingFull = refl
plain-refusal Empty = refl
plain-refusal TermLimit = refl
plain-refusal NoTerm = refl
plain-refusal NotInTerm = refl
plain-refusal OneWay = refl
plain-refusal NoMemory = refl
plain-refusal SeatSpent = refl

plain-starved : (starved : Bool) → all_plain (starved_words starved) ≡ true
plain-starved true = refl
plain-starved false = refl

-- one number and plain words
plain-number : (n : ℕ) (words : List (List ℕ)) → n < 10 ^ 64 → all_plain words ≡ true → all_plain (decimal n ∷ words) ≡ true
plain-number n words short plain = and_from (is_plain (decimal n)) (all_plain words) (plain-decimal n short) plain

-- the words of a reply are plain
plain-reply : (reply : Reply) → IsReply reply → all_plain (reply_words reply) ≡ true
plain-reply Done legal = refl
plain-reply (Term term) legal = plain-number term [] (omega arith) refl
plain-reply (Leader term leader) legal = plain-number term (node_word leader ∷ []) (omega arith) (and_from (is_plain (node_word leader)) true (plain-node leader legal.1) refl)
plain-reply (Undecided term) legal = plain-number term [] (omega arith) refl
plain-reply (Members members) legal = plain-nodes members legal
plain-reply (Terms leaders) legal = plain-terms 1 leaders (omega arith) legal.1
plain-reply (Groups names) legal = plain-names names legal
plain-reply Moved legal = refl
plain-reply Idle legal = refl
plain-reply (Pending left) legal = plain-number left [] (omega arith) refl
plain-reply (Drained done left starved) legal = plain-number done (codes "left" ∷ decimal left ∷ starved_words starved) (omega arith) (plain-number left (starved_words starved) (omega arith) (plain-starved starved))
plain-reply (Refused refusal) legal = and_from (is_plain (word_in_table refusal)) true (plain-refusal refusal) refl

-- a reply has a word
some_words : (reply : Reply) → 0 < length (reply_words reply)
some_words Done = omega arith
some_words (Term term) = omega arith
some_words (Leader term leader) = omega arith
some_words (Undecided term) = omega arith
some_words (Members members) = omega arith
some_words (Terms leaders) = omega arith
some_words (Groups names) = omega arith
some_words Moved = omega arith
some_words Idle = omega arith
some_words (Pending left) = omega arith
some_words (Drained done left starved) = omega arith
some_words (Refused refusal) = omega arith

-- the words of a reply are those of its line
words_in-reply : (reply : Reply) → IsReply reply → words_in (line_of (reply_words reply)) ≡ reply_words reply
words_in-reply reply legal = words_in-line_of_some (reply_words reply) (some_words reply) (plain-reply reply legal)

-- no bytes spell two replies
one_reply : (text : List ℕ) (a b : Reply) → SpellsReply text a → SpellsReply text b → a ≡ b
one_reply text a b p q =
    let same = append_cancel_right (line_of (reply_words a)) (line_of (reply_words b)) (10 ∷ []) (sym p.same ∙ q.same) in
    same_reply a b p.legal q.legal (sym (words_in-reply a p.legal) ∙ ap words_in same ∙ words_in-reply b q.legal)

-- each reply has one spelling, and no bytes spell two
pub replies_have_one_spelling : HaveOneSpelling IsReply SpellsReply
replies_have_one_spelling = record {
  each = λ reply legal. (reply_line reply, record { legal = legal; same = refl });
  one_line = λ a b reply p q. p.same ∙ sym q.same;
  one_value = one_reply;
}

-- a reply is one line
pub replies_are_lines : RepliesAreLines
replies_are_lines = λ text reply spells. (line_of (reply_words reply), spells.same, no_lf-line_of (reply_words reply) (plain-reply reply spells.legal))
