-- What was read of a journal, with one more page or entry.
use Rattle.std.proofs.Common.{◌≡◌, ◌+◌, ◌<◌, ℕ, List, [], ◌∷◌, ◌++◌, Option, Some, None, get_or, length, map, take, refl, ap, sym, ◌∙◌, subst, arith, append_assoc, append-nil, length-append, Ok, Err}
use Rattle.std.specs.Prelude.{IfOk, IfSome, IsSomeAnd, Result, codes, decimal, flat_map, option_map, string_bytes}
use Rattle.std.specs.Fmt.{option_append}
use Rattle.std.proofs.lemmas.Grind.{flat_map-append}
use Rattle.std.proofs.lemmas.List.{length-map, length-take-le, map-append, map_more}
use Rattle.serde_json.specs.Data.{Data}
use Rattle.ring_etcd.specs.declared.replies.Pair.{Pair}
use Rattle.ring_etcd.specs.declared.store.Put.{Put}
use Rattle.ring_etcd.specs.declared.store.Put.TheVariants.{Ours}
use Rattle.ring_etcd.specs.Entries.{AreAdded, added, added_by}
use Rattle.ring_etcd.specs.Found.{key_in, pairs_in, value_in}
use Rattle.ring_etcd.specs.Holding.{joined}
use Rattle.ring_etcd.specs.Keys.{codes_from, entry_code, piece_code}
use Rattle.ring_etcd.specs.Readings.{AreEntries, ArePieces, AreRead, IsRead, IsTakenBy}
use Rattle.ring_etcd.specs.private.Paging.{ArePairs, keys_of, values_of}
use Rattle.ring_etcd.specs.private.Taking.{IsPutBehind}
use Rattle.ring_etcd.specs.private.Told.{IsToldPut}
use Rattle.ring_etcd.proofs.Held.{joined-push}

-- what entries add
one_added : (o : Option (List ℕ)) (old new : List ℕ) → IsSomeAnd o (λ bytes. new ≡ old ++ bytes) → option_map (λ bytes. old ++ bytes) (option_append o (Some [])) ≡ Some new
one_added None old new adds = absurd adds
one_added (Some bytes) old new adds = ap Some (ap (λ l. old ++ l) (append-nil bytes) ∙ sym adds)

both_added : (o p : Option (List ℕ)) (old middle new : List ℕ) → option_map (λ bytes. old ++ bytes) o ≡ Some middle → option_map (λ bytes. middle ++ bytes) p ≡ Some new → option_map (λ bytes. old ++ bytes) (option_append o p) ≡ Some new
both_added None p old middle new first then = cc
both_added (Some a) None old middle new first then = cc
both_added (Some a) (Some b) old middle new first then =
    ap Some (sym (append_assoc old a b)) ∙ (ap (λ (o : Option (List ℕ)). option_map (λ l. l ++ b) o) first ∙ then)

append_is_assoc : (o p q : Option (List ℕ)) → option_append (option_append o p) q ≡ option_append o (option_append p q)
append_is_assoc None p q = refl
append_is_assoc (Some a) None q = refl
append_is_assoc (Some a) (Some b) None = refl
append_is_assoc (Some a) (Some b) (Some c) = ap Some (append_assoc a b c)

append_to_none : (o : Option (List ℕ)) → o ≡ option_append (Some []) o
append_to_none None = refl
append_to_none (Some a) = refl

added_by-append : (xs ys : List (List ℕ)) → added_by (xs ++ ys) ≡ option_append (added_by xs) (added_by ys)
added_by-append [] ys = append_to_none (added_by ys)
added_by-append (x ∷ xs) ys =
    ap (λ (o : Option (List ℕ)). option_append (added x) o) (added_by-append xs ys) ∙ sym (append_is_assoc (added x) (added_by xs) (added_by ys))

pub none_added : (old : List ℕ) → AreAdded [] old old
none_added old = ap Some (append-nil old)

pub more_added : (xs ys : List (List ℕ)) (old middle new : List ℕ) → AreAdded xs old middle → AreAdded ys middle new → AreAdded (xs ++ ys) old new
more_added xs ys old middle new first then =
    ap (λ (o : Option (List ℕ)). option_map (λ bytes. old ++ bytes) o) (added_by-append xs ys) ∙ both_added (added_by xs) (added_by ys) old middle new first then

pub entry_added : (xs : List (List ℕ)) (entry old middle new : List ℕ) → AreAdded xs old middle → IsSomeAnd (added entry) (λ bytes. new ≡ middle ++ bytes) → AreAdded (xs ++ entry ∷ []) old new
entry_added xs entry old middle new are adds =
    more_added xs (entry ∷ []) old middle new are (one_added (added entry) middle new adds)

-- the pairs of a page, one after the other
pub next_entry : (page : List Pair) (i : ℕ) (pair : Pair) (entry old middle new : List ℕ) → i < length page → pair ≡ get_or page i pair → entry ≡ pair.value.items → AreAdded (values_of (take i page)) old middle → IsSomeAnd (added entry) (λ bytes. new ≡ middle ++ bytes) → AreAdded (values_of (take (i + 1) page)) old new
next_entry page i pair entry old middle new lt same is are adds =
    subst (λ (l : List (List ℕ)). AreAdded l old new) (sym (map_more (λ (p : Pair). p.value.items) page i pair lt))
    (subst (λ (p : Pair). AreAdded (values_of (take i page) ++ p.value.items ∷ []) old new) same
    (subst (λ (e : List ℕ). AreAdded (values_of (take i page) ++ e ∷ []) old new) is
    (entry_added (values_of (take i page)) entry old middle new are adds)))

pub next_piece : (page : List Pair) (i : ℕ) (pair : Pair) (piece old middle new : List ℕ) → i < length page → pair ≡ get_or page i pair → piece ≡ pair.value.items → middle ≡ old ++ joined (values_of (take i page)) → new ≡ middle ++ piece → new ≡ old ++ joined (values_of (take (i + 1) page))
next_piece page i pair piece old middle new lt same is were now =
    subst (λ (l : List (List ℕ)). new ≡ old ++ joined l) (sym (map_more (λ (p : Pair). p.value.items) page i pair lt))
    (subst (λ (p : Pair). new ≡ old ++ joined (values_of (take i page) ++ p.value.items ∷ [])) same
    (subst (λ (l : List ℕ). new ≡ old ++ joined (values_of (take i page) ++ l ∷ [])) is
    (now ∙ ap (λ (l : List ℕ). l ++ piece) were ∙ append_assoc old (joined (values_of (take i page))) piece ∙ ap (λ (l : List ℕ). old ++ l) (sym (joined-push (values_of (take i page)) piece)))))

-- the keys of a page, one after the other
codes_from-append : (code : ℕ → List ℕ) (first : ℕ) (xs ys : List (List ℕ)) → codes_from code first (xs ++ ys) ≡ codes_from code first xs ++ codes_from code (first + length xs) ys
codes_from-append code first [] ys = ap (λ n. codes_from code n ys) (omega arith)
codes_from-append code first (x ∷ xs) ys =
    ap (λ l. code first ∷ l) (codes_from-append code (first + 1) xs ys ∙ ap (λ n. codes_from code (first + 1) xs ++ codes_from code n ys) (omega arith))

pub next_code : (code : ℕ → List ℕ) (page : List Pair) (i first next : ℕ) (pair : Pair) → i < length page → pair ≡ get_or page i pair → next ≡ first + i → string_bytes pair.key ≡ code next → keys_of (take i page) ≡ codes_from code first (values_of (take i page)) → keys_of (take (i + 1) page) ≡ codes_from code first (values_of (take (i + 1) page))
next_code code page i first next pair lt same count is were =
    let counts : length (values_of (take i page)) ≡ i = length-map (take i page) (λ (p : Pair). p.value.items) ∙ length-take-le i page (omega arith) in
    map_more (λ (p : Pair). string_bytes p.key) page i pair lt
    ∙ (λ j. were j ++ (ap (λ (p : Pair). string_bytes p.key) (sym same) ∙ is ∙ ap code (count ∙ ap (λ n. first + n) (sym counts))) j ∷ [])
    ∙ sym (codes_from-append code first (values_of (take i page)) ((get_or page i pair).value.items ∷ []))
    ∙ ap (λ (l : List (List ℕ)). codes_from code first l) (sym (map_more (λ (p : Pair). p.value.items) page i pair lt))

-- what replies have
pub none_read : (code : ℕ → List ℕ) (first : ℕ) → AreRead code first []
none_read code first = record { replies = []; has_keys = refl; has_values = refl }

-- two readings, one behind the other
read_behind : (code : ℕ → List ℕ) (first next : ℕ) (xs ys : List (List ℕ)) → AreRead code first xs → AreRead code next ys → next ≡ first + length xs → AreRead code first (xs ++ ys)
read_behind code first next xs ys were then count = record {
  replies = were.replies ++ then.replies;
  has_keys = ap (λ (l : List (List ℕ)). map Some l) (codes_from-append code first xs ys)
      ∙ map-append Some (codes_from code first xs) (codes_from code (first + length xs) ys)
      ∙ (λ i. were.has_keys i ++ (ap (λ n. map Some (codes_from code n ys)) (sym count) ∙ then.has_keys) i)
      ∙ sym (map-append key_in (flat_map pairs_in were.replies) (flat_map pairs_in then.replies))
      ∙ ap (λ (l : List Data). map key_in l) (sym (flat_map-append pairs_in were.replies then.replies));
  has_values = map-append Some xs ys ∙ (λ i. were.has_values i ++ then.has_values i)
      ∙ sym (map-append value_in (flat_map pairs_in were.replies) (flat_map pairs_in then.replies))
      ∙ ap (λ (l : List Data). map value_in l) (sym (flat_map-append pairs_in were.replies then.replies));
}

page_read : (code : ℕ → List ℕ) (first : ℕ) (reply : Data) (pairs : List Pair) → ArePairs (pairs_in reply) pairs → keys_of pairs ≡ codes_from code first (values_of pairs) → AreRead code first (values_of pairs)
page_read code first reply pairs are coded = record {
  replies = reply ∷ [];
  has_keys = ap (λ (l : List (List ℕ)). map Some l) (sym coded) ∙ are.0 ∙ ap (λ (l : List Data). map key_in l) (sym (append-nil (pairs_in reply)));
  has_values = are.1 ∙ ap (λ (l : List Data). map value_in l) (sym (append-nil (pairs_in reply)));
}

more_read : (code : ℕ → List ℕ) (first next : ℕ) (values : List (List ℕ)) (reply : Data) (pairs : List Pair) → AreRead code first values → ArePairs (pairs_in reply) pairs → next ≡ first + length values → keys_of pairs ≡ codes_from code next (values_of pairs) → AreRead code first (values ++ values_of pairs)
more_read code first next values reply pairs read are count coded =
    read_behind code first next values (values_of pairs) read (page_read code next reply pairs are coded) count

as_found : (reply : Data) (page pairs : List Pair) → ArePairs (pairs_in reply) page → pairs ≡ page → ArePairs (pairs_in reply) pairs
as_found reply page pairs found same = subst (λ (l : List Pair). ArePairs (pairs_in reply) l) (sym same) found

counted : (values : List (List ℕ)) (pairs : List Pair) → length (values ++ values_of pairs) ≡ length values + length pairs
counted values pairs = length-append values (values_of pairs) ∙ ap (λ n. length values + n) (length-map pairs (λ (p : Pair). p.value.items))

joined-append : (xs ys : List (List ℕ)) → joined xs ++ joined ys ≡ joined (xs ++ ys)
joined-append [] ys = refl
joined-append (x ∷ xs) ys = append_assoc x (joined xs) (joined ys) ∙ ap (λ (l : List ℕ). x ++ l) (joined-append xs ys)

pub no_pieces : (name : List ℕ) (text : ℕ) (old : List ℕ) → ArePieces name text 0 old old
no_pieces name text old = record { pieces = []; were_read = none_read (piece_code name text) 0; count = refl; bytes = sym (append-nil old) }

pub more_pieces : (name : List ℕ) (text number next : ℕ) (old middle new : List ℕ) (reply : Data) (page pairs : List Pair) → ArePieces name text number old middle → ArePairs (pairs_in reply) page → pairs ≡ page → next ≡ number + length pairs → keys_of pairs ≡ codes_from (piece_code name text) number (values_of pairs) → new ≡ middle ++ joined (values_of pairs) → ArePieces name text next old new
more_pieces name text number next old middle new reply page pairs were found same count coded bytes = record {
  pieces = were.pieces ++ values_of pairs;
  were_read = more_read (piece_code name text) 0 number were.pieces reply pairs were.were_read (as_found reply page pairs found same) (omega (arith, were.count)) coded;
  count = count ∙ ap (λ n. n + length pairs) were.count ∙ sym (counted were.pieces pairs);
  bytes = bytes ∙ ap (λ (l : List ℕ). l ++ joined (values_of pairs)) were.bytes ∙ append_assoc old _ _
      ∙ ap (λ (l : List ℕ). old ++ l) (joined-append were.pieces (values_of pairs));
}

pub no_entries : (name : List ℕ) (text first : ℕ) (old : List ℕ) → AreEntries name text first first old old
no_entries name text first old = record { entries = []; were_read = none_read (entry_code name text) first; count = omega arith; bytes = none_added old }

pub entries_behind : (name : List ℕ) (text first next after : ℕ) (old middle new : List ℕ) → AreEntries name text first next old middle → AreEntries name text next after middle new → AreEntries name text first after old new
entries_behind name text first next after old middle new were then = record {
  entries = were.entries ++ then.entries;
  were_read = read_behind (entry_code name text) first next were.entries then.entries were.were_read then.were_read were.count;
  count = omega (arith, were.count, then.count, length-append were.entries then.entries);
  bytes = more_added were.entries then.entries old middle new were.bytes then.bytes;
}

pub more_entries : (name : List ℕ) (text first next after : ℕ) (old middle new : List ℕ) (reply : Data) (page pairs : List Pair) → AreEntries name text first next old middle → ArePairs (pairs_in reply) page → pairs ≡ page → after ≡ next + length pairs → keys_of pairs ≡ codes_from (entry_code name text) next (values_of pairs) → AreAdded (values_of pairs) middle new → AreEntries name text first after old new
more_entries name text first next after old middle new reply page pairs were found same count coded bytes =
    entries_behind name text first next after old middle new were (record {
      entries = values_of pairs;
      were_read = page_read (entry_code name text) next reply pairs (as_found reply page pairs found same) coded;
      count = count ∙ ap (λ n. next + n) (sym (length-map pairs (λ (p : Pair). p.value.items)));
      bytes = bytes;
    })

pub read_is : {E : Type 0} (r : Result ℕ E) (name : List ℕ) (text number : ℕ) (old middle new : List ℕ) → ArePieces name text number old middle → IfOk r (λ next. AreEntries name text 1 next middle new) → IfOk r (λ next. IsRead name text number next old new)
read_is (Ok next) name text number old middle new pieces entries = record { middle = middle; has_pieces = pieces; has_entries = entries }
read_is (Err fault) name text number old middle new pieces entries = entries

-- an own entry behind them
pub put_behind : (name : List ℕ) (text : ℕ) (base mark : List ℕ) (first number next : ℕ) (old new : List ℕ) (put : Put) (reply : Data) → AreEntries name text first number old new → IsToldPut reply mark base put → put ≡ Ours → next ≡ number + 1 → IsPutBehind name text mark first next old new
put_behind name text base mark first number next old new put reply entries told is count = record {
  number = number;
  has_entries = entries;
  is_there = record { reply = reply; says = subst (λ (p : Put). IsToldPut reply mark base p) is told };
  count = count;
}

taken_behind : (name : List ℕ) (text pieces identity first next : ℕ) (old middle new : List ℕ) → IsRead name text pieces first old middle → IsPutBehind name text (codes "t" ++ decimal identity) first next middle new → IsTakenBy name text pieces identity next old new
taken_behind name text pieces identity first next old middle new read behind = record {
  number = behind.number;
  was_read = record {
    middle = read.middle;
    has_pieces = read.has_pieces;
    has_entries = entries_behind name text 1 first behind.number read.middle middle new read.has_entries behind.has_entries;
  };
  is_there = behind.is_there;
  count = behind.count;
}

taken_at : (o : Option ℕ) (name : List ℕ) (text pieces identity first : ℕ) (mark old middle new : List ℕ) → IsRead name text pieces first old middle → mark ≡ codes "t" ++ decimal identity → IfSome o (λ next. IsPutBehind name text mark first next middle new) → IfSome o (λ next. IsTakenBy name text pieces identity next old new)
taken_at None name text pieces identity first mark old middle new read is behind = behind
taken_at (Some next) name text pieces identity first mark old middle new read is behind =
    taken_behind name text pieces identity first next old middle new read (subst (λ (m : List ℕ). IsPutBehind name text m first next middle new) is behind)

pub taken_is : {E : Type 0} (r : Result (Option ℕ) E) (name : List ℕ) (text pieces identity first : ℕ) (mark old middle new : List ℕ) → IsRead name text pieces first old middle → mark ≡ codes "t" ++ decimal identity → IfOk r (λ o. IfSome o (λ next. IsPutBehind name text mark first next middle new)) → IfOk r (λ o. IfSome o (λ next. IsTakenBy name text pieces identity next old new))
taken_is (Ok o) name text pieces identity first mark old middle new read is behind = taken_at o name text pieces identity first mark old middle new read is behind
taken_is (Err fault) name text pieces identity first mark old middle new read is behind = behind
