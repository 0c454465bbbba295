-- The pairs of a reply, one after the other.
use Rattle.std.proofs.Common.{◌≡◌, ◌+◌, ◌<◌, ℕ, List, [], ◌∷◌, ◌++◌, Option, Some, get_or, length, map, take, refl, ap, sym, ◌∙◌, subst}
use Rattle.std.specs.Prelude.{string_bytes}
use Rattle.std.proofs.lemmas.List.{map_more, map_push}
use Rattle.serde_json.specs.Data.{Data, Items}
use Rattle.serde_json.specs.View.{items_of, items_view, view}
use Rattle.serde_json.specs.declared.value.Value.{Value}
use Rattle.ring_etcd.specs.declared.replies.Pair.{Pair}
use Rattle.ring_etcd.specs.Found.{items_at, items_in, key_in, value_in}
use Rattle.ring_etcd.specs.private.Paging.{ArePairs, IsPair, keys_of, values_of}

push_pair : (found : List Data) (one : Data) (pairs : List Pair) (pair : Pair) → ArePairs found pairs → IsPair one pair → ArePairs (found ++ one ∷ []) (pairs ++ pair ∷ [])
push_pair found one pairs pair are is = (
  ap (λ (l : List (List ℕ)). map Some l) (map_push (λ (p : Pair). string_bytes p.key) pairs pair) ∙ map_push Some (keys_of pairs) (string_bytes pair.key) ∙ (λ i. are.0 i ++ is.0 i ∷ []) ∙ sym (map_push key_in found one),
  ap (λ (l : List (List ℕ)). map Some l) (map_push (λ (p : Pair). p.value.items) pairs pair) ∙ map_push Some (values_of pairs) pair.value.items ∙ (λ i. are.1 i ++ is.1 i ∷ []) ∙ sym (map_push value_in found one),
)

pub next_pair : (found : List Value) (i : ℕ) (one : Value) (pairs new : List Pair) (pair : Pair) → i < length found → ArePairs (map view (take i found)) pairs → one ≡ get_or found i one → IsPair (view one) pair → new ≡ pairs ++ pair ∷ [] → ArePairs (map view (take (i + 1) found)) new
next_pair found i one pairs new pair lt are same is pushed =
    subst (λ (p : List Pair). ArePairs (map view (take (i + 1) found)) p) (sym pushed)
    (subst (λ (l : List Data). ArePairs l (pairs ++ pair ∷ [])) (sym (map_more view found i one lt))
    (subst (λ (v : Value). ArePairs (map view (take i found) ++ view v ∷ []) (pairs ++ pair ∷ [])) same
    (push_pair (map view (take i found)) (view one) pairs pair are is)))

items_back : (found : List Data) → items_in (items_of found) ≡ found
items_back [] = refl
items_back (first ∷ found) = ap (λ l. first ∷ l) (items_back found)

pub page_is : (whole : Option Items) (found slice : List Value) (pairs : List Pair) → Some (items_view found) ≡ whole → slice ≡ found → ArePairs (map view slice) pairs → ArePairs (items_at whole) pairs
page_is whole found slice pairs is same are =
    subst (λ (o : Option Items). ArePairs (items_at o) pairs) is
    (subst (λ (l : List Data). ArePairs l pairs) (sym (items_back (map view found)))
    (subst (λ (l : List Value). ArePairs (map view l) pairs) same are))
