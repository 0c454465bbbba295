-- The nodes of a world by their journals, and its links before and after one receipt.
use Rattle.std.proofs.Common.{◌≡◌, ◌≢◌, ◌+◌, ◌<◌, ◌≤◌, ℕ, zero, suc, Bool, true, false, nat_lt, ◌==◌, List, [], ◌∷◌, ◌++◌, length, take, drop, Some, None, slice_get, slice_set, get_or, refl, sym, ap, ◌∙◌, arith, add-one, ◌⊎◌, inl, inr}
use Rattle.std.proofs.lemmas.Bool.Decides.{nat_tests}
use Rattle.std.proofs.Math.Seq.{take-append_seam, drop-append_seam}
use Rattle.ring_id.specs.declared.side.Side.{Side}
use Rattle.ring_id.specs.declared.side.Side.TheVariants.{Left, Right}
use Rattle.ring_election.specs.Traces.{taken_from}
use Rattle.ring_election.specs.Families.{Fitting}
use Rattle.ring_node.specs.declared.charter.Charter.{Charter}
use Rattle.ring_node.specs.declared.packet.Packet.{Packet}
use Rattle.ring_node.specs.Envelopes.{IsProper, index_after}
use Rattle.ring_node.specs.Nodes.{Seated}
use Rattle.ring_world.specs.private.Worlds.{journals_of}
use Rattle.ring_world.specs.Worlds.{node_at, nodes_from, receipts_in}

module _ {E M : Type 0} where
  -- the node that stands at a place
  pub nodes_from-at : (charter : Charter E) (i : ℕ) (journals : List (List (Side × Packet M))) (k : ℕ) (d : Seated E M) → k < length journals
      → get_or (nodes_from charter i journals) k d ≡ record { charter = charter; position = i + k; journal = get_or journals k [] }
  nodes_from-at charter i [] k d h = absurd (omega arith)
  nodes_from-at charter i (journal ∷ journals) zero d h =
      let at : i ≡ i + 0 = omega arith in ap (λ (p : ℕ). record { charter = charter; position = p; journal = journal }) at
  nodes_from-at charter i (journal ∷ journals) (suc k) d h =
      let at : (i + 1) + k ≡ i + suc k = omega arith in
      nodes_from-at charter (i + 1) journals k d (omega arith) ∙ ap (λ (p : ℕ). record { charter = charter; position = p; journal = get_or journals k [] }) at

  pub length-journals_of : (nodes : List (Seated E M)) → length (journals_of nodes) ≡ length nodes
  length-journals_of [] = refl
  length-journals_of (node ∷ nodes) = ap suc (length-journals_of nodes)

  pub journals_of-nodes_from : (charter : Charter E) (i : ℕ) (journals : List (List (Side × Packet M))) → journals_of (nodes_from charter i journals) ≡ journals
  journals_of-nodes_from charter i [] = refl
  journals_of-nodes_from charter i (journal ∷ journals) = ap (λ (l : List (List (Side × Packet M))). journal ∷ l) (journals_of-nodes_from charter (i + 1) journals)

  pub journals_of-set : (nodes : List (Seated E M)) (i : ℕ) (node : Seated E M) → journals_of (slice_set nodes i node) ≡ slice_set (journals_of nodes) i node.journal
  journals_of-set [] i node = refl
  journals_of-set (first ∷ nodes) zero node = refl
  journals_of-set (first ∷ nodes) (suc i) node = ap (λ (l : List (List (Side × Packet M))). first.journal ∷ l) (journals_of-set nodes i node)

  pub nodes_from-set : (charter : Charter E) (a : ℕ) (journals : List (List (Side × Packet M))) (i : ℕ) (journal : List (Side × Packet M))
      → nodes_from charter a (slice_set journals i journal) ≡ slice_set (nodes_from charter a journals) i (record { charter = charter; position = a + i; journal = journal })
  nodes_from-set charter a [] i journal = refl
  nodes_from-set charter a (first ∷ journals) zero journal =
      let at : a ≡ a + 0 = omega arith in
      ap (λ (p : ℕ). record { charter = charter; position = p; journal = journal } ∷ nodes_from charter (a + 1) journals) at
  nodes_from-set charter a (first ∷ journals) (suc i) journal =
      let at : (a + 1) + i ≡ a + suc i = omega arith in
      let rest = nodes_from-set charter (a + 1) journals i journal in
      ap (λ (l : List (Seated E M)). record { charter = charter; position = a; journal = first } ∷ l)
      (rest ∙ ap (λ (p : ℕ). slice_set (nodes_from charter (a + 1) journals) i (record { charter = charter; position = p; journal = journal })) at)

  -- the nodes of one position more
  pub nodes_from-snoc : (charter : Charter E) (a : ℕ) (journals : List (List (Side × Packet M))) (journal : List (Side × Packet M))
      → nodes_from charter a (journals ++ journal ∷ []) ≡ nodes_from charter a journals ++ record { charter = charter; position = a + length journals; journal = journal } ∷ []
  nodes_from-snoc charter a [] journal =
      let at : a ≡ a + 0 = omega arith in ap (λ (p : ℕ). record { charter = charter; position = p; journal = journal } ∷ []) at
  nodes_from-snoc charter a (first ∷ journals) journal =
      let at : (a + 1) + length journals ≡ a + suc (length journals) = omega arith in
      let rest = nodes_from-snoc charter (a + 1) journals journal in
      ap (λ (l : List (Seated E M)). record { charter = charter; position = a; journal = first } ∷ l)
      (rest ∙ ap (λ (p : ℕ). nodes_from charter (a + 1) journals ++ record { charter = charter; position = p; journal = journal } ∷ []) at)

-- what is at the front of the rest of a list
pub slice_get-drop : {A : Type 0} (k : ℕ) (xs : List A) → slice_get (drop k xs) 0 ≡ slice_get xs k
slice_get-drop zero [] = refl
slice_get-drop zero (x ∷ xs) = refl
slice_get-drop (suc k) [] = refl
slice_get-drop (suc k) (x ∷ xs) = slice_get-drop k xs

-- a list whose first element is there
pub front_first : {A : Type 0} (xs : List A) (x : A) → slice_get xs 0 ≡ Some x → xs ≡ x ∷ drop 1 xs
front_first [] x h = cc
front_first (y ∷ xs) x h = let same : y ≡ x = cc in ap (λ z. z ∷ xs) same

-- a first part of a list is followed by the rest of it
pub first_part : {A : Type 0} (taken rest sent : List A) → taken ++ rest ≡ sent → taken ++ drop (length taken) sent ≡ sent
first_part taken rest sent whole = ap (λ l. taken ++ l) (ap (drop (length taken)) (sym whole) ∙ drop-append_seam taken rest) ∙ whole

-- what is at the front of a link is proper at the receiver's next index
pub front_proper : {M : Type 0} (fits : Fitting M) (winner : List ℕ → ℕ) (ring : List ℕ) (from : ℕ) (side : Side) (taken sent : List (Packet M)) (p : Packet M)
    → taken ++ drop (length taken) sent ≡ sent
    → IsProper fits winner ring from side (index_after (take (length taken) sent) p) p
    → IsProper fits winner ring from side (index_after taken p) p
front_proper fits winner ring from side taken sent p sound proper =
    let same : take (length taken) sent ≡ taken = ap (take (length taken)) (sym sound) ∙ take-append_seam taken (drop (length taken) sent) in
    rw same at proper

-- the node at a place of a world's nodes
pub node_of_world : {E M : Type 0} (charter : Charter E) (nodes : List (Seated E M)) (cut : List Bool) → nodes ≡ nodes_from charter 0 (journals_of nodes) → (i : ℕ) (d : Seated E M) → i < length nodes
    → get_or nodes i d ≡ node_at (record { charter = charter; journals = journals_of nodes; cut = cut }) i
node_of_world charter nodes cut are i d within =
    let inside : i < length (journals_of nodes) = rw length-journals_of within in
    let at : 0 + i ≡ i = omega arith in
    ap (λ l. get_or l i d) are
    ∙ nodes_from-at charter 0 (journals_of nodes) i d inside
    ∙ ap (λ (p : ℕ). record { charter = charter; position = p; journal = get_or (journals_of nodes) i [] }) at

-- a list without a first element is empty
pub no_first : {A : Type 0} (xs : List A) → slice_get xs 0 ≡ None → xs ≡ []
no_first [] h = refl
no_first (x ∷ xs) h = cc

-- and so is one without length
pub no_length : {A : Type 0} (xs : List A) → length xs ≤ 0 → xs ≡ []
no_length [] h = refl
no_length (x ∷ xs) h = absurd (omega arith)

-- where a first element is there, the list has a length
pub some_first : {A : Type 0} (xs : List A) (x : A) → slice_get xs 0 ≡ Some x → nat_lt 0 (length xs) ≡ true
some_first [] x h = cc
some_first (y ∷ xs) x h = grind (arith, nat_tests)

pub same_or_not : (j i : ℕ) → (j ≡ i) ⊎ (j ≢ i)
same_or_not j i =
    elim (j == i) as (λ b. (j == i) ≡ b → (j ≡ i) ⊎ (j ≢ i)) [
      | true ↦ λ e. let same : j ≡ i = grind (arith, nat_tests) in inl same
      | false ↦ λ e. let differ : j ≢ i = λ h. grind (arith, nat_tests) in inr differ
    ] refl

-- what is so of both sides of each position below n and of n is so below n + 1
pub each_side_below : (P : ℕ → Side → Type 0) (n : ℕ) → ((i : ℕ) (side : Side) → i < n → P i side) → P n Left → P n Right → (i : ℕ) (side : Side) → i < n + 1 → P i side
each_side_below P n before left right i side below =
    elim (same_or_not i n) [
      | inl here ↦ rw here (elim side as (λ s. P n s) [ Left ↦ left | Right ↦ right ])
      | inr differ ↦ before i side (omega arith)
    ]

-- a node's receipts come from one side or the other
pub length-both_sides : {M : Type 0} (journal : List (Side × M)) → length (taken_from Left journal) + length (taken_from Right journal) ≡ length journal
length-both_sides [] = refl
length-both_sides ((Left, m) ∷ rs) = omega (arith, length-both_sides rs)
length-both_sides ((Right, m) ∷ rs) = omega (arith, length-both_sides rs)

-- the receipts of one position more
pub receipts_in-take : {M : Type 0} (journals : List (List (Side × Packet M))) (i : ℕ) → i < length journals → receipts_in (take (i + 1) journals) ≡ receipts_in (take i journals) + length (get_or journals i [])
receipts_in-take [] i h = absurd (omega arith)
receipts_in-take (journal ∷ journals) zero h = omega arith
receipts_in-take (journal ∷ journals) (suc i) h =
    let rest = receipts_in-take journals i (omega arith) in
    rw add-one (omega (arith, rw add-one at rest))
