-- A takeover, worked: all premises hold of it. Process 7 puts a text and an entry, and process 8
-- takes over. An entry of process 7 comes too late, and comes again once the text of 8 counts.
use Rattle.std.proofs.Common.{◌≡◌, ◌⊎◌, inl, inr, ℕ, zero, suc, List, [], ◌∷◌, Some, None, slice_get, refl, ap, sym, ◌∙◌, arith}
use Rattle.ring_etcd.proofs.Steps.{same}
use Rattle.ring_etcd.specs.Log.{AreFresh, AreInTurn, Entry, Request, Succeeds, Text, WereAt, log_after, put, switch}

abbrev begun : Request
begun = switch 0 1 7 (70 ∷ [])

abbrev mark : Request
mark = put 7 2 (8 ∷ [])

abbrev late : Request
late = put 7 2 (72 ∷ [])

abbrev turned : Request
turned = switch 7 3 8 (80 ∷ [])

abbrev taken : List Request
taken = late ∷ mark ∷ put 7 1 (71 ∷ []) ∷ begun ∷ []

abbrev read : List (List ℕ)
read = (70 ∷ []) ∷ (71 ∷ []) ∷ (8 ∷ []) ∷ []

abbrev history : List Request
history = late ∷ turned ∷ taken

late-changes-nothing : (log_after taken).at 2 ≡ Some (8 ∷ [])
late-changes-nothing = refl

last-text : (log_after history).text ≡ 8
last-text = refl

last-bytes : (log_after history).at 0 ≡ Some (80 ∷ [])
last-bytes = refl

last-entries : (log_after history).at 1 ≡ None
last-entries = refl

turns : Succeeds (log_after taken) turned
turns = (refl, refl)

were-read : WereAt taken 7 read
were-read zero value there = inl (refl, there)
were-read (suc zero) value there = inl (refl, there)
were-read (suc (suc zero)) value there = inl (refl, there)
were-read (suc (suc (suc n))) value there = cc

in-turn : AreInTurn history
in-turn = (
  record { last = 1; value = 71 ∷ []; next = refl; was = inr (inr (inl (refl, refl))) },
  (
    record { last = 2; value = 8 ∷ []; next = refl; was = inl (refl, refl) },
    (
      record { last = 1; value = 71 ∷ []; next = refl; was = inl (refl, refl) },
      (
        record { last = 1; value = 71 ∷ []; next = refl; was = inl (refl, refl) },
        (
          record { last = 0; value = 70 ∷ []; next = refl; was = inl (refl, refl) },
          (record { last = 0; value = []; next = refl; was = (refl, refl) }, tt),
        ),
      ),
    ),
  ),
)

asks : (request : Request) (text number new : ℕ) (bytes : List ℕ) → Some request ≡ Some (switch text number new bytes) → (text ≡ request.text) × (Text new bytes ≡ request.asked)
asks request text number new bytes there =
    let is = same refl there in
    (sym (ap (λ (r : Request). r.text) is), sym (ap (λ (r : Request). r.asked) is))

no_text : {new : ℕ} {bytes entry : List ℕ} → Text new bytes ≡ Entry entry → ⊥
no_text is = cc

parts : {a b : ℕ} {x y : List ℕ} → Text a x ≡ Text b y → (a ≡ b) × (x ≡ y)
parts is = (cc, cc)

-- The two requests for a text.
texts : (place text number new : ℕ) (bytes : List ℕ) → slice_get history place ≡ Some (switch text number new bytes) → ((text ≡ 0) × (Text new bytes ≡ Text 7 (70 ∷ []))) ⊎ ((text ≡ 7) × (Text new bytes ≡ Text 8 (80 ∷ [])))
texts zero text number new bytes there = absurd (no_text (asks late text number new bytes there).1)
texts (suc zero) text number new bytes there = inr (asks turned text number new bytes there)
texts (suc (suc zero)) text number new bytes there = absurd (no_text (asks late text number new bytes there).1)
texts (suc (suc (suc zero))) text number new bytes there = absurd (no_text (asks mark text number new bytes there).1)
texts (suc (suc (suc (suc zero)))) text number new bytes there = absurd (no_text (asks (put 7 1 (71 ∷ [])) text number new bytes there).1)
texts (suc (suc (suc (suc (suc zero))))) text number new bytes there = inl (asks begun text number new bytes there)
texts (suc (suc (suc (suc (suc (suc n)))))) text number new bytes there = cc

is-fresh : AreFresh history
is-fresh = record {
  not_first = λ place text number bytes there. elim (texts place text number 0 bytes there) [
    | inl a ↦ absurd (omega (arith, (parts a.1).0))
    | inr a ↦ absurd (omega (arith, (parts a.1).0))
  ];
  one_text = λ i j new t n u m x y at_i at_j. elim (texts i t n new x at_i) [
    | inl a ↦ elim (texts j u m new y at_j) [
      | inl b ↦ (a.0 ∙ sym b.0, (parts (a.1 ∙ sym b.1)).1)
      | inr b ↦ absurd (omega (arith, (parts a.1).0, (parts b.1).0))
    ]
    | inr a ↦ elim (texts j u m new y at_j) [
      | inl b ↦ absurd (omega (arith, (parts a.1).0, (parts b.1).0))
      | inr b ↦ (a.0 ∙ sym b.0, (parts (a.1 ∙ sym b.1)).1)
    ]
  ];
}
