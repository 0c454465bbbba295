-- The laws of an algorithm on a variant hold of it on the sum.
use Rattle.std.specs.Prelude.{◌≡◌, ◌<◌, ℕ, zero, suc, Bool, List, [], ◌∷◌, ◌++◌, length, map, Option, Some, None, option_map, option_and_then, slice_get, refl}
use Rattle.std.proofs.Common.{◌∙◌, sym, ap, subst, arith}
use Rattle.std.proofs.lemmas.Option.{slice_get-map}
use Rattle.ring_id.specs.declared.side.Side.{Side}
use Rattle.ring_id.specs.declared.side.Side.TheVariants.{Left}
use Rattle.ring_id.specs.Sides.{other}
use Rattle.ring_roster.specs.Ring.{neighbour}
use Rattle.ring_election.specs.Tables.{Table, to_side}
use Rattle.ring_election.specs.Traces.{sent_after, state_after, taken_from}
use Rattle.ring_election.specs.Families.{FamilyFits, Fitting, IsComplete, IsSound, taken_in_all}
use Rattle.ring_election.specs.Laws.{Bounded, Deciding, Lawful}
use Rattle.ring_any.specs.laws.Lowered.{OwnMessages, fit-lowered, length-lowered, lowered, own-fit, sent_after-lift_table, some_and, state_from-lift_table, taken_from-lowered, to_side-put_sends}
use Rattle.ring_any.specs.Variants.{Variant, lift_fits, lift_table, of_both, put_sends}

-- the result of a function on a value that is there comes from that value
pub option_map-some : {A B : Type 0} (f : A → B) (o : Option A) (b : B) → option_map f o ≡ Some b → (a : A) × (o ≡ Some a) × (b ≡ f a)
option_map-some f None b is = cc
option_map-some f (Some a) b is = (a, refl, cc)

module _ {W P : Type 0} (v : Variant W P) where
  -- two values that are the same in the sum are the same
  put-injective : (a b : P) → v.put a ≡ v.put b → a ≡ b
  put-injective a b same =
      let there : Some a ≡ Some b = sym (v.of_put a) ∙ ap v.of same ∙ v.of_put b in
      cc

  -- two lists that are the same in the sum are the same
  map_put-injective : (xs ys : List P) → map v.put xs ≡ map v.put ys → xs ≡ ys
  map_put-injective [] [] same = refl
  map_put-injective [] (y ∷ ys) same = cc
  map_put-injective (x ∷ xs) [] same = cc
  map_put-injective (x ∷ xs) (y ∷ ys) same =
      let heads : v.put x ≡ v.put y = cc in
      let tails : map v.put xs ≡ map v.put ys = cc in
      let head = put-injective x y heads in
      let tail = map_put-injective xs ys tails in
      cc

  -- a prefix in the sum is a prefix
  map_put-first_part : (xs ys : List P) (rest : List W) → map v.put xs ++ rest ≡ map v.put ys → (left : List P) × (xs ++ left ≡ ys)
  map_put-first_part [] ys rest parts = (ys, refl)
  map_put-first_part (x ∷ xs) [] rest parts = cc
  map_put-first_part (x ∷ xs) (y ∷ ys) rest parts =
      let heads : v.put x ≡ v.put y = cc in
      let tails : map v.put xs ++ rest ≡ map v.put ys = cc in
      let head = put-injective x y heads in
      let tail = map_put-first_part xs ys rest tails in
      (tail.0, let parts_left = tail.1 in cc)

module _ {WS S WM M : Type 0} (states : Variant WS S) (messages : Variant WM M) (t : Table S M) where
  -- a decision on the sum was made on the variant
  decided-lift_table : (me : ℕ) (rs : List (Side × WM)) → (lift_table states messages t).decided (state_after (lift_table states messages t) me rs) ≡ t.decided (state_after t me (lowered messages rs))
  decided-lift_table me rs =
      ap (λ (s : WS). option_and_then t.decided (states.of s)) (state_from-lift_table states messages t (t.first me) rs)
      ∙ ap (option_and_then t.decided) (states.of_put (state_after t me (lowered messages rs)))

  -- a decision stays on the sum if it stays on the variant
  decision_stays-put : (s : S) (side : Side) (m : WM) (leader : ℕ) → ((v : M) → t.decided s ≡ Some leader → t.decided (t.next s side v) ≡ Some leader)
      → (lift_table states messages t).decided (states.put s) ≡ Some leader → (lift_table states messages t).decided ((lift_table states messages t).next (states.put s) side m) ≡ Some leader
  decision_stays-put s side m leader stays decided =
      let before : t.decided s ≡ Some leader = rw (states.of_put s) at decided in
      rw (states.of_put s)
      (elim (messages.of m) as (λ o. option_and_then t.decided (states.of (of_both (Some s) o (λ inner v. states.put (t.next inner side v)) (states.put s))) ≡ Some leader) [
        | None ↦ decided
        | Some v ↦ rw (states.of_put (t.next s side v)) (stays v before)
      ])

  module _ (fits : Fitting M) where
    -- a message that fits on the variant fits on the sum
    fits-put : (ring : List ℕ) (i : ℕ) (side : Side) (k : ℕ) (m : WM) (v : M) → m ≡ messages.put v → fits ring i side k v → lift_fits messages fits ring i side k m
    fits-put ring i side k m v is fit = rw (is, messages.of_put v) fit

    -- the first messages
    first_sends_fit : (ring : List ℕ) (i me : ℕ) (side : Side) (m : WM) → ((v : M) → to_side side (t.first_sends me) ≡ Some v → fits ring i side 0 v)
        → to_side side (put_sends messages (t.first_sends me)) ≡ Some m → lift_fits messages fits ring i side 0 m
    first_sends_fit ring i me side m law sent =
        let own = option_map-some messages.put (to_side side (t.first_sends me)) m (sym (to_side-put_sends messages side (t.first_sends me)) ∙ sent) in
        fits-put ring i side 0 m own.0 own.2 (law own.0 own.1)

    -- all messages
    sends_fit : (ring : List ℕ) (i me : ℕ) (rs : List (Side × WM)) (side : Side) (k : ℕ) (m : WM)
        → ((v : M) → slice_get (sent_after t me side (lowered messages rs)) k ≡ Some v → fits ring i side k v)
        → slice_get (sent_after (lift_table states messages t) me side rs) k ≡ Some m → lift_fits messages fits ring i side k m
    sends_fit ring i me rs side k m law sent =
        let own = option_map-some messages.put (slice_get (sent_after t me side (lowered messages rs)) k) m
        (sym (slice_get-map messages.put (sent_after t me side (lowered messages rs)) k)
        ∙ ap (λ (l : List WM). slice_get l k) (sym (sent_after-lift_table states messages t me side rs))
        ∙ sent) in
        fits-put ring i side k m own.0 own.2 (law own.0 own.1)

    -- the laws that keep a leader unique hold on the sum
    pub lift_lawful : (two_way greatest : Bool) (winner : List ℕ → ℕ) → Lawful two_way greatest t fits winner → Lawful two_way greatest (lift_table states messages t) (lift_fits messages fits) winner
    lift_lawful two_way greatest winner laws = record {
      start_undecided = λ me. rw (states.of_put (t.first me)) (laws.start_undecided me);
      decision_stays = λ me rs side m leader.
          let stays : WS → Type 0 = λ s. (lift_table states messages t).decided s ≡ Some leader → (lift_table states messages t).decided ((lift_table states messages t).next s side m) ≡ Some leader in
          subst stays (sym (state_from-lift_table states messages t (t.first me) rs))
          (decision_stays-put (state_after t me (lowered messages rs)) side m leader (λ v. laws.decision_stays me (lowered messages rs) side v leader));
      one_way = λ one ring i k m fit.
          let own = some_and (messages.of m) (fits ring i Left k) fit in
          laws.one_way one ring i k own.0 own.2;
      first_sends_fit = λ ring i me side m is here. first_sends_fit ring i me side m (λ v. laws.first_sends_fit ring i me side v is here);
      sends_fit = λ ring i me rs side k m is here all.
          sends_fit ring i me rs side k m (λ v. laws.sends_fit ring i me (lowered messages rs) side k v is here (fit-lowered messages fits ring i rs all));
      decides_winner = λ ring i me rs leader is here all decided.
          laws.decides_winner ring i me (lowered messages rs) leader is here (fit-lowered messages fits ring i rs all) (sym (decided-lift_table me rs) ∙ decided);
      winner_is_member = laws.winner_is_member;
      winner_is_greatest = laws.winner_is_greatest;
    }

    -- the receipts of a family that fits, on the variant, fit
    family_fits-lowered : (ring : List ℕ) (family : ℕ → List (Side × WM)) → FamilyFits (lift_fits messages fits) ring family → FamilyFits fits ring (λ i. lowered messages (family i))
    family_fits-lowered ring family fit = record { at = λ i below. fit-lowered messages fits ring i (family i) (fit.at i below) }

    -- a complete family is complete on the variant
    complete-lowered : (ring : List ℕ) (family : ℕ → List (Side × WM)) → FamilyFits (lift_fits messages fits) ring family → IsComplete (lift_table states messages t) ring family → IsComplete t ring (λ i. lowered messages (family i))
    complete-lowered ring family fit complete = record {
      taken = λ i from sender below there.
          map_put-injective messages (taken_from from (lowered messages (family i))) (sent_after t sender (other from) (lowered messages (family (neighbour (length ring) i from))))
          (sym (taken_from-lowered messages from (family i) (own-fit messages fits ring i (family i) (fit.at i below)))
          ∙ complete.taken i from sender below there
          ∙ sent_after-lift_table states messages t sender (other from) (family (neighbour (length ring) i from)));
    }

    -- a sound family is sound on the variant
    sound-lowered : (ring : List ℕ) (family : ℕ → List (Side × WM)) → FamilyFits (lift_fits messages fits) ring family → IsSound (lift_table states messages t) ring family → IsSound t ring (λ i. lowered messages (family i))
    sound-lowered ring family fit sound = record {
      taken = λ i from sender below there.
          let part = sound.taken i from sender below there in
          map_put-first_part messages (taken_from from (lowered messages (family i))) (sent_after t sender (other from) (lowered messages (family (neighbour (length ring) i from)))) part.0
          (ap (λ (l : List WM). l ++ part.0) (sym (taken_from-lowered messages from (family i) (own-fit messages fits ring i (family i) (fit.at i below))))
          ∙ part.1
          ∙ sent_after-lift_table states messages t sender (other from) (family (neighbour (length ring) i from)));
    }

    -- the variant decides, so the sum does
    pub lift_deciding : Deciding t fits → Deciding (lift_table states messages t) (lift_fits messages fits)
    lift_deciding laws = record {
      complete_decides = λ ring family is fit complete.
          let decision = laws.complete_decides ring (λ i. lowered messages (family i)) is (family_fits-lowered ring family fit) (complete-lowered ring family fit complete) in
          record {
            position = decision.position;
            me = decision.me;
            leader = decision.leader;
            there = decision.there;
            decided = decided-lift_table decision.me (family decision.position) ∙ decision.decided;
          };
    }

    -- the number of messages on the variant is bounded, so it is on the sum
    pub lift_bounded : (bound : ℕ → ℕ) → Bounded t fits bound → Bounded (lift_table states messages t) (lift_fits messages fits) bound
    lift_bounded bound laws = record {
      work_is_bounded = λ ring family is fit sound.
          let bounded = laws.work_is_bounded ring (λ i. lowered messages (family i)) is (family_fits-lowered ring family fit) (sound-lowered ring family fit sound) in
          let same = taken_in_all-lowered (length ring) family (λ i below. own-fit messages fits ring i (family i) (fit.at i below)) in
          omega arith;
    }
      where
        taken_in_all-lowered : (n : ℕ) (family : ℕ → List (Side × WM)) → ((i : ℕ) → i < n → OwnMessages messages (family i)) → taken_in_all n (λ i. lowered messages (family i)) ≡ taken_in_all n family
        taken_in_all-lowered zero family own = refl
        taken_in_all-lowered (suc n) family own =
            let before = taken_in_all-lowered n family (λ i below. own i (omega arith)) in
            let here = length-lowered messages (family n) (own n (omega arith)) in
            omega arith
