-- The name of an inbox says at which channel its passes are.
use Rattle.std.proofs.Common.{◌≡◌, ℕ, ◌+◌, List, [], ◌∷◌, ◌++◌, map, None, ap, sym, ◌∙◌, arith}
use Rattle.std.specs.List.{range_with_len}
use Rattle.std.proofs.lemmas.List.FromFn.{map-range_with_len_more}
use Rattle.crossbeam_channel.specs.Claims.{Pass}
use Rattle.crossbeam_channel.specs.declared.flavors.array.Stage.TheVariants.{Idle}
use Rattle.ring_inbox.specs.declared.rule.Known.{Known}
use Rattle.ring_inbox.specs.Rule.{nobody}
use Rattle.ring_inbox.specs.Values.{Name, name_of, SenderLog, fresh_sender}

module _ {T : Type 0} where
  -- two passes at one channel have one name
  pub name_of-same_channel : (capacity room senders places : ℕ) (p q : Pass (ℕ × T) (Known T)) → capacity ≡ room → senders ≡ places → p.table_id ≡ q.table_id → p.me.0.of ≡ q.me.0.of → name_of capacity senders p ≡ name_of room places q
  name_of-same_channel capacity room senders places p q size count table key =
      λ i. record { blank = record { marker = record {}; table_id = table i; id = 0; me = (record { stage = Idle; at = 0; item = None; client = nobody; of = key i }, []) }; capacity = size i; senders = count i }

  -- passes with one name are at one channel
  pub table_of_name : (capacity room senders places : ℕ) (p q : Pass (ℕ × T) (Known T)) → name_of capacity senders p ≡ name_of room places q → p.table_id ≡ q.table_id
  table_of_name capacity room senders places p q same = ap (λ (n : Name T). n.blank.table_id) same

  -- and know one key of the channel's messages
  pub key_of_name : (capacity room senders places : ℕ) (p q : Pass (ℕ × T) (Known T)) → name_of capacity senders p ≡ name_of room places q → p.me.0.of ≡ q.me.0.of
  key_of_name capacity room senders places p q same = ap (λ (n : Name T). n.blank.me.0.of) same

  -- senders that have stored nothing, and one more
  pub fresh_senders_more : (all : List (SenderLog T)) (before now : Name T) (one : SenderLog T) (number : ℕ) → all ≡ map (fresh_sender before) (range_with_len 0 number) → before ≡ now → one ≡ fresh_sender now number
      → all ++ one ∷ [] ≡ map (fresh_sender now) (range_with_len 0 (number + 1))
  fresh_senders_more all before now one number all_are same one_is =
      (λ i. all_are i ++ one_is i ∷ [])
      ∙ ap (λ (n : Name T). map (fresh_sender n) (range_with_len 0 number) ++ fresh_sender now number ∷ []) same
      ∙ sym (map-range_with_len_more (fresh_sender now) 0 number number (omega arith))
