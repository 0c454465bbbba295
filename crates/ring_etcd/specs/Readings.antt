-- What was read of a journal.
use Rattle.std.specs.Prelude.{◌≡◌, ◌+◌, ◌⊎◌, ℕ, List, [], ◌++◌, Some, codes, decimal, flat_map, length, map}
use Rattle.serde_json.specs.Data.{Data}
use Rattle.ring_etcd.specs.Bases.{base_text}
use Rattle.ring_etcd.specs.Done.{IsDone}
use Rattle.ring_etcd.specs.Entries.{AreAdded}
use Rattle.ring_etcd.specs.Found.{bytes_at, entry_in, key_in, pairs_in, value_in}
use Rattle.ring_etcd.specs.Holding.{joined}
use Rattle.ring_etcd.specs.Keys.{codes_from, entry_code, piece_code}

-- The values are those of all pairs that some replies have, in order. The keys of these pairs are
-- those of the numbers from the first on.
pub record AreRead (code : ℕ → List ℕ) (first : ℕ) (values : List (List ℕ)) : Type 0 where
  pub replies : List Data
  pub has_keys : map Some (codes_from code first values) ≡ map key_in (flat_map pairs_in replies)
  pub has_values : map Some values ≡ map value_in (flat_map pairs_in replies)

-- This many pieces of a text were read, from the first on, and put after the old bytes in order.
pub record ArePieces (name : List ℕ) (text number : ℕ) (old new : List ℕ) : Type 0 where
  pub pieces : List (List ℕ)
  pub were_read : AreRead (piece_code name text) 0 pieces
  pub count : number ≡ length pieces
  pub bytes : new ≡ old ++ joined pieces

-- The entries after a text were read, from the first number on, and what they add was put after the
-- old bytes in order. The next entry has the next number.
pub record AreEntries (name : List ℕ) (text first next : ℕ) (old new : List ℕ) : Type 0 where
  pub entries : List (List ℕ)
  pub were_read : AreRead (entry_code name text) first entries
  pub count : next ≡ first + length entries
  pub bytes : AreAdded entries old new

-- A text of this many pieces was read, and then the entries after it, from the first on. The next
-- entry has this number.
pub record IsRead (name : List ℕ) (text pieces next : ℕ) (old new : List ℕ) : Type 0 where
  pub middle : List ℕ
  pub has_pieces : ArePieces name text pieces old middle
  pub has_entries : AreEntries name text 1 next middle new

-- A reply says that an entry was put, or has its bytes in its place.
pub record IsThere (entry : List ℕ) : Type 0 where
  pub reply : Data
  pub says : IsDone reply ⊎ (entry_in reply ≡ Some entry)

-- The reply of a read of the base says that this text counts, and that it has this many pieces.
abbrev pub Counts : ℕ → ℕ → Data → Type 0
Counts text pieces reply = bytes_at (codes "/kvs/0/value") reply ≡ Some (base_text text pieces)

-- The pieces and the entries of a journal were read, from its first byte on. A reply says that its
-- text counts.
pub record IsFound (name : List ℕ) (text pieces : ℕ) (bytes : List ℕ) : Type 0 where
  pub next : ℕ
  pub was_read : IsRead name text pieces next [] bytes
  pub reply : Data
  pub counts : Counts text pieces reply

-- A text of this many pieces was read, and the entries after it, from the first on. What these add
-- was put after the old bytes in order. Then an entry by which a process takes over was put under
-- the number after theirs. The next number is the one after its own.
pub record IsTakenBy (name : List ℕ) (text pieces identity next : ℕ) (old new : List ℕ) : Type 0 where
  pub number : ℕ
  pub was_read : IsRead name text pieces number old new
  pub is_there : IsThere (codes "t" ++ decimal identity)
  pub count : next ≡ number + 1

-- The place of a journal: its name, the text that counts and how many pieces it has. Then the
-- identity of this process, the number of the next entry, and the bytes that nobody took yet.
pub record Place : Type 0 where
  pub name : List ℕ
  pub text : ℕ
  pub pieces : ℕ
  pub identity : ℕ
  pub next : ℕ
  pub bytes : List ℕ

-- The journal of this name was read from its first byte on, and taken over.
pub record IsTaken (name : List ℕ) (place : Place) : Type 0 where
  pub has_name : place.name ≡ name
  pub was_taken : IsTakenBy name place.text place.pieces place.identity place.next [] place.bytes
