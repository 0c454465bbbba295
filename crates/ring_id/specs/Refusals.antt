use Rattle.std.specs.Prelude.{◌≡◌, ℕ, Bool, true, if◌then◌else◌, List, Option, Some, None, codes}
use Rattle.ring_id.specs.declared.refusal.Refusal.{Refusal}
use Rattle.ring_id.specs.declared.refusal.Refusal.TheVariants.{BadLine, NoGroup, Exists, GroupLimit, Member, NotMember, RingFull, Empty, TermLimit, NoTerm, NotInTerm, OneWay, NoMemory, SeatSpent}

-- the number of each refusal
abbrev pub number_in_table : Refusal → ℕ
number_in_table BadLine = 1
number_in_table NoGroup = 2
number_in_table Exists = 3
number_in_table GroupLimit = 4
number_in_table Member = 5
number_in_table NotMember = 6
number_in_table RingFull = 7
number_in_table Empty = 8
number_in_table TermLimit = 9
number_in_table NoTerm = 10
number_in_table NotInTerm = 11
number_in_table OneWay = 12
number_in_table NoMemory = 13
number_in_table SeatSpent = 14

-- the word of each refusal in a reply line
abbrev pub word_in_table : Refusal → List ℕ
word_in_table BadLine = codes "bad-line"
word_in_table NoGroup = codes "no-group"
word_in_table Exists = codes "exists"
word_in_table GroupLimit = codes "group-limit"
word_in_table Member = codes "member"
word_in_table NotMember = codes "not-member"
word_in_table RingFull = codes "ring-full"
word_in_table Empty = codes "empty"
word_in_table TermLimit = codes "term-limit"
word_in_table NoTerm = codes "no-term"
word_in_table NotInTerm = codes "not-in-term"
word_in_table OneWay = codes "one-way"
word_in_table NoMemory = codes "no-memory"
word_in_table SeatSpent = codes "seat-spent"

-- this refusal if the test holds, otherwise the first of the rest
abbrev pub refused_if : Bool → Refusal → Option Refusal → Option Refusal
refused_if test refusal rest = if test then Some refusal else rest

-- this refusal if there is no value, otherwise the refusal that the value gives
abbrev pub unless_some : {A : Type 0} → Option A → Refusal → (A → Option Refusal) → Option Refusal
unless_some None refusal rest = Some refusal
unless_some (Some a) refusal rest = rest a

-- An answer is the first refusal that holds. If none holds, the answer can only be that an
-- allocation failed, and only from a call that allocates.
abbrev pub IsRefusal : Option Refusal → Bool → Refusal → Type 0
IsRefusal (Some first) grows refusal = refusal ≡ first
IsRefusal None grows refusal = (grows ≡ true) × (refusal ≡ NoMemory)
