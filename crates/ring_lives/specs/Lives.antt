-- Lives of a service, one after another. Each begins with the groups that the last crash left.
use Rattle.std.specs.Prelude.{◌≡◌, ◌≤◌, ◌<◌, ◌+◌, ℕ, Bool, List, [], ◌∷◌, ◌++◌, Some, length, take, slice_get}
use Rattle.ring_terms.specs.Object.{Object}
use Rattle.ring_table.specs.Histories.{IsLegal}
use Rattle.ring_table.specs.declared.entry.Entry.{Entry}
use Rattle.ring_lives.specs.Changes.{changes_of}
use Rattle.ring_lives.specs.Leaders.{NameOneLeader}
use Rattle.ring_lives.specs.Replays.{LeadAlike}

-- A life: the entries that its table had when it was opened, and those that it got. The crash left
-- the first `left` of these. Clients got the replies of the first `told`.
pub record Life (E : Type 0) : Type 0 where
  pub opening : List (Entry E)
  pub log : List (Entry E)
  pub left : ℕ
  pub told : ℕ

-- the entries that it got and that the crash left
abbrev pub kept : {E : Type 0} → Life E → List (Entry E)
kept life = take life.left life.log

-- the entries of a life whose replies clients got are in this history, after `offset` others
abbrev pub IsToldIn : {E : Type 0} → List (Entry E) → ℕ → Life E → Type 0
IsToldIn {E} history offset life =
    (place : ℕ) (entry : Entry E)
    → place < life.told → slice_get life.log place ≡ Some entry
    → slice_get history (offset + place) ≡ Some entry

-- such entries of lives one after another are in this history, each life after the ones before it
abbrev pub AreToldIn : {E : Type 0} → List (Entry E) → ℕ → List (Life E) → Type 0
AreToldIn history offset [] = Unit {0}
AreToldIn history offset (life ∷ lives) =
    IsToldIn history offset life × AreToldIn history (offset + length (kept life)) lives

-- the entries that these lives got and that the crashes left, in order
abbrev pub all_kept : {E : Type 0} → List (Life E) → List (Entry E)
all_kept [] = []
all_kept (life ∷ lives) = kept life ++ all_kept lives

-- all entries of these lives whose replies clients got
abbrev pub all_told : {E : Type 0} → List (Life E) → List (Entry E)
all_told [] = []
all_told (life ∷ lives) = take life.told life.log ++ all_told lives

module _ {E : Type 0} (two_way greatest : E → Bool) where
  -- A life's table is legal, and the crash left each entry whose reply a client got.
  pub record IsLife (life : Life E) : Type 0 where
    pub book : Object E
    pub legal : IsLegal two_way greatest (life.opening ++ life.log) book
    pub told : life.told ≤ life.left

  -- each life is opened with entries that lead to the groups that the one before it left
  abbrev pub Succeed : List (Entry E) → List (Life E) → Type 0
  Succeed before [] = Unit {0}
  Succeed before (life ∷ lives) =
      IsLife life
      × LeadAlike greatest life.opening before
      × Succeed (life.opening ++ kept life) lives

  -- each life is opened with the very changes that the one before it left
  abbrev pub SucceedExactly : List (Entry E) → List (Life E) → Type 0
  SucceedExactly before [] = Unit {0}
  SucceedExactly before (life ∷ lives) =
      IsLife life
      × (changes_of life.opening ≡ changes_of before)
      × SucceedExactly (life.opening ++ kept life) lives

  -- each life begins with the groups that all entries that are left of earlier lives lead to
  abbrev pub BeginWithAll : List (Entry E) → List (Life E) → Type 0
  BeginWithAll before [] = Unit {0}
  BeginWithAll before (life ∷ lives) =
      LeadAlike greatest life.opening before × BeginWithAll (before ++ kept life) lives

  -- These lives are one legal history. It has each entry whose reply a client got, and each life
  -- begins with the groups that all entries before it lead to.
  pub record IsOneRun (lives : List (Life E)) : Type 0 where
    pub book : Object E
    pub legal : IsLegal two_way greatest (all_kept lives) book
    pub told : AreToldIn (all_kept lives) 0 lives
    pub begun : BeginWithAll [] lives

  -- All lives from the first one on are one run.
  abbrev pub AreOneRun : Type 0
  AreOneRun = (lives : List (Life E)) → Succeed [] lives → IsOneRun lives

  -- If each life begins with the very changes before it, each begins with the groups that these
  -- lead to.
  abbrev pub MayBeExact : Type 0
  MayBeExact = (lives : List (Life E)) → SucceedExactly [] lives → Succeed [] lives

  -- No two clients got different leaders of one term, in all lives from the first one on.
  abbrev pub TellOneLeader : Type 0
  TellOneLeader = (lives : List (Life E)) → Succeed [] lives → NameOneLeader (all_told lives)
