-- Lives that go on from the files that crashes left are lives that begin with the groups left.
use Rattle.std.proofs.Common.{◌≡◌, ◌≤◌, ◌+◌, ◌-◌, ℕ, List, [], ◌∷◌, ◌++◌, length, take, inl, inr, refl, ap, sym, ◌∙◌, subst, arith}
use Rattle.std.proofs.Math.Seq.{take-append-add}
use Rattle.ring_any.specs.Any.{any_greatest, any_two_way}
use Rattle.ring_any.specs.declared.any.Any.{Any}
use Rattle.ring_journal.specs.Lines.{front, whole_lines_of}
use Rattle.ring_terms.specs.Object.{Object}
use Rattle.ring_table.specs.declared.entry.Entry.{Entry}
use Rattle.ring_change.specs.declared.change.Change.{Change}
use Rattle.ring_lives.specs.Changes.{changes_of}
use Rattle.ring_lives.specs.Lives.{AreOneRun, IsLife, Life, Succeed, TellOneLeader}
use Rattle.ring_lives.specs.Replays.{LeadAlike, Replays}
use Rattle.ring_recovery.specs.Compacted.{ResumesAfterFirst}
use Rattle.ring_recovery.specs.Recovered.{HasChanges}
use Rattle.ring_durable.specs.Durable.{AreCuts, AreDurable, GoOn, IsJournalLife, JournalLife}

-- the next life, if there is one, is opened with entries that lead where these lead
abbrev pub OpensWith : List JournalLife → List (Entry Any) → Type 0
OpensWith [] entries = Unit {0}
OpensWith (life ∷ lives) entries = LeadAlike any_greatest life.opening entries

-- how many entries of a life were left, and the next life is opened with those
pub record Leaves (life : JournalLife) (lives : List JournalLife) : Type 0 where
  pub left : ℕ
  pub least : life.sure ≤ left
  pub opens : OpensWith lives (take left (life.opening ++ life.log))

pub leaves : ResumesAfterFirst → (life : JournalLife) (lives : List JournalLife) → IsJournalLife life → GoOn life.found lives → Leaves life lives
leaves law life [] is go = record { left = is.left.left; least = is.left.least; opens = tt }
leaves law life (later ∷ lives) is (begins, later_is, go) =
    let entries = life.opening ++ life.log in
    let leads = law life.number entries life.sure life.found begins.table is.left begins.resumes in
    record {
      left = leads.left;
      least = leads.least;
      opens = subst (λ (opening : List (Entry Any)). LeadAlike any_greatest opening (take leads.left entries)) (sym begins.opening) leads.alike;
    }

-- lives, each cut where its crash cut it
pub record Cuts (before : List (Entry Any)) (lives : List JournalLife) : Type 0 where
  pub cuts : List (Life Any)
  pub are : AreCuts lives cuts
  pub succeed : Succeed any_two_way any_greatest before cuts

pub cuts_of : ResumesAfterFirst → (found : List ℕ) (before : List (Entry Any)) (lives : List JournalLife) → OpensWith lives before → GoOn found lives → Cuts before lives
cuts_of law found before [] opens go = record { cuts = []; are = tt; succeed = tt }
cuts_of law found before (life ∷ lives) opens (begins, is, go) =
    let end = leaves law life lives is go in
    let count = length life.opening in
    let left = end.left - count in
    let whole : end.left ≡ count + left = omega (arith, is.told, end.least) in
    let parted : take end.left (life.opening ++ life.log) ≡ life.opening ++ take left life.log =
    ap (λ (n : ℕ). take n (life.opening ++ life.log)) whole ∙ take-append-add life.opening life.log left in
    let cut : Life Any = record { opening = life.opening; log = life.log; left = left; told = life.told } in
    let is_life : IsLife any_two_way any_greatest cut = record { book = is.book; legal = is.legal; told = omega (arith, is.told, end.least) } in
    let next = cuts_of law life.found (life.opening ++ take left life.log) lives (subst (OpensWith lives) parted end.opens) go in
    record {
      cuts = cut ∷ next.cuts;
      are = (refl, refl, refl, next.are);
      succeed = (is_life, opens, next.succeed);
    }

-- a file without lines has no changes
pub no_changes : (found : List ℕ) (number : ℕ) (changes : List (Change Any)) → front found ≡ [] → HasChanges found number changes → changes ≡ []
no_changes found number changes none (inl (life, lines)) = absurd (omega (arith, ap length (sym (ap whole_lines_of none) ∙ lines)))
no_changes found number changes none (inr (empty, zero_lives, nothing)) = nothing

-- the first life is opened with no groups
pub opens_first : (found : List ℕ) (lives : List JournalLife) → front found ≡ [] → GoOn found lives → OpensWith lives []
opens_first found [] none go = tt
opens_first found (life ∷ lives) none (begins, is, go) =
    let old = begins.resumes.recovered in
    let recovers = begins.resumes.recovers in
    let keeps = begins.resumes.keeps in
    let nothing = no_changes found recovers.lives (changes_of old.history) none recovers.found_changes in
    let empty : old.book ≡ [] = subst (λ (changes : List (Change Any)). Replays any_greatest [] changes old.book) nothing recovers.book in
    let by : Replays any_greatest [] (changes_of begins.table.history) [] =
    subst (λ (groups : Object Any). Replays any_greatest [] (changes_of begins.table.history) groups) (keeps.same ∙ empty) keeps.book in
    subst (λ (opening : List (Entry Any)). LeadAlike any_greatest opening []) (sym begins.opening) (record { groups = []; by_first = by; by_second = refl })

-- all lives from a file without lines on are one history
pub durable : ResumesAfterFirst → AreOneRun any_two_way any_greatest → TellOneLeader any_two_way any_greatest → AreDurable
durable law all one = λ found lives none go.
    let its = cuts_of law found [] lives (opens_first found lives none go) go in
    record { cuts = its.cuts; are = its.are; run = all its.cuts its.succeed; leader = one its.cuts its.succeed }
