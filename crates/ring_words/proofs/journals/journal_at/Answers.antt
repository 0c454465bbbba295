-- The text is cut at its first slash, and no other cut names a journal.
use Rattle.std.proofs.Common.{rules}
use Rattle.ring_words.proofs.Cuts.{cut, unasked, misnamed, stripped, uncut}
use Rattle.ring_words.proofs.journals.journal_at.Goals as goal
use Rattle.ring_words.proofs.journals.journal_at.Goals.{then-not-are_members-via-then-not-are_members, then-not-are_members-via-else-not-are_members+then-not-is_journal_name}

pub returns-in_err-members : goal.returns-in_err-members
returns-in_err-members c =
    rw c.from_residual.ensures
    (uncut _ _ (stripped _ _ c.in-Some.ensures.cases) c.in_err-members.ensures.cases)

pub returns-then-not-are_members : goal.returns-then-not-are_members
returns-then-not-are_members c =
    let at = cut _ _ c.in_ok-members.members c.in_ok-members.name (stripped _ _ c.in-Some.ensures.cases) c.in_ok-members.ensures.cases in
    elim c.then-not-are_members.branch [
      | then-not-are_members-via-then-not-are_members w ↦ unasked _ _ _ at (search rules)
      | then-not-are_members-via-else-not-are_members+then-not-is_journal_name w ↦ misnamed _ _ _ at (search rules)
    ]

pub returns : goal.returns
returns c =
    let at = cut _ _ c.in_ok-members.members c.in_ok-members.name (stripped _ _ c.in-Some.ensures.cases) c.in_ok-members.ensures.cases in
    record {
      spelled = at.spelled;
      asked = record { plain = at.plain; each = search rules };
      named = search rules;
    }
