use Rattle.std.proofs.Common.{◌≡◌, ℕ, ◌<◌, ◌↔◌, get_or, IsTrue}
use Rattle.ring_id.proofs.identity.same_ids.Given as goal

-- whether the elements so far are the same
abbrev pub invariant-loop-place : goal.invariant-loop-place
invariant-loop-place l = IsTrue l.same ↔ ((k : ℕ) → k < l.place → get_or l.a k 0 ≡ get_or l.b k 0)
