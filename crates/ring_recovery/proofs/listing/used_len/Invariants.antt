use Rattle.std.proofs.Common.{◌≡◌, ◌≢◌, ◌⊎◌, ◌≤◌, ◌<◌, ◌-◌, ℕ, length}
use Rattle.std.specs.Prelude.{slice_index}
use Rattle.ring_recovery.proofs.listing.used_len.Given as goal

-- the bytes so far that are in use
abbrev pub invariant-loop-at : goal.invariant-loop-at
invariant-loop-at l =
    (l.at ≤ length l.found) × (l.used ≤ l.at) × ((k : ℕ) → l.used ≤ k → k < l.at → slice_index l.found k ≡ 0) × ((l.used ≡ 0) ⊎ (slice_index l.found (l.used - 1) ≢ 0))

abbrev pub decreases-loop-at : goal.decreases-loop-at
decreases-loop-at l = length l.found - l.at
