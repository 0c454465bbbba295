use Rattle.std.proofs.Common.{◌≡◌, ◌≤◌, ◌++◌, drop, length, vec_capacity, vec_len}
use Rattle.ring_peterson.specs.Rounds.{first_round, numbered}
use Rattle.ring_winner.proofs.rounds.first_round.Given as goal

-- the positions so far, with those that are left, are the first round, and there is room for these
abbrev pub invariant-loop-position : goal.invariant-loop-position
invariant-loop-position l = record {
  numbers : l.round.items ++ numbered l.position (drop l.position l.ring) ≡ first_round l.ring;
  len : vec_len l.round ≡ l.position;
  room : length l.ring ≤ vec_capacity l.round;
}
