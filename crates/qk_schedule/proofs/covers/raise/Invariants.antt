use Rattle.std.proofs.Common.{◌≡◌, ◌<◌, ◌^◌, ℕ, length, All, ◌++◌, take, drop}
use Rattle.qk_schedule.specs.Counts.{raised}
use Rattle.qk_schedule.proofs.covers.raise.Given as goal

abbrev pub invariant-loop-i : goal.invariant-loop-i
invariant-loop-i l = record {
  same_length : length l.counts ≡ length l.covers;
  room : All (λ (count : ℕ). count < 2 ^ 32) (drop l.i l.counts);
  counted : take l.i l.counts ++ raised (drop l.i l.counts) (drop l.i l.covers) ≡ raised l.fn.counts l.covers;
}
