-- The walk goes on over what is left.
use Rattle.std.proofs.Common.{◌≡◌, ◌+◌, ◌≤◌, drop}
use Rattle.qk_exhaust.specs.Run.{walked}
use Rattle.qk_exhaust.proofs.walked.walk.Given as goal

abbrev pub invariant-loop-verdict : goal.invariant-loop-verdict
invariant-loop-verdict l = record {
  number : l.number ≡ l.first + l.verdict-index;
  fewer : l.discards ≤ l.number;
  whole : walked l.number l.discards (drop l.verdict-index l.verdicts) ≡ walked l.first l.fn.discards l.verdicts;
}
