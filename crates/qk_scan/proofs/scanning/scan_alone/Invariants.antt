use Rattle.std.proofs.Common.{◌≡◌, ◌-◌, ◌≤◌, ◌++◌}
use Rattle.qk_scan.specs.Prefix.{prefix_to_hit, answers_from}
use Rattle.qk_scan.proofs.scanning.scan_alone.Given as goal

abbrev pub invariant-loop-index : goal.invariant-loop-index
invariant-loop-index g l =
    let answer = g.J.Jobs.answer_at l.jobs in
    let hits = g.J.Jobs.hits l.jobs in
    let total = g.J.Jobs.total l.jobs in
    record {
      in_range : l.index ≤ total;
      so_far : prefix_to_hit hits (answers_from answer 0 total) ≡ l.found.items ++ prefix_to_hit hits (answers_from answer l.index (total - l.index));
    }

abbrev pub decreases-loop-index : goal.decreases-loop-index
decreases-loop-index g l = g.J.Jobs.total l.jobs - l.index
