-- The lists of items below are counted.
use Rattle.std.proofs.Common.{◌≡◌, length}
use Rattle.qk_value.specs.Types.{list_type}
use Rattle.qk_value.specs.View.{view_type}
use Rattle.qk_series.specs.Members.{saturated}
use Rattle.qk_series.specs.Series.{series}
use Rattle.qk_series.proofs.counts.Counts.+count.Given as goal

abbrev pub invariant-count_list-loop-lower : goal.invariant-count_list-loop-lower
invariant-count_list-loop-lower l = l.count ≡ saturated (length (series l.self.kinds.now l.lower (list_type (view_type l.item))))
