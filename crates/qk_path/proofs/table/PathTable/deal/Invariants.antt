use Rattle.std.proofs.Common.{◌≡◌, ◌+◌, ◌<◌, [], length, All}
use Rattle.std.specs.Prelude.{Some}
use Rattle.qk_path.specs.Views.{fresh, IsEmptyView}
use Rattle.qk_path.specs.Walkers.{view_of, IsWalkerOf}
use Rattle.qk_path.proofs.table.PathTable.deal.Given as goal

abbrev pub invariant-loop-left : goal.invariant-loop-left
invariant-loop-left g l = record {
  some : 0 < l.left;
  count : length l.list.items + l.left ≡ l.walkers;
  table : l.first.table_id ≡ l.self.table.shared.table_id;
  me : l.first.me ≡ (fresh (Some (l.self.family.now, l.self.root.now)) l.left, []);
  made : All (λ w. IsWalkerOf l.self.table.shared.table_id l.self.family.now l.self.root.now l.self.limit w × IsEmptyView (view_of w)) l.list.items;
}

abbrev pub decreases-loop-left : goal.decreases-loop-left
decreases-loop-left g l = l.left
