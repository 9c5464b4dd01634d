use Rattle.std.proofs.Common.{◌≡◌, ℕ, ◌+◌, ◌<◌, ◌≤◌, List, length, All}
use Rattle.qk_path.specs.Paths.{IsPrefix, AllPrefixes}
use Rattle.qk_path.specs.Views.{draws_of, full_of}
use Rattle.qk_totals.specs.Totals.{total}
use Rattle.qk_path.specs.Walkers.{view_of, IsWalkerOf}
use Rattle.qk_path.proofs.table.PathTable.gather.Given as goal

abbrev pub invariant-loop-next : goal.invariant-loop-next
invariant-loop-next g l = record {
  some : 0 < l.all.me.0.parts;
  table : l.all.table_id ≡ l.self.table.shared.table_id;
  longest : l.longest.items ≡ l.all.me.0.path;
  parts : l.all.me.0.parts + length l.walkers.items ≡ length l.fn.walkers.items;
  draws : (e x : ℕ) → draws_of e x l.all.me.0 + total (λ w. draws_of e x (view_of w)) l.walkers.items ≡ total (λ w. draws_of e x (view_of w)) l.fn.walkers.items;
  prefixes : (places : List ℕ) → IsPrefix l.all.me.0.path places → AllPrefixes l.all.me.0.absorbed places → All (λ w. IsPrefix (view_of w).path places) l.walkers.items → All (λ w. IsPrefix (view_of w).path places) l.fn.walkers.items;
  among : (n : ℕ) → total (λ w. full_of n (view_of w)) l.walkers.items ≤ total (λ w. full_of n (view_of w)) l.fn.walkers.items;
  whole : 0 < total (λ w. full_of (length l.all.me.0.path) (view_of w)) l.fn.walkers.items;
  rest : All (IsWalkerOf l.self.table.shared.table_id l.self.family.now l.self.root.now l.self.limit) l.walkers.items;
}

abbrev pub decreases-loop-next : goal.decreases-loop-next
decreases-loop-next g l = length l.walkers.items
