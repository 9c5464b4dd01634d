use Rattle.std.proofs.Common.{◌≡◌, ◌+◌, ◌-◌, true, false, [], ◌∷◌, ◌++◌, cond}
use Rattle.qk_board.specs.Views.{length_at}
use Rattle.qk_board.specs.Seats.{view_of, IsSeatOf}
use Rattle.qk_scan.specs.Work.{Worked, DrawsMore, top_of}
use Rattle.qk_scan.proofs.working.drain.Given as goal

abbrev pub invariant-loop-dry : goal.invariant-loop-dry
invariant-loop-dry g l = record {
  seat : IsSeatOf l.board.table.shared.table_id (g.L.Layout.limit_of l.board.layout) (g.L.Layout.lengths_of l.board.layout) l.seat;
  worked : Worked (g.L.Layout.number_of l.board.layout) (g.J.Jobs.answer_at l.jobs) (g.J.Jobs.hits l.jobs) (view_of l.seat) l.found.items;
  drew : DrawsMore l.range (view_of l.fn.seat).draws (view_of l.seat).draws;
  wet : l.dry ≡ false → (view_of l.seat).dry ≡ (view_of l.fn.seat).dry;
  met : l.dry ≡ true → (view_of l.seat).dry ≡ (view_of l.fn.seat).dry ++ l.range ∷ [];
}

abbrev pub decreases-loop-dry : goal.decreases-loop-dry
decreases-loop-dry g l = cond l.dry 0 (1 + (length_at (g.L.Layout.lengths_of l.board.layout) l.range - top_of l.range (view_of l.seat).draws))
