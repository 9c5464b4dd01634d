use Rattle.std.proofs.Common.{arith, ◌≡◌, length, ap, ◌∙◌, sym}
use Rattle.qk_board.specs.Layouts.{stride_length, stride_lengths}
use Rattle.qk_board.specs.Tables.{table_length}
use Rattle.qk_scan.proofs.scanning.scan_together.Goals as goal

pub gather-requires-clause-all : goal.gather-requires-clause-all
gather-requires-clause-all g c κs within =
    let b = c.in_ok-board.board in let made = c.in_ok-board.ensures in
    let wide : length (stride_lengths b.layout.limit b.layout.ranges) ≡ b.layout.ranges = table_length (stride_length b.layout.limit b.layout.ranges) 0 b.layout.ranges in
    let ranges : b.layout.ranges ≡ c.args.workers = ap (λ s. s.ranges) made.0 ∙ c.make.ensures.1 in
    let ready : length c.in_ok-ready.ready.items ≡ c.args.workers = c.in_ok-ready.ensures.0 ∙ made.2 in
    (omega (arith, c.requires.0), ready ∙ sym made.1, omega arith, omega (arith, c.requires.1))
