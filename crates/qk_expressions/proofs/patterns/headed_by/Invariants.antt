-- What is left decides as the whole does.
use Rattle.std.proofs.Common.{◌≡◌, map, drop}
use Rattle.std.specs.Prelude.{find}
use Rattle.std.specs.Str.{bytes_eq}
use Rattle.qk_expressions.specs.CasesView.{shape_in}
use Rattle.qk_expressions.proofs.patterns.headed_by.Given as goal

abbrev pub invariant-loop-shape : goal.invariant-loop-shape
invariant-loop-shape l = find (λ s. bytes_eq l.word s.head) (map shape_in l.shapes) ≡ find (λ s. bytes_eq l.word s.head) (map shape_in (drop l.shape-index l.shapes))
