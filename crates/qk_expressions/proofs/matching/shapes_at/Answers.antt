use Rattle.std.proofs.Common.{◌∙◌, sym, ap, Ok, arith}
use Rattle.qk_expressions.specs.Patterns.{has_patterns}
use Rattle.qk_expressions.proofs.CaseLaws.{some_patterns}
use Rattle.qk_names.proofs.Sequencing.{passes}
use Rattle.qk_expressions.proofs.matching.shapes_at.Goals as goal

pub returns-clause-ok : goal.returns-clause-ok
returns-clause-ok c =
    let shapes = c.in_ok-shapes.shapes.items in
    passes _ _ _ _ (ap has_patterns (sym c.in_ok-shapes.ensures) ∙ some_patterns shapes (omega arith)) ∙ ap Ok (sym c.in_ok-shapes.ensures)
