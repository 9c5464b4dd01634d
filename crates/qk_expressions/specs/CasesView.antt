-- The data that shapes and cases of a match stand for.
use Rattle.std.specs.Prelude.{map, option_map}
use Rattle.qk_value.specs.View.{view_type}
use Rattle.qk_core.specs.ExprView.{view_case}
use Rattle.qk_typing.specs.PartsView.{words_in}
use Rattle.qk_expressions.specs.Patterns.{Shape, Cases}
use Rattle.qk_expressions.specs.declared.patterns.Shape.{Shape as CodeShape}
use Rattle.qk_expressions.specs.declared.patterns.Cases.{Cases as CodeCases}

abbrev pub shape_in : CodeShape → Shape
shape_in s = record { head = s.head.items; pattern = s.pattern; fields = map view_type s.fields.items }

abbrev pub cases_in : CodeCases → Cases
cases_in c = record { ty = option_map view_type c.ty; heads = words_in c.heads.items; cases = map view_case c.cases.items }
