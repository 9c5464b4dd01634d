-- The data that the parts of a property stand for.
use Rattle.qk_core.specs.ExprView.{view_expr}
use Rattle.qk_core.specs.GenView.{view_gen}
use Rattle.qk_core.specs.Properties.{DrawData, plain, commands, CheckData, expression, runs, MarkData, label, collect, classify, tabulate, cover}
use Rattle.qk_core.specs.declared.property.Draw.{Draw}
use Rattle.qk_core.specs.declared.property.Draw.TheVariants as draws
use Rattle.qk_core.specs.declared.property.Check.{Check}
use Rattle.qk_core.specs.declared.property.Check.TheVariants as checks
use Rattle.qk_core.specs.declared.property.Mark.{Mark}
use Rattle.qk_core.specs.declared.property.Mark.TheVariants as marks

abbrev pub view_draw : Draw → DrawData
view_draw (draws.Plain g) = plain (view_gen g)
view_draw (draws.Commands model) = commands model

abbrev pub view_check : Check → CheckData
view_check (checks.Expression x) = expression (view_expr x)
view_check (checks.Runs binder) = runs binder

abbrev pub view_mark : Mark → MarkData
view_mark (marks.Label name) = label name.items
view_mark (marks.Collect x) = collect (view_expr x)
view_mark (marks.Classify x name) = classify (view_expr x) name.items
view_mark (marks.Tabulate name x) = tabulate name.items (view_expr x)
view_mark (marks.Cover percent x name) = cover percent (view_expr x) name.items
