use Rattle.std.proofs.Common.{◌∙◌, arith}
use Rattle.qk_typing.specs.TablesView.{typed_in}
use Rattle.qk_value.specs.View.{view_type}
use Rattle.qk_typing.proofs.TypeChecks.{none_left}
use Rattle.qk_typing.proofs.typing.have_types.Goals as goal

pub returns-clause-ok : goal.returns-clause-ok
returns-clause-ok c = c.loop-i.invariant ∙ none_left view_type typed_in c.args.types.now c.args.parts.now c.loop-i.i (omega arith)
