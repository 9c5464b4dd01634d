use Rattle.std.proofs.Common.{◌∙◌, arith}
use Rattle.qk_typing.specs.TablesView.{typed_in}
use Rattle.qk_typing.proofs.TypeChecks.{none_left}
use Rattle.qk_typing.proofs.typing.fit_params.Goals as goal

pub returns-clause-ok : goal.returns-clause-ok
returns-clause-ok c = c.loop-i.invariant ∙ none_left (λ v. v.ty) typed_in c.args.params.now c.args.parts.now c.loop-i.i (omega arith)
