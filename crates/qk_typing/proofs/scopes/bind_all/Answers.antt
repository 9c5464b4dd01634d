use Rattle.std.proofs.Common.{◌∙◌, sym, arith}
use Rattle.qk_value.specs.View.{view_type}
use Rattle.qk_typing.proofs.ScopeLaws.{none_left}
use Rattle.qk_typing.proofs.scopes.bind_all.Goals as goal

pub returns : goal.returns
returns c =
    sym (c.loop-i.invariant ∙ none_left (λ n. n.items) view_type c.loop-i.scope.items c.args.names.now c.args.types.now c.loop-i.i (omega arith))
