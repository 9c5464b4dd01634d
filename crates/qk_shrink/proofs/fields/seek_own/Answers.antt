use Rattle.std.proofs.Common.{◌∙◌, arith, ap, sym}
use Rattle.qk_shrink.specs.Sought.{sought}
use Rattle.qk_shrink.proofs.PartLaws.{own_end}
use Rattle.qk_shrink.proofs.fields.seek_own.Goals as goal

pub returns : goal.returns
returns c =
    let none = own_end c.args.kind c.loop-i.i c.args.types.now c.args.parts.now (omega (arith, c.min-shared.ensures, c.loop-i-test.false)) in
    ap (λ parts. sought parts c.loop-i.left) (sym none) ∙ c.loop-i.invariant
