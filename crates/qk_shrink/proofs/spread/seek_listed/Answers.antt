use Rattle.std.proofs.Common.{◌∙◌, sym, ap, arith}
use Rattle.qk_shrink.specs.declared.sought.Sought.TheVariants.{Here}
use Rattle.qk_shrink.proofs.SoughtLaws.{sought_here, sought_past}
use Rattle.qk_shrink.proofs.spread.seek_listed.Goals as goal

pub returns-then-k-length : goal.returns-then-k-length
returns-then-k-length c =
    let items = c.args.items.now in
    let item = c.index-items-k.result in
    ap Here (c.in_ok-share.ensures ∙ c.index-items-k.is) ∙ sym (sought_here items c.args.k item c.if-k-length.true)

pub returns : goal.returns
returns c = sym (sought_past c.args.items.now c.args.k (omega (arith, c.if-k-length.false)))
