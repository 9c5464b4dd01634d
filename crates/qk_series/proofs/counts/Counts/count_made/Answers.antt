use Rattle.std.proofs.Common.{◌∙◌, get_or, sym, ap, arith}
use Rattle.std.proofs.lemmas.List.{length-map}
use Rattle.qk_series.proofs.FormLaws.{row_at}
use Rattle.qk_series.proofs.counts.Counts.count_made.Goals as goal

pub returns : goal.returns
returns c =
    let rows = c.args.self.now.rows.items in
    let d = c.args.depth in
    let row = row_at rows d c.index.result.now c.requires c.index.ensures in
    c.count_in.ensures ∙ ap (λ row. get_or row c.args.kind 0) (c.deref.ensures.value ∙ sym row) ∙ c.args.self.now.right d (omega (arith, c.requires, length-map rows (λ r. r.items))) c.args.kind
