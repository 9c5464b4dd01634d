use Rattle.std.proofs.Common.{◌≡◌, ◌∙◌, ◌∷◌, [], length, ap, arith}
use Rattle.std.proofs.lemmas.List.{length-append}
use Rattle.qk_series.proofs.CountLaws.{whole_row, row_more}
use Rattle.qk_series.proofs.counts.Counts.row.Goals as goal

pub loop-kind-preserved : goal.loop-kind-preserved
loop-kind-preserved c =
    let kinds = c.args.self.now.kinds.now in
    let d = length c.args.self.now.rows.items in
    let row = c.loop-kind.row.items in
    let is = c.in_ok-push.ensures.items in (
      ap length is ∙ omega (arith, length-append row (c.count_kind.result ∷ []), c.loop-kind.invariant.0),
      row_more kinds d row c.push.new.self.items c.count_kind.result c.loop-kind.kind is c.loop-kind.invariant.0 c.count_kind.ensures c.loop-kind.invariant.1,
    )

pub returns : goal.returns
returns c =
    let kinds = c.args.self.now.kinds.now in
    let end : c.loop-kind.kind ≡ length kinds = omega (arith, c.loop-kind-test.false, c.loop-kind.auto.kind-end, c.len-kind-end.ensures, ap length c.kinds.view_is) in
    whole_row kinds (length c.args.self.now.rows.items) c.loop-kind.row.items (c.loop-kind.invariant.0 ∙ end) (λ k h. c.loop-kind.invariant.1 k (omega (arith, h, end)))
