use Rattle.std.proofs.Common.{◌≡◌, ◌∙◌, ◌+◌, length, map, drop, sym, ap, arith}
use Rattle.qk_value.specs.View.{view_type}
use Rattle.qk_series.specs.Members.{saturated}
use Rattle.qk_series.specs.Series.{below, made_values, tuples}
use Rattle.qk_series.proofs.CountLaws.{count_more_makers}
use Rattle.qk_series.proofs.PartLaws.{next}
use Rattle.qk_series.proofs.counts.Counts.count_makers.Goals as goal

pub loop-maker-preserved : goal.loop-maker-preserved
loop-maker-preserved c =
    let lower = below c.args.self.now.kinds.now (length c.args.self.now.rows.items) in
    let i = c.loop-maker.maker-index in
    let maker = c.maker-item.result in
    let n = c.loop-maker.count in
    let kind = c.args._kind in
    let rest = drop (i + 1) c.args.makers.now in
    let types : map view_type c.as_slice.result.now ≡ maker.fields = ap (map view_type) c.as_slice.ensures ∙ ap (λ m. m.fields) c.maker.view_is in
    let counted : c.count_tuples.result ≡ saturated (length (tuples (map lower maker.fields)))
    = c.count_tuples.ensures ∙ (λ i. saturated (length (tuples (map (below c.args.self.now.kinds.now ((c.len.ensures ∙ c.args.self.now.rows.ok.0) i)) (types i))))) in (
      omega (arith, c.sum-count.ensures),
      ap (λ m. saturated (m + length (made_values lower kind (i + 1) rest))) (c.sum-count.ensures ∙ ap (λ m. saturated (n + m)) counted)
          ∙ count_more_makers lower kind i n maker rest
          ∙ ap (λ ms. saturated (n + length (made_values lower kind i ms))) (sym (next c.args.makers.now i maker c.loop-maker-test.true c.maker-item.is))
          ∙ c.loop-maker.invariant.1,
    )
