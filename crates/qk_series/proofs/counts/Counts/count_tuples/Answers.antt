use Rattle.std.proofs.Common.{◌∙◌, ◌+◌, ◌*◌, List, length, map, drop, sym, ap, arith}
use Rattle.qk_value.specs.declared.ty.Ty.{Ty}
use Rattle.qk_value.specs.View.{view_type}
use Rattle.qk_series.specs.Members.{saturated}
use Rattle.qk_series.specs.Series.{below, tuples}
use Rattle.qk_series.proofs.CountLaws.{count_more_tuples}
use Rattle.qk_series.proofs.PartLaws.{next}
use Rattle.qk_series.proofs.counts.Counts.count_tuples.Goals as goal

pub loop-ty-preserved : goal.loop-ty-preserved
loop-ty-preserved c =
    let kinds = c.args.self.now.kinds.now in
    let lists = λ (ts : List Ty). map (below kinds c.args.depth) (map view_type ts) in
    let types = c.args.types.now in
    let i = c.loop-ty.ty-index in
    let ty = c.ty-item.result in
    let rest = drop (i + 1) types in (
      omega (arith, c.product-count.ensures),
      ap (λ n. saturated (n * length (tuples (lists rest)))) (c.product-count.ensures ∙ ap (λ n. saturated (c.loop-ty.count * n)) c.count_below.ensures)
          ∙ count_more_tuples c.loop-ty.count (below kinds c.args.depth (view_type ty)) (lists rest)
          ∙ ap (λ ts. saturated (c.loop-ty.count * length (tuples (lists ts)))) (sym (next types i ty c.loop-ty-test.true c.ty-item.is))
          ∙ c.loop-ty.invariant.1,
    )
