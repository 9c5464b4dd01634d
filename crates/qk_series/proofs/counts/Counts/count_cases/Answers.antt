use Rattle.std.proofs.Common.{◌≡◌, ◌∙◌, ◌+◌, ◌*◌, length, map, drop, sym, ap, arith}
use Rattle.qk_value.specs.View.{view_type}
use Rattle.qk_series.specs.Cases.{cases}
use Rattle.qk_series.specs.Members.{saturated}
use Rattle.qk_series.specs.Series.{series}
use Rattle.qk_series.proofs.CountLaws.{count_more_tuples}
use Rattle.qk_series.proofs.PartLaws.{next}
use Rattle.qk_series.proofs.counts.Counts.count_cases.Goals as goal

pub loop-binder-preserved : goal.loop-binder-preserved
loop-binder-preserved c =
    let kinds = c.args.self.now.kinds.now in
    let d = c.args.depth in
    let binders = c.args.binders.now in
    let i = c.loop-binder.binder-index in
    let binder = c.binder-item.result in
    let rest = drop (i + 1) binders in
    let n = c.loop-binder.count in
    let ty : view_type c.binder.inside.ty ≡ binder.ty = ap (λ b. b.ty) c.binder.view_is in (
      omega (arith, c.product-count.ensures),
      ap (λ m. saturated (m * length (cases kinds d rest))) (c.product-count.ensures ∙ ap (λ m. saturated (n * m)) (c.count.ensures ∙ ap (λ ty. saturated (length (series kinds d ty))) ty))
          ∙ count_more_tuples n (series kinds d binder.ty) (map (λ b. series kinds d b.ty) rest)
          ∙ ap (λ bs. saturated (n * length (cases kinds d bs))) (sym (next binders i binder c.loop-binder-test.true c.binder-item.is))
          ∙ c.loop-binder.invariant.1,
    )
