use Rattle.std.proofs.Common.{◌≡◌, ◌∙◌, ap, arith, ℕ}
use Rattle.qk_splitmix.specs.Attempts.{rights}
use Rattle.qk_property.proofs.Generators.{kept_next}
use Rattle.qk_property.proofs.trial.skip.Goals as goal

pub loop-preserved : goal.loop-preserved
loop-preserved c = kept_next c.loop.counter _ c.loop.now _ c.loop.invariant c.split.ensures.right

pub returns : goal.returns
returns c =
    let all : c.loop.counter ≡ c.args.splits = omega (arith, c.loop-test.false, c.loop.auto.counter-end) in
    c.loop.invariant ∙ ap (λ (n : ℕ). rights n c.args.kept) all
