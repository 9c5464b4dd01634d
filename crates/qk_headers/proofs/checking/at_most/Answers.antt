use Rattle.std.proofs.Common.{ap}
use Rattle.qk_names.specs.Checks.{check}
use Rattle.qk_names.proofs.Following.{refused_there}
use Rattle.qk_names.proofs.Sequencing.{many, few}
use Rattle.qk_headers.proofs.checking.at_most.Goals as goal

pub returns-then-trees-most-clause-refused : goal.returns-then-trees-most-clause-refused
returns-then-trees-most-clause-refused c =
    let a = c.args in refused_there _ _ _ _ c.refusal.ensures (ap (λ b. check b 23 a.place) (many a.trees.now a.most c.if-trees-most.true))

pub returns-clause-ok : goal.returns-clause-ok
returns-clause-ok c = let a = c.args in ap (λ b. check b 23 a.place) (few a.trees.now a.most c.if-trees-most.false)
