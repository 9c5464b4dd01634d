use Rattle.std.proofs.Common.{ap}
use Rattle.qk_names.specs.Checks.{check}
use Rattle.qk_names.proofs.Following.{refused_there}
use Rattle.qk_headers.proofs.Parts.{unlike, alike}
use Rattle.qk_headers.proofs.checking.exactly.Goals as goal

pub returns-then-trees-wanted-clause-refused : goal.returns-then-trees-wanted-clause-refused
returns-then-trees-wanted-clause-refused c =
    let a = c.args in refused_there _ _ _ _ c.refusal.ensures (ap (λ b. check b 23 a.place) (unlike a.trees.now a.wanted c.if-trees-wanted.true))

pub returns-clause-ok : goal.returns-clause-ok
returns-clause-ok c = let a = c.args in ap (λ b. check b 23 a.place) (alike a.trees.now a.wanted c.if-trees-wanted.false)
