use Rattle.std.proofs.Common.{ap, ◌&&◌, nat_le, rules}
use Rattle.qk_syntax.specs.PlainTrees.{count}
use Rattle.qk_syntax.specs.View.{views}
use Rattle.qk_names.specs.Checks.{check}
use Rattle.qk_names.proofs.Following.{refused_there, on_ok_by, refused_by}
use Rattle.qk_headers.proofs.Parts.{none, any}
use Rattle.qk_headers.proofs.checking.some_at_most.Goals as goal

pub returns-then-is_empty-clause-refused : goal.returns-then-is_empty-clause-refused
returns-then-is_empty-clause-refused c =
    let a = c.args in
    refused_there _ _ _ _ c.refusal.ensures (ap (λ b. check (b && nat_le (count (views a.trees.now)) a.most) 23 a.place) (none a.trees.now (search rules)))

pub returns-clause-ok : goal.returns-clause-ok
returns-clause-ok c =
    let a = c.args in
    on_ok_by _ _ _ _ (ap (λ b. check (b && nat_le (count (views a.trees.now)) a.most) 23 a.place) (any a.trees.now (search rules))) c.at_most.ensures.ok

pub returns-clause-refused : goal.returns-clause-refused
returns-clause-refused c =
    let a = c.args in
    refused_by _ _ _ (ap (λ b. check (b && nat_le (count (views a.trees.now)) a.most) 23 a.place) (any a.trees.now (search rules))) c.at_most.ensures.refused
