use Rattle.std.proofs.Common.{◌≡◌, ◌≤◌, ◌<◌, ◌++◌, ◌∷◌, [], ℕ, List, Ok, Err, subst}
use Rattle.qk_base.specs.declared.outcome.Cause.TheVariants.{Weight, Depth}
use Rattle.qk_eval.specs.Parts.{small}
use Rattle.qk_value.specs.Data.{Data, list, datas_of}
use Rattle.qk_command.proofs.CommandSizes.{push_heavy, push_deep, push_small, pushed}
use Rattle.qk_command.proofs.commands.Commands.push.Goals as goal

pub returns-then-weight-gt65536-clause-small : goal.returns-then-weight-gt65536-clause-small
returns-then-weight-gt65536-clause-small c =
    subst (λ (xs : List Data). small (list (datas_of (xs ++ c.args.command.now ∷ []))) ≡ Err Weight) c.self.view_is
    (push_heavy c.self.inside.items.items c.args.command.now c.self.inside.weight c.weight.result c.self.invariant.0 c.weight.ensures c.if-weight-gt65536.true)

pub returns-then-depth-gt200-clause-small : goal.returns-then-depth-gt200-clause-small
returns-then-depth-gt200-clause-small c =
    subst (λ (xs : List Data). small (list (datas_of (xs ++ c.args.command.now ∷ []))) ≡ Err Depth) c.self.view_is
    (push_deep c.self.inside.items.items c.args.command.now c.self.inside.weight c.weight.result c.self.inside.depth c.depth.result c.self.invariant.0 c.weight.ensures c.if-weight-gt65536.false c.self.invariant.1
    c.depth.ensures (subst (λ (n : ℕ). 200 < n) c.max-depth.ensures c.if-depth-gt200.true))

pub invariant_of-self-2 : goal.invariant_of-self-2
invariant_of-self-2 c =
    pushed c.self.inside.items.items c.push.new.self.items c.args.command.now c.in_ok-share.field-0 c.self.inside.weight c.weight.result c.self.inside.depth c.depth.result c.max-depth.result c.in_ok-push.ensures.items
    c.in_ok-share.ensures c.self.invariant.0 c.weight.ensures c.if-weight-gt65536.false c.self.invariant.1 c.depth.ensures c.max-depth.ensures c.if-depth-gt200.false

pub returns-clause-small : goal.returns-clause-small
returns-clause-small c =
    subst (λ (xs : List Data). small (list (datas_of (xs ++ c.args.command.now ∷ []))) ≡ Ok (list (datas_of (xs ++ c.args.command.now ∷ [])))) c.self.view_is
    (push_small c.self.inside.items.items c.args.command.now c.self.inside.weight c.weight.result c.self.inside.depth c.depth.result c.self.invariant.0 c.weight.ensures c.if-weight-gt65536.false c.self.invariant.1
    c.depth.ensures (subst (λ (n : ℕ). n ≤ 200) c.max-depth.ensures c.if-depth-gt200.false))
