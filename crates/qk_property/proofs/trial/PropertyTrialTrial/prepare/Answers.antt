use Rattle.std.proofs.Common.{rules, arith, ◌≡◌, ◌≤◌, ◌<◌, ℕ, zero-le, subst, sym, length}
use Rattle.qk_property.proofs.Generators.{kept_later, from_later}
use Rattle.qk_property.proofs.trial.PropertyTrialTrial.prepare.Goals as goal

pub overflow_sub-from : goal.overflow_sub-from
overflow_sub-from c =
    let self = c.args.self.now in
    from_later self.first c.args.from (length self.gens.items) self.none_yet c.requires.next

pub invariant_of-drop-clause-none_yet : goal.invariant_of-drop-clause-none_yet
invariant_of-drop-clause-none_yet c none = let count = c.in_ok-made.ensures.count in let some = c.requires.count in absurd (omega (arith, none, count, some.0))

pub invariant_of-drop-clause-kept_is : goal.invariant_of-drop-clause-kept_is
invariant_of-drop-clause-kept_is c =
    let self = c.args.self.now in
    kept_later self.first c.args.from self.seed self.kept c.skip-kept.result (from_later self.first c.args.from (length self.gens.items) self.none_yet c.requires.next) self.kept_is c.skip-kept.ensures

pub invariant_of-drop-clause-gens_are : goal.invariant_of-drop-clause-gens_are
invariant_of-drop-clause-gens_are c k below = c.in_ok-made.ensures.each k (let count = c.in_ok-made.ensures.count in omega (arith, below, count))
