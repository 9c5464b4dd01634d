use Rattle.std.proofs.Common.{◌≡◌, ◌∙◌, sym, ap}
use Rattle.qk_core.specs.Properties.{PropertyData}
use Rattle.qk_rounds.specs.Run.{attempts}
use Rattle.qk_property.specs.Running.{run_of}
use Rattle.qk_property.specs.Settings.{report_settings}
use Rattle.qk_property.proofs.Telling.{few_successes, few_discards, all_attempts}
use Rattle.qk_property.proofs.counting.count_property.Goals as goal

pub attempts_in-attempts-requires-clause-successes : goal.attempts_in-attempts-requires-clause-successes
attempts_in-attempts-requires-clause-successes g c = few_successes c.args.settings.now c.args.core.now c.property-property.result.now c.in_ok-tested.tested c.requires.in_range c.in_ok-tested.ensures

pub attempts_in-attempts-requires-clause-discards : goal.attempts_in-attempts-requires-clause-discards
attempts_in-attempts-requires-clause-discards g c = few_discards c.args.settings.now c.args.core.now c.property-property.result.now c.in_ok-tested.tested c.requires.in_range c.in_ok-tested.ensures

pub returns-clause-attempts : goal.returns-clause-attempts
returns-clause-attempts g c p found =
    let same : c.property-property.result.now ≡ p = let both = c.property-property.ensures ∙ found in cc in
    c.attempts_in-attempts.ensures.exact ∙ all_attempts c.args.settings.now c.args.core.now c.property-property.result.now c.in_ok-tested.tested c.in_ok-tested.ensures
    ∙ ap (λ (q : PropertyData). attempts (run_of (report_settings c.args.settings.now) c.args.core.now q)) same
