use Rattle.std.proofs.Common.{◌≡◌, ◌<◌, arith, ap}
use Rattle.qk_report.specs.PropertyBlock.{ToldData}
use Rattle.qk_property.proofs.Telling.{few_successes, text_same}
use Rattle.qk_property.proofs.reporting.told_text.Goals as goal

pub property_text-requires : goal.property_text-requires
property_text-requires c =
    let same = ap (λ (t : ToldData). t.successes) c.in_ok-told.ensures in
    let few = few_successes c.args.settings.now c.args.core.now c.args.property.now c.args.tested.now c.requires.in_range c.requires.run in
    omega (arith, same, few)

pub returns : goal.returns
returns c = text_same c.args.settings.now c.args.core.now c.args.property.now c.args.tested.now c.args.minimum c.args.cause _ c.args.number c.in_ok-text.text.items c.requires.run c.in_ok-told.ensures c.in_ok-text.ensures
