use Rattle.std.proofs.Common.{◌≡◌, ◌∙◌, sym}
use Rattle.qk_property.proofs.Telling.{fails_there}
use Rattle.qk_property.proofs.reporting.block_text.Goals as goal

pub last_point-requires-clause-size : goal.last_point-requires-clause-size
last_point-requires-clause-size g c κs within =
    (fails_there c.args.settings.now c.args.core.now c.args.property.now c.in-Failed.attempt c.in-Failed.size c.in-Failed.cause c.requires.in_range (sym c.requires.run.run.finish_is ∙ c.in-Failed.is)).1

pub last_point-requires-clause-fails : goal.last_point-requires-clause-fails
last_point-requires-clause-fails g c κs within =
    (fails_there c.args.settings.now c.args.core.now c.args.property.now c.in-Failed.attempt c.in-Failed.size c.in-Failed.cause c.requires.in_range (sym c.requires.run.run.finish_is ∙ c.in-Failed.is)).0
