use Rattle.std.proofs.Common.{◌∙◌, ap, ◌≡◌}
use Rattle.qk_splitmix.specs.Attempts.{rights}
use Rattle.qk_splitmix.specs.AttemptLaws.{attempt-after}
use Rattle.qk_splitmix.specs.SplitMix.{left}
use Rattle.qk_property.proofs.Generators.{own_of}
use Rattle.qk_property.proofs.trial.generator_of.Goals as goal

pub returns : goal.returns
returns c = own_of c.args.seed c.args.attempt c.start.result c.skip.result c.split-own.result.0 c.start.ensures c.skip.ensures c.split-own.ensures.left
