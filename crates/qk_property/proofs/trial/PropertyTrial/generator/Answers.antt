use Rattle.std.proofs.Common.{rules, arith, ◌<◌, ◌-◌, length}
use Rattle.qk_property.proofs.Generators.{own_at}
use Rattle.qk_property.proofs.trial.PropertyTrial.generator.Goals as goal

pub returns : goal.returns
returns c =
    let self = c.args.self.now in
    let among = c.requires.among in
    let place : c.args.number - self.first < length self.gens.items = omega (arith, among.0, among.1) in
    own_at self.first c.args.number self.seed self.kept c.index-as_slice-number.result self.gens.items c.as_slice.result.now among.0 self.kept_is (self.gens_are (c.args.number - self.first) place) c.as_slice.ensures c.index-as_slice-number.is
