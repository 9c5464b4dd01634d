use Rattle.qk_sound.proofs.Reported.{shrunk_points_typed, replayed_points_typed}
use Rattle.qk_sound.proofs.laws.reported_values_are_typed.Goals as goal

pub returns-clause-shrunk : goal.returns-clause-shrunk
returns-clause-shrunk c = shrunk_points_typed

pub returns-clause-replayed : goal.returns-clause-replayed
returns-clause-replayed c = replayed_points_typed
