use Rattle.qk_sound.proofs.Programs.{programs_typed}
use Rattle.qk_sound.proofs.laws.programs_are_typed.Goals as goal

pub returns : goal.returns
returns c = programs_typed
