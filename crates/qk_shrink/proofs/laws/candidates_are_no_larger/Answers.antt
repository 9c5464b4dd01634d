use Rattle.qk_shrink.proofs.SizeLaws.{light}
use Rattle.qk_shrink.proofs.laws.candidates_are_no_larger.Goals as goal

pub returns : goal.returns
returns c = light
