use Rattle.qk_syntax.proofs.ReadableLaws.{spelled_is_readable}
use Rattle.qk_syntax.proofs.TextRead.{faultless_is_spelled, spelled_has_no_fault, one_spelling}
use Rattle.qk_syntax.proofs.laws.trees_or_fault.Goals as goal

pub returns : goal.returns
returns c = record { faultless = faultless_is_spelled; spelled = spelled_has_no_fault; one = one_spelling; readable = spelled_is_readable }
