use Rattle.std.proofs.Common.{◌∙◌, ap}
use Rattle.std.specs.Str.{all_ascii_digits}
use Rattle.qk_report.proofs.NumberReading.{front_digits}
use Rattle.qk_report.proofs.token_parsing.read_number.Goals as goal

pub number_of-requires : goal.number_of-requires
number_of-requires c = ap all_ascii_digits (c.split_at.ensures.front ∙ c.digits_in_front.ensures.front) ∙ front_digits c.args.bytes.now
