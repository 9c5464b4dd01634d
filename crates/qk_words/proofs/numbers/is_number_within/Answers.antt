use Rattle.std.proofs.Common.{sym}
use Rattle.qk_words.proofs.ValueLaws.{number_is_digits}
use Rattle.qk_words.proofs.numbers.is_number_within.Goals as goal

pub number_of-requires : goal.number_of-requires
number_of-requires c = number_is_digits c.args.text.now (sym c.if-not-is_number.ensures)
