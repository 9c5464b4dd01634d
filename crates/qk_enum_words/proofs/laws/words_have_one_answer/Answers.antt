use Rattle.qk_enum_words.proofs.OneAnswer.{one_settings, some_settings}
use Rattle.qk_enum_words.proofs.laws.words_have_one_answer.Goals as goal

pub returns : goal.returns
returns c = record { settings = some_settings; one = one_settings }
