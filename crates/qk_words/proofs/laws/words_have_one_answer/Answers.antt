use Rattle.qk_words.proofs.OneAnswer.{one_settings, no_bad_token}
use Rattle.qk_words.proofs.laws.words_have_one_answer.Goals as goal

pub returns : goal.returns
returns c = record { settings = one_settings; bad_token = no_bad_token }
