use Rattle.qk_sound.proofs.ReservedWords.{reserved_are_forms}
use Rattle.qk_sound.proofs.laws.reserved_words_are_forms.Goals as goal

pub returns : goal.returns
returns c = reserved_are_forms
