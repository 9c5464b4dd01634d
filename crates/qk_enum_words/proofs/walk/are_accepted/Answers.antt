use Rattle.std.proofs.Common.{◌∙◌, sym}
use Rattle.qk_enum_words.proofs.WalkLaws.{good_is_accepted, accepted_is_good}
use Rattle.qk_enum_words.proofs.walk.are_accepted.Goals as goal

pub returns : goal.returns
returns c = (λ h. good_is_accepted _ (sym c.walk.ensures ∙ h), λ h. c.walk.ensures ∙ accepted_is_good _ h)
