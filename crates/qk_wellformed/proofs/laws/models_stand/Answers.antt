use Rattle.qk_wellformed.proofs.ModelsStand.{model_stands, model_given}
use Rattle.qk_wellformed.proofs.laws.models_stand.Goals as goal

pub returns : goal.returns
returns c = record { judged = λ d p m parts model h. model_given d m p parts model h; stands = λ d p m parts model h. model_stands d m p parts model h }
