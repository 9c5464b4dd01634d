use Rattle.qk_wellformed.proofs.GeneratorsStand.{generator_stands, generator_given, one_generator}
use Rattle.qk_wellformed.proofs.laws.generators_stand.Goals as goal

pub returns : goal.returns
returns c = record { judged = λ d s tree t g h. generator_given d tree s t g h; stands = λ d s tree r h. generator_stands d tree s r h; one = λ d s tree t u g f h k. one_generator d s tree t u g f h k }
