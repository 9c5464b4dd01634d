use Rattle.qk_gen.proofs.ChoiceLaws.{draws_at_get}
use Rattle.qk_gen.proofs.choices.at.Goals as goal

pub returns : goal.returns
returns c = λ functions calls env size g u. rw c.get.ensures (draws_at_get functions calls c.args.generators.now.items c.args.place env size g u)
