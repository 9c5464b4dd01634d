use Rattle.qk_engine.proofs.OneReply.{one_reply}
use Rattle.qk_engine.proofs.laws.replies_are_one.Goals as goal

pub returns : goal.returns
returns c = one_reply
