use Rattle.qk_engine.proofs.SomeReply.{some_reply}
use Rattle.qk_engine.proofs.laws.replies_exist.Goals as goal

pub returns : goal.returns
returns c = some_reply
