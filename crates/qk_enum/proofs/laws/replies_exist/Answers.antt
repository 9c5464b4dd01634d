use Rattle.qk_enum.proofs.EnumReplies.{some_reply}
use Rattle.qk_enum.proofs.laws.replies_exist.Goals as goal

pub returns : goal.returns
returns c = some_reply
