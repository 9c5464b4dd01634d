use Rattle.qk_enum.proofs.EnumReplies.{one_reply}
use Rattle.qk_enum.proofs.laws.replies_are_one.Goals as goal

pub returns : goal.returns
returns c = one_reply
