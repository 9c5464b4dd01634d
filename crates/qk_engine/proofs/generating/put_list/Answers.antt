use Rattle.qk_engine.proofs.Joined.{two}
use Rattle.qk_engine.proofs.generating.put_list.Goals as goal

pub returns : goal.returns
returns c = two _ _ _ _ _ c.in_ok-put_named.ensures c.in_ok-put.ensures
