use Rattle.qk_engine.proofs.Joined.{three}
use Rattle.qk_engine.proofs.generating.put_number.Goals as goal

pub returns : goal.returns
returns c = three _ _ _ _ _ _ _ c.in_ok-put_named.ensures c.in_ok-put_named-2.ensures c.in_ok-put.ensures
