use Rattle.qk_eval.specs.Forms.{to_come}
use Rattle.qk_shrink.proofs.PartLaws.{took}
use Rattle.qk_shrink.proofs.lists.front.Goals as goal

pub loop-left-preserved : goal.loop-left-preserved
loop-left-preserved c =
    took c.loop-left.all.items c.push.new.self.items c.in-Some.first.now c.in_ok-share-in-Some.field-0 (to_come c.in-Some.others) (to_come c.loop-left.rest) c.loop-left.left _ c.loop-left-test.true
    c.in-Some.ensures c.in_ok-push-in-Some.ensures.items c.in_ok-share-in-Some.ensures c.loop-left.invariant
