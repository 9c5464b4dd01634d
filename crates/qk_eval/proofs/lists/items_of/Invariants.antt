use Rattle.std.proofs.Common.{◌≡◌}
use Rattle.qk_value.specs.Data.{datas_of}
use Rattle.qk_eval.specs.Forms.{to_come}
use Rattle.qk_eval.specs.Parts.{items_of, joined}
use Rattle.qk_eval.specs.Sizes.{datas_size}
use Rattle.qk_eval.proofs.lists.items_of.Given as goal

abbrev pub invariant-items : goal.invariant-items
invariant-items l = joined (datas_of l.all.items) (to_come l.rest) ≡ items_of l.fn.list

abbrev pub decreases-items : goal.decreases-items
decreases-items l = datas_size (to_come l.rest)
