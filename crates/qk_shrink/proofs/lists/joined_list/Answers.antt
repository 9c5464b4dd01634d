use Rattle.qk_value.specs.Data.{datas_of}
use Rattle.qk_eval.specs.Parts.{items_of}
use Rattle.qk_shrink.proofs.SmallLaws.{shallow}
use Rattle.qk_shrink.proofs.lists.joined_list.Goals as goal

pub prepend-requires-clause-depth : goal.prepend-requires-clause-depth
prepend-requires-clause-depth c = shallow (datas_of c.args.items.items) (items_of c.args.rest) c.requires.small
