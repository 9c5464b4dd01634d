use Rattle.std.proofs.Common.{◌∙◌, arith}
use Rattle.qk_value.specs.Data.{listed_data}
use Rattle.qk_eval.specs.Parts.{items_of}
use Rattle.qk_shrink.proofs.PartLaws.{length_listed}
use Rattle.qk_shrink.proofs.SmallLaws.{small_items, small_without, is_without}
use Rattle.qk_shrink.proofs.lists.without_block.Goals as goal

pub overflow_add-block : goal.overflow_add-block
overflow_add-block c =
    let small = small_items c.args.value.now c.is_small.ensures in
    omega (arith, c.requires.inside, length_listed (items_of c.args.value.now), small.0)

pub joined_list-requires-clause-small : goal.joined_list-requires-clause-small
joined_list-requires-clause-small c =
    small_without c.args.value.now c.args.block c.in_ok-items.items.items (items_of c.in_ok-rest.rest) c.is_small.ensures c.in_ok-items.ensures
    c.in_ok-rest.ensures.rest

pub returns : goal.returns
returns c =
    c.in_ok-others.ensures
    ∙ is_without c.args.value.now c.args.block c.in_ok-items.items.items (items_of c.in_ok-rest.rest) c.in_ok-items.ensures
    c.in_ok-rest.ensures.rest
