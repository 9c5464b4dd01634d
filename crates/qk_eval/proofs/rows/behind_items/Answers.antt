use Rattle.std.proofs.Common.{◌+◌, arith}
use Rattle.qk_eval.proofs.RowLaws.{small_later}
use Rattle.qk_eval.proofs.rows.behind_items.Goals as goal

pub list_from-requires-clause-small : goal.list_from-requires-clause-small
list_from-requires-clause-small c =
    let row = c.args.row.now.value in
    small_later c.args.at (c.args.at + c.args.many) row.items.items row.rest (omega arith) c.requires.small
