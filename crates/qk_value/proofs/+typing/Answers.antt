use Rattle.qk_value.proofs.PartLaws.{other_count}
use Rattle.qk_value.proofs.+typing.Goals as goal

pub typing::are_parts-returns-then-parts-types : goal.typing::are_parts-returns-then-parts-types
typing::are_parts-returns-then-parts-types t c =
    other_count c.args.kinds.now c.args.types.now c.args.parts.now c.if-parts-types.true
