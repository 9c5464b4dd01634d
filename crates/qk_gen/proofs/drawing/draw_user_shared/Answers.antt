use Rattle.std.proofs.Common.{◌∙◌}
use Rattle.qk_gen.proofs.PendingLaws.{and_then_itself}
use Rattle.qk_gen.proofs.UnitsLaws.{drawing_drawn}
use Rattle.qk_gen.proofs.drawing.draw_user_shared.Goals as goal

pub returns : goal.returns
returns c =
    c.in_ok-ending.ensures ∙ and_then_itself _
    ∙ drawing_drawn c.args.core.now.functions c.args.core.now.generators c.args.generator c.args.args.items c.args.size c.args.g c.args.fuel
