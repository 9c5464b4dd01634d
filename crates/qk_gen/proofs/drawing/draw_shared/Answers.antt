use Rattle.std.proofs.Common.{◌∙◌, ap}
use Rattle.qk_core.specs.GenView.{view_gen}
use Rattle.qk_gen.specs.Drawing.{drawing}
use Rattle.qk_gen.proofs.PendingLaws.{and_then_itself}
use Rattle.qk_gen.proofs.drawing.draw_shared.Goals as goal

pub returns : goal.returns
returns c =
    c.in_ok-ending.ensures ∙ and_then_itself _
    ∙ ap (λ env. drawing c.args.core.now.functions c.args.core.now.generators (view_gen c.args.generator.now) env c.args.size c.args.g c.args.fuel) c.in_ok-bound.ensures
