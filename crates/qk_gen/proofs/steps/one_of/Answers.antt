use Rattle.std.proofs.Common.{◌≡◌, length, ap, sym, ◌∙◌}
use Rattle.qk_core.specs.GenView.{view_gens}
use Rattle.qk_gen.specs.Drawing.{drawing_call, gens_count}
use Rattle.qk_gen.proofs.ChoiceLaws.{gens_count_length}
use Rattle.qk_splitmix.specs.SplitMix.{right}
use Rattle.qk_gen.proofs.steps.one_of.Goals as goal

pub returns : goal.returns
returns c = λ functions program frames env u.
    let items = c.args.generators.now.items in
    let count : length c.as_slice.result.now ≡ gens_count (view_gens items) = ap length c.as_slice.ensures ∙ sym (gens_count_length items) in
    let drawn = rw (c.place-place.ensures, c.split-first.ensures.left, count) at (c.at.ensures functions (drawing_call functions program) env c.args.size (right c.args.g) u) in
    rw drawn (rw c.split-first.ensures.right at (c.found.ensures functions program frames env u))
