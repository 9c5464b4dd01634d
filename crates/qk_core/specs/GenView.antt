-- The data that a generator stands for.
use Rattle.std.specs.Prelude.{ℕ, List, map}
use Rattle.qk_core.specs.ExprView.{view_expr}
use Rattle.qk_core.specs.GenData.{GenData, any_number, any_truth, size, choose, list, vector, pair, elements, one_of, frequency, resize, bind, pure, making, call, GensData, WeightedsData, gens_of, weighteds_of}
use Rattle.qk_core.specs.declared.gen_expr.GenExpr.{GenExpr, fold-GenExpr}
use Rattle.qk_core.specs.declared.gen_expr.Weighted.{Weighted}
use Rattle.qk_core.specs.declared.gen_expr.GenExpr.TheOpen.{GenExpr-F, Weighted-F}
use Rattle.qk_core.specs.declared.gen_expr.GenExpr.TheFolds.{fold-Weighted}

-- one level, with each generator inside already seen as its data
abbrev pub gen_step : GenExpr-F GenData (ℕ × GenData) → GenData
gen_step GenExpr-F.Int = any_number
gen_step GenExpr-F.Bool = any_truth
gen_step GenExpr-F.Size = size
gen_step (GenExpr-F.Choose lo hi) = choose (view_expr lo) (view_expr hi)
gen_step (GenExpr-F.List g) = list g.value
gen_step (GenExpr-F.Vector e g) = vector (view_expr e) g.value
gen_step (GenExpr-F.Pair g h) = pair g.value h.value
gen_step (GenExpr-F.Elements es) = elements (map view_expr es.items)
gen_step (GenExpr-F.OneOf gs) = one_of (gens_of gs.items)
gen_step (GenExpr-F.Frequency parts) = frequency (weighteds_of parts.items)
gen_step (GenExpr-F.Resize e g) = resize (view_expr e) g.value
gen_step (GenExpr-F.Bind g h) = bind g.value h.value
gen_step (GenExpr-F.Pure e) = pure (view_expr e)
gen_step (GenExpr-F.Make k m gs) = making k m (gens_of gs.items)
gen_step (GenExpr-F.Call f es) = call f (map view_expr es.items)

abbrev pub weighted_step : Weighted-F GenData (ℕ × GenData) → ℕ × GenData
weighted_step part = (part.weight, part.body)

abbrev pub view_gen : GenExpr → GenData
view_gen = fold-GenExpr GenData (ℕ × GenData) gen_step weighted_step

abbrev pub view_gens : List GenExpr → GensData
view_gens gs = gens_of (map view_gen gs)

abbrev pub view_weighted : Weighted → ℕ × GenData
view_weighted = fold-Weighted GenData (ℕ × GenData) gen_step weighted_step

abbrev pub view_weighteds : List Weighted → WeightedsData
view_weighteds parts = weighteds_of (map view_weighted parts)
