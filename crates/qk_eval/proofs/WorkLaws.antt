-- Laws of the work that is left.
use Rattle.std.proofs.Common.{◌≡◌, ℕ, zero, suc, ◌+◌, ◌≤◌, List, Some, Option, None, refl, ap, sym, ◌∙◌, arith, slice_get, get_or, unwrap_or, option_map, ◌≢◌, ◌<◌, ◌-◌, ◌*◌, sub-one, suc-mul}
use Rattle.std.proofs.lemmas.List.Sums.{get_or-le-sum_by}
use Rattle.std.proofs.lemmas.Option.{slice_get_within, unwrap_or-slice_get}
use Rattle.qk_core.specs.Definitions.{FunctionData}
use Rattle.qk_core.specs.ExprData.{ExprData}
use Rattle.qk_eval.specs.Meaning.{body_of}
use Rattle.qk_eval.specs.Work.{size, bodies_size}

function_le : (functions : List FunctionData) (f : ℕ) (function : FunctionData) → slice_get functions f ≡ Some function → size function.body + 2 ≤ bodies_size functions
function_le functions f function h =
    let within = slice_get_within functions f function h in
    let found : get_or functions f function ≡ function = sym (unwrap_or-slice_get functions f function) ∙ ap (λ o. unwrap_or o function) h in
    let le = rw found at (get_or-le-sum_by (λ g. size g.body) functions f function within) in
    omega (arith, le)

found_le : (functions : List FunctionData) (f : ℕ) (o : Option FunctionData) (body : ExprData) → slice_get functions f ≡ o → option_map (λ function. function.body) o ≡ Some body → size body + 2 ≤ bodies_size functions
found_le functions f None body h k = cc
found_le functions f (Some function) body h k =
    let le = function_le functions f function h in
    let same : function.body ≡ body = ap (λ o. unwrap_or o body) k in
    rw same at le

-- no body is larger than all together
pub body_le : (functions : List FunctionData) (f : ℕ) (body : ExprData) → body_of functions f ≡ Some body → size body + 2 ≤ bodies_size functions
body_le functions f body h = found_le functions f (slice_get functions f) body refl h

-- one unit pays for a body
pub unit_pays : (left all body : ℕ) → left ≢ 0 → body + 2 ≤ all → (left - 1) * all + body + 1 < left * all + 1
unit_pays zero all body h le = absurd (h refl)
unit_pays (suc k) all body h le = rw (sub-one, suc-mul) (omega arith)
