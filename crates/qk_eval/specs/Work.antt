-- How much work is left, which falls at each step of the machine.
use Rattle.std.specs.Prelude.{ℕ, ◌+◌, List, sum_by}
use Rattle.qk_core.specs.Definitions.{FunctionData}
use Rattle.qk_core.specs.ExprData.{ExprData, number, truth, variable, empty, choice, binding, unary, binary, matching, making, call, ExprsData, end, more, CasesData, no_case, more_cases}
use Rattle.qk_core.specs.ExprView.{view_expr, view_exprs, view_cases}
use Rattle.qk_eval.specs.declared.pending.Frame.{Frame}
use Rattle.qk_eval.specs.declared.pending.Frame.TheVariants.{Apply, First, Second, Branch, Body, Cases, Unbind, Gather, Leave}
use Rattle.qk_eval.specs.declared.pending.Control.{Control}
use Rattle.qk_eval.specs.declared.pending.Control.TheVariants.{Evaluate, Return, Gathered, Crash}

abbrev mutual
  pub size : ExprData → ℕ
  size (number n) = 1
  size (truth b) = 1
  size (variable x) = 1
  size (empty t) = 1
  size (choice c a b) = size c + size a + size b + 2
  size (binding a b) = size a + size b + 3
  size (unary op a) = size a + 2
  size (binary op a b) = size a + size b + 3
  size (matching a cases) = size a + case_sizes cases + 3
  size (making k m parts) = sizes parts + 4
  size (call f args) = sizes args + 4

  pub sizes : ExprsData → ℕ
  sizes end = 0
  sizes (more e es) = size e + 1 + sizes es

  pub case_sizes : CasesData → ℕ
  case_sizes no_case = 0
  case_sizes (more_cases pattern body cases) = size body + case_sizes cases

abbrev pub frame_size : Frame → ℕ
frame_size (Apply op) = 1
frame_size (First op b) = size (view_expr b.now) + 2
frame_size (Second op x) = 1
frame_size (Branch a b) = size (view_expr a.now) + size (view_expr b.now) + 1
frame_size (Body b) = size (view_expr b.now) + 2
frame_size (Cases cases) = case_sizes (view_cases cases.now) + 2
frame_size (Unbind n) = 1
frame_size (Gather what rest done) = sizes (view_exprs rest.now) + 3
frame_size (Leave env) = 1

abbrev pub frames_size : List Frame → ℕ
frames_size frames = sum_by frame_size frames

abbrev pub control_size : Control → ℕ
control_size (Evaluate e) = size (view_expr e.now)
control_size (Return x) = 0
control_size (Gathered what parts) = 2
control_size (Crash c) = 0

-- no body is larger
abbrev pub bodies_size : List FunctionData → ℕ
bodies_size functions = sum_by (λ f. size f.body) functions + 2
