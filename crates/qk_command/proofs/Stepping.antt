-- Steps of judging, one after another.
use Rattle.std.proofs.Common.{◌≡◌, ◌∙◌, ℕ, suc, ◌+◌, ◌-◌, ◌<◌, Bool, true, false, List, [], ◌∷◌, length, get_or, drop, map, refl, sym, ap, add-one, arith}
use Rattle.std.proofs.Math.Seq.{drop-cons}
use Rattle.qk_base.specs.declared.outcome.Cause.{Cause}
use Rattle.qk_core.specs.Definitions.{FunctionData, ModelData}
use Rattle.qk_core.specs.Program.{ProgramData}
use Rattle.qk_gen.specs.Drawing.{drawn}
use Rattle.qk_splitmix.specs.SplitMix.{Generator, left, right}
use Rattle.qk_command.specs.Drawing.{turns}
use Rattle.qk_command.specs.TurnsView.{asked, turned_then}
use Rattle.qk_command.specs.declared.turning.Turned.{Turned}
use Rattle.qk_core.specs.ExprData.{ExprData}
use Rattle.qk_value.specs.Data.{Data}
use Rattle.qk_eval.specs.Meaning.{Evaluated, result, crash, and_then, meaning}
use Rattle.qk_eval.specs.Parts.{truth_of}
use Rattle.qk_core.specs.ExprView.{view_expr}
use Rattle.qk_core.specs.declared.expr.Expr.{Expr}
use Rattle.qk_command.specs.CommandListsView.{step_in}
use Rattle.qk_command.specs.Judging.{givens_hold}
use Rattle.qk_command.specs.declared.step.Step.{Step}
use Rattle.qk_command.specs.declared.step.Step.TheVariants as steps
use Rattle.qk_command.specs.Steps.{Judging, goes_on, discards, fails, then, with_value, where_true}

truth_first : (b : Bool) (u : ℕ) (go : ℕ → Judging (Unit {0})) → elim b [ true ↦ go u | false ↦ discards ] ≡ then (elim b [ true ↦ goes_on (tt {0}) u | false ↦ discards ]) (λ _ v. go v)
truth_first true u go = refl
truth_first false u go = refl

value_first : (r : Evaluated Data) (go : ℕ → Judging (Unit {0}))
    → with_value r (λ x v. where_true x (go v) discards) ≡ then (with_value r (λ x v. where_true x (goes_on (tt {0}) v) discards)) (λ _ v. go v)
value_first (result x u) go = truth_first (truth_of x) u go
value_first (crash c) go = refl

-- the first given, and then the others
pub given_first : (functions : List FunctionData) (e : ExprData) (es : List ExprData) (env : List Data) (u : ℕ)
    → givens_hold functions (e ∷ es) env u ≡ then (with_value (meaning functions e env u) (λ x v. where_true x (goes_on (tt {0}) v) discards)) (λ _ v. givens_hold functions es env v)
given_first functions e es env u = value_first (meaning functions e env u) (λ v. givens_hold functions es env v)

-- a given that fails ends what is left
pub fails_here : (functions : List FunctionData) (es : List Expr) (env : List Data) (i u : ℕ) (e : Expr) (s : Step) (c : Cause) → i < length es → e ≡ get_or es i e → s ≡ steps.Fail c
    → step_in s ≡ with_value (meaning functions (view_expr e) env u) (λ x v. where_true x (goes_on tt v) discards) → fails c ≡ givens_hold functions (map view_expr (drop i es)) env u
fails_here functions es env i u e s c below is failed holds =
    let first : drop i es ≡ e ∷ drop (i + 1) es = rw add-one (drop-cons es i e below) ∙ ap (λ x. x ∷ drop (i + 1) es) (sym is) in
    let first_fails : step_in (steps.Fail c) ≡ _ = ap step_in (sym failed) ∙ holds in
    ap (λ (j : Judging (Unit {0})). then j (λ _ v. givens_hold functions (map view_expr (drop (i + 1) es)) env v)) first_fails
    ∙ sym (given_first functions (view_expr e) (map view_expr (drop (i + 1) es)) env u) ∙ ap (λ es. givens_hold functions (map view_expr es) env u) (sym first)

-- a turn that is left comes to what follows it
pub after_turn : (c : ProgramData) (m : ModelData) (size count i : ℕ) (before after : List Data) (s : Data) (g own rest : Generator) (u : ℕ) (t : Turned) → i < count → own ≡ left g → rest ≡ right g
    → ((n : ℕ) (h : Generator) → and_then (drawn c.functions c.generators m.maker (s ∷ []) size own u) (λ x v. asked c m size n before s x h v) ≡ turned_then c m size n h after t)
    → turns c m size (count - i) before s g u ≡ turned_then c m size (count - (i + 1)) rest after t
after_turn c m size count i before after s g own rest u t below is_left is_right came =
    let n : count - i ≡ suc (count - (i + 1)) = omega (arith, below) in
    ap (λ (k : ℕ). turns c m size k before s g u) n
    ∙ ap (λ (h : Generator). and_then (drawn c.functions c.generators m.maker (s ∷ []) size (left g) u) (λ x v. asked c m size (count - (i + 1)) before s x h v)) (sym is_right)
    ∙ ap (λ (h : Generator). and_then (drawn c.functions c.generators m.maker (s ∷ []) size h u) (λ x v. asked c m size (count - (i + 1)) before s x rest v)) (sym is_left)
    ∙ came (count - (i + 1)) rest
