-- A list as an expression, by its head and the parts after it.
use Rattle.std.proofs.Common.{◌≡◌, ◌∙◌, ◌≤◌, ◌<◌, List, [], ◌∷◌, length, get_or, drop, refl, sym, ap, arith, Ok}
use Rattle.qk_base.specs.declared.place.Place.{Place}
use Rattle.qk_syntax.specs.PlainTrees.{PlainTree, number, name, list, PlainTrees, end, more}
use Rattle.qk_syntax.specs.View.{view, views}
use Rattle.qk_syntax.specs.declared.tree.Tree.{Tree}
use Rattle.qk_names.specs.Checks.{refuse}
use Rattle.qk_expressions.specs.ExpressionSteps.{formed}
use Rattle.qk_expressions.specs.Expressions.{expression, let_at, match_at}
use Rattle.qk_typing.specs.HeadForms.{head_form}
use Rattle.qk_typing.specs.Operators.{Tables, Form, empty_list, binding, matching, operator}
use Rattle.qk_headers.specs.Scopes.{Scope}
use Rattle.qk_headers.specs.TypesOf.{parts_after}
use Rattle.qk_names.proofs.Sequencing.{after_ok}

module _ (d : Tables) (s : Scope) (p : Place) (ts : PlainTrees) where
  pub by_form : (t : PlainTree) (form : Form) → head_form d.names p t ≡ Ok form → expression d s (list p (more t ts)) ≡ formed d s p ts form
  by_form (name q w) empty_list h = after_ok _ _ _ _ h refl
  by_form (name q w) binding h = after_ok _ _ _ _ h refl
  by_form (name q w) matching h = after_ok _ _ _ _ h refl
  by_form (name q w) (operator op) h = after_ok _ _ _ _ h refl
  by_form (number q n) form h = cc
  by_form (list q us) form h = cc

module _ (d : Tables) (s : Scope) (p : Place) where
  -- .. by the head of a list of trees
  pub of_form : (ts : List Tree) (x : Tree) (form : Form) → 1 ≤ length ts → x ≡ get_or ts 0 x → head_form d.names p (view x) ≡ Ok form
      → expression d s (list p (views ts)) ≡ formed d s p (parts_after (views ts)) form
  of_form [] x form most is h = absurd (omega arith)
  of_form (a ∷ ts) x form most is h = by_form d s p (views ts) (view a) form (ap (λ t. head_form d.names p (view t)) (sym is) ∙ h)

  pub let_few : (ts : List Tree) → length ts < 4 → let_at d s p (parts_after (views ts)) ≡ refuse 23 p
  let_few [] h = refl
  let_few (a ∷ []) h = refl
  let_few (a ∷ b ∷ []) h = refl
  let_few (a ∷ b ∷ c ∷ []) h = refl
  let_few (a ∷ b ∷ c ∷ e ∷ ts) h = absurd (omega arith)

  pub let_many : (ts : List Tree) → 5 ≤ length ts → let_at d s p (parts_after (views ts)) ≡ refuse 23 p
  let_many [] h = absurd (omega arith)
  let_many (a ∷ []) h = absurd (omega arith)
  let_many (a ∷ b ∷ []) h = absurd (omega arith)
  let_many (a ∷ b ∷ c ∷ []) h = absurd (omega arith)
  let_many (a ∷ b ∷ c ∷ e ∷ []) h = absurd (omega arith)
  let_many (a ∷ b ∷ c ∷ e ∷ f ∷ ts) h = refl

  pub match_few : (ts : List Tree) → length ts < 2 → match_at d s p (parts_after (views ts)) ≡ refuse 23 p
  match_few [] h = refl
  match_few (a ∷ []) h = refl
  match_few (a ∷ b ∷ ts) h = absurd (omega arith)

-- after the head a variable, what it is, and a body
pub three_parts : (ts : List Tree) (x y z : Tree) → 4 ≤ length ts → length ts < 5 → x ≡ get_or ts 1 x → y ≡ get_or ts 2 y → z ≡ get_or ts 3 z
    → parts_after (views ts) ≡ more (view x) (more (view y) (more (view z) end))
three_parts [] x y z most least is are ar = absurd (omega arith)
three_parts (a ∷ []) x y z most least is are ar = absurd (omega arith)
three_parts (a ∷ b ∷ []) x y z most least is are ar = absurd (omega arith)
three_parts (a ∷ b ∷ c ∷ []) x y z most least is are ar = absurd (omega arith)
three_parts (a ∷ b ∷ c ∷ e ∷ []) x y z most least is are ar = λ i. more (view (sym is i)) (more (view (sym are i)) (more (view (sym ar i)) end))
three_parts (a ∷ b ∷ c ∷ e ∷ f ∷ ts) x y z most least is are ar = absurd (omega arith)

-- after the head a value and its cases
pub value_first : (ts : List Tree) (x : Tree) → 2 ≤ length ts → x ≡ get_or ts 1 x → parts_after (views ts) ≡ more (view x) (views (drop 2 ts))
value_first [] x most is = absurd (omega arith)
value_first (a ∷ []) x most is = absurd (omega arith)
value_first (a ∷ b ∷ ts) x most is = λ i. more (view (sym is i)) (views ts)

pub after_one : (ts : List Tree) → parts_after (views ts) ≡ views (drop 1 ts)
after_one [] = refl
after_one (a ∷ ts) = refl
