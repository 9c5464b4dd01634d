-- The cases of a match, one after another.
use Rattle.std.proofs.Common.{nat_eq, not, ◌≡◌, ◌∙◌, ℕ, ◌+◌, ◌≤◌, ◌<◌, ◌≢◌, Bool, true, false, List, [], ◌∷◌, map, drop, length, get_or, refl, sym, ap, arith, Ok, Err}
use Rattle.std.proofs.lemmas.List.{at_drop_more}
use Rattle.qk_base.specs.declared.place.Place.{Place}
use Rattle.qk_syntax.specs.PlainTrees.{PlainTree, number, name, list, PlainTrees, end, more, count}
use Rattle.qk_syntax.specs.View.{view, views}
use Rattle.qk_syntax.specs.declared.tree.Tree.{Tree}
use Rattle.qk_expressions.specs.CaseSteps.{case_at}
use Rattle.qk_names.specs.Checks.{Checked, ◌>>=◌, ◌>>◌, check, refuse}
use Rattle.qk_expressions.specs.Expressions.{expression, cases_at}
use Rattle.qk_typing.specs.Operators.{Tables}
use Rattle.qk_expressions.specs.CasesView.{shape_in}
use Rattle.qk_expressions.specs.Patterns.{Shape, shape_at, pattern_variables, Cases, is_among, agrees, with_case, has_patterns}
use Rattle.qk_expressions.specs.declared.patterns.Shape.{Shape as CodeShape}
use Rattle.qk_headers.specs.Scopes.{Scope, bind_all}

-- steps that are done one after another are done so before what comes after them
module _ {A B C D : Type 0} (agree : A → B → Checked (Unit {0})) (made : A → B → C) (next : C → Checked D) where
  agreed : (g : Checked (Unit {0})) (c : C) → ((g >> Ok c) >>= next) ≡ (g >> next c)
  agreed (Ok u) c = refl
  agreed (Err r) c = refl

  bodied : (s : A) (e : Checked B) → ((e >>= λ b. (agree s b >> Ok (made s b))) >>= next) ≡ (e >>= λ b. (agree s b >> next (made s b)))
  bodied s (Ok b) = agreed (agree s b) (made s b)
  bodied s (Err r) = refl

  named : {V : Type 0} (s : A) (names : Checked V) (body : V → Checked B)
      → ((names >>= λ v. (body v >>= λ b. (agree s b >> Ok (made s b)))) >>= next) ≡ (names >>= λ v. (body v >>= λ b. (agree s b >> next (made s b))))
  named s (Ok v) body = bodied s (body v)
  named s (Err r) body = refl

  tested : {V : Type 0} (s : A) (x y : Checked (Unit {0})) (names : Checked V) (body : A → V → Checked B)
      → (((x >> (y >> Ok s)) >>= λ s. (names >>= λ v. (body s v >>= λ b. (agree s b >> Ok (made s b))))) >>= next)
      ≡ (x >> (y >> (names >>= λ v. (body s v >>= λ b. (agree s b >> next (made s b))))))
  tested s (Ok u) (Ok v) names body = named s names (body s)
  tested s (Ok u) (Err r) names body = refl
  tested s (Err r) y names body = refl

  shaped : {V : Type 0} (shape : Checked A) (x y : A → Checked (Unit {0})) (names : Checked V) (body : A → V → Checked B)
      → (((shape >>= λ s. (x s >> (y s >> Ok s))) >>= λ s. (names >>= λ v. (body s v >>= λ b. (agree s b >> Ok (made s b))))) >>= next)
      ≡ (shape >>= λ s. (x s >> (y s >> (names >>= λ v. (body s v >>= λ b. (agree s b >> next (made s b)))))))
  shaped (Ok s) x y names body = tested s (x s) (y s) names body
  shaped (Err r) x y names body = refl

module _ (d : Tables) (s : Scope) (shapes : List Shape) (before : Cases) (ts : PlainTrees) where
  step : (t : PlainTree) → (case_at d s shapes before t >>= λ after. cases_at d s shapes after ts) ≡ cases_at d s shapes before (more t ts)
  step (number p n) = refl
  step (name p w) = refl
  step (list p end) = refl
  step (list p (more (number q n) end)) = refl
  step (list p (more (name q w) end)) = refl
  step (list p (more (list q end) end)) = refl
  step (list p (more (list q (more (number r n) xs)) end)) = refl
  step (list p (more (list q (more (name r w) xs)) end)) = refl
  step (list p (more (list q (more (list r us) xs)) end)) = refl
  step (list p (more (number q n) (more b end))) = refl
  step (list p (more (name q w) (more b end))) = refl
  step (list p (more (list q end) (more b end))) = refl
  step (list p (more (list q (more (number r n) xs)) (more b end))) = refl
  step (list p (more (list q (more (list r us) xs)) (more b end))) = refl
  step (list p (more (list q (more (name r w) xs)) (more b end))) =
      shaped (λ shape body. agrees before body) (λ shape body. with_case before shape body) (λ after. cases_at d s shapes after ts) (shape_at d.names shapes q r w)
      (λ shape. check (nat_eq (count xs) (length shape.fields)) 23 q) (λ shape. check (not (is_among before.heads w)) 26 q) (pattern_variables [] xs)
      (λ shape ws. expression d (bind_all s ws shape.fields) b)
  step (list p (more (number q n) (more b (more c us)))) = refl
  step (list p (more (name q w) (more b (more c us)))) = refl
  step (list p (more (list q end) (more b (more c us)))) = refl
  step (list p (more (list q (more (number r n) xs)) (more b (more c us)))) = refl
  step (list p (more (list q (more (list r vs) xs)) (more b (more c us)))) = refl
  step (list p (more (list q (more (name r w) xs)) (more b (more c us)))) = refl

module _ (d : Tables) (s : Scope) (shapes : List Shape) (before : Cases) (trees : List Tree) (i : ℕ) (x : Tree) (lt : i < length trees) (is : x ≡ get_or trees i x) where
  -- a case and then the others
  pub next_case : (all : Checked Cases) → all ≡ cases_at d s shapes before (views (drop i trees))
      → all ≡ (case_at d s shapes before (view x) >>= λ after. cases_at d s shapes after (views (drop (i + 1) trees)))
  next_case all so =
      so ∙ at_drop_more (λ ts. cases_at d s shapes before (views ts)) trees i x lt ∙ ap (λ y. cases_at d s shapes before (views (y ∷ drop (i + 1) trees))) (sym is)
      ∙ sym (step d s shapes before (views (drop (i + 1) trees)) (view x))

module _ (d : Tables) (s : Scope) (shapes : List Shape) (before : Cases) (p : Place) where
  pub case_few : (ts : List Tree) → length ts < 2 → case_at d s shapes before (list p (views ts)) ≡ refuse 20 p
  case_few [] h = refl
  case_few (a ∷ []) h = refl
  case_few (a ∷ b ∷ ts) h = absurd (omega arith)

  pub case_many : (ts : List Tree) → 3 ≤ length ts → case_at d s shapes before (list p (views ts)) ≡ refuse 20 p
  case_many [] h = absurd (omega arith)
  case_many (a ∷ []) h = absurd (omega arith)
  case_many (a ∷ b ∷ []) h = absurd (omega arith)
  case_many (a ∷ b ∷ c ∷ ts) h = refl

-- a pattern and a body
pub two_trees : (ts : List Tree) (x y : Tree) → 2 ≤ length ts → length ts < 3 → x ≡ get_or ts 0 x → y ≡ get_or ts 1 y → views ts ≡ more (view x) (more (view y) end)
two_trees [] x y most least is are = absurd (omega arith)
two_trees (a ∷ []) x y most least is are = absurd (omega arith)
two_trees (a ∷ b ∷ []) x y most least is are = λ i. more (view (sym is i)) (more (view (sym are i)) end)
two_trees (a ∷ b ∷ c ∷ ts) x y most least is are = absurd (omega arith)

-- the patterns of a value that has some, and what comes of them
pub by_shapes : {X : Type 0} (b : Bool) (p : Place) (all : List Shape) (next : List Shape → Checked X) → (check b 24 p >> next all) ≡ ((check b 24 p >> Ok all) >>= next)
by_shapes true p all next = refl
by_shapes false p all next = refl

pub some_patterns : (shapes : List CodeShape) → length shapes ≢ 0 → has_patterns (map shape_in shapes) ≡ true
some_patterns [] h = absurd (h refl)
some_patterns (s ∷ shapes) h = refl
