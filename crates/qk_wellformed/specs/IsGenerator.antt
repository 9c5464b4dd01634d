-- Which trees are generators, of values of which type.
use Rattle.std.specs.Prelude.{◌≡◌, ◌<◌, ◌≤◌, ℕ, pos, List, [], ◌∷◌, codes, sum_by, Option, Some}
use Rattle.qk_syntax.specs.PlainTrees.{PlainTree, number, name, list, PlainTrees, end, more}
use Rattle.qk_value.specs.Types.{TypeData, int_type, bool_type}
use Rattle.qk_core.specs.ExprData.{ExprData}
use Rattle.qk_core.specs.GenData.{GenData, weighteds_of}
use Rattle.qk_generators.specs.Drawing.{GenForm, values, draws, sized, frequency, bind, Sized, gen_forms, gen_form_by}
use Rattle.qk_typing.specs.Operators.{Tables}
use Rattle.qk_names.specs.Reserved.{Word, entry_of}
use Rattle.qk_headers.specs.Scopes.{Scope, bind as with_variable}
use Rattle.qk_wellformed.specs.GeneratorTypes.{ValuesTypes, IsOfValues, DrawsTypes, IsOfDraws, SizedTypes, IsSizedBy}
use Rattle.qk_wellformed.specs.IsExpression.{IsExpression, AreExpressions}
use Rattle.qk_wellformed.specs.IsVariable.{IsVariable}

-- the generator that is this word, with the type of what it draws
abbrev pub plain_generator : Word → Option (TypeData × GenData)
plain_generator = entry_of ((codes "int", (int_type, GenData.any_number)) ∷ (codes "bool", (bool_type, GenData.any_truth)) ∷ (codes "size", (int_type, GenData.size)) ∷ [])

abbrev mutual
  pub IsGenerator : Tables → Scope → PlainTree → TypeData → GenData → Type 0
  IsGenerator d s (number p n) t g = ⊥
  IsGenerator d s (name p w) t g = plain_generator w ≡ Some (t, g)
  IsGenerator d s (list p (more (name q w) parts)) t g = (form : GenForm) × (gen_form_by d.names w (entry_of gen_forms w) ≡ Some form) × (elim form [
    | values f ↦ (ts : List TypeData) × (es : List ExprData) × AreExpressions d s parts ts es × ValuesTypes d.headers f ts t × IsOfValues f es g
    | draws f ↦ (ts : List TypeData) × (gs : List GenData) × AreGenerators d s parts ts gs × DrawsTypes d.headers f ts t × IsOfDraws f gs g
    | sized f ↦ IsSized d s f parts t g
    | bind ↦ IsBind d s parts t g
    | frequency ↦ (ws : List (ℕ × GenData)) × AreWeighed d s t parts ws × (0 < sum_by (λ a. a.0) ws) × (g ≡ GenData.frequency (weighteds_of ws))
  ])
  IsGenerator d s (list p parts) t g = ⊥

  pub AreGenerators : Tables → Scope → PlainTrees → List TypeData → List GenData → Type 0
  AreGenerators d s end [] [] = Unit {0}
  AreGenerators d s (more u us) (t ∷ ts) (g ∷ gs) = IsGenerator d s u t g × AreGenerators d s us ts gs
  AreGenerators d s us ts gs = ⊥

  pub IsSized : Tables → Scope → Sized → PlainTrees → TypeData → GenData → Type 0
  IsSized d s f (more a (more b end)) t g =
      (e : ExprData) × (u : TypeData) × (body : GenData) × IsExpression d s a int_type e × IsGenerator d s b u body × SizedTypes f u t × IsSizedBy f e body g
  IsSized d s f parts t g = ⊥

  -- what is drawn first is a variable of what is drawn then
  pub IsBind : Tables → Scope → PlainTrees → TypeData → GenData → Type 0
  IsBind d s (more x (more a (more b end))) t g =
      (w : Word) × (u : TypeData) × (first : GenData) × (body : GenData)
      × IsVariable [] x w × IsGenerator d s a u first × IsGenerator d (with_variable s w u) b t body × (g ≡ GenData.bind first body)
  IsBind d s parts t g = ⊥

  -- weights, and generators that all draw values of the type
  pub AreWeighed : Tables → Scope → TypeData → PlainTrees → List (ℕ × GenData) → Type 0
  AreWeighed d s t end [] = Unit {0}
  AreWeighed d s t (more (list p (more (number q n) (more b end))) us) (w ∷ ws) = (n ≡ pos w.0) × (w.0 ≤ 1000000) × IsGenerator d s b t w.1 × AreWeighed d s t us ws
  AreWeighed d s t us ws = ⊥
