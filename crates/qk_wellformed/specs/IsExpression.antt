-- Which trees are expressions, of which type.
use Rattle.std.specs.Prelude.{◌≡◌, Bool, true, false, List, [], ◌∷◌, ◌++◌, map, length, codes, bytes_eq, find, Option, Some, None}
use Rattle.std.specs.List.{list_all}
use Rattle.qk_syntax.specs.PlainTrees.{PlainTree, number, name, list, PlainTrees, end, more, count}
use Rattle.qk_value.specs.Types.{TypeData, int_type, bool_type, list_type}
use Rattle.qk_core.specs.ExprData.{ExprData, cases_of}
use Rattle.qk_core.specs.declared.expr.Pattern.{Pattern}
use Rattle.qk_names.specs.Names.{Declared}
use Rattle.qk_typing.specs.Operators.{Tables, Form, empty_list, binding, matching, operator, forms, form_by}
use Rattle.qk_expressions.specs.Patterns.{Shape, shapes_of, has_patterns, is_among}
use Rattle.qk_names.specs.Reserved.{Word, entry_of}
use Rattle.qk_headers.specs.Scopes.{Scope, Found, variable_of, bind, bind_all}
use Rattle.qk_wellformed.specs.IsType.{IsType}
use Rattle.qk_wellformed.specs.IsVariable.{IsVariable, AreVariables}
use Rattle.qk_wellformed.specs.OperatorTypes.{OperatorTypes, IsApplied}

abbrev pub truth_of : Word → Option Bool
truth_of = entry_of ((codes "true", true) ∷ (codes "false", false) ∷ [])

-- a variable, or else a truth value
abbrev pub IsLoneName : Option Found → Option Bool → TypeData → ExprData → Type 0
IsLoneName (Some v) truth t e = (t ≡ v.ty) × (e ≡ ExprData.variable v.index)
IsLoneName None (Some b) t e = (t ≡ bool_type) × (e ≡ ExprData.truth b)
IsLoneName None None t e = ⊥

-- the empty list of a type of items
abbrev pub IsEmptyList : List Declared → PlainTrees → TypeData → ExprData → Type 0
IsEmptyList names (more u end) t e = (item : TypeData) × IsType names u item × (t ≡ list_type item) × (e ≡ ExprData.empty item)
IsEmptyList names parts t e = ⊥

-- a case of a match: its pattern, and its body
pub record Arm : Type 0 where
  pub shape : Shape
  pub body : ExprData

abbrev pub heads_of : List Arm → List Word
heads_of arms = map (λ a. a.shape.head) arms

abbrev pub cases_in : List Arm → List (Pattern × ExprData)
cases_in arms = map (λ a. (a.shape.pattern, a.body)) arms

-- each of the words differs from those before it
abbrev pub AreNew : List Word → List Word → Type 0
AreNew before [] = Unit {0}
AreNew before (w ∷ ws) = (is_among before w ≡ false) × AreNew (before ++ w ∷ []) ws

-- each pattern of a type that has some stands once
pub record AreAll (shapes : List Shape) (arms : List Arm) : Type 0 where
  pub some : has_patterns shapes ≡ true
  pub each : list_all (λ s. is_among (heads_of arms) s.head) shapes ≡ true
  pub once : AreNew [] (heads_of arms)

abbrev mutual
  pub IsExpression : Tables → Scope → PlainTree → TypeData → ExprData → Type 0
  IsExpression d s (number p n) t e = (t ≡ int_type) × (e ≡ ExprData.number n)
  IsExpression d s (name p w) t e = IsLoneName (variable_of s w) (truth_of w) t e
  IsExpression d s (list p (more (name q w) parts)) t e = (form : Form) × (form_by d.names w (entry_of forms w) ≡ Some form) × (elim form [
    | empty_list ↦ IsEmptyList d.names parts t e
    | binding ↦ IsLet d s parts t e
    | matching ↦ IsMatch d s parts t e
    | operator op ↦ (ts : List TypeData) × (es : List ExprData) × AreExpressions d s parts ts es × OperatorTypes d.headers op ts t × IsApplied op es e
  ])
  IsExpression d s (list p parts) t e = ⊥

  pub AreExpressions : Tables → Scope → PlainTrees → List TypeData → List ExprData → Type 0
  AreExpressions d s end [] [] = Unit {0}
  AreExpressions d s (more u us) (t ∷ ts) (e ∷ es) = IsExpression d s u t e × AreExpressions d s us ts es
  AreExpressions d s us ts es = ⊥

  pub IsLet : Tables → Scope → PlainTrees → TypeData → ExprData → Type 0
  IsLet d s (more x (more a (more b end))) t e =
      (w : Word) × (u : TypeData) × (bound : ExprData) × (body : ExprData)
      × IsVariable [] x w × IsExpression d s a u bound × IsExpression d (bind s w u) b t body × (e ≡ ExprData.binding bound body)
  IsLet d s parts t e = ⊥

  pub IsMatch : Tables → Scope → PlainTrees → TypeData → ExprData → Type 0
  IsMatch d s (more a cases) t e =
      (u : TypeData) × (value : ExprData) × (arms : List Arm)
      × IsExpression d s a u value × AreArms d s (shapes_of d.headers u) t cases arms × AreAll (shapes_of d.headers u) arms × (e ≡ ExprData.matching value (cases_of (cases_in arms)))
  IsMatch d s end t e = ⊥

  -- the cases are these, and their bodies have the type
  pub AreArms : Tables → Scope → List Shape → TypeData → PlainTrees → List Arm → Type 0
  AreArms d s shapes t end [] = Unit {0}
  AreArms d s shapes t (more (list p (more (list q (more (name r w) xs)) (more b end))) cases) (arm ∷ arms) =
      (find (λ shape. bytes_eq w shape.head) shapes ≡ Some arm.shape) × (count xs ≡ length arm.shape.fields)
      × ((ws : List Word) × AreVariables [] xs ws × IsExpression d (bind_all s ws arm.shape.fields) b t arm.body) × AreArms d s shapes t cases arms
  AreArms d s shapes t cases arms = ⊥
