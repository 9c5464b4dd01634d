-- What trees are as expressions. Of each node: its form, its number of parts, its parts left to right, then its types.
use Rattle.std.specs.Prelude.{◌∷◌, ◌++◌, [], List, length, not, codes, nat_eq, true, false, Option, Some, None, Ok}
use Rattle.qk_base.specs.declared.place.Place.{Place}
use Rattle.qk_syntax.specs.PlainTrees.{PlainTree, number, name, list, PlainTrees, end, more, count}
use Rattle.qk_value.specs.Types.{TypeData, int_type, bool_type, list_type}
use Rattle.qk_names.specs.Checks.{Checked, ◌>>=◌, ◌>>◌, refuse, check, place_of}
use Rattle.qk_core.specs.ExprData.{ExprData, cases_of}
use Rattle.qk_typing.specs.Operators.{Tables, Typed, typed, Form, empty_list, binding, matching, operator, usable, form_of, arity, applied, has_type}
use Rattle.qk_expressions.specs.Patterns.{Shape, shapes_of, has_patterns, shape_at, pattern_variables, Cases, no_cases, is_among, agrees, with_case, are_complete, result_of}
use Rattle.qk_names.specs.Reserved.{Word, entry_of}
use Rattle.qk_headers.specs.Scopes.{Scope, Found, variable_of, bind, bind_all, variable_at}
use Rattle.qk_headers.specs.TypesOf.{type_at}

abbrev pub atom : Place → Word → Option Typed
atom p w = entry_of ((codes "true", typed p bool_type (ExprData.truth true)) ∷ (codes "false", typed p bool_type (ExprData.truth false)) ∷ []) w

-- a variable hides a declared name where the name stands alone
abbrev pub variable_or : Place → Option Found → Option Typed → Option Typed
variable_or p (Some v) other = Some (typed p v.ty (ExprData.variable v.index))
variable_or p None other = other

abbrev pub lone_name : Tables → Scope → Place → Word → Checked Typed
lone_name d s p w = usable d.names p p w (variable_or p (variable_of s w) (atom p w))

abbrev pub nil_at : Tables → Place → PlainTrees → Checked Typed
nil_at d p (more t end) = do
  t ← type_at d.names t
  Ok (typed p (list_type t) (ExprData.empty t))
nil_at d p parts = refuse 23 p

abbrev mutual
  pub expression : Tables → Scope → PlainTree → Checked Typed
  expression d s (number p n) = Ok (typed p int_type (ExprData.number n))
  expression d s (name p w) = lone_name d s p w
  expression d s (list p (more (name q w) parts)) = do
    form ← form_of d.names p q w
    elim form [
      | empty_list ↦ nil_at d p parts
      | binding ↦ let_at d s p parts
      | matching ↦ match_at d s p parts
      | operator op ↦ do
        check (nat_eq (count parts) (arity d.headers op)) 23 p
        es ← expressions d s [] parts
        applied d.headers p op es
    ]
  expression d s (list p parts) = refuse 20 p

  -- one after another, after these
  pub expressions : Tables → Scope → List Typed → PlainTrees → Checked (List Typed)
  expressions d s before end = Ok before
  expressions d s before (more t ts) = do
    e ← expression d s t
    expressions d s (before ++ e ∷ []) ts

  pub let_at : Tables → Scope → Place → PlainTrees → Checked Typed
  let_at d s p (more x (more e (more b end))) = do
    w ← variable_at [] x
    bound ← expression d s e
    body ← expression d (bind s w bound.ty) b
    Ok (typed p body.ty (ExprData.binding bound.expr body.expr))
  let_at d s p parts = refuse 23 p

  pub match_at : Tables → Scope → Place → PlainTrees → Checked Typed
  match_at d s p (more e cases) = do
    e ← expression d s e
    check (has_patterns (shapes_of d.headers e.ty)) 24 p
    cases ← cases_at d s (shapes_of d.headers e.ty) no_cases cases
    check (are_complete (shapes_of d.headers e.ty) cases) 25 p
    Ok (typed p (result_of cases) (ExprData.matching e.expr (cases_of cases.cases)))
  match_at d s p end = refuse 23 p

  pub cases_at : Tables → Scope → List Shape → Cases → PlainTrees → Checked Cases
  cases_at d s shapes before end = Ok before
  cases_at d s shapes before (more (list p (more (list q (more (name r w) xs)) (more b end))) cases) = do
    shape ← shape_at d.names shapes q r w
    check (nat_eq (count xs) (length shape.fields)) 23 q
    check (not (is_among before.heads w)) 26 q
    ws ← pattern_variables [] xs
    body ← expression d (bind_all s ws shape.fields) b
    agrees before body
    cases_at d s shapes (with_case before shape body) cases
  cases_at d s shapes before (more t cases) = refuse 20 (place_of t)

-- an expression of that type, where these variables are seen
abbrev pub expression_of_type : Tables → Scope → TypeData → PlainTree → Checked ExprData
expression_of_type d s t e = do
  e ← expression d s e
  has_type t e
  Ok e.expr
