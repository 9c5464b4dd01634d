-- Steps of the judging of a node, each after those before it.
use Rattle.std.specs.Prelude.{List, [], nat_eq, Ok}
use Rattle.qk_base.specs.declared.place.Place.{Place}
use Rattle.qk_syntax.specs.PlainTrees.{PlainTree, PlainTrees, count}
use Rattle.qk_value.specs.Types.{TypeData}
use Rattle.qk_core.specs.ExprData.{ExprData, cases_of}
use Rattle.qk_names.specs.Checks.{Checked, ◌>>=◌, ◌>>◌, check}
use Rattle.qk_expressions.specs.Expressions.{expression, expressions, let_at, match_at, nil_at}
use Rattle.qk_headers.specs.Headers.{HeadersData}
use Rattle.qk_typing.specs.Operators.{Tables, Typed, typed, Form, empty_list, binding, matching, operator, Operator, arity, applied}
use Rattle.qk_expressions.specs.Patterns.{Shape, shapes_of, has_patterns, Cases, are_complete, result_of}
use Rattle.qk_names.specs.Reserved.{Word}
use Rattle.qk_headers.specs.Scopes.{Scope, bind}

abbrev pub operator_at : Tables → Scope → Place → PlainTrees → Operator → Checked Typed
operator_at d s p parts op = do
  check (nat_eq (count parts) (arity d.headers op)) 23 p
  es ← expressions d s [] parts
  applied d.headers p op es

-- the parts after the head of a list of this form
abbrev pub formed : Tables → Scope → Place → PlainTrees → Form → Checked Typed
formed d s p parts empty_list = nil_at d p parts
formed d s p parts binding = let_at d s p parts
formed d s p parts matching = match_at d s p parts
formed d s p parts (operator op) = operator_at d s p parts op

-- the patterns of a type that has some
abbrev pub shapes_at : HeadersData → Place → TypeData → Checked (List Shape)
shapes_at h p t = do
  check (has_patterns (shapes_of h t)) 24 p
  Ok (shapes_of h t)

-- the match of a value by cases
abbrev pub matched : Place → List Shape → Typed → Cases → Checked Typed
matched p shapes e cases = do
  check (are_complete shapes cases) 25 p
  Ok (typed p (result_of cases) (ExprData.matching e.expr (cases_of cases.cases)))

-- a variable of this name is bound to a value in a body
abbrev pub let_body : Tables → Scope → Place → Word → Typed → PlainTree → Checked Typed
let_body d s p w bound t = do
  body ← expression d (bind s w bound.ty) t
  Ok (typed p body.ty (ExprData.binding bound.expr body.expr))
