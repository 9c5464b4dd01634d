-- The data that the parts of a check stand for.
use Rattle.std.specs.Prelude.{ℕ, List, map, Option, Some, None, option_map, slice_get}
use Rattle.qk_base.specs.Growing.{Growing}
use Rattle.qk_typing.specs.Operators.{Form, empty_list, binding, matching, operator, Operator, choice, unary, binary, maker, function}
use Rattle.qk_names.specs.Reserved.{Word}
use Rattle.qk_headers.specs.Scopes.{Scope, Found}
use Rattle.qk_typing.specs.declared.heads.Form.{Form as CodeForm}
use Rattle.qk_typing.specs.declared.heads.Form.TheVariants as forms
use Rattle.qk_typing.specs.declared.heads.Operator.{Operator as CodeOperator}
use Rattle.qk_typing.specs.declared.heads.Operator.TheVariants as operators

abbrev pub words_in : List (Growing ℕ) → List Word
words_in names = map (λ n. n.items) names

-- the variable of that index
abbrev pub found_at : Scope → Option ℕ → Option Found
found_at s None = None
found_at s (Some i) = option_map (λ v. record { index = i; ty = v.ty }) (slice_get s i)

abbrev pub operator_in : CodeOperator → Operator
operator_in operators.Choice = choice
operator_in (operators.Unary op) = unary op
operator_in (operators.Binary op) = binary op
operator_in (operators.Maker k m) = maker k m
operator_in (operators.Function f) = function f

abbrev pub form_in : CodeForm → Form
form_in forms.EmptyList = empty_list
form_in forms.Binding = binding
form_in forms.Matching = matching
form_in (forms.Operator op) = operator (operator_in op)
