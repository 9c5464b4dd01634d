-- Operators at parts of the types that they take.
use Rattle.std.specs.Prelude.{unwrap_or, option_map, option_and_then}
use Rattle.std.proofs.Common.{◌≡◌, ◌∙◌, ℕ, List, [], ◌∷◌, Option, Some, None, slice_get, refl, sym, ap, subst}
use Rattle.qk_core.specs.Definitions.{FunctionData, UserGenData}
use Rattle.qk_core.specs.ExprData.{ExprData, exprs_of}
use Rattle.qk_core.specs.declared.expr.Op1.{Op1}
use Rattle.qk_core.specs.declared.expr.Op1.TheVariants as ones
use Rattle.qk_core.specs.declared.expr.Op2.{Op2}
use Rattle.qk_core.specs.declared.expr.Op2.TheVariants as twos
use Rattle.qk_headers.specs.Scopes.{types_of}
use Rattle.qk_names.specs.Names.{Declared, named_by}
use Rattle.qk_names.specs.Reserved.{Word, entry_of}
use Rattle.qk_names.specs.declared.names.Named.{Named}
use Rattle.qk_names.specs.declared.names.Named.TheVariants as named
use Rattle.qk_typed.specs.OperatorTypes.{TakesOne, TakesTwo}
use Rattle.qk_typed.specs.TypedExpressions.{IsFunction, IsMaker, IsTyped, AreTyped}
use Rattle.qk_typed.specs.WellTyped.{Each}
use Rattle.qk_typing.specs.Operators.{Tables, Form, empty_list, binding, matching, operator, Operator, choice, unary, binary, maker, function, forms, form_by, declared_form, fields_of, function_of}
use Rattle.qk_value.specs.Kinds.{MakerData, maker_of}
use Rattle.qk_value.specs.Types.{TypeData}
use Rattle.qk_value.specs.Typing.{field_types}
use Rattle.qk_wellformed.specs.OperatorTypes.{UnaryTypes, BinaryTypes, OperatorTypes, IsApplied}
use Rattle.qk_sound.proofs.Found.{entry_holds}
use Rattle.qk_sound.proofs.Stands.{Fits}

-- forms of the language itself are of no declared name
abbrev IsOwn : Form → Type 0
IsOwn empty_list = Unit {0}
IsOwn binding = Unit {0}
IsOwn matching = Unit {0}
IsOwn (operator choice) = Unit {0}
IsOwn (operator (unary op)) = Unit {0}
IsOwn (operator (binary op)) = Unit {0}
IsOwn (operator (maker k m)) = ⊥
IsOwn (operator (function f)) = ⊥

own_forms : Each (λ (e : Word × Form). IsOwn e.1) forms
own_forms = (tt, (tt, (tt, (tt, (tt, (tt, (tt, (tt, (tt, (tt, (tt, (tt, (tt, (tt, (tt, (tt, (tt, (tt, (tt, (tt, tt))))))))))))))))))))

maker_declared : (what : Option Named) (k m : ℕ) → option_and_then declared_form what ≡ Some (operator (maker k m)) → what ≡ Some (named.Maker k m)
maker_declared None k m e = cc
maker_declared (Some (named.Maker i j)) k m e = cc
maker_declared (Some (named.Function f)) k m e = cc
maker_declared (Some (named.Kind i)) k m e = cc
maker_declared (Some (named.Generator i)) k m e = cc
maker_declared (Some (named.Model i)) k m e = cc
maker_declared (Some (named.Property i)) k m e = cc

function_declared : (what : Option Named) (f : ℕ) → option_and_then declared_form what ≡ Some (operator (function f)) → what ≡ Some (named.Function f)
function_declared None f e = cc
function_declared (Some (named.Maker i j)) f e = cc
function_declared (Some (named.Function g)) f e = cc
function_declared (Some (named.Kind i)) f e = cc
function_declared (Some (named.Generator i)) f e = cc
function_declared (Some (named.Model i)) f e = cc
function_declared (Some (named.Property i)) f e = cc

form_is : (form g : Form) → Some form ≡ Some g → form ≡ g
form_is form g e = cc

maker_by : (names : List Declared) (w : Word) (o : Option Form) (k m : ℕ) → ((form : Form) → o ≡ Some form → IsOwn form) → form_by names w o ≡ Some (operator (maker k m)) → named_by names w ≡ Some (named.Maker k m)
maker_by names w (Some form) k m own e = absurd (subst IsOwn (form_is form (operator (maker k m)) e) (own form refl))
maker_by names w None k m own e = maker_declared (named_by names w) k m e

function_by : (names : List Declared) (w : Word) (o : Option Form) (f : ℕ) → ((form : Form) → o ≡ Some form → IsOwn form) → form_by names w o ≡ Some (operator (function f)) → named_by names w ≡ Some (named.Function f)
function_by names w (Some form) f own e = absurd (subst IsOwn (form_is form (operator (function f)) e) (own form refl))
function_by names w None f own e = function_declared (named_by names w) f e

pub takes_one : (op : Op1) (a t : TypeData) → UnaryTypes op a t → TakesOne op a t
takes_one ones.Neg a t h = h
takes_one ones.Not a t h = h
takes_one ones.Length a t h = h

pub takes_two : (op : Op2) (a b t : TypeData) → BinaryTypes op a b t → TakesTwo op a b t
takes_two twos.Add a b t h = h
takes_two twos.Sub a b t h = h
takes_two twos.Mul a b t h = h
takes_two twos.Div a b t h = h
takes_two twos.Mod a b t h = h
takes_two twos.Equal a b t h = h
takes_two twos.Less a b t h = h
takes_two twos.AtMost a b t h = h
takes_two twos.And a b t h = h
takes_two twos.Or a b t h = h
takes_two twos.Cons a b t h = h
takes_two twos.Append a b t h = h
takes_two twos.Pair a b t h = h

module _ (d : Tables) (functions : List FunctionData) (generators : List UserGenData) (fits : Fits d functions generators) where
  -- a declared maker takes values of its fields' types
  pub is_maker : (w : Word) (k m : ℕ) (ts : List TypeData) → named_by d.names w ≡ Some (named.Maker k m) → ts ≡ fields_of d.headers k m → IsMaker d.headers.kinds k m ts
  is_maker w k m ts known same =
      let made : (maker : MakerData) × (maker_of d.headers.kinds k m ≡ Some maker) = fits.stand w (named.Maker k m) known in
      ap field_types made.1 ∙ ap Some (sym (same ∙ ap (λ (o : Option MakerData). unwrap_or (option_map (λ (x : MakerData). x.fields) o) []) made.1))

  is_function : (w : Word) (f : ℕ) (ts : List TypeData) (t : TypeData) → named_by d.names w ≡ Some (named.Function f) → (ts ≡ types_of (function_of d.headers f).params) → t ≡ (function_of d.headers f).result
      → IsFunction functions f ts t
  is_function w f ts t known takes gives =
      let found : (function : FunctionData) × (slice_get functions f ≡ Some function) × (function.params ≡ types_of (function_of d.headers f).params) × (function.result ≡ (function_of d.headers f).result) =
      fits.function_at f (fits.stand w (named.Function f) known) in
      (found.0, found.1, found.2 ∙ sym takes, found.3 ∙ sym gives)

  module _ (env : List TypeData) (w : Word) where
    choice_typed : (ts : List TypeData) (es : List ExprData) (t : TypeData) (e : ExprData) → AreTyped d.headers.kinds functions env (exprs_of es) ts → OperatorTypes d.headers choice ts t → IsApplied choice es e → IsTyped d.headers.kinds functions env e t
    choice_typed (c ∷ a ∷ b ∷ []) (x ∷ y ∷ z ∷ []) t e all fit is =
        subst (λ (v : ExprData). IsTyped d.headers.kinds functions env v t) (sym is)
        (subst (IsTyped d.headers.kinds functions env x) fit.0 all.0, subst (IsTyped d.headers.kinds functions env y) fit.1 all.1.0, subst (IsTyped d.headers.kinds functions env z) fit.2 all.1.1.0)
    choice_typed (c ∷ a ∷ b ∷ []) es t e all fit is = absurd is
    choice_typed ts es t e all fit is = absurd fit

    unary_typed : (op : Op1) (ts : List TypeData) (es : List ExprData) (t : TypeData) (e : ExprData) → AreTyped d.headers.kinds functions env (exprs_of es) ts → OperatorTypes d.headers (unary op) ts t → IsApplied (unary op) es e
        → IsTyped d.headers.kinds functions env e t
    unary_typed op (a ∷ []) (x ∷ []) t e all fit is = subst (λ (v : ExprData). IsTyped d.headers.kinds functions env v t) (sym is) (a, all.0, takes_one op a t fit)
    unary_typed op (a ∷ []) es t e all fit is = absurd is
    unary_typed op ts es t e all fit is = absurd fit

    binary_typed : (op : Op2) (ts : List TypeData) (es : List ExprData) (t : TypeData) (e : ExprData) → AreTyped d.headers.kinds functions env (exprs_of es) ts → OperatorTypes d.headers (binary op) ts t → IsApplied (binary op) es e
        → IsTyped d.headers.kinds functions env e t
    binary_typed op (a ∷ b ∷ []) (x ∷ y ∷ []) t e all fit is = subst (λ (v : ExprData). IsTyped d.headers.kinds functions env v t) (sym is) (a, b, all.0, all.1.0, takes_two op a b t fit)
    binary_typed op (a ∷ b ∷ []) es t e all fit is = absurd is
    binary_typed op ts es t e all fit is = absurd fit

    pub operator_typed : (op : Operator) (ts : List TypeData) (es : List ExprData) (t : TypeData) (e : ExprData) → form_by d.names w (entry_of forms w) ≡ Some (operator op) → AreTyped d.headers.kinds functions env (exprs_of es) ts → OperatorTypes d.headers op ts t
        → IsApplied op es e → IsTyped d.headers.kinds functions env e t
    operator_typed choice ts es t e known all fit is = choice_typed ts es t e all fit is
    operator_typed (unary op) ts es t e known all fit is = unary_typed op ts es t e all fit is
    operator_typed (binary op) ts es t e known all fit is = binary_typed op ts es t e all fit is
    operator_typed (maker k m) ts es t e known all fit is =
        let declared = maker_by d.names w (entry_of forms w) k m (λ form h. entry_holds IsOwn forms w form own_forms h) known in
        subst (λ (v : ExprData). IsTyped d.headers.kinds functions env v t) (sym is) (ts, is_maker w k m ts declared fit.0, all, fit.1)
    operator_typed (function f) ts es t e known all fit is =
        let declared = function_by d.names w (entry_of forms w) f (λ form h. entry_holds IsOwn forms w form own_forms h) known in
        subst (λ (v : ExprData). IsTyped d.headers.kinds functions env v t) (sym is) (ts, is_function w f ts t declared fit.0 fit.1, all)
