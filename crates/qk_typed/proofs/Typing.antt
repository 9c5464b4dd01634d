-- A typed expression gives a value of its type.
use Rattle.std.proofs.Common.{◌≡◌, ℕ, zero, suc, ℤ, pos, ◌+ℤ◌, ◌-ℤ◌, ◌*ℤ◌, neg_ℤ, int_div, int_rem, Bool, true, false, nat_lt, IsTrue, if◌then◌else◌, List, [], ◌∷◌, ◌++◌, Option, Some, None, Result, Ok, Err, slice_get, option_map, refl, sym, ap, subst}
use Rattle.std.specs.Ordering.{int_eq}
use Rattle.qk_base.specs.declared.outcome.Cause.{Cause}
use Rattle.qk_base.specs.declared.outcome.Cause.TheVariants.{Overflow, DivZero, Weight, Depth}
use Rattle.qk_core.specs.Definitions.{FunctionData}
use Rattle.qk_core.specs.ExprData.{ExprData, number, truth, variable, empty, choice, binding, unary, binary, matching, making, call, ExprsData, end as no_expr, more as more_exprs, CasesData, no_case, more_cases}
use Rattle.qk_core.specs.declared.expr.Op1.{Op1}
use Rattle.qk_core.specs.declared.expr.Op1.TheVariants.{Neg, Not, Length}
use Rattle.qk_core.specs.declared.expr.Op2.{Op2}
use Rattle.qk_core.specs.declared.expr.Op2.TheVariants.{Add, Sub, Mul, Div, Mod, Equal, Less, AtMost, And, Or, Cons, Append, Pair}
use Rattle.qk_core.specs.declared.expr.Pattern.{Pattern}
use Rattle.qk_value.specs.Data.{Data, int, bool, list, pair, made, datas_of}
use Rattle.qk_value.specs.Kinds.{KindData}
use Rattle.qk_value.specs.Measures.{weight, depth}
use Rattle.qk_value.specs.Types.{TypeData, int_type, bool_type, list_type, pair_type, made_type}
use Rattle.qk_value.specs.Typing.{has_type, all_have_type}
use Rattle.qk_eval.specs.Meaning.{Evaluated, result, crash, and_then, fits_i64, overflows, unary_of, binary_of, decided_by, or_crash, or_else, Calls, mean, mean_all, mean_case, body_of, mean_body, calls_within, calling, meaning, called}
use Rattle.qk_eval.specs.Parts.{number_of, truth_of, items_of, joined, before, parts_of, fits, small}
use Rattle.qk_shrink.proofs.TypedLaws.{conj}
use Rattle.qk_typed.specs.OperatorTypes.{TakesOne, TakesTwo}
use Rattle.qk_typed.specs.PatternTypes.{HasCase}
use Rattle.qk_typed.specs.TypedExpressions.{IsFunction, IsTyped, AreTyped, AreCases}
use Rattle.qk_typed.specs.TypedValues.{HasType, HaveTypes, IfResult, GivesType}
use Rattle.qk_typed.proofs.ValueTypes.{variable_has, both_have, one_more, made_has, items_have, joined_have, binds_have, taken, another_case}

pub then_gives : {R S : Type 0} (P : R → Type 0) (Q : S → Type 0) (r : Evaluated R) (f : R → ℕ → Evaluated S) → IfResult r P → ((x : R) (u : ℕ) → P x → IfResult (f x u) Q) → IfResult (and_then r f) Q
then_gives P Q (result x u) f h go = go x u h
then_gives P Q (crash c) f h go = tt

pub if_gives : {R : Type 0} (P : R → Type 0) (b : Bool) (r s : Evaluated R) → IfResult r P → IfResult s P → IfResult (if b then r else s) P
if_gives P true r s h k = h
if_gives P false r s h k = k

pub pick_gives : (P : Data → Type 0) (b : Bool) (r s : Evaluated Data) → (b ≡ true → IfResult r P) → (b ≡ false → IfResult s P) → IfResult (if b then r else s) P
pick_gives P true r s h k = h refl
pick_gives P false r s h k = k refl

else_gives : (P : Data → Type 0) (o : Option Bool) (go : ℕ → Evaluated Data) (u : ℕ) → ((b : Bool) → o ≡ Some b → P (bool b)) → IfResult (go u) P → IfResult (or_else o go u) P
else_gives P None go u h k = k
else_gives P (Some b) go u h k = h b refl

crash_if : (P : Data → Type 0) (b : Bool) (c : Cause) (r : Result Data Cause) (u : ℕ) → IfResult (or_crash r u) P → IfResult (or_crash (if b then Err c else r) u) P
crash_if P true c r u h = tt
crash_if P false c r u h = h

pub small_gives : (P : Data → Type 0) (x : Data) (u : ℕ) → P x → IfResult (or_crash (small x) u) P
small_gives P x u h = crash_if P (nat_lt 65536 (weight x)) Weight (if nat_lt 200 (depth x) then Err Depth else Ok x) u (crash_if P (nat_lt 200 (depth x)) Depth (Ok x) u h)

number_gives : (kinds : List KindData) (b : Bool) (z : ℤ) (c : Cause) (u : ℕ) → GivesType kinds int_type (or_crash (if b then Ok (int z) else Err c) u)
number_gives kinds true z c u = refl
number_gives kinds false z c u = tt

divided_gives : (kinds : List KindData) (a b : Bool) (z : ℤ) (u : ℕ) → GivesType kinds int_type (or_crash (if a then Err DivZero else if b then Err Overflow else Ok (int z)) u)
divided_gives kinds true b z u = tt
divided_gives kinds false true z u = tt
divided_gives kinds false false z u = refl

-- what gives one type gives another that is the same
pub as_type : (kinds : List KindData) (s t : TypeData) (r : Evaluated Data) → t ≡ s → GivesType kinds s r → GivesType kinds t r
as_type kinds s t r e h = subst (λ (a : TypeData). GivesType kinds a r) (sym e) h

unary_gives : (kinds : List KindData) (op : Op1) (s t : TypeData) (x : Data) (u : ℕ) → TakesOne op s t → GivesType kinds t (or_crash (unary_of op x) u)
unary_gives kinds Neg s t x u w = as_type kinds int_type t (or_crash (unary_of Neg x) u) w.1 (number_gives kinds (fits_i64 (neg_ℤ (number_of x))) (neg_ℤ (number_of x)) Overflow u)
unary_gives kinds Not s t x u w = as_type kinds bool_type t (or_crash (unary_of Not x) u) w.1 refl
unary_gives kinds Length s t x u w = as_type kinds int_type t (or_crash (unary_of Length x) u) w.2 refl

binary_gives : (kinds : List KindData) (op : Op2) (r s t : TypeData) (x y : Data) (u : ℕ) → HasType kinds r x → HasType kinds s y → TakesTwo op r s t → GivesType kinds t (or_crash (binary_of op x y) u)
binary_gives kinds Add r s t x y u h k w = as_type kinds int_type t (or_crash (binary_of Add x y) u) w.2 (number_gives kinds (fits_i64 (number_of x +ℤ number_of y)) (number_of x +ℤ number_of y) Overflow u)
binary_gives kinds Sub r s t x y u h k w = as_type kinds int_type t (or_crash (binary_of Sub x y) u) w.2 (number_gives kinds (fits_i64 (number_of x -ℤ number_of y)) (number_of x -ℤ number_of y) Overflow u)
binary_gives kinds Mul r s t x y u h k w = as_type kinds int_type t (or_crash (binary_of Mul x y) u) w.2 (number_gives kinds (fits_i64 (number_of x *ℤ number_of y)) (number_of x *ℤ number_of y) Overflow u)
binary_gives kinds Div r s t x y u h k w = as_type kinds int_type t (or_crash (binary_of Div x y) u) w.2 (divided_gives kinds (int_eq (number_of y) (pos 0)) (overflows (number_of x) (number_of y)) (int_div (number_of x) (number_of y)) u)
binary_gives kinds Mod r s t x y u h k w = as_type kinds int_type t (or_crash (binary_of Mod x y) u) w.2 (divided_gives kinds (int_eq (number_of y) (pos 0)) (overflows (number_of x) (number_of y)) (int_rem (number_of x) (number_of y)) u)
binary_gives kinds Equal r s t x y u h k w = as_type kinds bool_type t (or_crash (binary_of Equal x y) u) w.1 refl
binary_gives kinds Less r s t x y u h k w = as_type kinds bool_type t (or_crash (binary_of Less x y) u) w.1 refl
binary_gives kinds AtMost r s t x y u h k w = as_type kinds bool_type t (or_crash (binary_of AtMost x y) u) w.1 refl
binary_gives kinds And r s t x y u h k w = as_type kinds bool_type t (or_crash (binary_of And x y) u) w.2 refl
binary_gives kinds Or r s t x y u h k w = as_type kinds bool_type t (or_crash (binary_of Or x y) u) w.2 refl
binary_gives kinds Cons r s t x y u h k w =
    let rest = items_have kinds r y (subst (λ (a : TypeData). HasType kinds a y) w.0 k) in
    as_type kinds (list_type r) t (or_crash (binary_of Cons x y) u) w.1
    (small_gives (HasType kinds (list_type r)) (before x y) u (conj (has_type kinds r x) (all_have_type kinds r (items_of y)) h rest))
binary_gives kinds Append r s t x y u h k w =
    let first = items_have kinds w.0 x (subst (λ (a : TypeData). HasType kinds a x) w.1 h) in
    let rest = items_have kinds w.0 y (subst (λ (a : TypeData). HasType kinds a y) w.2 k) in
    as_type kinds (list_type w.0) t (or_crash (binary_of Append x y) u) w.3
    (small_gives (HasType kinds (list_type w.0)) (list (joined (items_of x) (items_of y))) u (joined_have kinds w.0 (items_of x) (items_of y) first rest))
binary_gives kinds Pair r s t x y u h k w =
    as_type kinds (pair_type r s) t (or_crash (binary_of Pair x y) u) w
    (small_gives (HasType kinds (pair_type r s)) (pair x y) u (conj (has_type kinds r x) (has_type kinds s y) h k))

-- what a first part decides alone is a truth value
decided_has : (kinds : List KindData) (op : Op2) (x : Data) (b : Bool) (r s t : TypeData) → decided_by op x ≡ Some b → TakesTwo op r s t → HasType kinds t (bool b)
decided_has kinds And x b r s t e w = subst (λ (a : TypeData). HasType kinds a (bool b)) (sym w.2) refl
decided_has kinds Or x b r s t e w = subst (λ (a : TypeData). HasType kinds a (bool b)) (sym w.2) refl
decided_has kinds op x b r s t e w = cc

module _ (kinds : List KindData) (functions : List FunctionData) (calls : Calls)
    (calls_give : (f : ℕ) (ts : List TypeData) (t : TypeData) (xs : List Data) (u : ℕ) → IsFunction functions f ts t → HaveTypes kinds ts xs → GivesType kinds t (calls f xs u)) where
  mutual
    pub gives : (e : ExprData) (ts : List TypeData) (t : TypeData) (env : List Data) (u : ℕ) → HaveTypes kinds ts env → IsTyped kinds functions ts e t → GivesType kinds t (mean calls e env u)
    gives (number n) ts t env u h w = as_type kinds int_type t (mean calls (number n) env u) w refl
    gives (truth b) ts t env u h w = as_type kinds bool_type t (mean calls (truth b) env u) w refl
    gives (variable x) ts t env u h w = variable_has kinds ts env x t h w
    gives (empty item) ts t env u h w = as_type kinds (list_type item) t (mean calls (empty item) env u) w.1 refl
    gives (choice c a b) ts t env u h w =
        then_gives (HasType kinds bool_type) (HasType kinds t) (mean calls c env u) _ (gives c ts bool_type env u h w.0) (λ x v k.
        if_gives (HasType kinds t) (truth_of x) (mean calls a env v) (mean calls b env v) (gives a ts t env v h w.1) (gives b ts t env v h w.2))
    gives (binding a b) ts t env u h w =
        then_gives (HasType kinds w.0) (HasType kinds t) (mean calls a env u) _ (gives a ts w.0 env u h w.1) (λ x v k.
        gives b (ts ++ w.0 ∷ []) t (env ++ x ∷ []) v (one_more kinds ts env w.0 x h k) w.2)
    gives (unary op a) ts t env u h w =
        then_gives (HasType kinds w.0) (HasType kinds t) (mean calls a env u) _ (gives a ts w.0 env u h w.1) (λ x v k. unary_gives kinds op w.0 t x v w.2)
    gives (binary op a b) ts t env u h w =
        then_gives (HasType kinds w.0) (HasType kinds t) (mean calls a env u) _ (gives a ts w.0 env u h w.2) (λ x v k.
        else_gives (HasType kinds t) (decided_by op x) _ v (λ d e. decided_has kinds op x d w.0 w.1 t e w.4)
        (then_gives (HasType kinds w.1) (HasType kinds t) (mean calls b env v) _ (gives b ts w.1 env v h w.3) (λ y z j. binary_gives kinds op w.0 w.1 t x y z k j w.4)))
    gives (matching a cases) ts t env u h w =
        then_gives (HasType kinds w.0) (HasType kinds t) (mean calls a env u) _ (gives a ts w.0 env u h w.1) (λ x v k.
        let one = taken kinds w.0 x w.3.0 k in
        case_gives cases one.pattern x w.0 ts t env v h k w.2 (w.3.1 one.pattern one.types one.binds) one.takes)
    gives (making k m parts) ts t env u h w =
        as_type kinds (made_type k) t (mean calls (making k m parts) env u) w.3
        (then_gives (HaveTypes kinds w.0) (HasType kinds (made_type k)) (mean_all calls parts env u) _ (all_give parts ts w.0 env u h w.2) (λ xs v j.
        small_gives (HasType kinds (made_type k)) (made k m (datas_of xs)) v (made_has kinds k m w.0 xs w.1 j)))
    gives (call f args) ts t env u h w =
        then_gives (HaveTypes kinds w.0) (HasType kinds t) (mean_all calls args env u) _ (all_give args ts w.0 env u h w.2) (λ xs v k. calls_give f w.0 t xs v w.1 k)

    pub all_give : (es : ExprsData) (ts us : List TypeData) (env : List Data) (u : ℕ) → HaveTypes kinds ts env → AreTyped kinds functions ts es us → IfResult (mean_all calls es env u) (HaveTypes kinds us)
    all_give no_expr ts [] env u h w = tt
    all_give no_expr ts (s ∷ us) env u h w = absurd w
    all_give (more_exprs e es) ts [] env u h w = absurd w
    all_give (more_exprs e es) ts (s ∷ us) env u h w =
        then_gives (HasType kinds s) (HaveTypes kinds (s ∷ us)) (mean calls e env u) _ (gives e ts s env u h w.0) (λ x v k.
        then_gives (HaveTypes kinds us) (HaveTypes kinds (s ∷ us)) (mean_all calls es env v) _ (all_give es ts us env v h w.1) (λ xs z j. (k, j)))

    -- some case is that of a pattern that takes the value
    case_gives : (cases : CasesData) (p : Pattern) (x : Data) (s : TypeData) (ts : List TypeData) (t : TypeData) (env : List Data) (u : ℕ) → HaveTypes kinds ts env → HasType kinds s x
        → AreCases kinds functions ts cases s t → HasCase p cases → IsTrue (fits p x) → GivesType kinds t (mean_case calls cases x env u)
    case_gives no_case p x s ts t env u h k w has takes = absurd has
    case_gives (more_cases q e cases) p x s ts t env u h k w has takes =
        pick_gives (HasType kinds t) (fits q x) (mean calls e (env ++ parts_of x) u) (mean_case calls cases x env u)
        (λ yes. gives e (ts ++ w.0.0) t (env ++ parts_of x) u (both_have kinds ts env w.0.0 (parts_of x) h (binds_have kinds q x s w.0.0 yes k w.0.1)) w.0.2)
        (λ other. case_gives cases p x s ts t env u h k w.1 (another_case q p cases x takes other has) takes)

-- each function's body has its type
abbrev pub BodiesAreTyped : List KindData → List FunctionData → Type 0
BodiesAreTyped kinds functions = (f : ℕ) (function : FunctionData) → slice_get functions f ≡ Some function → IsTyped kinds functions function.params function.body function.result

module _ (kinds : List KindData) (functions : List FunctionData) (typed : BodiesAreTyped kinds functions) where
  body_gives : (calls : Calls)
      → ((f : ℕ) (ts : List TypeData) (t : TypeData) (xs : List Data) (u : ℕ) → IsFunction functions f ts t → HaveTypes kinds ts xs → GivesType kinds t (calls f xs u))
      → (f : ℕ) (function : FunctionData) (xs : List Data) (u : ℕ) → slice_get functions f ≡ Some function → HaveTypes kinds function.params xs → GivesType kinds function.result (mean_body calls (body_of functions f) xs u)
  body_gives calls calls_give f function xs u e h =
      let here : Some function.body ≡ body_of functions f = sym (ap (option_map (λ (g : FunctionData). g.body)) e) in
      subst (λ (o : Option ExprData). GivesType kinds function.result (mean_body calls o xs u)) here
      (gives kinds functions calls calls_give function.body function.params function.result xs u h (typed f function e))

  within_give : (n f : ℕ) (ts : List TypeData) (t : TypeData) (xs : List Data) (u : ℕ) → IsFunction functions f ts t → HaveTypes kinds ts xs → GivesType kinds t (calls_within functions n f xs u)
  within_give n f ts t xs zero w h = tt
  within_give zero f ts t xs (suc u) w h = tt
  within_give (suc n) f ts t xs (suc u) w h =
      let args : HaveTypes kinds w.0.params xs = subst (λ (us : List TypeData). HaveTypes kinds us xs) (sym w.2) h in
      as_type kinds w.0.result t (calls_within functions (suc n) f xs (suc u)) (sym w.3)
      (body_gives (calls_within functions n) (λ f ts t xs u w h. within_give n f ts t xs u w h) f w.0 xs u w.1 args)

  pub calling_gives : (f : ℕ) (ts : List TypeData) (t : TypeData) (xs : List Data) (u : ℕ) → IsFunction functions f ts t → HaveTypes kinds ts xs → GivesType kinds t (calling functions f xs u)
  unfolding calling
  calling_gives f ts t xs u w h = within_give u f ts t xs u w h

  -- in a typed environment, a typed expression means a value of its type
  pub meaning_gives : (e : ExprData) (ts : List TypeData) (t : TypeData) (env : List Data) (u : ℕ) → HaveTypes kinds ts env → IsTyped kinds functions ts e t → GivesType kinds t (meaning functions e env u)
  meaning_gives e ts t env u h w = gives kinds functions (calling functions) calling_gives e ts t env u h w

  pub meanings_give : (es : ExprsData) (ts us : List TypeData) (env : List Data) (u : ℕ) → HaveTypes kinds ts env → AreTyped kinds functions ts es us → IfResult (mean_all (calling functions) es env u) (HaveTypes kinds us)
  meanings_give es ts us env u h w = all_give kinds functions (calling functions) calling_gives es ts us env u h w

  pub called_gives : (f : ℕ) (function : FunctionData) (xs : List Data) (u : ℕ) → slice_get functions f ≡ Some function → HaveTypes kinds function.params xs → GivesType kinds function.result (called functions f xs u)
  called_gives f function xs zero e h = tt
  called_gives f function xs (suc u) e h = body_gives (calling functions) calling_gives f function xs u e h
