-- What trees are as expressions is typed.
use Rattle.std.specs.Prelude.{bytes_eq}
use Rattle.std.specs.Option.{option_or}
use Rattle.std.proofs.Common.{◌≡◌, ◌∙◌, ℕ, suc, ◌+◌, Bool, true, false, if◌then◌else◌, List, [], ◌∷◌, ◌++◌, length, Option, Some, None, slice_get, refl, sym, ap, subst, arith}
use Rattle.qk_core.specs.Definitions.{FunctionData, UserGenData}
use Rattle.qk_core.specs.ExprData.{ExprData, exprs_of, cases_of}
use Rattle.qk_expressions.specs.Patterns.{Shape, shapes_of}
use Rattle.qk_headers.specs.Scopes.{Scope, Found, VariableData, types_of, variable_after, variable_of, bind, bind_all}
use Rattle.qk_names.specs.Reserved.{Word}
use Rattle.qk_names.specs.declared.names.Named.TheVariants as named
use Rattle.qk_syntax.specs.PlainTrees.{PlainTree, number, name, list, PlainTrees, end, more, count}
use Rattle.qk_typed.specs.PatternTypes.{Binds}
use Rattle.qk_typed.specs.TypedExpressions.{IsTyped, AreTyped, AreCases}
use Rattle.qk_typing.specs.Operators.{Tables, empty_list, binding, matching, operator}
use Rattle.qk_value.specs.Types.{TypeData}
use Rattle.qk_wellformed.specs.IsExpression.{IsExpression, AreExpressions, IsLet, IsMatch, AreArms, IsEmptyList, IsLoneName, Arm, cases_in, truth_of}
use Rattle.qk_wellformed.specs.IsVariable.{AreVariables}
use Rattle.qk_sound.proofs.Complete.{complete}
use Rattle.qk_sound.proofs.Found.{find_holds, same_some}
use Rattle.qk_sound.proofs.Operators.{operator_typed}
use Rattle.qk_sound.proofs.Shapes.{shapes_bind}
use Rattle.qk_sound.proofs.Stands.{Fits}
use Rattle.qk_sound.proofs.TreeTypes.{is_type, bound_types, all_bound_types}

-- a variable that is found after so many stands at its index
record IsAt (n : ℕ) (s : Scope) (v : Found) : Type 0 where
  place : ℕ
  index : v.index ≡ n + place
  ty : slice_get (types_of s) place ≡ Some v.ty

found_by : (n : ℕ) (u : VariableData) (us : Scope) (b : Bool) (o : Option Found) (v : Found) → ((x : Found) → o ≡ Some x → IsAt (n + 1) us x) → option_or o (if b then Some (record { index = n; ty = u.ty }) else None) ≡ Some v → IsAt n (u ∷ us) v
found_by n u us b (Some x) v later e =
    let same : x ≡ v = same_some x v e in
    let rest : IsAt (n + 1) us v = subst (IsAt (n + 1) us) same (later x refl) in
    record { place = suc rest.place; index = omega (arith, rest.index); ty = rest.ty }
found_by n u us true None v later e =
    let same : record { index = n; ty = u.ty } ≡ v = same_some (record { index = n; ty = u.ty }) v e in
    let here : n ≡ v.index = ap (λ (x : Found). x.index) same in
    record { place = 0; index = omega (arith, here); ty = ap Some (ap (λ (x : Found). x.ty) same) }
found_by n u us false None v later e = cc

found_after : (n : ℕ) (s : Scope) (w : Word) (v : Found) → variable_after n s w ≡ Some v → IsAt n s v
found_after n [] w v e = cc
found_after n (u ∷ us) w v e = found_by n u us (bytes_eq u.name w) (variable_after (n + 1) us w) v (λ x k. found_after (n + 1) us w x k) e

found_at : (s : Scope) (w : Word) (v : Found) → variable_of s w ≡ Some v → slice_get (types_of s) v.index ≡ Some v.ty
found_at s w v e =
    let at : IsAt 0 s v = found_after 0 s w v e in
    let same : v.index ≡ at.place = omega (arith, at.index) in
    ap (slice_get (types_of s)) same ∙ at.ty

so_many : (before : List Word) (xs : PlainTrees) (ws : List Word) → AreVariables before xs ws → length ws ≡ count xs
so_many before end [] h = refl
so_many before (more t ts) (w ∷ ws) h = omega (arith, so_many (before ++ w ∷ []) ts ws h.1)
so_many before xs ws h = absurd h

module _ (d : Tables) (functions : List FunctionData) (generators : List UserGenData) (fits : Fits d functions generators) where
  lone : (s : Scope) (w : Word) (o : Option Found) (b : Option Bool) (t : TypeData) (e : ExprData) → variable_of s w ≡ o → IsLoneName o b t e → IsTyped d.headers.kinds functions (types_of s) e t
  lone s w (Some v) b t e is h = subst (λ (x : ExprData). IsTyped d.headers.kinds functions (types_of s) x t) (sym h.1) (found_at s w v is ∙ ap Some (sym h.0))
  lone s w None (Some b) t e is h = subst (λ (x : ExprData). IsTyped d.headers.kinds functions (types_of s) x t) (sym h.1) h.0
  lone s w None None t e is h = absurd h

  empty_typed : (parts : PlainTrees) (env : List TypeData) (t : TypeData) (e : ExprData) → IsEmptyList d.names parts t e → IsTyped d.headers.kinds functions env e t
  empty_typed (more u end) env t e h =
      subst (λ (x : ExprData). IsTyped d.headers.kinds functions env x t) (sym h.3) (is_type d.names d.headers.kinds (λ w k known. fits.stand w (named.Kind k) known) u h.0 h.1, h.2)
  empty_typed parts env t e h = absurd h

  node : (s : Scope) (p q : _) (w : Word) (parts : PlainTrees) (t : TypeData) (e : ExprData)
      → ((ts : List TypeData) (es : List ExprData) → AreExpressions d s parts ts es → AreTyped d.headers.kinds functions (types_of s) (exprs_of es) ts)
      → (IsLet d s parts t e → IsTyped d.headers.kinds functions (types_of s) e t) → (IsMatch d s parts t e → IsTyped d.headers.kinds functions (types_of s) e t)
      → IsExpression d s (list p (more (name q w) parts)) t e → IsTyped d.headers.kinds functions (types_of s) e t
  node s p q w parts t e all lets matches (empty_list, known, h) = empty_typed parts (types_of s) t e h
  node s p q w parts t e all lets matches (binding, known, h) = lets h
  node s p q w parts t e all lets matches (matching, known, h) = matches h
  node s p q w parts t e all lets matches (operator op, known, (ts, es, are, fit, is)) = operator_typed d functions generators fits (types_of s) w op ts es t e known (all ts es are) fit is

  mutual
    pub expression_typed : (tree : PlainTree) (s : Scope) (t : TypeData) (e : ExprData) → IsExpression d s tree t e → IsTyped d.headers.kinds functions (types_of s) e t
    expression_typed (number p n) s t e h = subst (λ (x : ExprData). IsTyped d.headers.kinds functions (types_of s) x t) (sym h.1) h.0
    expression_typed (name p w) s t e h = lone s w (variable_of s w) (truth_of w) t e refl h
    expression_typed (list p (more (name q w) parts)) s t e h = node s p q w parts t e (λ ts es are. expressions_typed parts s ts es are) (λ k. let_typed parts s t e k) (λ k. match_typed parts s t e k) h
    expression_typed (list p parts) s t e h = absurd h

    pub expressions_typed : (trees : PlainTrees) (s : Scope) (ts : List TypeData) (es : List ExprData) → AreExpressions d s trees ts es → AreTyped d.headers.kinds functions (types_of s) (exprs_of es) ts
    expressions_typed end s [] [] h = tt
    expressions_typed (more u us) s (t ∷ ts) (e ∷ es) h = (expression_typed u s t e h.0, expressions_typed us s ts es h.1)
    expressions_typed trees s ts es h = absurd h

    let_typed : (parts : PlainTrees) (s : Scope) (t : TypeData) (e : ExprData) → IsLet d s parts t e → IsTyped d.headers.kinds functions (types_of s) e t
    let_typed (more x (more a (more b end))) s t e (w, u, bound, body, v, ia, ib, is) =
        subst (λ (y : ExprData). IsTyped d.headers.kinds functions (types_of s) y t) (sym is)
        (u, expression_typed a s u bound ia, subst (λ (us : List TypeData). IsTyped d.headers.kinds functions us body t) (bound_types s w u) (expression_typed b (bind s w u) t body ib))
    let_typed parts s t e h = absurd h

    match_typed : (parts : PlainTrees) (s : Scope) (t : TypeData) (e : ExprData) → IsMatch d s parts t e → IsTyped d.headers.kinds functions (types_of s) e t
    match_typed (more a cases) s t e (u, value, arms, ia, are, all, is) =
        subst (λ (y : ExprData). IsTyped d.headers.kinds functions (types_of s) y t) (sym is)
        (u, expression_typed a s u value ia, arms_typed cases s u t arms are, complete d s u t cases arms fits.new are all)
    match_typed parts s t e h = absurd h

    arms_typed : (cases : PlainTrees) (s : Scope) (u t : TypeData) (arms : List Arm) → AreArms d s (shapes_of d.headers u) t cases arms → AreCases d.headers.kinds functions (types_of s) (cases_of (cases_in arms)) u t
    arms_typed end s u t [] h = tt
    arms_typed (more (list p (more (list q (more (name r w) xs)) (more b end))) cases) s u t (arm ∷ arms) (found, many, (ws, vars, is), rest) =
        let binds : Binds d.headers.kinds arm.shape.pattern u arm.shape.fields =
        find_holds (λ (x : Shape). Binds d.headers.kinds x.pattern u x.fields) (λ x. bytes_eq w x.head) (shapes_of d.headers u) arm.shape (shapes_bind d.headers u) found in (
          (
            arm.shape.fields,
            binds,
            subst (λ (us : List TypeData). IsTyped d.headers.kinds functions us arm.body t) (all_bound_types s ws arm.shape.fields (so_many [] xs ws vars ∙ many)) (expression_typed b (bind_all s ws arm.shape.fields) t arm.body is),
          ),
          arms_typed cases s u t arms rest,
        )
    arms_typed cases s u t arms h = absurd h
