-- A tree is judged to be an expression exactly where it is that expression.
use Rattle.std.specs.Prelude.{find, bytes_eq, unwrap_or}
use Rattle.std.specs.List.{list_all}
use Rattle.std.proofs.Common.{◌≡◌, ◌∙◌, true, not, nat_eq, List, [], ◌∷◌, ◌++◌, length, refl, sym, ap, subst, arith, Some, None, Ok}
use Rattle.std.proofs.lemmas.List.{append_assoc, append-nil}
use Rattle.qk_base.specs.declared.place.Place.{Place}
use Rattle.qk_syntax.specs.PlainTrees.{PlainTree, number, name, list, PlainTrees, end, more, count}
use Rattle.qk_core.specs.ExprData.{ExprData, cases_of}
use Rattle.qk_value.specs.Types.{TypeData, int_type, list_type}
use Rattle.qk_names.specs.Checks.{Checked, ◌>>=◌, place_of}
use Rattle.qk_expressions.specs.ExpressionSteps.{formed, operator_at}
use Rattle.qk_expressions.specs.Expressions.{expression, expressions, let_at, match_at, cases_at, nil_at}
use Rattle.qk_typing.specs.Operators.{Tables, Typed, typed, Form, empty_list, binding, matching, operator, Operator, forms, form_by, form_of, usable, arity, plain, applied}
use Rattle.qk_expressions.specs.Patterns.{Shape, shapes_of, has_patterns, shape_at, pattern_variables, Cases, no_cases, is_among, agrees, with_case, are_complete, result_of}
use Rattle.qk_names.specs.Reserved.{Word, entry_of}
use Rattle.qk_headers.specs.Scopes.{Scope, bind, bind_all, variable_at}
use Rattle.qk_headers.specs.TypesOf.{type_at}
use Rattle.qk_wellformed.specs.IsExpression.{IsExpression, AreExpressions, IsLet, IsMatch, AreArms, IsEmptyList, Arm, heads_of, cases_in, AreNew}
use Rattle.qk_wellformed.specs.IsVariable.{AreVariables}
use Rattle.qk_wellformed.specs.OperatorTypes.{OperatorTypes, IsApplied}
use Rattle.qk_wellformed.proofs.ArmsStand.{ArmsAfter, no_arm, arm_more, type_after, type_is, agree_given, still, so_many, as_many, head_is}
use Rattle.qk_wellformed.proofs.Inversion.{ok_is, bound, followed, held, after, next_after, passing}
use Rattle.qk_wellformed.proofs.NamesUsed.{usable_is, usable_given, shape_is, shape_given, lone_stands, lone_given}
use Rattle.qk_wellformed.proofs.OperatorsStand.{types_in, applied_stands, applied_given, types_fit}
use Rattle.qk_wellformed.proofs.TypesStand.{type_stands, type_given}
use Rattle.qk_wellformed.proofs.VariablesStand.{variable_stands, variable_given, variables_stand, variables_given}

module _ (d : Tables) where
  nil_stands : (p : Place) (parts : PlainTrees) (r : Typed) → nil_at d p parts ≡ Ok r → IsEmptyList d.names parts r.ty r.expr
  nil_stands p end r h = absurd (cc)
  nil_stands p (more u end) r h =
      bound (type_at d.names u) (λ t. Ok (typed p (list_type t) (ExprData.empty t))) r _
      (λ t e k. let same : typed p (list_type t) (ExprData.empty t) ≡ r = ok_is _ _ _ refl k in (t, type_stands d.names u t e, ap (λ y. y.ty) (sym same), ap (λ y. y.expr) (sym same))) h
  nil_stands p (more u (more v us)) r h = absurd (cc)

  nil_given : (p : Place) (parts : PlainTrees) (t : TypeData) (e : ExprData) → IsEmptyList d.names parts t e → nil_at d p parts ≡ Ok (typed p t e)
  nil_given p end t e h = absurd h
  nil_given p (more u end) t e (item, h, k, l) = after (type_at d.names u) _ item _ (type_given d.names u item h) (λ i. Ok (typed p (sym k i) (sym l i)))
  nil_given p (more u (more v us)) t e h = absurd h

  -- expressions one after another, apart from what was before
  pub record Others (s : Scope) (us : PlainTrees) (before es : List Typed) : Type 0 where
    pub new : List Typed
    pub joined : es ≡ before ++ new
    pub many : length new ≡ count us
    pub are : AreExpressions d s us (types_in new) (plain new)

  module _ (s : Scope) (p q : Place) (w : Word) (parts : PlainTrees) where
    by_form : (form : Form) → usable d.names p q w (form_by d.names w (entry_of forms w)) ≡ Ok form → expression d s (list p (more (name q w) parts)) ≡ formed d s p parts form
    by_form empty_list h = after _ _ _ _ h refl
    by_form binding h = after _ _ _ _ h refl
    by_form matching h = after _ _ _ _ h refl
    by_form (operator op) h = after _ _ _ _ h refl

    operator_stands : (op : Operator) (r : Typed) → ((es : List Typed) → expressions d s [] parts ≡ Ok es → Others s parts [] es) → operator_at d s p parts op ≡ Ok r
        → (ts : List TypeData) × (es : List ExprData) × AreExpressions d s parts ts es × OperatorTypes d.headers op ts r.ty × IsApplied op es r.expr
    operator_stands op r all h =
        held (nat_eq (count parts) (arity d.headers op)) 23 p _ r _
        (λ n k. bound (expressions d s [] parts) (λ es. applied d.headers p op es) r _
        (λ es f l. let others : Others s parts [] es = all es f in
        let fit : OperatorTypes d.headers op (types_in others.new) r.ty × IsApplied op (plain others.new) r.expr =
        applied_stands d.headers p op others.new r (others.many ∙ as_many _ _ n) (ap (λ x. applied d.headers p op x) (sym others.joined) ∙ l) in
        (types_in others.new, plain others.new, others.are, fit.0, fit.1)) k)
        h

    node_stands : (r : Typed) (form : Form) → usable d.names p q w (form_by d.names w (entry_of forms w)) ≡ Ok form → ((es : List Typed) → expressions d s [] parts ≡ Ok es → Others s parts [] es)
        → (let_at d s p parts ≡ Ok r → IsLet d s parts r.ty r.expr) → (match_at d s p parts ≡ Ok r → IsMatch d s parts r.ty r.expr)
        → expression d s (list p (more (name q w) parts)) ≡ Ok r → IsExpression d s (list p (more (name q w) parts)) r.ty r.expr
    node_stands r empty_list known all lets matches h = (empty_list, usable_is d.names p q w (form_by d.names w (entry_of forms w)) empty_list known, nil_stands p parts r (sym (by_form empty_list known) ∙ h))
    node_stands r binding known all lets matches h = (binding, usable_is d.names p q w (form_by d.names w (entry_of forms w)) binding known, lets (sym (by_form binding known) ∙ h))
    node_stands r matching known all lets matches h = (matching, usable_is d.names p q w (form_by d.names w (entry_of forms w)) matching known, matches (sym (by_form matching known) ∙ h))
    node_stands r (operator op) known all lets matches h = (operator op, usable_is d.names p q w (form_by d.names w (entry_of forms w)) (operator op) known, operator_stands op r all (sym (by_form (operator op) known) ∙ h))

  module _ (s : Scope) (p : Place) where
    let_made : (x a b : PlainTree) (w : Word) (v body r : Typed) → variable_at [] x ≡ Ok w → IsExpression d s a v.ty v.expr → IsExpression d (bind s w v.ty) b body.ty body.expr
        → typed p body.ty (ExprData.binding v.expr body.expr) ≡ r → IsLet d s (more x (more a (more b end))) r.ty r.expr
    let_made x a b w v body r e ia ib same =
        (w, v.ty, v.expr, body.expr, variable_stands [] x w e, ia, subst (λ t. IsExpression d (bind s w v.ty) b t body.expr) (ap (λ y. y.ty) same) ib, ap (λ y. y.expr) (sym same))

    match_made : (a : PlainTree) (cases : PlainTrees) (v r : Typed) (cs : Cases) → IsExpression d s a v.ty v.expr → has_patterns (shapes_of d.headers v.ty) ≡ true
        → ArmsAfter d s (shapes_of d.headers v.ty) no_cases cases cs (result_of cs) → are_complete (shapes_of d.headers v.ty) cs ≡ true
        → typed p (result_of cs) (ExprData.matching v.expr (cases_of cs.cases)) ≡ r → IsMatch d s (more a cases) r.ty r.expr
    match_made a cases v r cs ia some rest each same = (
      v.ty,
      v.expr,
      rest.arms,
      ia,
      subst (λ t. AreArms d s (shapes_of d.headers v.ty) t cases rest.arms) (ap (λ y. y.ty) same) rest.are,
      record { some = some; each = ap (λ hs. list_all (λ s. is_among hs s.head) (shapes_of d.headers v.ty)) (sym rest.heads) ∙ each; once = rest.new },
      ap (λ y. y.expr) (sym same) ∙ ap (λ x. ExprData.matching v.expr (cases_of x)) rest.made,
    )

  mutual
    pub expression_stands : (u : PlainTree) (s : Scope) (r : Typed) → expression d s u ≡ Ok r → IsExpression d s u r.ty r.expr
    expression_stands (number p n) s r h = let same : typed p int_type (ExprData.number n) ≡ r = ok_is _ _ _ refl h in (ap (λ y. y.ty) (sym same), ap (λ y. y.expr) (sym same))
    expression_stands (name p w) s r h = lone_stands d s p w r h
    expression_stands (list p end) s r h = absurd (cc)
    expression_stands (list p (more (number q n) parts)) s r h = absurd (cc)
    expression_stands (list p (more (list q us) parts)) s r h = absurd (cc)
    expression_stands (list p (more (name q w) parts)) s r h =
        bound (form_of d.names p q w) _ r _
        (λ form known k. node_stands s p q w parts r form known (λ es l. expressions_stand parts s [] es l) (λ l. let_stands parts s p r l) (λ l. match_stands parts s p r l) h) h

    pub expressions_stand : (us : PlainTrees) (s : Scope) (before es : List Typed) → expressions d s before us ≡ Ok es → Others s us before es
    expressions_stand end s before es h = record { new = []; joined = ok_is _ _ _ h refl ∙ sym (append-nil before); many = refl; are = tt }
    expressions_stand (more u us) s before es h =
        bound (expression d s u) (λ e. expressions d s (before ++ e ∷ []) us) es _
        (λ e f k. let rest : Others s us (before ++ e ∷ []) es = expressions_stand us s (before ++ e ∷ []) es k in
        record { new = e ∷ rest.new; joined = rest.joined ∙ append_assoc before (e ∷ []) rest.new; many = omega (arith, rest.many); are = (expression_stands u s e f, rest.are) }) h

    let_stands : (parts : PlainTrees) (s : Scope) (p : Place) (r : Typed) → let_at d s p parts ≡ Ok r → IsLet d s parts r.ty r.expr
    let_stands end s p r h = absurd (cc)
    let_stands (more x end) s p r h = absurd (cc)
    let_stands (more x (more a end)) s p r h = absurd (cc)
    let_stands (more x (more a (more b end))) s p r h =
        bound (variable_at [] x) _ r _
        (λ w e k. bound (expression d s a) _ r _
        (λ v f l. bound (expression d (bind s w v.ty) b) (λ body. Ok (typed p body.ty (ExprData.binding v.expr body.expr))) r _
        (λ body g m. let_made s p x a b w v body r e (expression_stands a s v f) (expression_stands b (bind s w v.ty) body g) (ok_is _ _ _ refl m)) l) k) h
    let_stands (more x (more a (more b (more c us)))) s p r h = absurd (cc)

    match_stands : (parts : PlainTrees) (s : Scope) (p : Place) (r : Typed) → match_at d s p parts ≡ Ok r → IsMatch d s parts r.ty r.expr
    match_stands end s p r h = absurd (cc)
    match_stands (more a cases) s p r h =
        bound (expression d s a) _ r _
        (λ v e k. held (has_patterns (shapes_of d.headers v.ty)) 24 p _ r _
        (λ some l. bound (cases_at d s (shapes_of d.headers v.ty) no_cases cases) _ r _
        (λ cs f m. held (are_complete (shapes_of d.headers v.ty) cs) 25 p (Ok (typed p (result_of cs) (ExprData.matching v.expr (cases_of cs.cases)))) r _
        (λ each n. match_made s p a cases v r cs (expression_stands a s v e) some
        (arms_stand cases s (shapes_of d.headers v.ty) no_cases cs (result_of cs) f (λ x is. sym (ap (λ o. unwrap_or o int_type) is))) each (ok_is _ _ _ refl n)) m) l) k) h

    arms_stand : (cases : PlainTrees) (s : Scope) (shapes : List Shape) (before r : Cases) (t : TypeData) → cases_at d s shapes before cases ≡ Ok r → ((x : TypeData) → r.ty ≡ Some x → x ≡ t)
        → ArmsAfter d s shapes before cases r t
    arms_stand end s shapes before r t h k = no_arm d s shapes before r t (ok_is _ _ _ refl h) k
    arms_stand (more (list p (more (list q (more (name v w) xs)) (more b end))) cases) s shapes before r t h k =
        bound (shape_at d.names shapes q v w) _ r _
        (λ shape e l. held (nat_eq (count xs) (length shape.fields)) 23 q _ r _
        (λ n m. held (not (is_among before.heads w)) 26 q _ r _
        (λ fresh o. bound (pattern_variables [] xs) _ r _
        (λ ws f y. bound (expression d (bind_all s ws shape.fields) b) _ r _
        (λ body g z. followed (agrees before body) _ r _
        (λ u ag last. arm_more d s shapes before p q v w xs b cases r t shape ws body u (shape_is d.names q v w (find (λ s. bytes_eq w s.head) shapes) shape e) n fresh
        (let vars : (new : List Word) × (ws ≡ new) × AreVariables [] xs new = variables_stand xs [] ws f in subst (λ y. AreVariables [] xs y) (sym vars.1) vars.2)
        (expression_stands b (bind_all s ws shape.fields) body g) ag (arms_stand cases s shapes (with_case before shape body) r t last k)) z) y) o) m) l) h
    arms_stand (more u cases) s shapes before r t h k = absurd (cc)

  -- expressions one after another, each where its tree stands
  pub record Judged (s : Scope) (us : PlainTrees) (ts : List TypeData) (es : List ExprData) : Type 0 where
    pub new : List Typed
    pub types : types_in new ≡ ts
    pub exprs : plain new ≡ es
    pub many : length ts ≡ count us
    pub judged : (before : List Typed) → expressions d s before us ≡ Ok (before ++ new)

  module _ (s : Scope) (p q : Place) (w : Word) (parts : PlainTrees) (t : TypeData) (e : ExprData) where
    operator_given : (op : Operator) (ts : List TypeData) (es : List ExprData) → Judged s parts ts es → OperatorTypes d.headers op ts t → IsApplied op es e → operator_at d s p parts op ≡ Ok (typed p t e)
    operator_given op ts es all fit is =
        passing (nat_eq (count parts) (arity d.headers op)) 23 p (expressions d s [] parts >>= λ es. applied d.headers p op es) _ (so_many _ _ (sym all.many ∙ types_fit d.headers p op ts t fit))
        (after (expressions d s [] parts) (λ es. applied d.headers p op es) all.new _ (all.judged [])
        (applied_given d.headers p op all.new t e (subst (λ y. OperatorTypes d.headers op y t) (sym all.types) fit) (subst (λ y. IsApplied op y e) (sym all.exprs) is)))

    node_given : ((ts : List TypeData) (es : List ExprData) → AreExpressions d s parts ts es → Judged s parts ts es) → (IsLet d s parts t e → let_at d s p parts ≡ Ok (typed p t e))
        → (IsMatch d s parts t e → match_at d s p parts ≡ Ok (typed p t e)) → IsExpression d s (list p (more (name q w) parts)) t e → expression d s (list p (more (name q w) parts)) ≡ Ok (typed p t e)
    node_given all lets matches (empty_list, known, h) = by_form s p q w parts empty_list (usable_given d.names p q w _ empty_list known) ∙ nil_given p parts t e h
    node_given all lets matches (binding, known, h) = by_form s p q w parts binding (usable_given d.names p q w _ binding known) ∙ lets h
    node_given all lets matches (matching, known, h) = by_form s p q w parts matching (usable_given d.names p q w _ matching known) ∙ matches h
    node_given all lets matches (operator op, known, (ts, es, are, fit, is)) =
        by_form s p q w parts (operator op) (usable_given d.names p q w _ (operator op) known) ∙ operator_given op ts es (all ts es are) fit is

  mutual
    pub expression_given : (u : PlainTree) (s : Scope) (t : TypeData) (e : ExprData) → IsExpression d s u t e → expression d s u ≡ Ok (typed (place_of u) t e)
    expression_given (number p n) s t e (h, k) = λ i. Ok (typed p (sym h i) (sym k i))
    expression_given (name p w) s t e h = lone_given d s p w t e h
    expression_given (list p end) s t e h = absurd h
    expression_given (list p (more (number q n) parts)) s t e h = absurd h
    expression_given (list p (more (list q us) parts)) s t e h = absurd h
    expression_given (list p (more (name q w) parts)) s t e h =
        node_given s p q w parts t e (λ ts es k. expressions_given parts s ts es k) (λ k. let_given parts s p t e k) (λ k. match_given parts s p t e k) h

    pub expressions_given : (us : PlainTrees) (s : Scope) (ts : List TypeData) (es : List ExprData) → AreExpressions d s us ts es → Judged s us ts es
    expressions_given end s [] [] h = record { new = []; types = refl; exprs = refl; many = refl; judged = λ before. ap Ok (sym (append-nil before)) }
    expressions_given (more u us) s (t ∷ ts) (e ∷ es) (h, hs) =
        let rest : Judged s us ts es = expressions_given us s ts es hs in
        record {
          new = typed (place_of u) t e ∷ rest.new;
          types = ap (λ y. t ∷ y) rest.types;
          exprs = ap (λ y. e ∷ y) rest.exprs;
          many = omega (arith, rest.many);
          judged = λ before. after (expression d s u) (λ e. expressions d s (before ++ e ∷ []) us) (typed (place_of u) t e) _ (expression_given u s t e h)
              (rest.judged (before ++ typed (place_of u) t e ∷ []) ∙ ap Ok (append_assoc before (typed (place_of u) t e ∷ []) rest.new));
        }
    expressions_given us s ts es h = absurd h

    let_given : (parts : PlainTrees) (s : Scope) (p : Place) (t : TypeData) (e : ExprData) → IsLet d s parts t e → let_at d s p parts ≡ Ok (typed p t e)
    let_given end s p t e h = absurd h
    let_given (more x end) s p t e h = absurd h
    let_given (more x (more a end)) s p t e h = absurd h
    let_given (more x (more a (more b end))) s p t e (w, u, v, body, ix, ia, ib, is) =
        after (variable_at [] x) _ w _ (variable_given [] x w ix)
        (after (expression d s a) _ (typed (place_of a) u v) _ (expression_given a s u v ia)
        (after (expression d (bind s w u) b) _ (typed (place_of b) t body) _ (expression_given b (bind s w u) t body ib) (ap (λ y. Ok (typed p t y)) (sym is))))
    let_given (more x (more a (more b (more c us)))) s p t e h = absurd h

    match_given : (parts : PlainTrees) (s : Scope) (p : Place) (t : TypeData) (e : ExprData) → IsMatch d s parts t e → match_at d s p parts ≡ Ok (typed p t e)
    match_given end s p t e h = absurd h
    match_given (more a cases) s p t e (u, v, arms, ia, are, all, is) =
        let shapes : List Shape = shapes_of d.headers u in
        let cs : Cases = record { ty = type_after None t arms; heads = heads_of arms; cases = cases_in arms } in
        after (expression d s a) _ (typed (place_of a) u v) _ (expression_given a s u v ia)
        (passing (has_patterns shapes) 24 p _ _ all.some
        (after (cases_at d s shapes no_cases cases) _ cs _ (arms_given cases s shapes no_cases t arms are all.once (λ x k. absurd (cc)))
        (passing (are_complete shapes cs) 25 p (Ok (typed p (result_of cs) (ExprData.matching v (cases_of cs.cases)))) _ all.each (λ i. Ok (typed p (type_is shapes t arms all i) (sym is i))))))

    arms_given : (cases : PlainTrees) (s : Scope) (shapes : List Shape) (before : Cases) (t : TypeData) (arms : List Arm) → AreArms d s shapes t cases arms → AreNew before.heads (heads_of arms)
        → ((x : TypeData) → before.ty ≡ Some x → x ≡ t)
        → cases_at d s shapes before cases ≡ Ok (record { ty = type_after before.ty t arms; heads = before.heads ++ heads_of arms; cases = before.cases ++ cases_in arms })
    arms_given end s shapes before t [] are new k = λ i. Ok (record { ty = before.ty; heads = sym (append-nil before.heads) i; cases = sym (append-nil before.cases) i })
    arms_given (more (list p (more (list q (more (name v w) xs)) (more b end))) cases) s shapes before t (arm ∷ arms) (found, n, (ws, vars, is), are) (fresh, new) k =
        let body : Typed = typed (place_of b) t arm.body in
        let next : Cases = with_case before arm.shape body in
        after (shape_at d.names shapes q v w) _ arm.shape _ (shape_given d.names q v w (find (λ s. bytes_eq w s.head) shapes) arm.shape found)
        (passing (nat_eq (count xs) (length arm.shape.fields)) 23 q _ _ (so_many _ _ n)
        (passing (not (is_among before.heads w)) 26 q _ _ (ap (λ y. not (is_among before.heads y)) (head_is w shapes arm.shape found) ∙ ap not fresh)
        (after (pattern_variables [] xs) _ ws _ (variables_given xs [] ws vars)
        (after (expression d (bind_all s ws arm.shape.fields) b) _ body _ (expression_given b (bind_all s ws arm.shape.fields) t arm.body is)
        (next_after (agrees before body) (cases_at d s shapes next cases) tt _ (agree_given before body k)
        (arms_given cases s shapes next t arms are new (still before.ty t k)
        ∙ (λ i. Ok (record { ty = type_after next.ty t arms; heads = append_assoc before.heads (arm.shape.head ∷ []) (heads_of arms) i; cases = append_assoc before.cases ((arm.shape.pattern, arm.body) ∷ []) (cases_in arms) i }))))))))
    arms_given cases s shapes before t arms are new k = absurd are

same_parts : (p : Place) (t u : TypeData) (e f : ExprData) (c : Checked Typed) → c ≡ Ok (typed p t e) → c ≡ Ok (typed p u f) → (t ≡ u) × (e ≡ f)
same_parts p t u e f c h k = let same : typed p t e ≡ typed p u f = ok_is _ _ c h k in (ap (λ y. y.ty) same, ap (λ y. y.expr) same)

pub one_expression : (d : Tables) (s : Scope) (tree : PlainTree) (t u : TypeData) (e f : ExprData) → IsExpression d s tree t e → IsExpression d s tree u f → (t ≡ u) × (e ≡ f)
one_expression d s tree t u e f h k = same_parts (place_of tree) t u e f (expression d s tree) (expression_given d tree s t e h) (expression_given d tree s u f k)
