-- The marks of a property are judged to be what they are.
use Rattle.std.specs.Prelude.{nat_le, pos, negsuc}
use Rattle.std.proofs.Common.{◌≡◌, ◌∙◌, ℕ, ◌≤◌, List, [], ◌∷◌, ◌++◌, refl, sym, ap, subst, Option, Some, None, Ok}
use Rattle.std.proofs.lemmas.List.{append_assoc, append-nil}
use Rattle.qk_base.specs.declared.place.Place.{Place}
use Rattle.qk_core.specs.ExprData.{ExprData}
use Rattle.qk_core.specs.Properties.{BinderData, CheckData, MarkData, label, collect, classify, tabulate, cover}
use Rattle.qk_syntax.specs.PlainTrees.{PlainTree, number, name, list, PlainTrees, end, more}
use Rattle.qk_value.specs.Types.{bool_type}
use Rattle.qk_clauses.specs.Binders.{scope_of}
use Rattle.qk_names.specs.Checks.{◌>>=◌, ◌>>◌, place_of}
use Rattle.qk_clauses.specs.Clauses.{Clauses, Head, given, checks, checks_runs, labels, collects, classifies, tabulates, covers, head_of, any_name, value_at, truth_at, percent_at, clause_parts, headed_clause, clause_at, clauses_at, with_mark}
use Rattle.qk_expressions.specs.Expressions.{expression}
use Rattle.qk_typing.specs.Operators.{Tables, Typed, typed, has_type}
use Rattle.qk_names.specs.Reserved.{Word}
use Rattle.qk_wellformed.specs.AreClauses.{IsTruth, MarkBy, IsMark, AreMarks}
use Rattle.qk_wellformed.specs.IsExpression.{IsExpression}
use Rattle.qk_wellformed.proofs.ExpressionsStand.{expression_stands, expression_given}
use Rattle.qk_wellformed.proofs.Inversion.{ok_is, bound, followed, held, after, next_after, passing}
use Rattle.qk_wellformed.proofs.PartsStand.{at_most, most_given}
use Rattle.qk_wellformed.proofs.SameTypes.{has, given as type_given}

percent_stands : (u : PlainTree) (k : ℕ) → percent_at u ≡ Ok k → (p : Place) × (u ≡ number p (pos k)) × (k ≤ 100)
percent_stands (number p (negsuc n)) k h = absurd (cc)
percent_stands (name p w) k h = absurd (cc)
percent_stands (list p us) k h = absurd (cc)
percent_stands (number p (pos n)) k h =
    held (nat_le n 100) 30 p (Ok n) k _ (λ le r. let same : n ≡ k = ok_is _ _ _ refl r in (p, ap (λ x. number p (pos x)) same, subst (λ x. x ≤ 100) same (at_most n 100 le))) h

percent_given : (p : Place) (k : ℕ) → k ≤ 100 → percent_at (number p (pos k)) ≡ Ok k
percent_given p k le = passing (nat_le k 100) 30 p (Ok k) _ (most_given k 100 le) refl

name_stands : (u : PlainTree) (w : Word) → any_name u ≡ Ok w → (p : Place) × (u ≡ name p w)
name_stands (number p n) w h = absurd (cc)
name_stands (name p v) w h = (p, ap (name p) (ok_is _ _ _ refl h))
name_stands (list p us) w h = absurd (cc)

module _ (d : Tables) (bs : List BinderData) where
  -- an expression that was found to be true or false
  tested : (a : PlainTree) (e : Typed) (u : Unit {0}) → expression d (scope_of bs) a ≡ Ok e → has_type bool_type e ≡ Ok u → IsTruth d bs a e.expr
  tested a e u h k = subst (λ t. IsExpression d (scope_of bs) a t e.expr) (sym (has bool_type e u k)) (expression_stands d a (scope_of bs) e h)

  pub truth_stands : (a : PlainTree) (x : ExprData) → truth_at d bs a ≡ Ok x → IsTruth d bs a x
  truth_stands a x h =
      bound (value_at d bs a) (λ e. has_type bool_type e >> Ok e.expr) x _
      (λ e f k. followed (has_type bool_type e) (Ok e.expr) x _ (λ u g l. subst (λ y. IsTruth d bs a y) (ok_is _ _ _ refl l) (tested a e u f g)) k) h

  abbrev found : PlainTree → ExprData → Typed
  found a x = typed (place_of a) bool_type x

  pub truth_given : (a : PlainTree) (x : ExprData) → IsTruth d bs a x → truth_at d bs a ≡ Ok x
  truth_given a x h =
      after (value_at d bs a) (λ e. has_type bool_type e >> Ok e.expr) (found a x) _ (expression_given d a (scope_of bs) bool_type x h) (next_after (has_type bool_type (found a x)) (Ok x) tt _ (type_given bool_type (found a x) refl) refl)

  -- once the check has come
  module _ (gs : List ExprData) (c : CheckData) where
    abbrev pub so_far : List MarkData → Clauses
    so_far ms = record { givens = gs; check = Some c; marks = ms }

    module _ (p : Place) (ms : List MarkData) (r : Clauses) where
      abbrev Marked : Option Head → PlainTrees → Type 0
      Marked head parts = (m : MarkData) × MarkBy d bs head parts m × (r ≡ so_far (ms ++ m ∷ []))

      label_stands : (parts : PlainTrees) → clause_parts d bs (so_far ms) p labels parts ≡ Ok r → Marked (Some labels) parts
      label_stands end h = absurd (cc)
      label_stands (more (number q n) end) h = absurd (cc)
      label_stands (more (list q us) end) h = absurd (cc)
      label_stands (more (name q w) end) h = (label w, refl, ok_is _ _ _ h refl)
      label_stands (more u (more v us)) h = absurd (cc)

      collect_stands : (parts : PlainTrees) → clause_parts d bs (so_far ms) p collects parts ≡ Ok r → Marked (Some collects) parts
      collect_stands end h = absurd (cc)
      collect_stands (more a (more v us)) h = absurd (cc)
      collect_stands (more a end) h =
          bound (value_at d bs a) (λ e. Ok (with_mark (so_far ms) (collect e.expr))) r _ (λ e f k. (collect e.expr, (e.expr, (e.ty, expression_stands d a (scope_of bs) e f), refl), ok_is _ _ _ k refl)) h

      classify_stands : (parts : PlainTrees) → clause_parts d bs (so_far ms) p classifies parts ≡ Ok r → Marked (Some classifies) parts
      classify_stands end h = absurd (cc)
      classify_stands (more a end) h = absurd (cc)
      classify_stands (more a (more n (more v us))) h = absurd (cc)
      classify_stands (more a (more n end)) h =
          bound (value_at d bs a) (λ e. any_name n >>= λ w. has_type bool_type e >> Ok (with_mark (so_far ms) (classify e.expr w))) r _
          (λ e f k. bound (any_name n) (λ w. has_type bool_type e >> Ok (with_mark (so_far ms) (classify e.expr w))) r _
          (λ w g l. followed (has_type bool_type e) (Ok (with_mark (so_far ms) (classify e.expr w))) r _
          (λ u j q. let named : (p : Place) × (n ≡ name p w) = name_stands n w g in
          (classify e.expr w, subst (λ y. MarkBy d bs (Some classifies) (more a (more y end)) (classify e.expr w)) (sym named.1) (e.expr, tested a e u f j, refl), ok_is _ _ _ q refl)) l) k) h

      tabulate_stands : (parts : PlainTrees) → clause_parts d bs (so_far ms) p tabulates parts ≡ Ok r → Marked (Some tabulates) parts
      tabulate_stands end h = absurd (cc)
      tabulate_stands (more n end) h = absurd (cc)
      tabulate_stands (more n (more a (more v us))) h = absurd (cc)
      tabulate_stands (more n (more a end)) h =
          bound (any_name n) (λ w. value_at d bs a >>= λ e. Ok (with_mark (so_far ms) (tabulate w e.expr))) r _
          (λ w g k. bound (value_at d bs a) (λ e. Ok (with_mark (so_far ms) (tabulate w e.expr))) r _
          (λ e f l. let named : (p : Place) × (n ≡ name p w) = name_stands n w g in (
            tabulate w e.expr,
            subst (λ y. MarkBy d bs (Some tabulates) (more y (more a end)) (tabulate w e.expr)) (sym named.1) (e.expr, (e.ty, expression_stands d a (scope_of bs) e f), refl),
            ok_is _ _ _ l refl,
          )) k) h

      cover_stands : (parts : PlainTrees) → clause_parts d bs (so_far ms) p covers parts ≡ Ok r → Marked (Some covers) parts
      cover_stands end h = absurd (cc)
      cover_stands (more n end) h = absurd (cc)
      cover_stands (more n (more a end)) h = absurd (cc)
      cover_stands (more n (more a (more x (more v us)))) h = absurd (cc)
      cover_stands (more n (more a (more x end))) h =
          bound (percent_at n) (λ c. value_at d bs a >>= λ e. any_name x >>= λ w. has_type bool_type e >> Ok (with_mark (so_far ms) (cover c e.expr w))) r _
          (λ c i k. bound (value_at d bs a) (λ e. any_name x >>= λ w. has_type bool_type e >> Ok (with_mark (so_far ms) (cover c e.expr w))) r _
          (λ e f l. bound (any_name x) (λ w. has_type bool_type e >> Ok (with_mark (so_far ms) (cover c e.expr w))) r _
          (λ w g o. followed (has_type bool_type e) (Ok (with_mark (so_far ms) (cover c e.expr w))) r _
          (λ u j q. let counted : (p : Place) × (n ≡ number p (pos c)) × (c ≤ 100) = percent_stands n c i in
          let named : (p : Place) × (x ≡ name p w) = name_stands x w g in (
            cover c e.expr w,
            subst (λ z. MarkBy d bs (Some covers) (more z (more a (more x end))) (cover c e.expr w)) (sym counted.1)
                (subst (λ y. MarkBy d bs (Some covers) (more (number counted.0 (pos c)) (more a (more y end))) (cover c e.expr w)) (sym named.1) (c, e.expr, refl, counted.2, tested a e u f j, refl)),
            ok_is _ _ _ q refl,
          )) o) l) k) h

      mark_by : (head : Option Head) (parts : PlainTrees) → headed_clause d bs (so_far ms) p head parts ≡ Ok r → Marked head parts
      mark_by None parts h = absurd (cc)
      mark_by (Some given) parts h = absurd (cc)
      mark_by (Some checks) parts h = absurd (cc)
      mark_by (Some checks_runs) parts h = absurd (cc)
      mark_by (Some labels) parts h = label_stands parts h
      mark_by (Some collects) parts h = collect_stands parts h
      mark_by (Some classifies) parts h = classify_stands parts h
      mark_by (Some tabulates) parts h = tabulate_stands parts h
      mark_by (Some covers) parts h = cover_stands parts h

    mark_stands : (ms : List MarkData) (u : PlainTree) (r : Clauses) → clause_at d bs (so_far ms) u ≡ Ok r → (m : MarkData) × IsMark d bs u m × (r ≡ so_far (ms ++ m ∷ []))
    mark_stands ms (list p (more (name q w) parts)) r h = mark_by p ms r (head_of w) parts h
    mark_stands ms u r h = absurd (cc)

    pub marks_stand : (us : PlainTrees) (ms : List MarkData) (r : Clauses) → clauses_at d bs (so_far ms) us ≡ Ok r → (new : List MarkData) × AreMarks d bs us new × (r ≡ so_far (ms ++ new))
    marks_stand end ms r h = ([], tt, ok_is _ _ _ h refl ∙ ap so_far (sym (append-nil ms)))
    marks_stand (more u us) ms r h =
        bound (clause_at d bs (so_far ms) u) (λ before. clauses_at d bs before us) r _
        (λ mid e k. let first : (m : MarkData) × IsMark d bs u m × (mid ≡ so_far (ms ++ m ∷ [])) = mark_stands ms u mid e in
        let rest : (new : List MarkData) × AreMarks d bs us new × (r ≡ so_far (ms ++ first.0 ∷ [] ++ new)) = marks_stand us (ms ++ first.0 ∷ []) r (ap (λ x. clauses_at d bs x us) (sym first.2) ∙ k) in
        (first.0 ∷ rest.0, (first.1, rest.1), rest.2 ∙ ap so_far (append_assoc ms (first.0 ∷ []) rest.0))) h

    module _ (p : Place) (ms : List MarkData) where
      mark_from : (head : Option Head) (parts : PlainTrees) (m : MarkData) → MarkBy d bs head parts m → headed_clause d bs (so_far ms) p head parts ≡ Ok (so_far (ms ++ m ∷ []))
      mark_from (Some labels) (more (name q w) end) m is = ap (λ x. Ok (with_mark (so_far ms) x)) (sym is)
      mark_from (Some collects) (more a end) m (e, (t, h), is) =
          after (value_at d bs a) (λ e. Ok (with_mark (so_far ms) (collect e.expr))) (typed (place_of a) t e) _ (expression_given d a (scope_of bs) t e h) (ap (λ x. Ok (with_mark (so_far ms) x)) (sym is))
      mark_from (Some classifies) (more a (more (name q w) end)) m (e, h, is) =
          after (value_at d bs a) (λ e. any_name (name q w) >>= λ w. has_type bool_type e >> Ok (with_mark (so_far ms) (classify e.expr w))) (found a e) _ (expression_given d a (scope_of bs) bool_type e h)
          (next_after (has_type bool_type (found a e)) (Ok (with_mark (so_far ms) (classify e w))) tt _ (type_given bool_type (found a e) refl) (ap (λ x. Ok (with_mark (so_far ms) x)) (sym is)))
      mark_from (Some tabulates) (more (name q w) (more a end)) m (e, (t, h), is) =
          after (value_at d bs a) (λ e. Ok (with_mark (so_far ms) (tabulate w e.expr))) (typed (place_of a) t e) _ (expression_given d a (scope_of bs) t e h) (ap (λ x. Ok (with_mark (so_far ms) x)) (sym is))
      mark_from (Some covers) (more (number q n) (more a (more (name s w) end))) m (k, e, counted, le, h, is) =
          after (percent_at (number q n)) (λ c. value_at d bs a >>= λ e. any_name (name s w) >>= λ w. has_type bool_type e >> Ok (with_mark (so_far ms) (cover c e.expr w))) k _ (ap (λ x. percent_at (number q x)) counted ∙ percent_given q k le)
          (after (value_at d bs a) (λ e. any_name (name s w) >>= λ w. has_type bool_type e >> Ok (with_mark (so_far ms) (cover k e.expr w))) (found a e) _ (expression_given d a (scope_of bs) bool_type e h)
          (next_after (has_type bool_type (found a e)) (Ok (with_mark (so_far ms) (cover k e w))) tt _ (type_given bool_type (found a e) refl) (ap (λ x. Ok (with_mark (so_far ms) x)) (sym is))))
      mark_from head parts m h = absurd h

    mark_given : (ms : List MarkData) (u : PlainTree) (m : MarkData) → IsMark d bs u m → clause_at d bs (so_far ms) u ≡ Ok (so_far (ms ++ m ∷ []))
    mark_given ms (list p (more (name q w) parts)) m h = mark_from p ms (head_of w) parts m h
    mark_given ms u m h = absurd h

    pub marks_given : (us : PlainTrees) (ms new : List MarkData) → AreMarks d bs us new → clauses_at d bs (so_far ms) us ≡ Ok (so_far (ms ++ new))
    marks_given end ms [] h = ap (λ x. Ok (so_far x)) (sym (append-nil ms))
    marks_given end ms (m ∷ new) h = absurd h
    marks_given (more u us) ms [] h = absurd h
    marks_given (more u us) ms (m ∷ new) (h, hs) =
        after (clause_at d bs (so_far ms) u) (λ before. clauses_at d bs before us) (so_far (ms ++ m ∷ [])) _ (mark_given ms u m h)
        (marks_given us (ms ++ m ∷ []) new hs ∙ ap (λ x. Ok (so_far x)) (append_assoc ms (m ∷ []) new))
