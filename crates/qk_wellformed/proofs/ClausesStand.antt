-- The clauses of a property are judged to be what they are.
use Rattle.std.specs.Prelude.{◌&&◌, nat_le, bytes_eq, zero, suc}
use Rattle.std.proofs.Common.{◌≡◌, ◌∙◌, ℕ, ◌+◌, ◌≤◌, Bool, true, false, List, [], ◌∷◌, ◌++◌, length, refl, sym, ap, subst, arith, Option, Some, None, Ok}
use Rattle.std.proofs.lemmas.List.{append_assoc, append-nil}
use Rattle.qk_base.specs.declared.place.Place.{Place}
use Rattle.qk_core.specs.ExprData.{ExprData}
use Rattle.qk_core.specs.Properties.{BinderData, DrawData, plain, commands, CheckData, expression as holds, runs, MarkData}
use Rattle.qk_syntax.specs.PlainTrees.{PlainTree, number, name, list, PlainTrees, end, more}
use Rattle.qk_names.specs.Checks.{Checked, check, refuse}
use Rattle.qk_clauses.specs.Clauses.{Clauses, Head, given, checks, checks_runs, labels, collects, classifies, tabulates, covers, head_of, truth_at, runs_after, clause_parts, headed_clause, clause_at, clauses_at, closed_clauses}
use Rattle.qk_typing.specs.Operators.{Tables}
use Rattle.qk_names.specs.Reserved.{Word}
use Rattle.qk_wellformed.specs.AreClauses.{DrawsCommands, GivenBy, CheckBy, IsGiven, IsCheck, AreMarks, AreClauses}
use Rattle.qk_wellformed.proofs.Inversion.{ok_is, bound, followed, test_held, after, next_after, holds as passes}
use Rattle.qk_wellformed.proofs.MarksStand.{truth_stands, truth_given, so_far, marks_stand, marks_given}
use Rattle.qk_wellformed.proofs.NamesUsed.{some_is}
use Rattle.qk_wellformed.proofs.PartsStand.{at_most, most_given}
use Rattle.qk_wellformed.proofs.SameTypes.{both, both_hold}

-- a run of the binder that stands so many after this number
abbrev pub RunsFrom : ℕ → List BinderData → Word → CheckData → Type 0
RunsFrom n bs w c = (i : ℕ) × DrawsCommands bs w i × (c ≡ runs (n + i))

module _ (p : Place) (w : Word) where
  -- what a binder tells, by whether it has that name and what it draws
  abbrev step : ℕ → List BinderData → Bool → DrawData → Checked CheckData
  step n bs same draw = elim same [ true ↦ elim draw [ commands m ↦ Ok (runs n) | plain g ↦ refuse 24 p ] | false ↦ runs_after (n + 1) p bs w ]

  runs_here : (n : ℕ) (b : BinderData) (bs : List BinderData) (same : Bool) (draw : DrawData) (c : CheckData) → bytes_eq b.name w ≡ same → b.draw ≡ draw
      → (runs_after (n + 1) p bs w ≡ Ok c → RunsFrom (n + 1) bs w c)
      → step n bs same draw ≡ Ok c → RunsFrom n (b ∷ bs) w c
  runs_here n b bs true (plain g) c is drawn rest h = absurd (cc)
  runs_here n b bs true (commands m) c is drawn rest h = (zero, (is, (m, drawn)), ok_is _ _ _ h (ap (λ k. Ok (runs k)) (omega arith)))
  runs_here n b bs false draw c is drawn rest h = let found : RunsFrom (n + 1) bs w c = rest h in (suc found.0, (is, found.1), found.2 ∙ ap runs (omega arith))

  runs_stand : (bs : List BinderData) (n : ℕ) (c : CheckData) → runs_after n p bs w ≡ Ok c → RunsFrom n bs w c
  runs_stand [] n c h = absurd (cc)
  runs_stand (b ∷ bs) n c h = runs_here n b bs (bytes_eq b.name w) b.draw c refl refl (runs_stand bs (n + 1) c) h

  drawn_here : (n m : ℕ) (b : BinderData) (bs : List BinderData) → bytes_eq b.name w ≡ true → b.draw ≡ commands m → runs_after n p (b ∷ bs) w ≡ Ok (runs n)
  drawn_here n m b bs is drawn = λ i. step n bs (is i) (drawn i)

  passed_over : (n : ℕ) (b : BinderData) (bs : List BinderData) → bytes_eq b.name w ≡ false → runs_after n p (b ∷ bs) w ≡ runs_after (n + 1) p bs w
  passed_over n b bs is = ap (λ x. step n bs x b.draw) is

  runs_given : (bs : List BinderData) (n i : ℕ) → DrawsCommands bs w i → runs_after n p bs w ≡ Ok (runs (n + i))
  runs_given [] n i h = absurd h
  runs_given (b ∷ bs) n zero (is, (m, drawn)) = drawn_here n m b bs is drawn ∙ ap (λ k. Ok (runs k)) (omega arith)
  runs_given (b ∷ bs) n (suc i) (is, h) = passed_over n b bs is ∙ runs_given bs (n + 1) i h ∙ ap (λ k. Ok (runs k)) (omega arith)

module _ (d : Tables) (bs : List BinderData) where
  -- before the check has come
  abbrev unchecked : List ExprData → Clauses
  unchecked gs = record { givens = gs; check = None; marks = [] }

  -- .. and with it
  abbrev checked : List ExprData → CheckData → Clauses
  checked gs c = record { givens = gs; check = Some c; marks = [] }

  -- one clause more: a given, or the check
  module _ (p : Place) (gs : List ExprData) (r : Clauses) (Goal : Type 0) where
    given_stands : (parts : PlainTrees) → ((e : ExprData) → GivenBy d bs (Some given) parts e → r ≡ unchecked (gs ++ e ∷ []) → Goal) → clause_parts d bs (unchecked gs) p given parts ≡ Ok r → Goal
    given_stands end k h = absurd (cc)
    given_stands (more a (more v us)) k h = absurd (cc)
    given_stands (more a end) k h = bound (truth_at d bs a) (λ e. Ok (unchecked (gs ++ e ∷ []))) r _ (λ e f l. k e (truth_stands d bs a e f) (ok_is _ _ _ l refl)) h

    check_stands : (parts : PlainTrees) → ((c : CheckData) → CheckBy d bs (Some checks) parts c → r ≡ checked gs c → Goal) → clause_parts d bs (unchecked gs) p checks parts ≡ Ok r → Goal
    check_stands end k h = absurd (cc)
    check_stands (more a (more v us)) k h = absurd (cc)
    check_stands (more a end) k h = bound (truth_at d bs a) (λ e. Ok (checked gs (holds e))) r _ (λ e f l. k (holds e) (e, truth_stands d bs a e f, refl) (ok_is _ _ _ l refl)) h

    run_stands : (parts : PlainTrees) → ((c : CheckData) → CheckBy d bs (Some checks_runs) parts c → r ≡ checked gs c → Goal) → clause_parts d bs (unchecked gs) p checks_runs parts ≡ Ok r → Goal
    run_stands end k h = absurd (cc)
    run_stands (more x (more v us)) k h = absurd (cc)
    run_stands (more (number q n) end) k h = absurd (cc)
    run_stands (more (list q us) end) k h = absurd (cc)
    run_stands (more (name q w) end) k h =
        bound (runs_after 0 q bs w) (λ c. Ok (checked gs c)) r _
        (λ c f l. let found : RunsFrom 0 bs w c = runs_stand q w bs 0 c f in k c (found.0, found.1, found.2 ∙ ap runs (omega arith)) (ok_is _ _ _ l refl)) h

    clause_by : (head : Option Head) (parts : PlainTrees) → ((e : ExprData) → GivenBy d bs head parts e → r ≡ unchecked (gs ++ e ∷ []) → Goal)
        → ((c : CheckData) → CheckBy d bs head parts c → r ≡ checked gs c → Goal) → headed_clause d bs (unchecked gs) p head parts ≡ Ok r → Goal
    clause_by None parts k l h = absurd (cc)
    clause_by (Some given) parts k l h = given_stands parts k h
    clause_by (Some checks) parts k l h = check_stands parts l h
    clause_by (Some checks_runs) parts k l h = run_stands parts l h
    clause_by (Some labels) parts k l h = absurd (cc)
    clause_by (Some collects) parts k l h = absurd (cc)
    clause_by (Some classifies) parts k l h = absurd (cc)
    clause_by (Some tabulates) parts k l h = absurd (cc)
    clause_by (Some covers) parts k l h = absurd (cc)

  clause_stands : (gs : List ExprData) (u : PlainTree) (r : Clauses) (Goal : Type 0) → ((e : ExprData) → IsGiven d bs u e → r ≡ unchecked (gs ++ e ∷ []) → Goal) → ((c : CheckData) → IsCheck d bs u c → r ≡ checked gs c → Goal)
      → clause_at d bs (unchecked gs) u ≡ Ok r → Goal
  clause_stands gs (list p (more (name q w) parts)) r Goal k l h = clause_by p gs r Goal (head_of w) parts k l h
  clause_stands gs u r Goal k l h = absurd (cc)

  -- what the clauses after these givens come to
  pub record ClausesAfter (gs : List ExprData) (us : PlainTrees) (r : Clauses) (c : CheckData) : Type 0 where
    pub new : List ExprData
    pub are : AreClauses d bs us new c r.marks
    pub givens : r.givens ≡ gs ++ new

  pub clauses_stand : (us : PlainTrees) (gs : List ExprData) (r : Clauses) (c : CheckData) → clauses_at d bs (unchecked gs) us ≡ Ok r → r.check ≡ Some c → ClausesAfter gs us r c
  clauses_stand end gs r c h is = let none : None ≡ Some c = ap (λ x. x.check) (ok_is _ _ _ refl h) ∙ is in absurd (cc)
  clauses_stand (more u us) gs r c h is =
      bound (clause_at d bs (unchecked gs) u) (λ before. clauses_at d bs before us) r _
      (λ mid e k. clause_stands gs u mid _
      (λ x gu same. let rest : ClausesAfter (gs ++ x ∷ []) us r c = clauses_stand us (gs ++ x ∷ []) r c (ap (λ y. clauses_at d bs y us) (sym same) ∙ k) is in
      record { new = x ∷ rest.new; are = (gu, rest.are); givens = rest.givens ∙ append_assoc gs (x ∷ []) rest.new })
      (λ x cu same. let rest : (new : List MarkData) × AreMarks d bs us new × (r ≡ so_far d bs gs x new) = marks_stand d bs gs x us [] r (ap (λ y. clauses_at d bs y us) (sym same) ∙ k) in
      let found : x ≡ c = some_is x c r.check (ap (λ y. y.check) rest.2) is in
      record {
        new = [];
        are = (subst (λ y. IsCheck d bs u y) found cu, subst (λ y. AreMarks d bs us y) (ap (λ y. y.marks) (sym rest.2)) rest.1);
        givens = ap (λ y. y.givens) rest.2 ∙ sym (append-nil gs);
      }) e) h

  pub clauses_are : (us : PlainTrees) (r : Clauses) (c : CheckData) → ClausesAfter [] us r c → AreClauses d bs us r.givens c r.marks
  clauses_are us r c h = subst (λ y. AreClauses d bs us y c r.marks) (sym h.givens) h.are

  given_from : (p : Place) (gs : List ExprData) (head : Option Head) (parts : PlainTrees) (e : ExprData) → GivenBy d bs head parts e → headed_clause d bs (unchecked gs) p head parts ≡ Ok (unchecked (gs ++ e ∷ []))
  given_from p gs (Some given) (more a end) e h = after (truth_at d bs a) (λ e. Ok (unchecked (gs ++ e ∷ []))) e _ (truth_given d bs a e h) refl
  given_from p gs head parts e h = absurd h

  check_from : (p : Place) (gs : List ExprData) (head : Option Head) (parts : PlainTrees) (c : CheckData) → CheckBy d bs head parts c → headed_clause d bs (unchecked gs) p head parts ≡ Ok (checked gs c)
  check_from p gs (Some checks) (more a end) c (e, h, is) = after (truth_at d bs a) (λ e. Ok (checked gs (holds e))) e _ (truth_given d bs a e h) (ap (λ y. Ok (checked gs y)) (sym is))
  check_from p gs (Some checks_runs) (more (name q w) end) c (i, h, is) =
      after (runs_after 0 q bs w) (λ c. Ok (checked gs c)) (runs i) _ (runs_given q w bs 0 i h ∙ ap (λ k. Ok (runs k)) (omega arith)) (ap (λ y. Ok (checked gs y)) (sym is))
  check_from p gs head parts c h = absurd h

  given_given : (gs : List ExprData) (u : PlainTree) (e : ExprData) → IsGiven d bs u e → clause_at d bs (unchecked gs) u ≡ Ok (unchecked (gs ++ e ∷ []))
  given_given gs (list p (more (name q w) parts)) e h = given_from p gs (head_of w) parts e h
  given_given gs u e h = absurd h

  check_given : (gs : List ExprData) (u : PlainTree) (c : CheckData) → IsCheck d bs u c → clause_at d bs (unchecked gs) u ≡ Ok (checked gs c)
  check_given gs (list p (more (name q w) parts)) c h = check_from p gs (head_of w) parts c h
  check_given gs u c h = absurd h

  pub clauses_given : (us : PlainTrees) (gs new : List ExprData) (c : CheckData) (ms : List MarkData) → AreClauses d bs us new c ms
      → clauses_at d bs (unchecked gs) us ≡ Ok (record { givens = gs ++ new; check = Some c; marks = ms })
  clauses_given end gs new c ms h = absurd h
  clauses_given (more u us) gs [] c ms (h, hs) =
      after (clause_at d bs (unchecked gs) u) (λ before. clauses_at d bs before us) (checked gs c) _ (check_given gs u c h)
      (marks_given d bs gs c us [] ms hs ∙ ap (λ y. Ok (record { givens = y; check = Some c; marks = ms })) (sym (append-nil gs)))
  clauses_given (more u us) gs (e ∷ new) c ms (h, hs) =
      after (clause_at d bs (unchecked gs) u) (λ before. clauses_at d bs before us) (unchecked (gs ++ e ∷ [])) _ (given_given gs u e h)
      (clauses_given us (gs ++ e ∷ []) new c ms hs ∙ ap (λ y. Ok (record { givens = y; check = Some c; marks = ms })) (append_assoc gs (e ∷ []) new))

few : (p : Place) (o : Option CheckData) (gs : List ExprData) (ms : List MarkData) (c : CheckData) → closed_clauses p (record { givens = gs; check = o; marks = ms }) ≡ Ok c → (o ≡ Some c) × (length gs ≤ 16) × (length ms ≤ 16)
few p None gs ms c h = absurd (cc)
few p (Some x) gs ms c h =
    followed (check (nat_le (length gs) 16 && nat_le (length ms) 16) 23 p) (Ok x) c _
    (λ u e k. let many : (nat_le (length gs) 16 ≡ true) × (nat_le (length ms) 16 ≡ true) = both _ _ (test_held _ 23 p u e) in (ap Some (ok_is _ _ _ refl k), at_most _ _ many.0, at_most _ _ many.1)) h

pub closed_stands : (p : Place) (r : Clauses) (c : CheckData) → closed_clauses p r ≡ Ok c → (r.check ≡ Some c) × (length r.givens ≤ 16) × (length r.marks ≤ 16)
closed_stands p r c h = few p r.check r.givens r.marks c h

pub closed_given : (p : Place) (gs : List ExprData) (ms : List MarkData) (c : CheckData) → length gs ≤ 16 → length ms ≤ 16 → closed_clauses p (record { givens = gs; check = Some c; marks = ms }) ≡ Ok c
closed_given p gs ms c h k = next_after (check (nat_le (length gs) 16 && nat_le (length ms) 16) 23 p) (Ok c) tt _ (passes _ 23 p (both_hold _ _ (most_given _ _ h) (most_given _ _ k))) refl
