-- Binders and clauses are typed.
use Rattle.std.specs.Prelude.{unwrap_or, option_map}
use Rattle.std.proofs.Common.{◌≡◌, ◌∙◌, ℕ, zero, suc, ◌<◌, Bool, true, false, List, [], ◌∷◌, ◌++◌, length, Option, Some, slice_get, refl, sym, ap, subst}
use Rattle.qk_clauses.specs.Binders.{scope_of, command_list}
use Rattle.qk_clauses.specs.BoundView.{is_commands}
use Rattle.qk_clauses.specs.Clauses.{Head, given, checks, checks_runs, labels, collects, classifies, tabulates, covers, head_of}
use Rattle.qk_core.specs.Definitions.{ModelData}
use Rattle.qk_core.specs.ExprData.{ExprData}
use Rattle.qk_core.specs.Program.{ProgramData}
use Rattle.qk_core.specs.Properties.{DrawData, commands, BinderData, CheckData, MarkData, PropertyData}
use Rattle.qk_core.specs.declared.property.ShrinkBy.{ShrinkBy}
use Rattle.qk_headers.specs.Headers.{ModelTypesData}
use Rattle.qk_headers.specs.Scopes.{Scope, types_of}
use Rattle.qk_names.specs.Reserved.{Word}
use Rattle.qk_names.specs.declared.names.Named.TheVariants as named
use Rattle.qk_syntax.specs.PlainTrees.{PlainTree, number, name, list, PlainTrees, end, more}
use Rattle.qk_typed.specs.TypedExpressions.{IsType, AreTypes}
use Rattle.qk_typed.specs.WellTyped.{types_of as binder_types, Each, HasTypeIn, IsTypedDraw, IsTypedShrink, IsTypedBinder, AreTypedBinders, IsTypedCheck, IsTypedMark, IsTypedProperty}
use Rattle.qk_typing.specs.Operators.{Tables}
use Rattle.qk_value.specs.Types.{TypeData, int_type, bool_type, list_type}
use Rattle.qk_wellformed.specs.AreBinders.{NamesModel, DrawsBy, IsShrink, IsBinder, AreBinders}
use Rattle.qk_wellformed.specs.AreClauses.{IsTruth, HasSomeType, DrawsCommands, GivenBy, CheckBy, MarkBy, IsGiven, IsCheck, IsMark, AreMarks, AreClauses}
use Rattle.qk_wellformed.specs.StandsFor.{IsProperty}
use Rattle.qk_sound.proofs.Expressions.{expression_typed}
use Rattle.qk_sound.proofs.Generators.{generator_typed}
use Rattle.qk_sound.proofs.Headers.{AreModelTypes}
use Rattle.qk_sound.proofs.Models.{headed, names_function}
use Rattle.qk_sound.proofs.Regular.{Sound, drawn_type_is}
use Rattle.qk_sound.proofs.Stands.{Fits}

scope_types : (bs : List BinderData) → types_of (scope_of bs) ≡ binder_types bs
scope_types [] = refl
scope_types (b ∷ bs) = ap (λ ts. b.ty ∷ ts) (scope_types bs)

more_binders : (bs : List BinderData) (b : BinderData) → binder_types (bs ++ b ∷ []) ≡ binder_types bs ++ b.ty ∷ []
more_binders [] b = refl
more_binders (x ∷ bs) b = ap (λ ts. x.ty ∷ ts) (more_binders bs b)

more_types : (d : Tables) (ts : List TypeData) (t : TypeData) → AreTypes d.headers.kinds ts → IsType d.headers.kinds t → AreTypes d.headers.kinds (ts ++ t ∷ [])
more_types d [] t h k = (k, tt)
more_types d (u ∷ ts) t h k = (h.0, more_types d ts t h.1 k)

module _ (d : Tables) (c : ProgramData) (fits : Fits d c.functions c.generators) (sound : Sound d.headers c.functions c.generators)
    (models_typed : Each (AreModelTypes d.headers.kinds) d.headers.models)
    (model_at : (m : ℕ) → m < length d.headers.models → (model : ModelData) × (slice_get c.models m ≡ Some model) × (list_type model.command ≡ command_list d.headers m)) where
  command_type : (ms : List ModelTypesData) (m : ℕ) → Each (AreModelTypes d.headers.kinds) ms → IsType d.headers.kinds (list_type (unwrap_or (option_map (λ (x : ModelTypesData). x.command) (slice_get ms m)) int_type))
  command_type [] m h = tt
  command_type (x ∷ ms) zero h = h.0.command
  command_type (x ∷ ms) (suc m) h = command_type ms m h.1

  names_model : (tree : PlainTree) (m : ℕ) → NamesModel d tree m → m < length d.headers.models
  names_model (name p w) m h = fits.stand w (named.Model m) h
  names_model tree m h = absurd h

  record Draws (s : Scope) (draw : DrawData) (t : TypeData) : Type 0 where
    typed : IsTypedDraw (headed d c fits) (types_of s) draw t
    ty : IsType d.headers.kinds t

  draw_by : (b : Bool) (tree : PlainTree) (s : Scope) (t : TypeData) (draw : DrawData) → AreTypes d.headers.kinds (types_of s) → DrawsBy d s b tree t draw → Draws s draw t
  draw_by true (list p (more head (more model end))) s t draw k (m, is, of, by) =
      let found : (model : ModelData) × (slice_get c.models m ≡ Some model) × (list_type model.command ≡ command_list d.headers m) = model_at m (names_model model m is) in
      record {
        typed = subst (λ (x : DrawData). IsTypedDraw (headed d c fits) (types_of s) x t) (sym by) (found.0, found.1, of ∙ sym found.2);
        ty = subst (IsType d.headers.kinds) (sym of) (command_type d.headers.models m models_typed);
      }
  draw_by true tree s t draw k h = absurd h
  draw_by false tree s t draw k (g, is, by) =
      let typed = generator_typed d c.functions c.generators fits tree s t g is in
      record {
        typed = subst (λ (x : DrawData). IsTypedDraw (headed d c fits) (types_of s) x t) (sym by) typed;
        ty = drawn_type_is d.headers c.functions c.generators sound g (types_of s) t k typed;
      }

  shrink_typed : (t : TypeData) (tree : PlainTree) (k : ShrinkBy) → IsShrink d t tree k → IsTypedShrink (headed d c fits) k t
  shrink_typed t (name p w) k h = subst (λ (x : ShrinkBy). IsTypedShrink (headed d c fits) x t) (sym h.1) tt
  shrink_typed t (list p (more (name q w) (more f end))) k (head, (g, is, by)) =
      subst (λ (x : ShrinkBy). IsTypedShrink (headed d c fits) x t) (sym by) (names_function d c fits (t ∷ []) (list_type t) f g is)
  shrink_typed t tree k h = absurd h

  made : (before : List BinderData) (b : BinderData) → Draws (scope_of before) b.draw b.ty → IsTypedShrink (headed d c fits) b.shrink b.ty → IsTypedBinder (headed d c fits) (binder_types before) b
  made before b draws shrinks = record { ty = draws.ty; draw = subst (λ (ts : List TypeData). IsTypedDraw (headed d c fits) ts b.draw b.ty) (scope_types before) draws.typed; shrink = shrinks }

  binder_typed : (before : List BinderData) (tree : PlainTree) (b : BinderData) → AreTypes d.headers.kinds (types_of (scope_of before)) → IsBinder d before tree b → IsTypedBinder (headed d c fits) (binder_types before) b
  binder_typed before (list p (more x (more g end))) b k (free, draws, is) =
      made before b (draw_by (is_commands g) g (scope_of before) b.ty b.draw k draws) (subst (λ (y : ShrinkBy). IsTypedShrink (headed d c fits) y b.ty) (sym is) tt)
  binder_typed before (list p (more x (more g (more s end)))) b k (free, draws, is) = made before b (draw_by (is_commands g) g (scope_of before) b.ty b.draw k draws) (shrink_typed b.ty s b.shrink is)
  binder_typed before tree b k h = absurd h

  binders_typed : (before : List BinderData) (trees : PlainTrees) (bs : List BinderData) → AreTypes d.headers.kinds (binder_types before) → AreBinders d before trees bs → AreTypedBinders (headed d c fits) (binder_types before) bs
  binders_typed before end [] k h = tt
  binders_typed before (more u us) (b ∷ bs) k (is, rest) =
      let one : IsTypedBinder (headed d c fits) (binder_types before) b = binder_typed before u b (subst (AreTypes d.headers.kinds) (sym (scope_types before)) k) is in
      let more_typed : AreTypes d.headers.kinds (binder_types (before ++ b ∷ [])) = subst (AreTypes d.headers.kinds) (sym (more_binders before b)) (more_types d (binder_types before) b.ty k one.ty) in
      (one, subst (λ (ts : List TypeData). AreTypedBinders (headed d c fits) ts bs) (more_binders before b) (binders_typed (before ++ b ∷ []) us bs more_typed rest))
  binders_typed before trees bs k h = absurd h

  module _ (bs : List BinderData) where
    truth_typed : (tree : PlainTree) (e : ExprData) → IsTruth d bs tree e → HasTypeIn (headed d c fits) (binder_types bs) e bool_type
    truth_typed tree e h = subst (λ (ts : List TypeData). HasTypeIn (headed d c fits) ts e bool_type) (scope_types bs) (expression_typed d c.functions c.generators fits tree (scope_of bs) bool_type e h)

    some_typed : (tree : PlainTree) (e : ExprData) → HasSomeType d bs tree e → (t : TypeData) × HasTypeIn (headed d c fits) (binder_types bs) e t
    some_typed tree e h = (h.0, subst (λ (ts : List TypeData). HasTypeIn (headed d c fits) ts e h.0) (scope_types bs) (expression_typed d c.functions c.generators fits tree (scope_of bs) h.0 e h.1))

    given_by : (o : Option Head) (parts : PlainTrees) (e : ExprData) → GivenBy d bs o parts e → HasTypeIn (headed d c fits) (binder_types bs) e bool_type
    given_by (Some given) (more a end) e h = truth_typed a e h
    given_by o parts e h = absurd h

    given_typed : (tree : PlainTree) (e : ExprData) → IsGiven d bs tree e → HasTypeIn (headed d c fits) (binder_types bs) e bool_type
    given_typed (list p (more (name q w) parts)) e h = given_by (head_of w) parts e h
    given_typed tree e h = absurd h

    mark_by : (o : Option Head) (parts : PlainTrees) (m : MarkData) → MarkBy d bs o parts m → IsTypedMark (headed d c fits) (binder_types bs) m
    mark_by (Some labels) (more (name p w) end) m h = subst (IsTypedMark (headed d c fits) (binder_types bs)) (sym h) tt
    mark_by (Some collects) (more a end) m (e, is, same) = subst (IsTypedMark (headed d c fits) (binder_types bs)) (sym same) (some_typed a e is)
    mark_by (Some classifies) (more a (more (name p w) end)) m (e, is, same) = subst (IsTypedMark (headed d c fits) (binder_types bs)) (sym same) (truth_typed a e is)
    mark_by (Some tabulates) (more (name p w) (more a end)) m (e, is, same) = subst (IsTypedMark (headed d c fits) (binder_types bs)) (sym same) (some_typed a e is)
    mark_by (Some covers) (more (number p n) (more a (more (name q w) end))) m (percent, e, is_percent, few, is, same) = subst (IsTypedMark (headed d c fits) (binder_types bs)) (sym same) (truth_typed a e is)
    mark_by o parts m h = absurd h

    mark_typed : (tree : PlainTree) (m : MarkData) → IsMark d bs tree m → IsTypedMark (headed d c fits) (binder_types bs) m
    mark_typed (list p (more (name q w) parts)) m h = mark_by (head_of w) parts m h
    mark_typed tree m h = absurd h

    marks_typed : (trees : PlainTrees) (ms : List MarkData) → AreMarks d bs trees ms → Each (IsTypedMark (headed d c fits) (binder_types bs)) ms
    marks_typed end [] h = tt
    marks_typed (more u us) (m ∷ ms) h = (mark_typed u m h.0, marks_typed us ms h.1)
    marks_typed trees ms h = absurd h

  runs_at : (bs : List BinderData) (w : Word) (i : ℕ) → DrawsCommands bs w i → (b : BinderData) × (m : ℕ) × (slice_get bs i ≡ Some b) × (b.draw ≡ commands m)
  runs_at [] w i h = absurd h
  runs_at (b ∷ bs) w zero h = (b, h.1.0, refl, h.1.1)
  runs_at (b ∷ bs) w (suc i) h = runs_at bs w i h.1

  module _ (bs : List BinderData) where
    check_by : (o : Option Head) (parts : PlainTrees) (k : CheckData) → CheckBy d bs o parts k → IsTypedCheck (headed d c fits) bs k
    check_by (Some checks) (more a end) k (e, is, same) = subst (IsTypedCheck (headed d c fits) bs) (sym same) (truth_typed bs a e is)
    check_by (Some checks_runs) (more (name p w) end) k (i, is, same) = subst (IsTypedCheck (headed d c fits) bs) (sym same) (runs_at bs w i is)
    check_by o parts k h = absurd h

    check_typed : (tree : PlainTree) (k : CheckData) → IsCheck d bs tree k → IsTypedCheck (headed d c fits) bs k
    check_typed (list p (more (name q w) parts)) k h = check_by (head_of w) parts k h
    check_typed tree k h = absurd h

    record Clauses (givens : List ExprData) (what : CheckData) (marks : List MarkData) : Type 0 where
      all_givens : Each (λ e. HasTypeIn (headed d c fits) (binder_types bs) e bool_type) givens
      one_check : IsTypedCheck (headed d c fits) bs what
      all_marks : Each (IsTypedMark (headed d c fits) (binder_types bs)) marks

    clauses_typed : (trees : PlainTrees) (givens : List ExprData) (what : CheckData) (marks : List MarkData) → AreClauses d bs trees givens what marks → Clauses givens what marks
    clauses_typed end givens what marks h = absurd h
    clauses_typed (more u us) [] what marks h = record { all_givens = tt; one_check = check_typed u what h.0; all_marks = marks_typed bs us marks h.1 }
    clauses_typed (more u us) (e ∷ givens) what marks h =
        let rest : Clauses givens what marks = clauses_typed us givens what marks h.1 in
        record { all_givens = (given_typed bs u e h.0, rest.all_givens); one_check = rest.one_check; all_marks = rest.all_marks }

  pub property_typed : (w : Word) (parts : PlainTrees) (r : PropertyData) → IsProperty d w parts r → IsTypedProperty (headed d c fits) r
  property_typed w (more (list p (more head (more (list q binders) clauses))) end) r (is, bs, cs, few, also) =
      let all : Clauses r.binders r.givens r.check r.marks = clauses_typed r.binders clauses r.givens r.check r.marks cs in
      record { binders = binders_typed [] binders r.binders tt bs; givens = all.all_givens; check = all.one_check; marks = all.all_marks }
  property_typed w parts r h = absurd h
