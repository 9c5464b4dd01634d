-- The binders of a property are judged to be what they are.
use Rattle.std.specs.Prelude.{if◌then◌else◌, codes, bytes_eq}
use Rattle.std.proofs.Common.{◌≡◌, ◌∙◌, ℕ, Bool, true, false, List, [], ◌∷◌, ◌++◌, map, refl, sym, ap, subst, Option, Some, None, Ok}
use Rattle.std.proofs.lemmas.List.{append_assoc, append-nil}
use Rattle.qk_base.specs.declared.place.Place.{Place}
use Rattle.qk_core.specs.GenData.{GenData}
use Rattle.qk_core.specs.Properties.{BinderData, DrawData, plain, commands}
use Rattle.qk_core.specs.declared.property.ShrinkBy.{ShrinkBy}
use Rattle.qk_core.specs.declared.property.ShrinkBy.TheVariants as shrinks
use Rattle.qk_syntax.specs.PlainTrees.{PlainTree, number, name, list, PlainTrees, end, more}
use Rattle.qk_value.specs.Types.{TypeData, list_type}
use Rattle.qk_clauses.specs.Binders.{scope_of, TypedDraw, command_list, commands_of, drawn_by, draw_at, shrink_with, shrink_at, shrink_or_builtin, binder_of, binder_at, binders_at}
use Rattle.qk_names.specs.Checks.{◌>>=◌, refuse, place_of}
use Rattle.qk_generators.specs.Drawing.{drawn}
use Rattle.qk_generators.specs.Generators.{generator}
use Rattle.qk_clauses.specs.Models.{function_at, declared_at, number_named, model_number}
use Rattle.qk_names.specs.Names.{named_by}
use Rattle.qk_typing.specs.Operators.{Tables}
use Rattle.qk_names.specs.Reserved.{Word}
use Rattle.qk_headers.specs.Scopes.{Scope, variable_at}
use Rattle.qk_wellformed.specs.AreBinders.{NamesModel, DrawsBy, IsDraw, IsShrink, IsBinder, AreBinders}
use Rattle.qk_wellformed.specs.IsGenerator.{IsGenerator}
use Rattle.qk_wellformed.specs.IsVariable.{IsVariable}
use Rattle.qk_wellformed.proofs.GeneratorsStand.{generator_stands, generator_given}
use Rattle.qk_wellformed.proofs.Inversion.{ok_is, bound, held, after, passing}
use Rattle.qk_wellformed.proofs.ModelsStand.{model_named, function_stands, function_given}
use Rattle.qk_wellformed.proofs.VariablesStand.{variable_stands, variable_given}

abbrev typed_draw : TypeData → DrawData → TypedDraw
typed_draw t draw = record { ty = t; draw = draw }

module _ (d : Tables) where
  model_stands : (t : PlainTree) (m : ℕ) → declared_at d model_number t ≡ Ok m → NamesModel d t m
  model_stands (number p n) m h = absurd (cc)
  model_stands (list p us) m h = absurd (cc)
  model_stands (name p w) m h = model_named p (named_by d.names w) m h

  model_given : (t : PlainTree) (m : ℕ) → NamesModel d t m → declared_at d model_number t ≡ Ok m
  model_given (number p n) m h = absurd h
  model_given (list p us) m h = absurd h
  model_given (name p w) m h = ap (number_named p model_number) h

  module _ (s : Scope) where
    plain_stands : (g : PlainTree) (r : TypedDraw) → drawn_by d s g ≡ Ok r → (f : GenData) × IsGenerator d s g r.ty f × (r.draw ≡ plain f)
    plain_stands g r h =
        bound (generator d s g) (λ g. Ok (typed_draw g.ty (plain g.gen))) r _
        (λ f e k. let same : typed_draw f.ty (plain f.gen) ≡ r = ok_is _ _ _ refl k in
        (f.gen, subst (λ t. IsGenerator d s g t f.gen) (ap (λ y. y.ty) same) (generator_stands d g s f e), ap (λ y. y.draw) (sym same))) h

    plain_given : (g : PlainTree) (t : TypeData) (draw : DrawData) (f : GenData) → IsGenerator d s g t f → draw ≡ plain f → drawn_by d s g ≡ Ok (typed_draw t draw)
    plain_given g t draw f h is = after (generator d s g) (λ g. Ok (typed_draw g.ty (plain g.gen))) (drawn (place_of g) t f) _ (generator_given d g s t f h) (ap (λ x. Ok (typed_draw t x)) (sym is))

    commands_stand : (p : Place) (head : PlainTree) (parts : PlainTrees) (r : TypedDraw) → commands_of d p parts ≡ Ok r → DrawsBy d s true (list p (more head parts)) r.ty r.draw
    commands_stand p head end r h = absurd (cc)
    commands_stand p head (more model (more u us)) r h = absurd (cc)
    commands_stand p head (more model end) r h =
        bound (declared_at d model_number model) (λ m. Ok (typed_draw (command_list d.headers m) (commands m))) r _
        (λ m e k. let same : typed_draw (command_list d.headers m) (commands m) ≡ r = ok_is _ _ _ refl k in (m, model_stands model m e, ap (λ y. y.ty) (sym same), ap (λ y. y.draw) (sym same))) h

    commands_given : (p : Place) (head : PlainTree) (parts : PlainTrees) (t : TypeData) (draw : DrawData) → DrawsBy d s true (list p (more head parts)) t draw → commands_of d p parts ≡ Ok (typed_draw t draw)
    commands_given p head end t draw h = absurd h
    commands_given p head (more model (more u us)) t draw h = absurd h
    commands_given p head (more model end) t draw (m, k, is, are) =
        after (declared_at d model_number model) (λ m. Ok (typed_draw (command_list d.headers m) (commands m))) m _ (model_given model m k) (λ i. Ok (typed_draw (sym is i) (sym are i)))

    draw_by : (p : Place) (head : PlainTree) (parts : PlainTrees) (r : TypedDraw) (b : Bool)
        → (if b then commands_of d p parts else drawn_by d s (list p (more head parts))) ≡ Ok r → DrawsBy d s b (list p (more head parts)) r.ty r.draw
    draw_by p head parts r true h = commands_stand p head parts r h
    draw_by p head parts r false h = plain_stands (list p (more head parts)) r h

    draw_from : (p : Place) (head : PlainTree) (parts : PlainTrees) (t : TypeData) (draw : DrawData) (b : Bool) → DrawsBy d s b (list p (more head parts)) t draw
        → (if b then commands_of d p parts else drawn_by d s (list p (more head parts))) ≡ Ok (typed_draw t draw)
    draw_from p head parts t draw true h = commands_given p head parts t draw h
    draw_from p head parts t draw false (f, h, is) = plain_given (list p (more head parts)) t draw f h is

    draw_stands : (g : PlainTree) (r : TypedDraw) → draw_at d s g ≡ Ok r → IsDraw d s g r.ty r.draw
    draw_stands (number p n) r h = plain_stands (number p n) r h
    draw_stands (name p w) r h = plain_stands (name p w) r h
    draw_stands (list p end) r h = plain_stands (list p end) r h
    draw_stands (list p (more (number q n) us)) r h = plain_stands (list p (more (number q n) us)) r h
    draw_stands (list p (more (list q vs) us)) r h = plain_stands (list p (more (list q vs) us)) r h
    draw_stands (list p (more (name q w) parts)) r h = draw_by p (name q w) parts r (bytes_eq w (codes "commands")) h

    draw_given : (g : PlainTree) (t : TypeData) (draw : DrawData) → IsDraw d s g t draw → draw_at d s g ≡ Ok (typed_draw t draw)
    draw_given (number p n) t draw (f, h, is) = plain_given (number p n) t draw f h is
    draw_given (name p w) t draw (f, h, is) = plain_given (name p w) t draw f h is
    draw_given (list p end) t draw (f, h, is) = plain_given (list p end) t draw f h is
    draw_given (list p (more (number q n) us)) t draw (f, h, is) = plain_given (list p (more (number q n) us)) t draw f h is
    draw_given (list p (more (list q vs) us)) t draw (f, h, is) = plain_given (list p (more (list q vs) us)) t draw f h is
    draw_given (list p (more (name q w) parts)) t draw h = draw_from p (name q w) parts t draw (bytes_eq w (codes "commands")) h

  shrink_stands : (t : TypeData) (u : PlainTree) (k : ShrinkBy) → shrink_at d t u ≡ Ok k → IsShrink d t u k
  shrink_stands t (number p n) k h = absurd (cc)
  shrink_stands t (name p w) k h = held (bytes_eq w (codes "no-shrink")) 20 p (Ok shrinks.Nothing) k _ (λ is l. (is, ok_is _ _ _ l refl)) h
  shrink_stands t (list p end) k h = absurd (cc)
  shrink_stands t (list p (more (number q n) us)) k h = absurd (cc)
  shrink_stands t (list p (more (list q vs) us)) k h = absurd (cc)
  shrink_stands t (list p (more (name q w) end)) k h = held (bytes_eq w (codes "shrink-with")) 20 p (refuse 23 p) k _ (λ is l. absurd (cc)) h
  shrink_stands t (list p (more (name q w) (more f (more v vs)))) k h = held (bytes_eq w (codes "shrink-with")) 20 p (refuse 23 p) k _ (λ is l. absurd (cc)) h
  shrink_stands t (list p (more (name q w) (more f end))) k h =
      held (bytes_eq w (codes "shrink-with")) 20 p (shrink_with d t p (more f end)) k _
      (λ is l. bound (function_at d (t ∷ []) (list_type t) f) (λ f. Ok (shrinks.Function f)) k _ (λ g e m. (is, (g, function_stands d (t ∷ []) (list_type t) f g e, ok_is _ _ _ m refl))) l) h

  shrink_given : (t : TypeData) (u : PlainTree) (k : ShrinkBy) → IsShrink d t u k → shrink_at d t u ≡ Ok k
  shrink_given t (number p n) k h = absurd h
  shrink_given t (name p w) k (is, same) = passing (bytes_eq w (codes "no-shrink")) 20 p (Ok shrinks.Nothing) _ is (ap Ok (sym same))
  shrink_given t (list p end) k h = absurd h
  shrink_given t (list p (more (number q n) us)) k h = absurd h
  shrink_given t (list p (more (list q vs) us)) k h = absurd h
  shrink_given t (list p (more (name q w) end)) k h = absurd h
  shrink_given t (list p (more (name q w) (more f (more v vs)))) k h = absurd h
  shrink_given t (list p (more (name q w) (more f end))) k (is, (g, h, same)) =
      passing (bytes_eq w (codes "shrink-with")) 20 p (shrink_with d t p (more f end)) _ is
      (after (function_at d (t ∷ []) (list_type t) f) (λ f. Ok (shrinks.Function f)) g _ (function_given d (t ∷ []) (list_type t) f g h) (ap Ok (sym same)))

  -- how a binder shrinks, by the part that may stand last
  abbrev ShrinksBy : TypeData → Option PlainTree → ShrinkBy → Type 0
  ShrinksBy t None k = k ≡ shrinks.Builtin
  ShrinksBy t (Some u) k = IsShrink d t u k

  shrinks_stand : (t : TypeData) (o : Option PlainTree) (k : ShrinkBy) → shrink_or_builtin d t o ≡ Ok k → ShrinksBy t o k
  shrinks_stand t None k h = ok_is _ _ _ h refl
  shrinks_stand t (Some u) k h = shrink_stands t u k h

  shrinks_given : (t : TypeData) (o : Option PlainTree) (k : ShrinkBy) → ShrinksBy t o k → shrink_or_builtin d t o ≡ Ok k
  shrinks_given t None k h = ap Ok (sym h)
  shrinks_given t (Some u) k h = shrink_given t u k h

  module _ (before : List BinderData) where
    abbrev binder : Word → TypedDraw → ShrinkBy → BinderData
    binder w draw k = record { name = w; ty = draw.ty; draw = draw.draw; shrink = k }

    parts_stand : (x g : PlainTree) (o : Option PlainTree) (b : BinderData) → binder_of d before x g o ≡ Ok b → IsVariable (map (λ b. b.name) before) x b.name × IsDraw d (scope_of before) g b.ty b.draw × ShrinksBy b.ty o b.shrink
    parts_stand x g o b h =
        bound (variable_at (map (λ b. b.name) before) x) (λ w. draw_at d (scope_of before) g >>= λ draw. shrink_or_builtin d draw.ty o >>= λ k. Ok (binder w draw k)) b _
        (λ w e r. bound (draw_at d (scope_of before) g) (λ draw. shrink_or_builtin d draw.ty o >>= λ k. Ok (binder w draw k)) b _
        (λ draw f l. bound (shrink_or_builtin d draw.ty o) (λ k. Ok (binder w draw k)) b _
        (λ k j m. let same : binder w draw k ≡ b = ok_is _ _ _ refl m in (
          variable_stands (map (λ b. b.name) before) x b.name (e ∙ ap (λ y. Ok y.name) same),
          draw_stands (scope_of before) g (typed_draw b.ty b.draw) (f ∙ ap (λ y. Ok (typed_draw y.ty y.draw)) same),
          subst (λ y. ShrinksBy y.ty o y.shrink) same (shrinks_stand draw.ty o k j),
        )) l) r) h

    parts_given : (x g : PlainTree) (o : Option PlainTree) (b : BinderData) → IsVariable (map (λ b. b.name) before) x b.name → IsDraw d (scope_of before) g b.ty b.draw → ShrinksBy b.ty o b.shrink → binder_of d before x g o ≡ Ok b
    parts_given x g o b v is k =
        after (variable_at (map (λ b. b.name) before) x) (λ w. draw_at d (scope_of before) g >>= λ draw. shrink_or_builtin d draw.ty o >>= λ k. Ok (binder w draw k)) b.name _ (variable_given (map (λ b. b.name) before) x b.name v)
        (after (draw_at d (scope_of before) g) (λ draw. shrink_or_builtin d draw.ty o >>= λ k. Ok (binder b.name draw k)) (typed_draw b.ty b.draw) _ (draw_given (scope_of before) g b.ty b.draw is)
        (after (shrink_or_builtin d b.ty o) (λ k. Ok (binder b.name (typed_draw b.ty b.draw) k)) b.shrink _ (shrinks_given b.ty o b.shrink k) refl))

    binder_stands : (u : PlainTree) (b : BinderData) → binder_at d before u ≡ Ok b → IsBinder d before u b
    binder_stands (list p (more x (more g end))) b h = parts_stand x g None b h
    binder_stands (list p (more x (more g (more k end)))) b h = parts_stand x g (Some k) b h
    binder_stands u b h = absurd (cc)

    binder_given : (u : PlainTree) (b : BinderData) → IsBinder d before u b → binder_at d before u ≡ Ok b
    binder_given (list p (more x (more g end))) b (v, is, k) = parts_given x g None b v is k
    binder_given (list p (more x (more g (more k end)))) b (v, is, l) = parts_given x g (Some k) b v is l
    binder_given u b h = absurd h

  pub binders_stand : (us : PlainTrees) (before r : List BinderData) → binders_at d before us ≡ Ok r → (new : List BinderData) × (r ≡ before ++ new) × AreBinders d before us new
  binders_stand end before r h = ([], ok_is _ _ _ h refl ∙ sym (append-nil before), tt)
  binders_stand (more u us) before r h =
      bound (binder_at d before u) (λ b. binders_at d (before ++ b ∷ []) us) r _
      (λ b e k. let rest : (new : List BinderData) × (r ≡ before ++ b ∷ [] ++ new) × AreBinders d (before ++ b ∷ []) us new = binders_stand us (before ++ b ∷ []) r k in
      (b ∷ rest.0, rest.1 ∙ append_assoc before (b ∷ []) rest.0, (binder_stands before u b e, rest.2))) h

  pub binders_given : (us : PlainTrees) (before new : List BinderData) → AreBinders d before us new → binders_at d before us ≡ Ok (before ++ new)
  binders_given end before [] h = ap Ok (sym (append-nil before))
  binders_given end before (b ∷ bs) h = absurd h
  binders_given (more u us) before [] h = absurd h
  binders_given (more u us) before (b ∷ bs) (h, hs) =
      after (binder_at d before u) (λ b. binders_at d (before ++ b ∷ []) us) b _ (binder_given before u b h) (binders_given us (before ++ b ∷ []) bs hs ∙ ap Ok (append_assoc before (b ∷ []) bs))
