-- The bodies of the items are judged to be what they are.
use Rattle.std.specs.Prelude.{unwrap_or, slice_get}
use Rattle.std.proofs.Common.{◌≡◌, ◌∙◌, ◌≤◌, List, [], ◌∷◌, ◌++◌, length, refl, sym, ap, subst, Option, Some, None, Ok}
use Rattle.qk_base.specs.declared.place.Place.{Place}
use Rattle.qk_core.specs.Definitions.{FunctionData, UserGenData}
use Rattle.qk_core.specs.ExprData.{ExprData}
use Rattle.qk_core.specs.GenData.{GenData}
use Rattle.qk_core.specs.Program.{ProgramData}
use Rattle.qk_core.specs.Properties.{BinderData, CheckData, PropertyData}
use Rattle.qk_syntax.specs.PlainTrees.{PlainTree, number, name, list, PlainTrees, end, more}
use Rattle.qk_clauses.specs.Binders.{binders_at}
use Rattle.qk_types.specs.Bodies.{function_body, generator_body, forall_body, property_body, no_model, item_body, body_at, bodies_after}
use Rattle.qk_names.specs.Checks.{◌>>=◌, ◌>>◌, place_of}
use Rattle.qk_clauses.specs.Clauses.{Clauses, no_clauses, clauses_at, closed_clauses}
use Rattle.qk_generators.specs.Drawing.{drawn, draws_type, generator_of}
use Rattle.qk_expressions.specs.Expressions.{expression}
use Rattle.qk_generators.specs.Generators.{generator}
use Rattle.qk_headers.specs.Headers.{SignatureData, ModelTypesData}
use Rattle.qk_clauses.specs.Models.{model_at}
use Rattle.qk_names.specs.Names.{item_of}
use Rattle.qk_typing.specs.Operators.{Tables, typed, has_type, function_of}
use Rattle.qk_names.specs.Reserved.{Word}
use Rattle.qk_headers.specs.Scopes.{types_of}
use Rattle.qk_names.specs.declared.names.Item.{Item}
use Rattle.qk_names.specs.declared.names.Item.TheVariants as items
use Rattle.qk_wellformed.specs.AreBinders.{AreBinders}
use Rattle.qk_wellformed.specs.IsExpression.{IsExpression}
use Rattle.qk_wellformed.specs.IsGenerator.{IsGenerator}
use Rattle.qk_wellformed.specs.StandsFor.{IsFunction, IsUserGenerator, IsProperty, AddsBody, IsBody, BodiesFrom}
use Rattle.qk_wellformed.proofs.BindersStand.{binders_stand, binders_given}
use Rattle.qk_wellformed.proofs.ClausesStand.{ClausesAfter, clauses_are, clauses_stand, clauses_given, closed_stands, closed_given}
use Rattle.qk_wellformed.proofs.DrawingStands.{draws, drawn_given}
use Rattle.qk_wellformed.proofs.ExpressionsStand.{expression_stands, expression_given}
use Rattle.qk_wellformed.proofs.GeneratorsStand.{generator_stands, generator_given}
use Rattle.qk_wellformed.proofs.Inversion.{ok_is, no_value, bound, followed, after, next_after}
use Rattle.qk_wellformed.proofs.ModelsStand.{model_stands, model_given}
use Rattle.qk_wellformed.proofs.SameTypes.{has, given}

module _ (d : Tables) (p : Place) (s : SignatureData) where
  -- a function of that signature with this body
  abbrev defined : ExprData → FunctionData
  defined e = record { params = types_of s.params; result = s.result; body = e }

  function_stands : (parts : PlainTrees) (f : FunctionData) → function_body d p s parts ≡ Ok f → IsFunction d s parts f
  function_stands (more params (more t (more body end))) f h =
      bound (expression d s.params body) (λ body. has_type s.result body >> Ok (defined body.expr)) f _
      (λ e r k. followed (has_type s.result e) (Ok (defined e.expr)) f _
      (λ u g l. let same : defined e.expr ≡ f = ok_is _ _ _ refl l in (
        ap (λ y. y.params) (sym same),
        ap (λ y. y.result) (sym same),
        subst (λ y. IsExpression d s.params body s.result y) (ap (λ y. y.body) same) (subst (λ y. IsExpression d s.params body y e.expr) (sym (has s.result e u g)) (expression_stands d body s.params e r)),
      )) k) h
  function_stands parts f h = absurd (cc)

  function_given : (parts : PlainTrees) (f : FunctionData) → IsFunction d s parts f → function_body d p s parts ≡ Ok f
  function_given (more params (more t (more body end))) f (takes, gives, is) =
      after (expression d s.params body) (λ body. has_type s.result body >> Ok (defined body.expr)) (typed (place_of body) s.result f.body) _ (expression_given d body s.params s.result f.body is)
      (next_after (has_type s.result (typed (place_of body) s.result f.body)) (Ok (defined f.body)) tt _ (given s.result (typed (place_of body) s.result f.body) refl)
      (λ i. Ok (record { params = sym takes i; result = sym gives i; body = f.body })))
  function_given parts f h = absurd h

  -- .. and a generator
  abbrev drawing : GenData → UserGenData
  drawing g = record { params = types_of s.params; result = s.result; body = g }

  generator_is : (parts : PlainTrees) (g : UserGenData) → generator_body d p s parts ≡ Ok g → IsUserGenerator d s parts g
  generator_is (more params (more t (more body end))) g h =
      bound (generator d s.params body) (λ body. draws_type s.result body >> Ok (drawing body.gen)) g _
      (λ e r k. followed (draws_type s.result e) (Ok (drawing e.gen)) g _
      (λ u f l. let same : drawing e.gen ≡ g = ok_is _ _ _ refl l in (
        ap (λ y. y.params) (sym same),
        ap (λ y. y.result) (sym same),
        subst (λ y. IsGenerator d s.params body s.result y) (ap (λ y. y.body) same) (subst (λ y. IsGenerator d s.params body y e.gen) (sym (draws s.result e u f)) (generator_stands d body s.params e r)),
      )) k) h
  generator_is parts g h = absurd (cc)

  generator_from : (parts : PlainTrees) (g : UserGenData) → IsUserGenerator d s parts g → generator_body d p s parts ≡ Ok g
  generator_from (more params (more t (more body end))) g (takes, gives, is) =
      after (generator d s.params body) (λ body. draws_type s.result body >> Ok (drawing body.gen)) (drawn (place_of body) s.result g.body) _ (generator_given d body s.params s.result g.body is)
      (next_after (draws_type s.result (drawn (place_of body) s.result g.body)) (Ok (drawing g.body)) tt _ (drawn_given s.result (drawn (place_of body) s.result g.body) refl)
      (λ i. Ok (record { params = sym takes i; result = sym gives i; body = g.body })))
  generator_from parts g h = absurd h

module _ (d : Tables) (w : Word) where
  -- a property of these binders, clauses and check
  abbrev property : List BinderData → Clauses → CheckData → PropertyData
  property bs cs what = record { name = w; binders = bs; givens = cs.givens; check = what; marks = cs.marks }

  forall_stands : (p q : Place) (head : PlainTree) (binders clauses : PlainTrees) (r : PropertyData) → forall_body d p w (more (list q binders) clauses) ≡ Ok r → IsProperty d w (more (list p (more head (more (list q binders) clauses))) end) r
  forall_stands p q head binders clauses r h =
      bound (binders_at d [] binders) (λ bs. clauses_at d bs no_clauses clauses >>= λ cs. closed_clauses p cs >>= λ what. Ok (property bs cs what)) r _
      (λ bs e k. bound (clauses_at d bs no_clauses clauses) (λ cs. closed_clauses p cs >>= λ what. Ok (property bs cs what)) r _
      (λ cs f l. bound (closed_clauses p cs) (λ what. Ok (property bs cs what)) r _
      (λ what g m. let same : property bs cs what ≡ r = ok_is _ _ _ refl m in
      let bound_by : (new : List BinderData) × (bs ≡ new) × AreBinders d [] binders new = binders_stand d binders [] bs e in
      let shut : (cs.check ≡ Some what) × (length cs.givens ≤ 16) × (length cs.marks ≤ 16) = closed_stands p cs what g in
      let found : ClausesAfter d bs [] clauses cs what = clauses_stand d bs clauses [] cs what f shut.0 in
      subst (λ y. IsProperty d w (more (list p (more head (more (list q binders) clauses))) end) y) same
      (refl, subst (λ y. AreBinders d [] binders y) (sym bound_by.1) bound_by.2, clauses_are d bs clauses cs what found, shut.1, shut.2)) l) k) h

  property_stands : (p : Place) (parts : PlainTrees) (r : PropertyData) → property_body d p w parts ≡ Ok r → IsProperty d w parts r
  property_stands p end r h = absurd (no_value 23 p r h)
  property_stands p (more (number q n) (more u us)) r h = absurd (no_value 23 p r h)
  property_stands p (more (name q v) (more u us)) r h = absurd (no_value 23 p r h)
  property_stands p (more (list q end) (more u us)) r h = absurd (no_value 23 p r h)
  property_stands p (more (list q (more head parts)) (more u us)) r h = absurd (no_value 23 p r h)
  property_stands p (more (number q n) end) r h = absurd (no_value 23 p r h)
  property_stands p (more (name q v) end) r h = absurd (no_value 23 p r h)
  property_stands p (more (list q end) end) r h = absurd (no_value 23 p r h)
  property_stands p (more (list q (more head end)) end) r h = absurd (no_value 23 q r h)
  property_stands p (more (list q (more head (more (number s n) clauses))) end) r h = absurd (no_value 23 q r h)
  property_stands p (more (list q (more head (more (name s v) clauses))) end) r h = absurd (no_value 23 q r h)
  property_stands p (more (list q (more head (more (list s binders) clauses))) end) r h = forall_stands q s head binders clauses r h

  property_given : (p : Place) (parts : PlainTrees) (r : PropertyData) → IsProperty d w parts r → property_body d p w parts ≡ Ok r
  property_given p (more (list q (more head (more (list s binders) clauses))) end) r (is, bs, cs, few, marks) =
      after (binders_at d [] binders) (λ bs. clauses_at d bs no_clauses clauses >>= λ cs. closed_clauses q cs >>= λ what. Ok (property bs cs what)) r.binders _ (binders_given d binders [] r.binders bs)
      (after (clauses_at d r.binders no_clauses clauses) (λ cs. closed_clauses q cs >>= λ what. Ok (property r.binders cs what)) (record { givens = r.givens; check = Some r.check; marks = r.marks }) _
      (clauses_given d r.binders clauses [] r.givens r.check r.marks cs)
      (after (closed_clauses q (record { givens = r.givens; check = Some r.check; marks = r.marks })) (λ what. Ok (property r.binders (record { givens = r.givens; check = Some r.check; marks = r.marks }) what)) r.check _
      (closed_given q r.givens r.marks r.check few marks) (ap (λ x. Ok (record r { name = x })) (sym is))))
  property_given p parts r h = absurd h

module _ (d : Tables) (c : ProgramData) (p : Place) (w : Word) (parts : PlainTrees) (r : ProgramData) where
  abbrev types_here : ModelTypesData
  types_here = unwrap_or (slice_get d.headers.models (length c.models)) no_model

  adds_stands : (item : Item) → item_body d c p w (Some item) parts ≡ Ok r → AddsBody d c w item parts r
  adds_stands items.Kind k = ok_is _ _ _ k refl
  adds_stands items.Function k =
      bound (function_body d p (function_of d.headers (length c.functions)) parts) (λ f. Ok (record c { functions = c.functions ++ f ∷ [] })) r _
      (λ f e l. (f, function_stands d p (function_of d.headers (length c.functions)) parts f e, ok_is _ _ _ l refl)) k
  adds_stands items.Generator k =
      bound (generator_body d p (generator_of d.headers (length c.generators)) parts) (λ g. Ok (record c { generators = c.generators ++ g ∷ [] })) r _
      (λ g e l. (g, generator_is d p (generator_of d.headers (length c.generators)) parts g e, ok_is _ _ _ l refl)) k
  adds_stands items.Model k = bound (model_at d p types_here parts) (λ m. Ok (record c { models = c.models ++ m ∷ [] })) r _ (λ m e l. (m, model_stands d types_here p parts m e, ok_is _ _ _ l refl)) k
  adds_stands items.Property k = bound (property_body d p w parts) (λ x. Ok (record c { properties = c.properties ++ x ∷ [] })) r _ (λ x e l. (x, property_stands d w p parts x e, ok_is _ _ _ l refl)) k

  adds_given : (item : Item) → AddsBody d c w item parts r → item_body d c p w (Some item) parts ≡ Ok r
  adds_given items.Kind is = ap Ok (sym is)
  adds_given items.Function (f, k, is) =
      after (function_body d p (function_of d.headers (length c.functions)) parts) (λ f. Ok (record c { functions = c.functions ++ f ∷ [] })) f _ (function_given d p (function_of d.headers (length c.functions)) parts f k) (ap Ok (sym is))
  adds_given items.Generator (g, k, is) =
      after (generator_body d p (generator_of d.headers (length c.generators)) parts) (λ g. Ok (record c { generators = c.generators ++ g ∷ [] })) g _ (generator_from d p (generator_of d.headers (length c.generators)) parts g k) (ap Ok (sym is))
  adds_given items.Model (m, k, is) = after (model_at d p types_here parts) (λ m. Ok (record c { models = c.models ++ m ∷ [] })) m _ (model_given d types_here p parts m k) (ap Ok (sym is))
  adds_given items.Property (x, k, is) = after (property_body d p w parts) (λ x. Ok (record c { properties = c.properties ++ x ∷ [] })) x _ (property_given d w p parts x k) (ap Ok (sym is))

  body_by : (o : Option Item) → item_body d c p w o parts ≡ Ok r → (item : Item) × (o ≡ Some item) × AddsBody d c w item parts r
  body_by None k = absurd (cc)
  body_by (Some item) k = (item, refl, adds_stands item k)

module _ (d : Tables) where
  body_stands : (c : ProgramData) (tree : PlainTree) (r : ProgramData) → body_at d c tree ≡ Ok r → IsBody d c tree r
  body_stands c (list p (more (name q w) (more (name s x) parts))) r k = body_by d c p x parts r (item_of w) k
  body_stands c tree r k = absurd (cc)

  body_given : (c : ProgramData) (tree : PlainTree) (r : ProgramData) → IsBody d c tree r → body_at d c tree ≡ Ok r
  body_given c (list p (more (name q w) (more (name s x) parts))) r (item, is, k) = ap (λ o. item_body d c p x o parts) is ∙ adds_given d c p x parts r item k
  body_given c tree r k = absurd k

  pub bodies_stand : (trees : PlainTrees) (c r : ProgramData) → bodies_after d c trees ≡ Ok r → BodiesFrom d c trees r
  bodies_stand end c r k = ok_is _ _ _ k refl
  bodies_stand (more item trees) c r k = bound (body_at d c item) (λ c. bodies_after d c trees) r _ (λ mid e l. (mid, body_stands c item mid e, bodies_stand trees mid r l)) k

  pub bodies_given : (trees : PlainTrees) (c r : ProgramData) → BodiesFrom d c trees r → bodies_after d c trees ≡ Ok r
  bodies_given end c r k = ap Ok (sym k)
  bodies_given (more item trees) c r (mid, k, ks) = after (body_at d c item) (λ c. bodies_after d c trees) mid _ (body_given c item mid k) (bodies_given trees mid r ks)
