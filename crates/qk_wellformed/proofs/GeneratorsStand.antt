-- A tree is judged to be a generator exactly where it is that generator.
use Rattle.std.specs.Prelude.{nat_lt, sum_by, pos}
use Rattle.std.proofs.Common.{◌≡◌, ◌∙◌, ℕ, ◌<◌, ◌≤◌, List, [], ◌∷◌, ◌++◌, length, refl, sym, ap, subst, arith, Some, Ok}
use Rattle.std.proofs.lemmas.List.{append_assoc, append-nil}
use Rattle.qk_base.specs.declared.place.Place.{Place}
use Rattle.qk_syntax.specs.PlainTrees.{PlainTree, number, name, list, PlainTrees, end, more, count}
use Rattle.qk_core.specs.ExprData.{ExprData}
use Rattle.qk_core.specs.GenData.{GenData, weighteds_of}
use Rattle.qk_value.specs.Types.{TypeData, int_type}
use Rattle.qk_names.specs.Checks.{Checked, ◌>>=◌, place_of}
use Rattle.qk_generators.specs.Drawing.{Drawn, drawn, GenForm, values, draws, sized, frequency, bind, OfValues, OfDraws, Sized, Part, gen_forms, gen_form_by, gen_form_of, gen_atom, takes_values, takes_draws, of_values, bare, of_draws, weight_at, of_parts}
use Rattle.qk_expressions.specs.Expressions.{expression, expressions}
use Rattle.qk_generators.specs.Generators.{generator, generators, sized_at, bind_at, parts_at}
use Rattle.qk_generators.specs.GenSteps.{values_at, draws_at, frequency_at, formed_gen}
use Rattle.qk_typing.specs.Operators.{Tables, Typed, typed, usable, plain}
use Rattle.qk_names.specs.Reserved.{Word, entry_of}
use Rattle.qk_headers.specs.Scopes.{Scope, bind as with_variable, variable_at}
use Rattle.qk_wellformed.specs.GeneratorTypes.{AllAre, ValuesTypes, DrawsTypes, SizedTypes, IsOfValues, IsOfDraws, IsSizedBy}
use Rattle.qk_wellformed.specs.IsExpression.{IsExpression, AreExpressions}
use Rattle.qk_wellformed.specs.IsGenerator.{IsGenerator, AreGenerators, IsSized, IsBind, AreWeighed, plain_generator}
use Rattle.qk_wellformed.proofs.DrawingStands.{types_drawn, values_stand, values_given, draws_stand, draws_given, values_fit, draws_fit, sized_stands, sized_given, gen_atom_is, atom_stands, atom_given}
use Rattle.qk_wellformed.proofs.ExpressionsStand.{expression_stands, expression_given, expressions_stand, expressions_given, Others, Judged}
use Rattle.qk_wellformed.proofs.Inversion.{ok_is, bound, held, after, passing}
use Rattle.qk_wellformed.proofs.NamesUsed.{usable_is, usable_given}
use Rattle.qk_wellformed.proofs.OperatorsStand.{types_in}
use Rattle.qk_wellformed.proofs.PartsStand.{weight_stands, weight_given, weighed, types_of_parts, AreParts, parts_stand, parts_given, some_parts}
use Rattle.qk_wellformed.proofs.VariablesStand.{variable_stands, variable_given}

module _ (d : Tables) where
  -- generators one after another, apart from what was before
  record GensOthers (s : Scope) (us : PlainTrees) (before gs : List Drawn) : Type 0 where
    pub new : List Drawn
    pub joined : gs ≡ before ++ new
    pub many : length new ≡ count us
    pub are : AreGenerators d s us (types_drawn new) (bare new)

  record Weighed (s : Scope) (us : PlainTrees) (before parts : List Part) : Type 0 where
    pub new : List Part
    pub joined : parts ≡ before ++ new
    pub are : AreParts d s us new

  module _ (s : Scope) (p q : Place) (w : Word) (parts : PlainTrees) where
    by_form : (form : GenForm) → usable d.names p q w (gen_form_by d.names w (entry_of gen_forms w)) ≡ Ok form → generator d s (list p (more (name q w) parts)) ≡ formed_gen d s p parts form
    by_form (values f) h = after _ _ _ _ h refl
    by_form (draws f) h = after _ _ _ _ h refl
    by_form (sized f) h = after _ _ _ _ h refl
    by_form bind h = after _ _ _ _ h refl
    by_form frequency h = after _ _ _ _ h refl

    of_values_stands : (f : OfValues) (r : Drawn) → values_at d s p parts f ≡ Ok r → (ts : List TypeData) × (es : List ExprData) × AreExpressions d s parts ts es × ValuesTypes d.headers f ts r.ty × IsOfValues f es r.gen
    of_values_stands f r h =
        held (takes_values d.headers f (count parts)) 23 p _ r _
        (λ n k. bound (expressions d s [] parts) (λ es. of_values d.headers p f es) r _
        (λ es g l. let others : Others d s parts [] es = expressions_stand d parts s [] es g in
        let fit : ValuesTypes d.headers f (types_in others.new) r.ty × IsOfValues f (plain others.new) r.gen =
        values_stand d.headers p f others.new r (ap (takes_values d.headers f) others.many ∙ n) (ap (λ x. of_values d.headers p f x) (sym others.joined) ∙ l) in
        (types_in others.new, plain others.new, others.are, fit.0, fit.1)) k)
        h

    of_draws_stands : (f : OfDraws) (r : Drawn) → ((gs : List Drawn) → generators d s [] parts ≡ Ok gs → GensOthers s parts [] gs) → draws_at d s p parts f ≡ Ok r
        → (ts : List TypeData) × (gs : List GenData) × AreGenerators d s parts ts gs × DrawsTypes d.headers f ts r.ty × IsOfDraws f gs r.gen
    of_draws_stands f r all h =
        held (takes_draws d.headers f (count parts)) 23 p _ r _
        (λ n k. bound (generators d s [] parts) (λ gs. of_draws d.headers p f gs) r _
        (λ gs g l. let others : GensOthers s parts [] gs = all gs g in
        let fit : DrawsTypes d.headers f (types_drawn others.new) r.ty × IsOfDraws f (bare others.new) r.gen =
        draws_stand d.headers p f others.new r (ap (takes_draws d.headers f) others.many ∙ n) (ap (λ x. of_draws d.headers p f x) (sym others.joined) ∙ l) in
        (types_drawn others.new, bare others.new, others.are, fit.0, fit.1)) k)
        h

    frequency_stands : (r : Drawn) → ((ps : List Part) → parts_at d s [] parts ≡ Ok ps → Weighed s parts [] ps) → frequency_at d s p parts ≡ Ok r
        → (ws : List (ℕ × GenData)) × AreWeighed d s r.ty parts ws × (0 < sum_by (λ a. a.0) ws) × (r.gen ≡ GenData.frequency (weighteds_of ws))
    frequency_stands r all h =
        held (nat_lt 0 (count parts)) 23 p _ r _
        (λ n k. bound (parts_at d s [] parts) (λ ps. of_parts p ps) r _ (λ ps g l. let others : Weighed s parts [] ps = all ps g in parts_stand d s p parts others.new r others.are (ap (of_parts p) (sym others.joined) ∙ l)) k) h

    node_stands : (r : Drawn) (form : GenForm) → usable d.names p q w (gen_form_by d.names w (entry_of gen_forms w)) ≡ Ok form → ((gs : List Drawn) → generators d s [] parts ≡ Ok gs → GensOthers s parts [] gs)
        → ((ps : List Part) → parts_at d s [] parts ≡ Ok ps → Weighed s parts [] ps) → ((f : Sized) → sized_at d s p f parts ≡ Ok r → IsSized d s f parts r.ty r.gen)
        → (bind_at d s p parts ≡ Ok r → IsBind d s parts r.ty r.gen) → generator d s (list p (more (name q w) parts)) ≡ Ok r → IsGenerator d s (list p (more (name q w) parts)) r.ty r.gen
    node_stands r (values f) known all ps ss bs h = (values f, usable_is d.names p q w (gen_form_by d.names w (entry_of gen_forms w)) (values f) known, of_values_stands f r (sym (by_form (values f) known) ∙ h))
    node_stands r (draws f) known all ps ss bs h = (draws f, usable_is d.names p q w (gen_form_by d.names w (entry_of gen_forms w)) (draws f) known, of_draws_stands f r all (sym (by_form (draws f) known) ∙ h))
    node_stands r (sized f) known all ps ss bs h = (sized f, usable_is d.names p q w (gen_form_by d.names w (entry_of gen_forms w)) (sized f) known, ss f (sym (by_form (sized f) known) ∙ h))
    node_stands r bind known all ps ss bs h = (bind, usable_is d.names p q w (gen_form_by d.names w (entry_of gen_forms w)) bind known, bs (sym (by_form bind known) ∙ h))
    node_stands r frequency known all ps ss bs h = (frequency, usable_is d.names p q w (gen_form_by d.names w (entry_of gen_forms w)) frequency known, frequency_stands r ps (sym (by_form frequency known) ∙ h))

  lone_stands : (p : Place) (w : Word) (r : Drawn) → usable d.names p p w (gen_atom p w) ≡ Ok r → plain_generator w ≡ Some (r.ty, r.gen)
  lone_stands p w r h = atom_stands p (plain_generator w) r (sym (gen_atom_is p w) ∙ usable_is d.names p p w (gen_atom p w) r h)

  lone_given : (p : Place) (w : Word) (t : TypeData) (g : GenData) → plain_generator w ≡ Some (t, g) → usable d.names p p w (gen_atom p w) ≡ Ok (drawn p t g)
  lone_given p w t g h = usable_given d.names p p w (gen_atom p w) (drawn p t g) (gen_atom_is p w ∙ atom_given p (plain_generator w) t g h)

  module _ (s : Scope) (p : Place) where
    bind_made : (x a b : PlainTree) (w : Word) (v body r : Drawn) → variable_at [] x ≡ Ok w → IsGenerator d s a v.ty v.gen → IsGenerator d (with_variable s w v.ty) b body.ty body.gen
        → drawn p body.ty (GenData.bind v.gen body.gen) ≡ r → IsBind d s (more x (more a (more b end))) r.ty r.gen
    bind_made x a b w v body r e ia ib same =
        (w, v.ty, v.gen, body.gen, variable_stands [] x w e, ia, subst (λ t. IsGenerator d (with_variable s w v.ty) b t body.gen) (ap (λ y. y.ty) same) ib, ap (λ y. y.gen) (sym same))

    sized_made : (f : Sized) (a b : PlainTree) (v : Typed) (body r : Drawn) → IsExpression d s a v.ty v.expr → IsGenerator d s b body.ty body.gen → (v.ty ≡ int_type) × SizedTypes f body.ty r.ty × IsSizedBy f v.expr body.gen r.gen
        → IsSized d s f (more a (more b end)) r.ty r.gen
    sized_made f a b v body r ia ib fit = (v.expr, body.ty, body.gen, subst (λ t. IsExpression d s a t v.expr) fit.0 ia, ib, fit.1, fit.2)

  mutual
    pub generator_stands : (u : PlainTree) (s : Scope) (r : Drawn) → generator d s u ≡ Ok r → IsGenerator d s u r.ty r.gen
    generator_stands (number p n) s r h = absurd (cc)
    generator_stands (name p w) s r h = lone_stands p w r h
    generator_stands (list p end) s r h = absurd (cc)
    generator_stands (list p (more (number q n) parts)) s r h = absurd (cc)
    generator_stands (list p (more (list q us) parts)) s r h = absurd (cc)
    generator_stands (list p (more (name q w) parts)) s r h =
        bound (gen_form_of d.names p q w) _ r _
        (λ form known k. node_stands s p q w parts r form known (λ gs l. generators_stand parts s [] gs l) (λ ps l. weighed_stand parts s [] ps l) (λ f l. sized_are parts s p f r l) (λ l. bind_stands parts s p r l) h) h

    generators_stand : (us : PlainTrees) (s : Scope) (before gs : List Drawn) → generators d s before us ≡ Ok gs → GensOthers s us before gs
    generators_stand end s before gs h = record { new = []; joined = ok_is _ _ _ h refl ∙ sym (append-nil before); many = refl; are = tt }
    generators_stand (more u us) s before gs h =
        bound (generator d s u) (λ g. generators d s (before ++ g ∷ []) us) gs _
        (λ g f k. let rest : GensOthers s us (before ++ g ∷ []) gs = generators_stand us s (before ++ g ∷ []) gs k in
        record { new = g ∷ rest.new; joined = rest.joined ∙ append_assoc before (g ∷ []) rest.new; many = omega (arith, rest.many); are = (generator_stands u s g f, rest.are) }) h

    sized_are : (parts : PlainTrees) (s : Scope) (p : Place) (f : Sized) (r : Drawn) → sized_at d s p f parts ≡ Ok r → IsSized d s f parts r.ty r.gen
    sized_are end s p f r h = absurd (cc)
    sized_are (more a end) s p f r h = absurd (cc)
    sized_are (more a (more b end)) s p f r h =
        bound (expression d s a) _ r _ (λ v e k. bound (generator d s b) _ r _ (λ body g l. sized_made s p f a b v body r (expression_stands d a s v e) (generator_stands b s body g) (sized_stands p f v body r l)) k) h
    sized_are (more a (more b (more c us))) s p f r h = absurd (cc)

    bind_stands : (parts : PlainTrees) (s : Scope) (p : Place) (r : Drawn) → bind_at d s p parts ≡ Ok r → IsBind d s parts r.ty r.gen
    bind_stands end s p r h = absurd (cc)
    bind_stands (more x end) s p r h = absurd (cc)
    bind_stands (more x (more a end)) s p r h = absurd (cc)
    bind_stands (more x (more a (more b end))) s p r h =
        bound (variable_at [] x) _ r _
        (λ w e k. bound (generator d s a) _ r _
        (λ v f l. bound (generator d (with_variable s w v.ty) b) (λ body. Ok (drawn p body.ty (GenData.bind v.gen body.gen))) r _
        (λ body g m. bind_made s p x a b w v body r e (generator_stands a s v f) (generator_stands b (with_variable s w v.ty) body g) (ok_is _ _ _ refl m)) l) k) h
    bind_stands (more x (more a (more b (more c us)))) s p r h = absurd (cc)

    weighed_stand : (us : PlainTrees) (s : Scope) (before parts : List Part) → parts_at d s before us ≡ Ok parts → Weighed s us before parts
    weighed_stand end s before parts h = record { new = []; joined = ok_is _ _ _ h refl ∙ sym (append-nil before); are = tt }
    weighed_stand (more (list p (more (number q n) (more b end))) us) s before parts h =
        bound (weight_at q n) _ parts _
        (λ m e k. bound (generator d s b) (λ g. parts_at d s (before ++ record { weight = m; body = g } ∷ []) us) parts _
        (λ g f l. let a : Part = record { weight = m; body = g } in let rest : Weighed s us (before ++ a ∷ []) parts = weighed_stand us s (before ++ a ∷ []) parts l in
        let w : (n ≡ pos m) × (m ≤ 1000000) = weight_stands q n m e in
        record { new = a ∷ rest.new; joined = rest.joined ∙ append_assoc before (a ∷ []) rest.new; are = (w.0, w.1, generator_stands b s g f, rest.are) }) k) h
    weighed_stand (more (number p n) us) s before parts h = absurd (cc)
    weighed_stand (more (name p w) us) s before parts h = absurd (cc)
    weighed_stand (more (list p end) us) s before parts h = absurd (cc)
    weighed_stand (more (list p (more (number q n) end)) us) s before parts h = absurd (cc)
    weighed_stand (more (list p (more (number q n) (more b (more c vs)))) us) s before parts h = absurd (cc)
    weighed_stand (more (list p (more (name q w) end)) us) s before parts h = absurd (cc)
    weighed_stand (more (list p (more (name q w) (more b end))) us) s before parts h = absurd (cc)
    weighed_stand (more (list p (more (name q w) (more b (more c vs)))) us) s before parts h = absurd (cc)
    weighed_stand (more (list p (more (list q ts) end)) us) s before parts h = absurd (cc)
    weighed_stand (more (list p (more (list q ts) (more b end))) us) s before parts h = absurd (cc)
    weighed_stand (more (list p (more (list q ts) (more b (more c vs)))) us) s before parts h = absurd (cc)

  record GensJudged (s : Scope) (us : PlainTrees) (ts : List TypeData) (gs : List GenData) : Type 0 where
    pub new : List Drawn
    pub types : types_drawn new ≡ ts
    pub gens : bare new ≡ gs
    pub many : length ts ≡ count us
    pub judged : (before : List Drawn) → generators d s before us ≡ Ok (before ++ new)

  record PartsJudged (s : Scope) (us : PlainTrees) (t : TypeData) (ws : List (ℕ × GenData)) : Type 0 where
    pub new : List Part
    pub types : AllAre t (types_of_parts new)
    pub made : weighed new ≡ ws
    pub judged : (before : List Part) → parts_at d s before us ≡ Ok (before ++ new)

  module _ (s : Scope) (p q : Place) (w : Word) (parts : PlainTrees) (t : TypeData) (g : GenData) where
    of_values_given : (f : OfValues) (ts : List TypeData) (es : List ExprData) → AreExpressions d s parts ts es → ValuesTypes d.headers f ts t → IsOfValues f es g → values_at d s p parts f ≡ Ok (drawn p t g)
    of_values_given f ts es are fit is =
        let all : Judged d s parts ts es = expressions_given d parts s ts es are in
        passing (takes_values d.headers f (count parts)) 23 p (expressions d s [] parts >>= λ es. of_values d.headers p f es) _ (ap (takes_values d.headers f) (sym all.many) ∙ values_fit d.headers p f ts t fit)
        (after (expressions d s [] parts) (λ es. of_values d.headers p f es) all.new _ (all.judged [])
        (values_given d.headers p f all.new t g (subst (λ y. ValuesTypes d.headers f y t) (sym all.types) fit) (subst (λ y. IsOfValues f y g) (sym all.exprs) is)))

    of_draws_given : (f : OfDraws) (ts : List TypeData) (gs : List GenData) → GensJudged s parts ts gs → DrawsTypes d.headers f ts t → IsOfDraws f gs g → draws_at d s p parts f ≡ Ok (drawn p t g)
    of_draws_given f ts gs all fit is =
        passing (takes_draws d.headers f (count parts)) 23 p (generators d s [] parts >>= λ gs. of_draws d.headers p f gs) _ (ap (takes_draws d.headers f) (sym all.many) ∙ draws_fit d.headers p f ts t fit)
        (after (generators d s [] parts) (λ gs. of_draws d.headers p f gs) all.new _ (all.judged [])
        (draws_given d.headers p f all.new t g (subst (λ y. DrawsTypes d.headers f y t) (sym all.types) fit) (subst (λ y. IsOfDraws f y g) (sym all.gens) is)))

    frequency_given : (ws : List (ℕ × GenData)) → AreWeighed d s t parts ws → PartsJudged s parts t ws → 0 < sum_by (λ a. a.0) ws → g ≡ GenData.frequency (weighteds_of ws) → frequency_at d s p parts ≡ Ok (drawn p t g)
    frequency_given ws are all some is =
        passing (nat_lt 0 (count parts)) 23 p (parts_at d s [] parts >>= λ ps. of_parts p ps) _ (some_parts d s t parts ws are some)
        (after (parts_at d s [] parts) (λ ps. of_parts p ps) all.new _ (all.judged [])
        (parts_given d s p all.new t g all.types (subst (λ y. 0 < sum_by (λ a. a.0) y) (sym all.made) some) (is ∙ ap (λ y. GenData.frequency (weighteds_of y)) (sym all.made))))

    node_given : ((ts : List TypeData) (gs : List GenData) → AreGenerators d s parts ts gs → GensJudged s parts ts gs) → ((ws : List (ℕ × GenData)) → AreWeighed d s t parts ws → PartsJudged s parts t ws)
        → ((f : Sized) → IsSized d s f parts t g → sized_at d s p f parts ≡ Ok (drawn p t g)) → (IsBind d s parts t g → bind_at d s p parts ≡ Ok (drawn p t g))
        → IsGenerator d s (list p (more (name q w) parts)) t g → generator d s (list p (more (name q w) parts)) ≡ Ok (drawn p t g)
    node_given all ps ss bs (values f, known, (ts, es, are, fit, is)) = by_form s p q w parts (values f) (usable_given d.names p q w _ (values f) known) ∙ of_values_given f ts es are fit is
    node_given all ps ss bs (draws f, known, (ts, gs, are, fit, is)) = by_form s p q w parts (draws f) (usable_given d.names p q w _ (draws f) known) ∙ of_draws_given f ts gs (all ts gs are) fit is
    node_given all ps ss bs (sized f, known, h) = by_form s p q w parts (sized f) (usable_given d.names p q w _ (sized f) known) ∙ ss f h
    node_given all ps ss bs (bind, known, h) = by_form s p q w parts bind (usable_given d.names p q w _ bind known) ∙ bs h
    node_given all ps ss bs (frequency, known, (ws, are, some, is)) = by_form s p q w parts frequency (usable_given d.names p q w _ frequency known) ∙ frequency_given ws are (ps ws are) some is

  mutual
    pub generator_given : (u : PlainTree) (s : Scope) (t : TypeData) (g : GenData) → IsGenerator d s u t g → generator d s u ≡ Ok (drawn (place_of u) t g)
    generator_given (number p n) s t g h = absurd h
    generator_given (name p w) s t g h = lone_given p w t g h
    generator_given (list p end) s t g h = absurd h
    generator_given (list p (more (number q n) parts)) s t g h = absurd h
    generator_given (list p (more (list q us) parts)) s t g h = absurd h
    generator_given (list p (more (name q w) parts)) s t g h =
        node_given s p q w parts t g (λ ts gs k. generators_given parts s ts gs k) (λ ws k. weighed_given parts s t ws k) (λ f k. sized_all parts s p f t g k) (λ k. bind_given parts s p t g k) h

    generators_given : (us : PlainTrees) (s : Scope) (ts : List TypeData) (gs : List GenData) → AreGenerators d s us ts gs → GensJudged s us ts gs
    generators_given end s [] [] h = record { new = []; types = refl; gens = refl; many = refl; judged = λ before. ap Ok (sym (append-nil before)) }
    generators_given (more u us) s (t ∷ ts) (g ∷ gs) (h, hs) =
        let rest : GensJudged s us ts gs = generators_given us s ts gs hs in
        record {
          new = drawn (place_of u) t g ∷ rest.new;
          types = ap (λ y. t ∷ y) rest.types;
          gens = ap (λ y. g ∷ y) rest.gens;
          many = omega (arith, rest.many);
          judged = λ before. after (generator d s u) (λ g. generators d s (before ++ g ∷ []) us) (drawn (place_of u) t g) _ (generator_given u s t g h)
              (rest.judged (before ++ drawn (place_of u) t g ∷ []) ∙ ap Ok (append_assoc before (drawn (place_of u) t g ∷ []) rest.new));
        }
    generators_given us s ts gs h = absurd h

    sized_all : (parts : PlainTrees) (s : Scope) (p : Place) (f : Sized) (t : TypeData) (g : GenData) → IsSized d s f parts t g → sized_at d s p f parts ≡ Ok (drawn p t g)
    sized_all end s p f t g h = absurd h
    sized_all (more a end) s p f t g h = absurd h
    sized_all (more a (more b end)) s p f t g (e, u, body, ia, ib, fit, is) =
        after (expression d s a) _ (typed (place_of a) int_type e) _ (expression_given d a s int_type e ia)
        (after (generator d s b) _ (drawn (place_of b) u body) _ (generator_given b s u body ib) (sized_given p f (typed (place_of a) int_type e) (drawn (place_of b) u body) t g refl fit is))
    sized_all (more a (more b (more c us))) s p f t g h = absurd h

    bind_given : (parts : PlainTrees) (s : Scope) (p : Place) (t : TypeData) (g : GenData) → IsBind d s parts t g → bind_at d s p parts ≡ Ok (drawn p t g)
    bind_given end s p t g h = absurd h
    bind_given (more x end) s p t g h = absurd h
    bind_given (more x (more a end)) s p t g h = absurd h
    bind_given (more x (more a (more b end))) s p t g (w, u, v, body, ix, ia, ib, is) =
        after (variable_at [] x) _ w _ (variable_given [] x w ix)
        (after (generator d s a) _ (drawn (place_of a) u v) _ (generator_given a s u v ia)
        (after (generator d (with_variable s w u) b) _ (drawn (place_of b) t body) _ (generator_given b (with_variable s w u) t body ib) (ap (λ y. Ok (drawn p t y)) (sym is))))
    bind_given (more x (more a (more b (more c us)))) s p t g h = absurd h

    weighed_given : (us : PlainTrees) (s : Scope) (t : TypeData) (ws : List (ℕ × GenData)) → AreWeighed d s t us ws → PartsJudged s us t ws
    weighed_given end s t [] h = record { new = []; types = tt; made = refl; judged = λ before. ap Ok (sym (append-nil before)) }
    weighed_given (more (list p (more (number q n) (more b end))) us) s t (w ∷ ws) (is, le, ib, hs) =
        let rest : PartsJudged s us t ws = weighed_given us s t ws hs in
        let a : Part = record { weight = w.0; body = drawn (place_of b) t w.1 } in
        record {
          new = a ∷ rest.new;
          types = (refl, rest.types);
          made = ap (λ y. w ∷ y) rest.made;
          judged = λ before. after (weight_at q n) _ w.0 _ (weight_given q n w.0 is le)
              (after (generator d s b) (λ g. parts_at d s (before ++ record { weight = w.0; body = g } ∷ []) us) (drawn (place_of b) t w.1) _ (generator_given b s t w.1 ib)
              (rest.judged (before ++ a ∷ []) ∙ ap Ok (append_assoc before (a ∷ []) rest.new)));
        }
    weighed_given us s t ws h = absurd h

same_parts : (p : Place) (t u : TypeData) (e f : GenData) (c : Checked Drawn) → c ≡ Ok (drawn p t e) → c ≡ Ok (drawn p u f) → (t ≡ u) × (e ≡ f)
same_parts p t u e f c h k = let same : drawn p t e ≡ drawn p u f = ok_is _ _ c h k in (ap (λ y. y.ty) same, ap (λ y. y.gen) same)

pub one_generator : (d : Tables) (s : Scope) (tree : PlainTree) (t u : TypeData) (e f : GenData) → IsGenerator d s tree t e → IsGenerator d s tree u f → (t ≡ u) × (e ≡ f)
one_generator d s tree t u e f h k = same_parts (place_of tree) t u e f (generator d s tree) (generator_given d tree s t e h) (generator_given d tree s u f k)
