-- A generator at parts draws values of a type exactly where the table of types says so.
use Rattle.std.specs.Prelude.{if◌then◌else◌, option_map, bytes_eq, codes}
use Rattle.std.proofs.Common.{◌≡◌, ◌∙◌, Bool, true, false, List, [], ◌∷◌, map, length, refl, sym, ap, arith, Option, Some, None, Ok}
use Rattle.std.proofs.lemmas.List.{length-map}
use Rattle.qk_base.specs.declared.place.Place.{Place}
use Rattle.qk_core.specs.GenData.{GenData, gens_of}
use Rattle.qk_value.specs.Types.{TypeData, int_type, bool_type, list_type, made_type}
use Rattle.qk_names.specs.Checks.{Checked, ◌>>◌}
use Rattle.qk_generators.specs.Drawing.{Drawn, drawn, OfValues, choose, elements, pure, call, OfDraws, list, pair, one_of, made, Sized, vector, resize, generator_of, gen_atom, takes_values, takes_draws, of_values, draws_type, draw_types, draws_agree, bare, of_draws, of_sized}
use Rattle.qk_headers.specs.Headers.{HeadersData}
use Rattle.qk_typing.specs.Operators.{Typed, has_type, have_types, agree, plain, fields_of}
use Rattle.qk_names.specs.Reserved.{Word}
use Rattle.qk_headers.specs.Scopes.{types_of}
use Rattle.qk_wellformed.specs.GeneratorTypes.{AllAre, ValuesTypes, DrawsTypes, SizedTypes, IsOfValues, IsOfDraws, IsSizedBy}
use Rattle.qk_wellformed.specs.IsGenerator.{plain_generator}
use Rattle.qk_wellformed.proofs.ArmsStand.{as_many, so_many}
use Rattle.qk_wellformed.proofs.Inversion.{ok_is, followed, next_after, test_held, holds}
use Rattle.qk_wellformed.proofs.OperatorsStand.{types_in}
use Rattle.qk_wellformed.proofs.SameTypes.{same_is, like, has, given, all_have, all_given}

-- the types of what is drawn
abbrev pub types_drawn : List Drawn → List TypeData
types_drawn gs = map (λ g. g.ty) gs

pub draws : (t : TypeData) (g : Drawn) (u : Unit {0}) → draws_type t g ≡ Ok u → t ≡ g.ty
draws t g u h = same_is t g.ty (test_held _ _ _ u h)

pub drawn_given : (t : TypeData) (g : Drawn) → t ≡ g.ty → draws_type t g ≡ Ok tt
drawn_given t g h = holds _ _ _ (like t g.ty h)

pub all_draw : (gs : List Drawn) (ts : List TypeData) (u : Unit {0}) → length gs ≡ length ts → draw_types ts gs ≡ Ok u → types_drawn gs ≡ ts
all_draw [] [] u n h = refl
all_draw [] (t ∷ ts) u n h = absurd (cc)
all_draw (g ∷ gs) [] u n h = absurd (cc)
all_draw (g ∷ gs) (t ∷ ts) u n h =
    followed (draws_type t g) (draw_types ts gs) u _ (λ x k r. ap (λ y. y ∷ types_drawn gs) (sym (draws t g x k)) ∙ ap (λ y. t ∷ y) (all_draw gs ts u (omega (arith, n)) r)) h

pub all_drawn : (gs : List Drawn) (ts : List TypeData) → types_drawn gs ≡ ts → draw_types ts gs ≡ Ok tt
all_drawn [] [] h = refl
all_drawn [] (t ∷ ts) h = absurd (cc)
all_drawn (g ∷ gs) [] h = absurd (cc)
all_drawn (g ∷ gs) (t ∷ ts) h = next_after (draws_type t g) (draw_types ts gs) tt _ (drawn_given t g (cc)) (all_drawn gs ts (cc))

agreeing : (t : TypeData) (es : List Typed) (u : Unit {0}) → agree t es ≡ Ok u → AllAre t (types_in es)
agreeing t [] u h = tt
agreeing t (e ∷ es) u h = followed (has_type t e) (agree t es) u _ (λ x k r. (sym (has t e x k), agreeing t es u r)) h

agree_given : (t : TypeData) (es : List Typed) → AllAre t (types_in es) → agree t es ≡ Ok tt
agree_given t [] h = refl
agree_given t (e ∷ es) (h, hs) = next_after (has_type t e) (agree t es) tt _ (given t e (sym h)) (agree_given t es hs)

pub draws_agreeing : (t : TypeData) (gs : List Drawn) (u : Unit {0}) → draws_agree t gs ≡ Ok u → AllAre t (types_drawn gs)
draws_agreeing t [] u h = tt
draws_agreeing t (g ∷ gs) u h = followed (draws_type t g) (draws_agree t gs) u _ (λ x k r. (sym (draws t g x k), draws_agreeing t gs u r)) h

pub draws_agree_given : (t : TypeData) (gs : List Drawn) → AllAre t (types_drawn gs) → draws_agree t gs ≡ Ok tt
draws_agree_given t [] h = refl
draws_agree_given t (g ∷ gs) (h, hs) = next_after (draws_type t g) (draws_agree t gs) tt _ (drawn_given t g (sym h)) (draws_agree_given t gs hs)

pub all_as : (t u : TypeData) (ts : List TypeData) → t ≡ u → AllAre t ts → AllAre u ts
all_as t u [] same h = tt
all_as t u (v ∷ ts) same (h, hs) = (h ∙ same, all_as t u ts same hs)

-- the parts of what is drawn
pub parts_same : (a b : Drawn) → a ≡ b → (b.ty ≡ a.ty) × (b.gen ≡ a.gen)
parts_same a b h = (ap (λ y. y.ty) (sym h), ap (λ y. y.gen) (sym h))

pub drawn_same : (p : Place) (t u : TypeData) (e f : GenData) → t ≡ u → e ≡ f → ◌≡◌ {A = Checked Drawn} (Ok (drawn p u f)) (Ok (drawn p t e))
drawn_same p t u e f is are = λ i. Ok (drawn p (sym is i) (sym are i))

module _ (h : HeadersData) (p : Place) where
  pub values_stand : (f : OfValues) (es : List Typed) (r : Drawn) → takes_values h f (length es) ≡ true → of_values h p f es ≡ Ok r → ValuesTypes h f (types_in es) r.ty × IsOfValues f (plain es) r.gen
  values_stand choose [] r n k = absurd (cc)
  values_stand choose (a ∷ []) r n k = absurd (cc)
  values_stand choose (a ∷ b ∷ []) r n k =
      followed (has_type int_type a) (has_type int_type b >> Ok (drawn p int_type (GenData.choose a.expr b.expr))) r _
      (λ x e l. followed (has_type int_type b) (Ok (drawn p int_type (GenData.choose a.expr b.expr))) r _
      (λ y f m. let same : (r.ty ≡ int_type) × (r.gen ≡ GenData.choose a.expr b.expr) = parts_same _ r (ok_is _ _ _ refl m) in ((sym (has int_type a x e), sym (has int_type b y f), same.0), same.1)) l) k
  values_stand choose (a ∷ b ∷ c ∷ es) r n k = absurd (cc)
  values_stand elements [] r n k = absurd (cc)
  values_stand elements (e ∷ es) r n k =
      followed (agree e.ty es) (Ok (drawn p e.ty (GenData.elements (plain (e ∷ es))))) r _
      (λ x f l. let same : (r.ty ≡ e.ty) × (r.gen ≡ GenData.elements (plain (e ∷ es))) = parts_same _ r (ok_is _ _ _ refl l) in
      ((sym same.0, all_as e.ty r.ty (types_in es) (sym same.0) (agreeing e.ty es x f)), same.1)) k
  values_stand pure [] r n k = absurd (cc)
  values_stand pure (e ∷ []) r n k = parts_same _ r (ok_is _ _ _ refl k)
  values_stand pure (e ∷ f ∷ es) r n k = absurd (cc)
  values_stand (call g) es r n k =
      followed (have_types (types_of (generator_of h g).params) es) (Ok (drawn p (generator_of h g).result (GenData.call g (plain es)))) r _
      (λ x f l. let same : (r.ty ≡ (generator_of h g).result) × (r.gen ≡ GenData.call g (plain es)) = parts_same _ r (ok_is _ _ _ refl l) in
      ((all_have es (types_of (generator_of h g).params) x (as_many _ _ n ∙ sym (length-map (generator_of h g).params (λ v. v.ty))) f, same.0), same.1)) k

  pub values_given : (f : OfValues) (es : List Typed) (t : TypeData) (g : GenData) → ValuesTypes h f (types_in es) t → IsOfValues f (plain es) g → of_values h p f es ≡ Ok (drawn p t g)
  values_given choose [] t g k is = absurd k
  values_given choose (a ∷ []) t g k is = absurd k
  values_given choose (a ∷ b ∷ []) t g (k, l, m) is =
      next_after (has_type int_type a) (has_type int_type b >> Ok (drawn p int_type (GenData.choose a.expr b.expr))) tt _ (given int_type a (sym k))
      (next_after (has_type int_type b) (Ok (drawn p int_type (GenData.choose a.expr b.expr))) tt _ (given int_type b (sym l)) (drawn_same p t int_type g _ m is))
  values_given choose (a ∷ b ∷ c ∷ es) t g k is = absurd k
  values_given elements [] t g k is = absurd k
  values_given elements (e ∷ es) t g (k, ks) is =
      next_after (agree e.ty es) (Ok (drawn p e.ty (GenData.elements (plain (e ∷ es))))) tt _ (agree_given e.ty es (all_as t e.ty (types_in es) (sym k) ks)) (drawn_same p t e.ty g _ (sym k) is)
  values_given pure [] t g k is = absurd k
  values_given pure (e ∷ []) t g k is = drawn_same p t e.ty g _ k is
  values_given pure (e ∷ f ∷ es) t g k is = absurd k
  values_given (call i) es t g (k, l) is =
      next_after (have_types (types_of (generator_of h i).params) es) (Ok (drawn p (generator_of h i).result (GenData.call i (plain es)))) tt _ (all_given es (types_of (generator_of h i).params) k) (drawn_same p t _ g _ l is)

  pub draws_stand : (f : OfDraws) (gs : List Drawn) (r : Drawn) → takes_draws h f (length gs) ≡ true → of_draws h p f gs ≡ Ok r → DrawsTypes h f (types_drawn gs) r.ty × IsOfDraws f (bare gs) r.gen
  draws_stand list [] r n k = absurd (cc)
  draws_stand list (g ∷ []) r n k = parts_same _ r (ok_is _ _ _ refl k)
  draws_stand list (f ∷ g ∷ gs) r n k = absurd (cc)
  draws_stand pair [] r n k = absurd (cc)
  draws_stand pair (f ∷ []) r n k = absurd (cc)
  draws_stand pair (f ∷ g ∷ []) r n k = parts_same _ r (ok_is _ _ _ refl k)
  draws_stand pair (e ∷ f ∷ g ∷ gs) r n k = absurd (cc)
  draws_stand one_of [] r n k = absurd (cc)
  draws_stand one_of (g ∷ gs) r n k =
      followed (draws_agree g.ty gs) (Ok (drawn p g.ty (GenData.one_of (gens_of (bare (g ∷ gs)))))) r _
      (λ x f l. let same : (r.ty ≡ g.ty) × (r.gen ≡ GenData.one_of (gens_of (bare (g ∷ gs)))) = parts_same _ r (ok_is _ _ _ refl l) in
      ((sym same.0, all_as g.ty r.ty (types_drawn gs) (sym same.0) (draws_agreeing g.ty gs x f)), same.1)) k
  draws_stand (made i m) gs r n k =
      followed (draw_types (fields_of h i m) gs) (Ok (drawn p (made_type i) (GenData.making i m (gens_of (bare gs))))) r _
      (λ x f l. let same : (r.ty ≡ made_type i) × (r.gen ≡ GenData.making i m (gens_of (bare gs))) = parts_same _ r (ok_is _ _ _ refl l) in
      ((all_draw gs (fields_of h i m) x (as_many _ _ n) f, same.0), same.1)) k

  pub draws_given : (f : OfDraws) (gs : List Drawn) (t : TypeData) (g : GenData) → DrawsTypes h f (types_drawn gs) t → IsOfDraws f (bare gs) g → of_draws h p f gs ≡ Ok (drawn p t g)
  draws_given list [] t r k is = absurd k
  draws_given list (g ∷ []) t r k is = drawn_same p t _ r _ k is
  draws_given list (f ∷ g ∷ gs) t r k is = absurd k
  draws_given pair [] t r k is = absurd k
  draws_given pair (f ∷ []) t r k is = absurd k
  draws_given pair (f ∷ g ∷ []) t r k is = drawn_same p t _ r _ k is
  draws_given pair (e ∷ f ∷ g ∷ gs) t r k is = absurd k
  draws_given one_of [] t r k is = absurd k
  draws_given one_of (g ∷ gs) t r (k, ks) is =
      next_after (draws_agree g.ty gs) (Ok (drawn p g.ty (GenData.one_of (gens_of (bare (g ∷ gs)))))) tt _ (draws_agree_given g.ty gs (all_as t g.ty (types_drawn gs) (sym k) ks)) (drawn_same p t g.ty r _ (sym k) is)
  draws_given (made i m) gs t r (k, l) is =
      next_after (draw_types (fields_of h i m) gs) (Ok (drawn p (made_type i) (GenData.making i m (gens_of (bare gs))))) tt _ (all_drawn gs (fields_of h i m) k) (drawn_same p t _ r _ l is)

  pub values_fit : (f : OfValues) (ts : List TypeData) (t : TypeData) → ValuesTypes h f ts t → takes_values h f (length ts) ≡ true
  values_fit choose [] t k = absurd k
  values_fit choose (a ∷ []) t k = absurd k
  values_fit choose (a ∷ b ∷ []) t k = refl
  values_fit choose (a ∷ b ∷ c ∷ ts) t k = absurd k
  values_fit elements [] t k = absurd k
  values_fit elements (a ∷ ts) t k = grind arith
  values_fit pure [] t k = absurd k
  values_fit pure (a ∷ []) t k = refl
  values_fit pure (a ∷ b ∷ ts) t k = absurd k
  values_fit (call g) ts t k = so_many _ _ (ap length k.0 ∙ length-map (generator_of h g).params (λ v. v.ty))

  pub draws_fit : (f : OfDraws) (ts : List TypeData) (t : TypeData) → DrawsTypes h f ts t → takes_draws h f (length ts) ≡ true
  draws_fit list [] t k = absurd k
  draws_fit list (a ∷ []) t k = refl
  draws_fit list (a ∷ b ∷ ts) t k = absurd k
  draws_fit pair [] t k = absurd k
  draws_fit pair (a ∷ []) t k = absurd k
  draws_fit pair (a ∷ b ∷ []) t k = refl
  draws_fit pair (a ∷ b ∷ c ∷ ts) t k = absurd k
  draws_fit one_of [] t k = absurd k
  draws_fit one_of (a ∷ ts) t k = grind arith
  draws_fit (made i m) ts t k = so_many _ _ (ap length k.0)

module _ (p : Place) where
  pub sized_stands : (f : Sized) (e : Typed) (g r : Drawn) → of_sized p f e g ≡ Ok r → (e.ty ≡ int_type) × SizedTypes f g.ty r.ty × IsSizedBy f e.expr g.gen r.gen
  sized_stands vector e g r h =
      followed (has_type int_type e) (Ok (drawn p (list_type g.ty) (GenData.vector e.expr g.gen))) r _
      (λ x k l. let same : (r.ty ≡ list_type g.ty) × (r.gen ≡ GenData.vector e.expr g.gen) = parts_same _ r (ok_is _ _ _ refl l) in (sym (has int_type e x k), same.0, same.1)) h
  sized_stands resize e g r h =
      followed (has_type int_type e) (Ok (drawn p g.ty (GenData.resize e.expr g.gen))) r _
      (λ x k l. let same : (r.ty ≡ g.ty) × (r.gen ≡ GenData.resize e.expr g.gen) = parts_same _ r (ok_is _ _ _ refl l) in (sym (has int_type e x k), same.0, same.1)) h

  pub sized_given : (f : Sized) (e : Typed) (g : Drawn) (t : TypeData) (r : GenData) → e.ty ≡ int_type → SizedTypes f g.ty t → IsSizedBy f e.expr g.gen r → of_sized p f e g ≡ Ok (drawn p t r)
  sized_given vector e g t r h k is = next_after (has_type int_type e) (Ok (drawn p (list_type g.ty) (GenData.vector e.expr g.gen))) tt _ (given int_type e (sym h)) (drawn_same p t _ r _ k is)
  sized_given resize e g t r h k is = next_after (has_type int_type e) (Ok (drawn p g.ty (GenData.resize e.expr g.gen))) tt _ (given int_type e (sym h)) (drawn_same p t _ r _ k is)

-- a word at a place
abbrev pub drawn_at : Place → Option (TypeData × GenData) → Option Drawn
drawn_at p o = option_map (λ a. drawn p a.0 a.1) o

atom_by : (p : Place) (a b c : Bool)
    → (if a then Some (drawn p int_type GenData.any_number) else if b then Some (drawn p bool_type GenData.any_truth) else if c then Some (drawn p int_type GenData.size) else None)
    ≡ drawn_at p (if a then Some (int_type, GenData.any_number) else if b then Some (bool_type, GenData.any_truth) else if c then Some (int_type, GenData.size) else None)
atom_by p true b c = refl
atom_by p false true c = refl
atom_by p false false true = refl
atom_by p false false false = refl

pub gen_atom_is : (p : Place) (w : Word) → gen_atom p w ≡ drawn_at p (plain_generator w)
gen_atom_is p w = atom_by p (bytes_eq (codes "int") w) (bytes_eq (codes "bool") w) (bytes_eq (codes "size") w)

pub atom_stands : (p : Place) (o : Option (TypeData × GenData)) (r : Drawn) → drawn_at p o ≡ Some r → o ≡ Some (r.ty, r.gen)
atom_stands p None r h = absurd (cc)
atom_stands p (Some (t, g)) r h = let same : drawn p t g ≡ r = cc in λ i. Some ((same i).ty, (same i).gen)

pub atom_given : (p : Place) (o : Option (TypeData × GenData)) (t : TypeData) (g : GenData) → o ≡ Some (t, g) → drawn_at p o ≡ Some (drawn p t g)
atom_given p o t g h = ap (drawn_at p) h
