-- The parts of a model are judged to be what they are.
use Rattle.std.proofs.Common.{◌≡◌, ◌∙◌, ℕ, true, List, [], ◌∷◌, refl, sym, ap, subst, Option, Some, Ok}
use Rattle.qk_base.specs.declared.place.Place.{Place}
use Rattle.qk_core.specs.Definitions.{ModelData}
use Rattle.qk_core.specs.ExprData.{ExprData}
use Rattle.qk_syntax.specs.PlainTrees.{PlainTree, number, name, list, PlainTrees, end, more}
use Rattle.qk_value.specs.Types.{TypeData, bool_type, same_type}
use Rattle.qk_names.specs.Checks.{◌>>=◌, ◌>>◌, check, place_of}
use Rattle.qk_generators.specs.Drawing.{generator_of}
use Rattle.qk_expressions.specs.Expressions.{expression}
use Rattle.qk_headers.specs.Headers.{SignatureData, ModelTypesData}
use Rattle.qk_clauses.specs.Models.{same_types, is_from_to, number_named, function_number, generator_number, model_number, function_at, generator_at, closed, Abstract, System, command_at, abstract_at, system_at, model_at}
use Rattle.qk_names.specs.Names.{named_by}
use Rattle.qk_typing.specs.Operators.{Tables, typed, has_type, function_of}
use Rattle.qk_headers.specs.Scopes.{types_of}
use Rattle.qk_names.specs.declared.names.Named.{Named}
use Rattle.qk_names.specs.declared.names.Named.TheVariants as named
use Rattle.qk_wellformed.specs.IsExpression.{IsExpression}
use Rattle.qk_wellformed.specs.IsModel.{IsFromTo, NamesFunction, NamesGenerator, IsCommandPart, IsAbstractPart, IsSystemPart, HasTypes, IsModel}
use Rattle.qk_wellformed.proofs.ExpressionsStand.{expression_stands, expression_given}
use Rattle.qk_wellformed.proofs.Inversion.{ok_is, bound, followed, held, after, next_after, passing}
use Rattle.qk_wellformed.proofs.SameTypes.{both, both_hold, same_is, like, has, given}

pub same_list : (ts us : List TypeData) → same_types ts us ≡ true → ts ≡ us
same_list [] [] h = refl
same_list [] (u ∷ us) h = absurd (cc)
same_list (t ∷ ts) [] h = absurd (cc)
same_list (t ∷ ts) (u ∷ us) h =
    let parts : (same_type t u ≡ true) × (same_types ts us ≡ true) = both _ _ h in ap (λ x. x ∷ ts) (same_is t u parts.0) ∙ ap (λ xs. u ∷ xs) (same_list ts us parts.1)

list_itself : (ts : List TypeData) → same_types ts ts ≡ true
list_itself [] = refl
list_itself (t ∷ ts) = both_hold _ _ (like t t refl) (list_itself ts)

pub list_like : (ts us : List TypeData) → ts ≡ us → same_types ts us ≡ true
list_like ts us h = ap (same_types ts) (sym h) ∙ list_itself ts

from_to_stands : (s : SignatureData) (params : List TypeData) (result : TypeData) → is_from_to s params result ≡ true → IsFromTo s params result
from_to_stands s params result h =
    let parts : (same_types (types_of s.params) params ≡ true) × (same_type s.result result ≡ true) = both _ _ h in record { takes = same_list _ _ parts.0; gives = same_is _ _ parts.1 }

from_to_given : (s : SignatureData) (params : List TypeData) (result : TypeData) → IsFromTo s params result → is_from_to s params result ≡ true
from_to_given s params result h = both_hold _ _ (list_like _ _ h.takes) (like _ _ h.gives)

function_named : (p : Place) (o : Option Named) (f : ℕ) → number_named p function_number o ≡ Ok f → o ≡ Some (named.Function f)
function_named p (Some (named.Function g)) f h = ap (λ x. Some (named.Function x)) (ok_is _ _ _ refl h)
function_named p o f h = absurd (cc)

generator_named : (p : Place) (o : Option Named) (g : ℕ) → number_named p generator_number o ≡ Ok g → o ≡ Some (named.Generator g)
generator_named p (Some (named.Generator f)) g h = ap (λ x. Some (named.Generator x)) (ok_is _ _ _ refl h)
generator_named p o g h = absurd (cc)

pub model_named : (p : Place) (o : Option Named) (m : ℕ) → number_named p model_number o ≡ Ok m → o ≡ Some (named.Model m)
model_named p (Some (named.Model n)) m h = ap (λ x. Some (named.Model x)) (ok_is _ _ _ refl h)
model_named p o m h = absurd (cc)

module _ (d : Tables) where
  pub function_stands : (params : List TypeData) (result : TypeData) (t : PlainTree) (f : ℕ) → function_at d params result t ≡ Ok f → NamesFunction d params result t f
  function_stands params result (number p n) f h = absurd (cc)
  function_stands params result (list p us) f h = absurd (cc)
  function_stands params result (name p w) f h =
      bound (number_named p function_number (named_by d.names w)) (λ f. check (is_from_to (function_of d.headers f) params result) 24 p >> Ok f) f _
      (λ g e k. held (is_from_to (function_of d.headers g) params result) 24 p (Ok g) f _
      (λ fits l. let same : g ≡ f = ok_is _ _ _ refl l in
      (function_named p _ f (e ∙ ap Ok same), subst (λ x. IsFromTo (function_of d.headers x) params result) same (from_to_stands _ _ _ fits))) k) h

  pub function_given : (params : List TypeData) (result : TypeData) (t : PlainTree) (f : ℕ) → NamesFunction d params result t f → function_at d params result t ≡ Ok f
  function_given params result (number p n) f h = absurd h
  function_given params result (list p us) f h = absurd h
  function_given params result (name p w) f (is, fits) =
      after (number_named p function_number (named_by d.names w)) (λ f. check (is_from_to (function_of d.headers f) params result) 24 p >> Ok f) f _ (ap (number_named p function_number) is)
      (passing (is_from_to (function_of d.headers f) params result) 24 p (Ok f) _ (from_to_given _ _ _ fits) refl)

  generator_stands : (params : List TypeData) (result : TypeData) (t : PlainTree) (g : ℕ) → generator_at d params result t ≡ Ok g → NamesGenerator d params result t g
  generator_stands params result (number p n) g h = absurd (cc)
  generator_stands params result (list p us) g h = absurd (cc)
  generator_stands params result (name p w) g h =
      bound (number_named p generator_number (named_by d.names w)) (λ g. check (is_from_to (generator_of d.headers g) params result) 24 p >> Ok g) g _
      (λ f e k. held (is_from_to (generator_of d.headers f) params result) 24 p (Ok f) g _
      (λ fits l. let same : f ≡ g = ok_is _ _ _ refl l in
      (generator_named p _ g (e ∙ ap Ok same), subst (λ x. IsFromTo (generator_of d.headers x) params result) same (from_to_stands _ _ _ fits))) k) h

  generator_given : (params : List TypeData) (result : TypeData) (t : PlainTree) (g : ℕ) → NamesGenerator d params result t g → generator_at d params result t ≡ Ok g
  generator_given params result (number p n) g h = absurd h
  generator_given params result (list p us) g h = absurd h
  generator_given params result (name p w) g (is, fits) =
      after (number_named p generator_number (named_by d.names w)) (λ g. check (is_from_to (generator_of d.headers g) params result) 24 p >> Ok g) g _ (ap (number_named p generator_number) is)
      (passing (is_from_to (generator_of d.headers g) params result) 24 p (Ok g) _ (from_to_given _ _ _ fits) refl)

  closed_stands : (t : TypeData) (u : PlainTree) (x : ExprData) → closed d t u ≡ Ok x → IsExpression d [] u t x
  closed_stands t u x h =
      bound (expression d [] u) (λ e. has_type t e >> Ok e.expr) x _
      (λ e r k. followed (has_type t e) (Ok e.expr) x _
      (λ v f l. let same : e.expr ≡ x = ok_is _ _ _ refl l in
      subst (λ y. IsExpression d [] u t y) same (subst (λ y. IsExpression d [] u y e.expr) (sym (has t e v f)) (expression_stands d u [] e r))) k) h

  closed_given : (t : TypeData) (u : PlainTree) (x : ExprData) → IsExpression d [] u t x → closed d t u ≡ Ok x
  closed_given t u x h =
      after (expression d [] u) (λ e. has_type t e >> Ok e.expr) (typed (place_of u) t x) _ (expression_given d u [] t x h) (next_after (has_type t (typed (place_of u) t x)) (Ok x) tt _ (given t (typed (place_of u) t x) refl) refl)

-- the parts of a model alone
abbrev pub init_of : ModelData → Abstract
init_of r = record { init = r.init; pre = r.pre; next = r.next }

abbrev pub start_of : ModelData → System
start_of r = record { start = r.start; step = r.step; post = r.post }

module _ (d : Tables) (m : ModelTypesData) where
  command_stands : (t : PlainTree) (r : ModelData) → command_at d m t ≡ Ok r.maker → IsCommandPart d m t r
  command_stands (list p (more head (more c (more g end)))) r h = generator_stands d (m.abstract_ty ∷ []) m.command g r.maker h
  command_stands t r h = absurd (cc)

  command_given : (t : PlainTree) (r : ModelData) → IsCommandPart d m t r → command_at d m t ≡ Ok r.maker
  command_given (list p (more head (more c (more g end)))) r h = generator_given d (m.abstract_ty ∷ []) m.command g r.maker h
  command_given t r h = absurd h

  abstract_stands : (t : PlainTree) (r : ModelData) → abstract_at d m t ≡ Ok (init_of r) → IsAbstractPart d m t r
  abstract_stands (list p (more head (more s (more init (more pre (more next end)))))) r h =
      bound (closed d m.abstract_ty init) (λ init. function_at d (m.abstract_ty ∷ m.command ∷ []) bool_type pre >>= λ pre. function_at d (m.abstract_ty ∷ m.command ∷ []) m.abstract_ty next >>= λ next. Ok (record { init = init; pre = pre; next = next })) (init_of r) _
      (λ a e k. bound (function_at d (m.abstract_ty ∷ m.command ∷ []) bool_type pre) (λ pre. function_at d (m.abstract_ty ∷ m.command ∷ []) m.abstract_ty next >>= λ next. Ok (record { init = a; pre = pre; next = next })) (init_of r) _
      (λ b f l. bound (function_at d (m.abstract_ty ∷ m.command ∷ []) m.abstract_ty next) (λ next. Ok (record { init = a; pre = b; next = next })) (init_of r) _
      (λ c g n. let same : record { init = a; pre = b; next = c } ≡ init_of r = ok_is _ _ _ refl n in (
        closed_stands d m.abstract_ty init r.init (e ∙ ap (λ y. Ok y.init) same),
        function_stands d (m.abstract_ty ∷ m.command ∷ []) bool_type pre r.pre (f ∙ ap (λ y. Ok y.pre) same),
        function_stands d (m.abstract_ty ∷ m.command ∷ []) m.abstract_ty next r.next (g ∙ ap (λ y. Ok y.next) same),
      )) l) k) h
  abstract_stands t r h = absurd (cc)

  abstract_given : (t : PlainTree) (r : ModelData) → IsAbstractPart d m t r → abstract_at d m t ≡ Ok (init_of r)
  abstract_given (list p (more head (more s (more init (more pre (more next end)))))) r (is, fp, fn) =
      after (closed d m.abstract_ty init) (λ init. function_at d (m.abstract_ty ∷ m.command ∷ []) bool_type pre >>= λ pre. function_at d (m.abstract_ty ∷ m.command ∷ []) m.abstract_ty next >>= λ next. Ok (record { init = init; pre = pre; next = next })) r.init _ (closed_given d m.abstract_ty init r.init is)
      (after (function_at d (m.abstract_ty ∷ m.command ∷ []) bool_type pre) (λ pre. function_at d (m.abstract_ty ∷ m.command ∷ []) m.abstract_ty next >>= λ next. Ok (record { init = r.init; pre = pre; next = next })) r.pre _ (function_given d (m.abstract_ty ∷ m.command ∷ []) bool_type pre r.pre fp)
      (after (function_at d (m.abstract_ty ∷ m.command ∷ []) m.abstract_ty next) (λ next. Ok (record { init = r.init; pre = r.pre; next = next })) r.next _ (function_given d (m.abstract_ty ∷ m.command ∷ []) m.abstract_ty next r.next fn) refl))
  abstract_given t r h = absurd h

  system_stands : (t : PlainTree) (r : ModelData) → system_at d m t ≡ Ok (start_of r) → IsSystemPart d m t r
  system_stands (list p (more head (more s (more start (more step (more post end)))))) r h =
      bound (closed d m.system_ty start) (λ start. function_at d (m.system_ty ∷ m.command ∷ []) m.system_ty step >>= λ step. function_at d (m.abstract_ty ∷ m.command ∷ m.system_ty ∷ []) bool_type post >>= λ post. Ok (record { start = start; step = step; post = post })) (start_of r) _
      (λ a e k. bound (function_at d (m.system_ty ∷ m.command ∷ []) m.system_ty step) (λ step. function_at d (m.abstract_ty ∷ m.command ∷ m.system_ty ∷ []) bool_type post >>= λ post. Ok (record { start = a; step = step; post = post })) (start_of r) _
      (λ b f l. bound (function_at d (m.abstract_ty ∷ m.command ∷ m.system_ty ∷ []) bool_type post) (λ post. Ok (record { start = a; step = b; post = post })) (start_of r) _
      (λ c g n. let same : record { start = a; step = b; post = c } ≡ start_of r = ok_is _ _ _ refl n in (
        closed_stands d m.system_ty start r.start (e ∙ ap (λ y. Ok y.start) same),
        function_stands d (m.system_ty ∷ m.command ∷ []) m.system_ty step r.step (f ∙ ap (λ y. Ok y.step) same),
        function_stands d (m.abstract_ty ∷ m.command ∷ m.system_ty ∷ []) bool_type post r.post (g ∙ ap (λ y. Ok y.post) same),
      )) l) k) h
  system_stands t r h = absurd (cc)

  system_given : (t : PlainTree) (r : ModelData) → IsSystemPart d m t r → system_at d m t ≡ Ok (start_of r)
  system_given (list p (more head (more s (more start (more step (more post end)))))) r (is, fs, fp) =
      after (closed d m.system_ty start) (λ start. function_at d (m.system_ty ∷ m.command ∷ []) m.system_ty step >>= λ step. function_at d (m.abstract_ty ∷ m.command ∷ m.system_ty ∷ []) bool_type post >>= λ post. Ok (record { start = start; step = step; post = post })) r.start _ (closed_given d m.system_ty start r.start is)
      (after (function_at d (m.system_ty ∷ m.command ∷ []) m.system_ty step) (λ step. function_at d (m.abstract_ty ∷ m.command ∷ m.system_ty ∷ []) bool_type post >>= λ post. Ok (record { start = r.start; step = step; post = post })) r.step _ (function_given d (m.system_ty ∷ m.command ∷ []) m.system_ty step r.step fs)
      (after (function_at d (m.abstract_ty ∷ m.command ∷ m.system_ty ∷ []) bool_type post) (λ post. Ok (record { start = r.start; step = r.step; post = post })) r.post _ (function_given d (m.abstract_ty ∷ m.command ∷ m.system_ty ∷ []) bool_type post r.post fp) refl))
  system_given t r h = absurd h

  -- a model of these types, with these parts
  abbrev joined : ℕ → Abstract → System → ModelData
  joined maker s r =
      record { command = m.command; maker = maker; abstract_ty = m.abstract_ty; init = s.init; pre = s.pre; next = s.next; system_ty = m.system_ty; start = r.start; step = r.step; post = r.post }

  pub model_stands : (p : Place) (parts : PlainTrees) (r : ModelData) → model_at d p m parts ≡ Ok r → IsModel d m parts r
  model_stands p (more c (more s (more t end))) r h =
      bound (command_at d m c) (λ maker. abstract_at d m s >>= λ s. system_at d m t >>= λ r. Ok (joined maker s r)) r _
      (λ a e k. bound (abstract_at d m s) (λ s. system_at d m t >>= λ r. Ok (joined a s r)) r _
      (λ b f l. bound (system_at d m t) (λ r. Ok (joined a b r)) r _
      (λ x g n. let same : joined a b x ≡ r = ok_is _ _ _ refl n in (
        record { command = ap (λ y. y.command) (sym same); abstract_ty = ap (λ y. y.abstract_ty) (sym same); system_ty = ap (λ y. y.system_ty) (sym same) },
        command_stands c r (e ∙ ap (λ y. Ok y.maker) same),
        abstract_stands s r (f ∙ ap (λ y. Ok (init_of y)) same),
        system_stands t r (g ∙ ap (λ y. Ok (start_of y)) same),
      )) l) k) h
  model_stands p parts r h = absurd (cc)

  -- the types of a model make it whole
  whole : (r : ModelData) → HasTypes m r → joined r.maker (init_of r) (start_of r) ≡ r
  whole r h =
      λ i. record { command = sym h.command i; maker = r.maker; abstract_ty = sym h.abstract_ty i; init = r.init; pre = r.pre; next = r.next; system_ty = sym h.system_ty i; start = r.start; step = r.step; post = r.post }

  pub model_given : (p : Place) (parts : PlainTrees) (r : ModelData) → IsModel d m parts r → model_at d p m parts ≡ Ok r
  model_given p (more c (more s (more t end))) r (types, ic, is, it) =
      after (command_at d m c) (λ maker. abstract_at d m s >>= λ s. system_at d m t >>= λ r. Ok (joined maker s r)) r.maker _ (command_given c r ic)
      (after (abstract_at d m s) (λ s. system_at d m t >>= λ x. Ok (joined r.maker s x)) (init_of r) _ (abstract_given s r is)
      (after (system_at d m t) (λ x. Ok (joined r.maker (init_of r) x)) (start_of r) _ (system_given t r it) (ap Ok (whole r types))))
  model_given p parts r h = absurd h
