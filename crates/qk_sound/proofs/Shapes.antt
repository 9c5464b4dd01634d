-- The patterns of a type stand under names of their own.
use Rattle.std.specs.Prelude.{find, codes, bytes_eq, cond, option_and_then}
use Rattle.std.proofs.Common.{◌≡◌, ◌∙◌, ℕ, zero, suc, ◌+◌, Bool, true, false, ◌||◌, List, [], ◌∷◌, ◌++◌, map, Option, Some, None, slice_get, refl, sym, ap, subst, arith}
use Rattle.std.proofs.lemmas.List.Folds.{list_any-append}
use Rattle.std.proofs.lemmas.Slice.Eq.{bytes_eq-Decides}
use Rattle.qk_core.specs.declared.expr.Pattern.{Pattern}
use Rattle.qk_core.specs.declared.expr.Pattern.TheVariants as patterns
use Rattle.qk_expressions.specs.Patterns.{Shape, maker_shapes, makers_of, shapes_of, has_patterns, is_among}
use Rattle.qk_headers.specs.Headers.{HeadersData}
use Rattle.qk_names.specs.Reserved.{Word}
use Rattle.qk_typed.specs.PatternTypes.{Binds, IsMatched}
use Rattle.qk_typed.specs.WellTyped.{Each}
use Rattle.qk_typed.proofs.ValueTypes.{each_at}
use Rattle.qk_value.specs.Kinds.{MakerData, KindData, maker_of}
use Rattle.qk_value.specs.Types.{TypeData, int_type, bool_type, list_type, pair_type, made_type}
use Rattle.qk_value.specs.Typing.{field_types}
use Rattle.qk_wellformed.specs.IsExpression.{AreNew}
use Rattle.qk_sound.proofs.Found.{same_some}
use Rattle.qk_sound.proofs.Stands.{HasNewMakers}

neither : (a b : Bool) → (a || b) ≡ false → (a ≡ false) × (b ≡ false)
neither false b h = (refl, h)
neither true b h = cc

-- a word that is not among more words is not among these, and is not the last
apart : (before : List Word) (x w : Word) → is_among (before ++ x ∷ []) w ≡ false → (is_among before w ≡ false) × (bytes_eq w x ≡ false)
apart before x w h =
    let parts = neither (is_among before w) (is_among (x ∷ []) w) (sym (list_any-append (bytes_eq w) before (x ∷ [])) ∙ h) in
    (parts.0, (neither (bytes_eq w x) false parts.1).0)

-- the makers of a kind, if there is one
abbrev makers_in : Option KindData → List MakerData
makers_in o = elim o [ Some kind ↦ kind.makers | None ↦ [] ]

new_at : (before : List Word) (makers : List MakerData) (m : ℕ) (maker : MakerData) → AreNew before (map (λ m. m.name) makers) → slice_get makers m ≡ Some maker → is_among before maker.name ≡ false
new_at before [] m maker h e = cc
new_at before (x ∷ makers) zero maker h e = subst (λ (y : MakerData). is_among before y.name ≡ false) (same_some x maker e) h.0
new_at before (x ∷ makers) (suc m) maker h e = (apart before x.name maker.name (new_at (before ++ x.name ∷ []) makers m maker h.1 e)).0

other_name : (before : List Word) (x : MakerData) (makers : List MakerData) (m : ℕ) (maker : MakerData) → AreNew before (map (λ m. m.name) (x ∷ makers)) → slice_get makers m ≡ Some maker → bytes_eq maker.name x.name ≡ false
other_name before x makers m maker h e = (apart before x.name maker.name (new_at (before ++ x.name ∷ []) makers m maker h.1 e)).1

itself : (w : Word) → bytes_eq w w ≡ true
itself w = (bytes_eq-Decides w w).1 refl

first_found : (test : Shape → Bool) (x : Shape) (xs : List Shape) → test x ≡ true → find test (x ∷ xs) ≡ Some x
first_found test x xs h = ap (λ b. cond b (Some x) (find test xs)) h

later_found : (test : Shape → Bool) (x : Shape) (xs : List Shape) (o : Option Shape) → test x ≡ false → find test xs ≡ o → find test (x ∷ xs) ≡ o
later_found test x xs o h k = ap (λ b. cond b (Some x) (find test xs)) h ∙ k

maker_found : (k : ℕ) (before : List Word) (makers : List MakerData) (n m i : ℕ) (maker : MakerData) → AreNew before (map (λ m. m.name) makers) → i ≡ n + m → slice_get makers m ≡ Some maker
    → find (λ x. bytes_eq maker.name x.head) (maker_shapes k n makers) ≡ Some (record { head = maker.name; pattern = patterns.Maker k i; fields = maker.fields })
maker_found k before [] n m i maker h at e = cc
maker_found k before (x ∷ makers) n zero i maker h at e =
    let same : x ≡ maker = same_some x maker e in
    let here : n ≡ i = omega (arith, at) in
    first_found (λ y. bytes_eq maker.name y.head) (record { head = x.name; pattern = patterns.Maker k n; fields = x.fields }) (maker_shapes k (n + 1) makers) (ap (bytes_eq maker.name) (ap (λ y. y.name) same) ∙ itself maker.name)
    ∙ (λ j. Some (record { head = (same j).name; pattern = patterns.Maker k (here j); fields = (same j).fields }))
maker_found k before (x ∷ makers) n (suc m) i maker h at e =
    later_found (λ y. bytes_eq maker.name y.head) (record { head = x.name; pattern = patterns.Maker k n; fields = x.fields }) (maker_shapes k (n + 1) makers) _ (other_name before x makers m maker h e)
    (maker_found k (before ++ x.name ∷ []) makers (n + 1) m i maker h.1 (omega (arith, at)) e)

-- a pattern of the type that is found under its own head
pub record Found (h : HeadersData) (t : TypeData) (p : Pattern) : Type 0 where
  pub shape : Shape
  pub is : shape.pattern ≡ p
  pub first : find (λ x. bytes_eq shape.head x.head) (shapes_of h t) ≡ Some shape

-- the kind and the maker of these numbers
pub record IsMade (h : HeadersData) (k m : ℕ) (ts : List TypeData) : Type 0 where
  pub kind : KindData
  pub maker : MakerData
  pub at : slice_get h.kinds k ≡ Some kind
  pub of : slice_get kind.makers m ≡ Some maker
  pub fields : maker.fields ≡ ts

fields_are : (kind : KindData) (h : HeadersData) (k m : ℕ) (o : Option MakerData) (ts : List TypeData) → slice_get h.kinds k ≡ Some kind → slice_get kind.makers m ≡ o → field_types o ≡ Some ts → IsMade h k m ts
fields_are kind h k m None ts at of e = cc
fields_are kind h k m (Some maker) ts at of e = record { kind = kind; maker = maker; at = at; of = of; fields = same_some maker.fields ts e }

made_at : (h : HeadersData) (k m : ℕ) (o : Option KindData) (ts : List TypeData) → slice_get h.kinds k ≡ o → field_types (option_and_then (λ (kind : KindData). slice_get kind.makers m) o) ≡ Some ts → IsMade h k m ts
made_at h k m None ts at e = cc
made_at h k m (Some kind) ts at e = fields_are kind h k m (slice_get kind.makers m) ts at refl e

pub is_made : (h : HeadersData) (k m : ℕ) (ts : List TypeData) → field_types (maker_of h.kinds k m) ≡ Some ts → IsMade h k m ts
is_made h k m ts e = made_at h k m (slice_get h.kinds k) ts refl e

-- each pattern of a type is found under its head
pub pattern_found : (h : HeadersData) → Each HasNewMakers h.kinds → (p : Pattern) (t : TypeData) (ts : List TypeData) → Binds h.kinds p t ts → Found h t p
pattern_found h new patterns.Nil (list_type t) ts b = record { shape = record { head = codes "nil"; pattern = patterns.Nil; fields = [] }; is = refl; first = refl }
pattern_found h new patterns.Cons (list_type t) ts b = record { shape = record { head = codes "cons"; pattern = patterns.Cons; fields = t ∷ list_type t ∷ [] }; is = refl; first = refl }
pattern_found h new patterns.Pair (pair_type t u) ts b = record { shape = record { head = codes "pair"; pattern = patterns.Pair; fields = t ∷ u ∷ [] }; is = refl; first = refl }
pattern_found h new (patterns.Maker k m) (made_type l) ts b =
    let made : IsMade h k m ts = is_made h k m ts b.1 in
    let makers : makers_of h l ≡ made.kind.makers = ap (makers_of h) (sym b.0) ∙ ap makers_in made.at in
    record {
      shape = record { head = made.maker.name; pattern = patterns.Maker l m; fields = made.maker.fields };
      is = ap (λ i. patterns.Maker i m) (sym b.0);
      first = ap (λ (ms : List MakerData). find (λ x. bytes_eq made.maker.name x.head) (maker_shapes l 0 ms)) makers
          ∙ maker_found l [] made.kind.makers 0 m m made.maker (each_at HasNewMakers h.kinds k made.kind new made.at) (omega arith) made.of;
    }
pattern_found h new p t ts b = absurd b

-- each pattern that is found binds the fields that its shape has
shapes_bind_from : (kinds : List KindData) (k n : ℕ) (makers : List MakerData) → ((i : ℕ) (m : MakerData) → slice_get makers i ≡ Some m → field_types (maker_of kinds k (n + i)) ≡ Some m.fields)
    → Each (λ (s : Shape). Binds kinds s.pattern (made_type k) s.fields) (maker_shapes k n makers)
shapes_bind_from kinds k n [] h = tt
shapes_bind_from kinds k n (m ∷ makers) h =
    let here : n + 0 ≡ n = omega arith in (
      (refl, subst (λ i. field_types (maker_of kinds k i) ≡ Some m.fields) here (h 0 m refl)),
      shapes_bind_from kinds k (n + 1) makers (λ i x e. let at : n + suc i ≡ n + 1 + i = omega arith in subst (λ j. field_types (maker_of kinds k j) ≡ Some x.fields) at (h (suc i) x e)),
    )

kind_binds : (kinds : List KindData) (k : ℕ) (o : Option KindData) → slice_get kinds k ≡ o → Each (λ (s : Shape). Binds kinds s.pattern (made_type k) s.fields) (maker_shapes k 0 (makers_in o))
kind_binds kinds k None at = tt
kind_binds kinds k (Some kind) at =
    shapes_bind_from kinds k 0 kind.makers
    (λ i m e. let number : 0 + i ≡ i = omega arith in
    ap (λ j. field_types (maker_of kinds k j)) number ∙ ap (λ (o : Option KindData). field_types (option_and_then (λ (x : KindData). slice_get x.makers i) o)) at ∙ ap field_types e)

pub shapes_bind : (h : HeadersData) (t : TypeData) → Each (λ (s : Shape). Binds h.kinds s.pattern t s.fields) (shapes_of h t)
shapes_bind h int_type = tt
shapes_bind h bool_type = tt
shapes_bind h (list_type t) = (refl, (refl, tt))
shapes_bind h (pair_type t u) = (refl, tt)
shapes_bind h (made_type k) = kind_binds h.kinds k (slice_get h.kinds k) refl

-- a type that has patterns can be matched
pub is_matched : (h : HeadersData) (t : TypeData) → has_patterns (shapes_of h t) ≡ true → IsMatched t
is_matched h int_type e = cc
is_matched h bool_type e = cc
is_matched h (list_type t) e = tt
is_matched h (pair_type t u) e = tt
is_matched h (made_type k) e = tt
