-- The values of a series have its type.
use Rattle.std.proofs.Common.{◌≡◌, ◌∙◌, ℕ, zero, suc, ◌+◌, true, false, IsTrue, List, [], ◌∷◌, map, Option, Some, None, slice_get, refl, ap, subst, arith}
use Rattle.std.specs.Prelude.{option_and_then}
use Rattle.std.specs.List.{All}
use Rattle.std.proofs.lemmas.List.Elements.{All-nil, All-cons, All-head, All-tail, All-append, All-map}
use Rattle.qk_core.specs.Properties.{BinderData}
use Rattle.qk_series.specs.Cases.{cases}
use Rattle.qk_series.specs.Series.{crossed, tuples, numbers, made_values, makers_of, series_over, below, series}
use Rattle.qk_series.specs.Small.{items_of, before}
use Rattle.qk_shrink.proofs.SizeLaws.{each}
use Rattle.qk_shrink.proofs.TypedLaws.{conj}
use Rattle.qk_value.specs.Data.{Data, int, bool, list, pair, made, end, datas_of}
use Rattle.qk_value.specs.Kinds.{MakerData, KindData, maker_of}
use Rattle.qk_value.specs.Types.{TypeData, int_type, bool_type, list_type, pair_type, made_type}
use Rattle.qk_value.specs.Typing.{has_type, all_have_type, field_types}
use Rattle.qk_typed.specs.Laws.{EnumeratedCasesAreTyped}
use Rattle.qk_typed.specs.TypedValues.{HasType, HaveTypes}
use Rattle.qk_typed.specs.WellTyped.{types_of}
use Rattle.qk_typed.proofs.ValueTypes.{made_has}

all_of : {X : Type 0} (P : X → Type 0) (xs : List X) → ((x : X) → P x) → All P xs
all_of P [] h = All-nil P
all_of P (x ∷ xs) h = All-cons P x xs (h x) (all_of P xs h)

all_crossed : {X Y Z : Type 0} (P : X → Type 0) (Q : Y → Type 0) (R : Z → Type 0) (f : X → Y → Z) (xs : List X) (ys : List Y) → ((x : X) (y : Y) → P x → Q y → R (f x y)) → All P xs → All Q ys → All R (crossed f xs ys)
all_crossed P Q R f [] ys go h k = All-nil R
all_crossed P Q R f (x ∷ xs) ys go h k =
    All-append R (map (f x) ys) (crossed f xs ys) (All-map R (f x) ys (each Q (λ y. R (f x y)) (λ y l. go x y (All-head P x xs h) l) ys k)) (all_crossed P Q R f xs ys go (All-tail P x xs h) k)

items_typed : (kinds : List KindData) (t : TypeData) (x : Data) → HasType kinds (list_type t) x → IsTrue (all_have_type kinds t (items_of x))
items_typed kinds t (list ds) h = h
items_typed kinds t (int n) h = cc
items_typed kinds t (bool b) h = cc
items_typed kinds t (pair a b) h = cc
items_typed kinds t (made k m ds) h = cc

-- a list of values for each of these types
abbrev Lower : List KindData → (TypeData → List Data) → Type 0
Lower kinds lower = (t : TypeData) → All (HasType kinds t) (lower t)

module _ (kinds : List KindData) (lower : TypeData → List Data) (typed : Lower kinds lower) where
  tuples_typed : (ts : List TypeData) → All (HaveTypes kinds ts) (tuples (map lower ts))
  tuples_typed [] = All-cons (HaveTypes kinds []) [] [] tt (All-nil (HaveTypes kinds []))
  tuples_typed (t ∷ ts) = all_crossed (HasType kinds t) (HaveTypes kinds ts) (HaveTypes kinds (t ∷ ts)) (λ x others. x ∷ others) (lower t) (tuples (map lower ts)) (λ x xs h k. (h, k)) (typed t) (tuples_typed ts)

  made_typed : (k n : ℕ) (makers : List MakerData) → ((i : ℕ) (m : MakerData) → slice_get makers i ≡ Some m → field_types (maker_of kinds k (n + i)) ≡ Some m.fields)
      → All (HasType kinds (made_type k)) (made_values lower k n makers)
  made_typed k n [] at = All-nil (HasType kinds (made_type k))
  made_typed k n (m ∷ makers) at =
      let here : n + 0 ≡ n = omega arith in
      let fields : field_types (maker_of kinds k n) ≡ Some m.fields = subst (λ i. field_types (maker_of kinds k i) ≡ Some m.fields) here (at 0 m refl) in
      All-append (HasType kinds (made_type k)) (map (λ parts. made k n (datas_of parts)) (tuples (map lower m.fields))) (made_values lower k (n + 1) makers)
      (All-map (HasType kinds (made_type k)) (λ parts. made k n (datas_of parts)) (tuples (map lower m.fields))
      (each (HaveTypes kinds m.fields) (λ parts. HasType kinds (made_type k) (made k n (datas_of parts))) (λ parts h. made_has kinds k n m.fields parts fields h) (tuples (map lower m.fields)) (tuples_typed m.fields)))
      (made_typed k (n + 1) makers (λ i x e. let next : n + suc i ≡ n + 1 + i = omega arith in subst (λ j. field_types (maker_of kinds k j) ≡ Some x.fields) next (at (suc i) x e)))

  kind_typed : (k : ℕ) (o : Option KindData) → slice_get kinds k ≡ o → All (HasType kinds (made_type k)) (made_values lower k 0 (makers_of o))
  kind_typed k None at = All-nil (HasType kinds (made_type k))
  kind_typed k (Some kind) at =
      made_typed k 0 kind.makers
      (λ i m e. let number : 0 + i ≡ i = omega arith in
      ap (λ j. field_types (maker_of kinds k j)) number ∙ ap (λ (o : Option KindData). field_types (option_and_then (λ (x : KindData). slice_get x.makers i) o)) at ∙ ap field_types e)

  over_typed : (d : ℕ) (t : TypeData) → All (HasType kinds t) (series_over kinds d lower t)
  over_typed d int_type = All-map (HasType kinds int_type) int (numbers d) (all_of (λ n. HasType kinds int_type (int n)) (numbers d) (λ n. refl))
  over_typed d bool_type =
      All-cons (HasType kinds bool_type) (bool false) (bool true ∷ []) refl (All-cons (HasType kinds bool_type) (bool true) [] refl (All-nil (HasType kinds bool_type)))
  over_typed d (list_type t) =
      All-cons (HasType kinds (list_type t)) (list end) (crossed before (lower t) (lower (list_type t))) refl
      (all_crossed (HasType kinds t) (HasType kinds (list_type t)) (HasType kinds (list_type t)) before (lower t) (lower (list_type t))
      (λ x y h k. conj (has_type kinds t x) (all_have_type kinds t (items_of y)) h (items_typed kinds t y k)) (typed t) (typed (list_type t)))
  over_typed d (pair_type t u) =
      all_crossed (HasType kinds t) (HasType kinds u) (HasType kinds (pair_type t u)) pair (series_over kinds d lower t) (series_over kinds d lower u) (λ x y h k. conj (has_type kinds t x) (has_type kinds u y) h k) (over_typed d t) (over_typed d u)
  over_typed d (made_type k) = kind_typed k (slice_get kinds k) refl

below_typed : (kinds : List KindData) (d : ℕ) → Lower kinds (below kinds d)
below_typed kinds zero t = All-nil (HasType kinds t)
below_typed kinds (suc d) t = over_typed kinds (below kinds d) (below_typed kinds d) d t

series_typed : (kinds : List KindData) (d : ℕ) (t : TypeData) → All (HasType kinds t) (series kinds d t)
series_typed kinds d t = over_typed kinds (below kinds d) (below_typed kinds d) d t

binders_typed : (kinds : List KindData) (d : ℕ) (bs : List BinderData) → All (HaveTypes kinds (types_of bs)) (cases kinds d bs)
binders_typed kinds d [] = All-cons (HaveTypes kinds []) [] [] tt (All-nil (HaveTypes kinds []))
binders_typed kinds d (b ∷ bs) =
    all_crossed (HasType kinds b.ty) (HaveTypes kinds (types_of bs)) (HaveTypes kinds (b.ty ∷ types_of bs)) (λ x others. x ∷ others) (series kinds d b.ty) (cases kinds d bs) (λ x xs h k. (h, k))
    (series_typed kinds d b.ty) (binders_typed kinds d bs)

pub enumerated_typed : EnumeratedCasesAreTyped
enumerated_typed c p d = binders_typed c.kinds d p.binders
