-- Values of types: parts, items and environments.
use Rattle.std.proofs.Common.{◌≡◌, ◌∙◌, ℕ, zero, suc, false, nat_eq, IsTrue, List, [], ◌∷◌, ◌++◌, Option, Some, None, ◌⊎◌, inl, inr, slice_get, unwrap_or, refl, sym, ap, subst, arith, rules}
use Rattle.qk_core.specs.ExprData.{CasesData}
use Rattle.qk_core.specs.declared.expr.Pattern.{Pattern}
use Rattle.qk_core.specs.declared.expr.Pattern.TheVariants as patterns
use Rattle.qk_value.specs.Data.{Data, int, bool, list, pair, made, Datas, end, more, datas_of, listed_data}
use Rattle.qk_value.specs.Kinds.{KindData, maker_of}
use Rattle.qk_value.specs.Types.{TypeData, list_type, pair_type, made_type}
use Rattle.qk_value.specs.Typing.{has_type, all_have_type, are_parts, field_types}
use Rattle.qk_eval.specs.Parts.{items_of, joined, parts_of, fits}
use Rattle.qk_shrink.proofs.TypedLaws.{both, conj, same_number}
use Rattle.qk_typed.specs.PatternTypes.{Binds, IsMatched, HasCase}
use Rattle.qk_typed.specs.TypedValues.{HasType, HaveTypes}
use Rattle.qk_typed.specs.WellTyped.{Each}

-- what holds of each holds of the one at a place
pub each_at : {X : Type 0} (P : X → Type 0) (xs : List X) (i : ℕ) (x : X) → Each P xs → slice_get xs i ≡ Some x → P x
each_at P [] i x h e = cc
each_at P (y ∷ ys) zero x h e = let same : y ≡ x = cc in subst P same h.0
each_at P (y ∷ ys) (suc i) x h e = each_at P ys i x h.1 e

-- the environment at a place, and with more
pub variable_has : (kinds : List KindData) (ts : List TypeData) (env : List Data) (x : ℕ) (t : TypeData) → HaveTypes kinds ts env → slice_get ts x ≡ Some t → HasType kinds t (unwrap_or (slice_get env x) (list end))
variable_has kinds [] [] x t h e = cc
variable_has kinds [] (v ∷ env) x t h e = absurd h
variable_has kinds (s ∷ ts) [] x t h e = absurd h
variable_has kinds (s ∷ ts) (v ∷ env) zero t h e = let same : s ≡ t = cc in subst (λ (r : TypeData). HasType kinds r v) same h.0
variable_has kinds (s ∷ ts) (v ∷ env) (suc x) t h e = variable_has kinds ts env x t h.1 e

pub both_have : (kinds : List KindData) (ts : List TypeData) (xs : List Data) (us : List TypeData) (ys : List Data) → HaveTypes kinds ts xs → HaveTypes kinds us ys → HaveTypes kinds (ts ++ us) (xs ++ ys)
both_have kinds [] [] us ys h k = k
both_have kinds [] (x ∷ xs) us ys h k = absurd h
both_have kinds (t ∷ ts) [] us ys h k = absurd h
both_have kinds (t ∷ ts) (x ∷ xs) us ys h k = (h.0, both_have kinds ts xs us ys h.1 k)

pub one_more : (kinds : List KindData) (ts : List TypeData) (xs : List Data) (t : TypeData) (x : Data) → HaveTypes kinds ts xs → HasType kinds t x → HaveTypes kinds (ts ++ t ∷ []) (xs ++ x ∷ [])
one_more kinds ts xs t x h k = both_have kinds ts xs (t ∷ []) (x ∷ []) h (k, tt)

-- values as the parts of a made one
pub are_the_parts : (kinds : List KindData) (ts : List TypeData) (xs : List Data) → HaveTypes kinds ts xs → IsTrue (are_parts kinds (Some ts) (datas_of xs))
are_the_parts kinds [] [] h = refl
are_the_parts kinds [] (x ∷ xs) h = absurd h
are_the_parts kinds (t ∷ ts) [] h = absurd h
are_the_parts kinds (t ∷ ts) (x ∷ xs) h = conj (has_type kinds t x) (are_parts kinds (Some ts) (datas_of xs)) h.0 (are_the_parts kinds ts xs h.1)

pub parts_have : (kinds : List KindData) (ts : List TypeData) (ds : Datas) → IsTrue (are_parts kinds (Some ts) ds) → HaveTypes kinds ts (listed_data ds)
parts_have kinds [] end h = tt
parts_have kinds [] (more d ds) h = cc
parts_have kinds (t ∷ ts) end h = cc
parts_have kinds (t ∷ ts) (more d ds) h =
    let parts = both (has_type kinds t d) (are_parts kinds (Some ts) ds) h in
    (parts.0, parts_have kinds ts ds parts.1)

is_itself : (n : ℕ) → IsTrue (nat_eq n n)
is_itself n = grind arith

pub made_has : (kinds : List KindData) (k m : ℕ) (ts : List TypeData) (xs : List Data) → field_types (maker_of kinds k m) ≡ Some ts → HaveTypes kinds ts xs → HasType kinds (made_type k) (made k m (datas_of xs))
made_has kinds k m ts xs e h =
    conj (nat_eq k k) (are_parts kinds (field_types (maker_of kinds k m)) (datas_of xs)) (is_itself k)
    (subst (λ (o : Option (List TypeData)). IsTrue (are_parts kinds o (datas_of xs))) (sym e) (are_the_parts kinds ts xs h))

-- items of lists
pub items_have : (kinds : List KindData) (t : TypeData) (x : Data) → HasType kinds (list_type t) x → IsTrue (all_have_type kinds t (items_of x))
items_have kinds t (list ds) h = h
items_have kinds t (int n) h = cc
items_have kinds t (bool b) h = cc
items_have kinds t (pair a b) h = cc
items_have kinds t (made k m ds) h = cc

pub joined_have : (kinds : List KindData) (t : TypeData) (ds es : Datas) → IsTrue (all_have_type kinds t ds) → IsTrue (all_have_type kinds t es) → IsTrue (all_have_type kinds t (joined ds es))
joined_have kinds t end es h k = k
joined_have kinds t (more d ds) es h k =
    let parts = both (has_type kinds t d) (all_have_type kinds t ds) h in
    conj (has_type kinds t d) (all_have_type kinds t (joined ds es)) parts.0 (joined_have kinds t ds es parts.1 k)

-- what a pattern adds to the environment has the types that it binds
maker_binds : (kinds : List KindData) (k m l n : ℕ) (ds : Datas) (ts : List TypeData) → l ≡ k → n ≡ m → IsTrue (are_parts kinds (field_types (maker_of kinds l n)) ds) → field_types (maker_of kinds k m) ≡ Some ts → HaveTypes kinds ts (listed_data ds)
maker_binds kinds k m l n ds ts same_kind same_maker h b =
    let here : field_types (maker_of kinds l n) ≡ Some ts = ap (λ i. field_types (maker_of kinds i n)) same_kind ∙ ap (λ i. field_types (maker_of kinds k i)) same_maker ∙ b in
    parts_have kinds ts ds (subst (λ (o : Option (List TypeData)). IsTrue (are_parts kinds o ds)) here h)

pub binds_have : (kinds : List KindData) (p : Pattern) (x : Data) (t : TypeData) (ts : List TypeData) → IsTrue (fits p x) → HasType kinds t x → Binds kinds p t ts → HaveTypes kinds ts (parts_of x)
binds_have kinds patterns.Nil (list end) (list_type t) ts e h b = subst (λ (us : List TypeData). HaveTypes kinds us []) (sym b) tt
binds_have kinds patterns.Cons (list (more d ds)) (list_type t) ts e h b =
    let parts = both (has_type kinds t d) (all_have_type kinds t ds) h in
    subst (λ (us : List TypeData). HaveTypes kinds us (d ∷ list ds ∷ [])) (sym b) (parts.0, (parts.1, tt))
binds_have kinds patterns.Pair (pair a c) (pair_type t u) ts e h b =
    let parts = both (has_type kinds t a) (has_type kinds u c) h in
    subst (λ (us : List TypeData). HaveTypes kinds us (a ∷ c ∷ [])) (sym b) (parts.0, (parts.1, tt))
binds_have kinds (patterns.Maker k m) (made l n ds) (made_type i) ts e h b =
    let same = both (nat_eq l k) (nat_eq n m) e in
    let parts = both (nat_eq i l) (are_parts kinds (field_types (maker_of kinds l n)) ds) h in
    maker_binds kinds k m l n ds ts (same_number l k same.0) (same_number n m same.1) parts.1 b.1
binds_have kinds p x t ts e h b = first_of (cc, search rules)

-- a pattern of a type, with what it binds, that takes a value
pub record Taken (kinds : List KindData) (t : TypeData) (x : Data) : Type 0 where
  pub pattern : Pattern
  pub types : List TypeData
  pub binds : Binds kinds pattern t types
  pub takes : IsTrue (fits pattern x)

maker_taken : (kinds : List KindData) (t l n : ℕ) (ds : Datas) (o : Option (List TypeData)) → field_types (maker_of kinds l n) ≡ o → l ≡ t → IsTrue (are_parts kinds o ds) → Taken kinds (made_type t) (made l n ds)
maker_taken kinds t l n ds None is same h = cc
maker_taken kinds t l n ds (Some ts) is same h = record { pattern = patterns.Maker l n; types = ts; binds = (same, is); takes = conj (nat_eq l l) (nat_eq n n) (is_itself l) (is_itself n) }

-- each value of a type that can be matched is taken by one of the type's patterns
pub taken : (kinds : List KindData) (t : TypeData) (x : Data) → IsMatched t → HasType kinds t x → Taken kinds t x
taken kinds (list_type t) (list end) m h = record { pattern = patterns.Nil; types = []; binds = refl; takes = refl }
taken kinds (list_type t) (list (more d ds)) m h = record { pattern = patterns.Cons; types = t ∷ list_type t ∷ []; binds = refl; takes = refl }
taken kinds (pair_type t u) (pair a b) m h = record { pattern = patterns.Pair; types = t ∷ u ∷ []; binds = refl; takes = refl }
taken kinds (made_type k) (made l n ds) m h =
    let parts = both (nat_eq k l) (are_parts kinds (field_types (maker_of kinds l n)) ds) h in
    maker_taken kinds k l n ds (field_types (maker_of kinds l n)) refl (sym (same_number k l parts.0)) parts.1
taken kinds t x m h = first_of (cc, search rules)

-- a case that does not take the value is not that of the pattern that does
pub another_case : (q p : Pattern) (cases : CasesData) (x : Data) → IsTrue (fits p x) → fits q x ≡ false → (q ≡ p) ⊎ HasCase p cases → HasCase p cases
another_case q p cases x takes other (inl same) = let yes : IsTrue (fits q x) = subst (λ (r : Pattern). IsTrue (fits r x)) (sym same) takes in cc
another_case q p cases x takes other (inr h) = h
