-- Values within a weight.
use Rattle.std.proofs.Common.{◌≡◌, ◌∙◌, inl, inr, ℕ, ◌+◌, ◌-◌, ◌≤◌, ◌<◌, List, [], ◌∷◌, ◌++◌, Some, None, Err, refl, sym, ap, arith}
use Rattle.std.specs.Prelude.{unwrap_or}
use Rattle.std.proofs.lemmas.Bool.{cases_lt}
use Rattle.std.proofs.lemmas.Bool.Decides.{nat_tests}
use Rattle.std.proofs.lemmas.List.{append_assoc, append-nil}
use Rattle.qk_value.specs.Data.{Data, int, bool, list, pair, made, Datas, end, more, datas_of, listed_data}
use Rattle.qk_value.specs.Measures.{weight, weights}
use Rattle.qk_base.specs.declared.outcome.Cause.TheVariants.{Weight}
use Rattle.qk_series.specs.Members.{within, all_within}
use Rattle.qk_series.specs.Small.{small}

pub weight_some : (x : Data) → 0 < weight x
weight_some (int n) = omega arith
weight_some (bool b) = omega arith
weight_some (list ds) = omega arith
weight_some (pair a b) = omega arith
weight_some (made k m ds) = omega arith

pub heavy : (left : ℕ) (x : Data) → left < weight x → None ≡ within left x
heavy left x h = grind (arith, nat_tests, h)

pub light : (left : ℕ) (x : Data) → weight x ≤ left → within left x ≡ Some (x, left - weight x)
light left x h = grind (arith, nat_tests, h)

pub all_heavy : (left : ℕ) (xs : Datas) → left < weights xs → None ≡ all_within left xs
all_heavy left xs h = grind (arith, nat_tests, h)

pub all_light : (left : ℕ) (xs : Datas) → weights xs ≤ left → all_within left xs ≡ Some (xs, left - weights xs)
all_light left xs h = grind (arith, nat_tests, h)

-- what is told by an answer
pub is_heavy : (left : ℕ) (x : Data) → None ≡ within left x → left < weight x
is_heavy left x told = elim (cases_lt left (weight x)) [
  | inl h ↦ h
  | inr h ↦ absurd (differ (told ∙ light left x h))
]
  where
    differ : {X : Type 0} {x : X} → None ≡ Some x → ⊥
    differ e = cc

pub is_light : (left : ℕ) (x : Data) (y : Data) (l : ℕ) → Some (y, l) ≡ within left x → (y ≡ x) × (l + weight x ≡ left)
is_light left x y l told = elim (cases_lt left (weight x)) [
  | inl h ↦ absurd (differ (told ∙ sym (heavy left x h)))
  | inr h ↦
      let both = ap (λ o. unwrap_or o (y, l)) (told ∙ light left x h) in
      (ap (λ p. p.0) both, omega (arith, h, ap (λ p. p.1) both))
]
  where
    differ : {X : Type 0} {x : X} → Some x ≡ None → ⊥
    differ e = cc

pub all_heavy_told : (left : ℕ) (xs : Datas) → None ≡ all_within left xs → left < weights xs
all_heavy_told left xs told = elim (cases_lt left (weights xs)) [
  | inl h ↦ h
  | inr h ↦ absurd (differ (told ∙ all_light left xs h))
]
  where
    differ : {X : Type 0} {x : X} → None ≡ Some x → ⊥
    differ e = cc

pub all_light_told : (left : ℕ) (xs ys : Datas) (l : ℕ) → Some (ys, l) ≡ all_within left xs → (ys ≡ xs) × (l + weights xs ≡ left)
all_light_told left xs ys l told = elim (cases_lt left (weights xs)) [
  | inl h ↦ absurd (differ (told ∙ sym (all_heavy left xs h)))
  | inr h ↦
      let both = ap (λ o. unwrap_or o (ys, l)) (told ∙ all_light left xs h) in
      (ap (λ p. p.0) both, omega (arith, h, ap (λ p. p.1) both))
]
  where
    differ : {X : Type 0} {x : X} → Some x ≡ None → ⊥
    differ e = cc

pub fits : (left l : ℕ) (x : Data) → l + weight x ≡ left → Some (x, l) ≡ within left x
fits left l x is =
    let rest : l ≡ left - weight x = omega (arith, is) in
    ap (λ l. Some (x, l)) rest ∙ sym (light left x (omega (arith, is)))

pub all_fit : (left l : ℕ) (xs : Datas) → l + weights xs ≡ left → Some (xs, l) ≡ all_within left xs
all_fit left l xs is =
    let rest : l ≡ left - weights xs = omega (arith, is) in
    ap (λ l. Some (xs, l)) rest ∙ sym (all_light left xs (omega (arith, is)))

pub heft_append : (xs ys : List Data) → weights (datas_of (xs ++ ys)) ≡ weights (datas_of xs) + weights (datas_of ys)
heft_append [] ys = omega arith
heft_append (x ∷ xs) ys = omega (arith, heft_append xs ys)

pub same_items : (ds : Datas) → datas_of (listed_data ds) ≡ ds
same_items end = refl
same_items (more d ds) = ap (more d) (same_items ds)

-- a part that is too heavy
pub part_heavy : (items others all : List Data) (x : Data) (left whole : ℕ) → items ++ x ∷ others ≡ all → left + weights (datas_of items) ≡ whole → left < weight x → None ≡ all_within whole (datas_of all)
part_heavy items others all x left whole is sum h =
    all_heavy whole (datas_of all) (omega (arith, ap (λ xs. weights (datas_of xs)) is, heft_append items (x ∷ others), sum, h))

-- no part is left
pub parts_done : (items rest all : List Data) (left whole : ℕ) → items ++ rest ≡ all → rest ≡ [] → left + weights (datas_of items) ≡ whole → Some (datas_of items, left) ≡ all_within whole (datas_of all)
parts_done items rest all left whole is none sum =
    let same : items ≡ all = sym (append-nil items) ∙ ap (λ rest. items ++ rest) (sym none) ∙ is in
    all_fit whole left (datas_of items) sum ∙ ap (λ xs. all_within whole (datas_of xs)) same

-- a part more
pub part_more : (items after others all : List Data) (x y : Data) (l left whole : ℕ) → items ++ x ∷ others ≡ all → after ≡ items ++ y ∷ [] → y ≡ x → l + weight x ≡ left → left + weights (datas_of items) ≡ whole
    → (after ++ others ≡ all) × (l + weights (datas_of after) ≡ whole)
part_more items after others all x y l left whole is added same one sum =
    let joined : after ≡ items ++ x ∷ [] = added ∙ ap (λ y. items ++ y ∷ []) same in (
      ap (λ xs. xs ++ others) joined ∙ append_assoc items (x ∷ []) others ∙ is,
      omega (arith, ap (λ xs. weights (datas_of xs)) joined, heft_append items (x ∷ []), one, sum),
    )

pub too_heavy : (x : Data) → 65536 < weight x → small x ≡ Err Weight
too_heavy x h = grind (arith, nat_tests, h)
