-- Types that parts must have, once one of the lists ends.
use Rattle.std.proofs.Common.{◌≡◌, ◌∙◌, ℕ, ◌≤◌, min, List, [], ◌∷◌, map, refl, ap, length, drop, ◌⊎◌, inl, inr, Ok}
use Rattle.std.proofs.lemmas.List.{drop_all}
use Rattle.qk_value.specs.Types.{TypeData}
use Rattle.qk_typing.specs.Operators.{Typed, have_types}
use Rattle.qk_names.proofs.ListParts.{either}

no_parts : (ts : List TypeData) → have_types ts [] ≡ Ok tt
no_parts [] = refl
no_parts (t ∷ ts) = refl

module _ {A B : Type 0} (f : A → TypeData) (g : B → Typed) (ts : List A) (es : List B) (i : ℕ) where
  ended : (length ts ≤ i) ⊎ (length es ≤ i) → have_types (map f (drop i ts)) (map g (drop i es)) ≡ Ok tt
  ended (inl h) = ap (λ x. have_types (map f x) (map g (drop i es))) (drop_all i ts h)
  ended (inr h) = ap (λ x. have_types (map f (drop i ts)) (map g x)) (drop_all i es h) ∙ no_parts (map f (drop i ts))

  pub none_left : min (length ts) (length es) ≤ i → have_types (map f (drop i ts)) (map g (drop i es)) ≡ Ok tt
  none_left h = ended (either (length ts) (length es) i h)
