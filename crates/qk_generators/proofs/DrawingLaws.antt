-- Types that generators must have, once one of the lists ends; and parts that were taken from a list, the last first.
use Rattle.std.proofs.Common.{◌≡◌, ◌∙◌, ℕ, ◌≤◌, min, List, [], ◌∷◌, ◌++◌, map, reverse, refl, sym, ap, length, drop, ◌⊎◌, inl, inr, Result, Ok, Err, IfOk}
use Rattle.std.proofs.lemmas.List.{drop_all}
use Rattle.indexmap.proofs.ReorderLemmas.{map-reverse}
use Rattle.qk_base.specs.Growing.{Growing}
use Rattle.qk_value.specs.Types.{TypeData}
use Rattle.qk_generators.specs.Drawing.{Drawn, draw_types}
use Rattle.qk_names.proofs.ListParts.{either}

no_parts : (ts : List TypeData) → draw_types ts [] ≡ Ok tt
no_parts [] = refl
no_parts (t ∷ ts) = refl

module _ {A B : Type 0} (f : A → TypeData) (g : B → Drawn) (ts : List A) (es : List B) (i : ℕ) where
  ended : (length ts ≤ i) ⊎ (length es ≤ i) → draw_types (map f (drop i ts)) (map g (drop i es)) ≡ Ok tt
  ended (inl h) = ap (λ x. draw_types (map f x) (map g (drop i es))) (drop_all i ts h)
  ended (inr h) = ap (λ x. draw_types (map f (drop i ts)) (map g x)) (drop_all i es h) ∙ no_parts (map f (drop i ts))

  pub none_left : min (length ts) (length es) ≤ i → draw_types (map f (drop i ts)) (map g (drop i es)) ≡ Ok tt
  none_left h = ended (either (length ts) (length es) i h)

pub taken : {A B D E : Type 0} (seen : B → D) (parts : List A → List D) (r : Result (Growing B) E) (all left : List A) (backward : List B) → IfOk r (λ s. s.items ≡ reverse backward)
    → parts all ≡ parts left ++ reverse (map seen backward) → left ≡ [] → parts [] ≡ [] → IfOk r (λ s. map seen s.items ≡ parts all)
taken seen parts (Ok s) all left backward turned so none empty =
    ap (map seen) turned ∙ map-reverse seen backward ∙ sym (so ∙ ap (λ x. x ++ reverse (map seen backward)) (ap parts none ∙ empty))
taken seen parts (Err e) all left backward turned so none empty = tt
