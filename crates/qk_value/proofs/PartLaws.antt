-- Parts that are not as many as the fields are no parts of the maker.
use Rattle.std.proofs.Common.{◌≡◌, suc, Bool, true, false, ◌&&◌, List, [], ◌∷◌, map, length, Some, refl, ap, sym, ◌∙◌}
use Rattle.qk_value.specs.Kinds.{KindData}
use Rattle.qk_value.specs.Typing.{has_type, are_parts}
use Rattle.qk_value.specs.View.{view_value, view_values, view_type}
use Rattle.qk_value.specs.declared.ty.Ty.{Ty}
use Rattle.qk_value.specs.declared.value.Value.{Value}

and_false : (b : Bool) → (b && false) ≡ false
and_false true = refl
and_false false = refl

pub other_count : (kinds : List KindData) (ts : List Ty) (vs : List Value) → (length vs ≡ length ts → ⊥) → false ≡ are_parts kinds (Some (map view_type ts)) (view_values vs)
other_count kinds [] [] other = absurd (other refl)
other_count kinds [] (v ∷ vs) other = refl
other_count kinds (t ∷ ts) [] other = refl
other_count kinds (t ∷ ts) (v ∷ vs) other =
    let first = has_type kinds (view_type t) (view_value v) in
    sym (and_false first) ∙ ap (λ rest. first && rest) (other_count kinds ts vs (λ e. other (ap suc e)))
