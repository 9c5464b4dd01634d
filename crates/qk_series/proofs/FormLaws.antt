-- Types and values, form by form.
use Rattle.std.proofs.Common.{◌≡◌, ◌∙◌, ℕ, List, map, length, get_or, [], ◌<◌, Box, Vec, ap, sym}
use Rattle.std.proofs.lemmas.List.{get_or-map}
use Rattle.std.specs.declared.alloc.Global.{Global}
use denote.Hole.Carrier.{out}
use Rattle.qk_value.specs.Types.{TypeData, int_type, bool_type, list_type, pair_type, made_type}
use Rattle.qk_value.specs.View.{view_type, type_step}
use Rattle.qk_value.specs.declared.ty.Ty.{Ty, out-Ty, map-Ty, fold_out-Ty}
use Rattle.qk_value.specs.declared.ty.Ty.TheVariants as types

seen : (o : Ty) → view_type o ≡ type_step (map-Ty Ty TypeData view_type (out-Ty o))
seen o = fold_out-Ty TypeData type_step o

seen_int : view_type types.Int ≡ int_type
unfolding out-Ty out
seen_int = seen types.Int

seen_bool : view_type types.Bool ≡ bool_type
unfolding out-Ty out
seen_bool = seen types.Bool

seen_list : (x : Box Ty Global) → view_type (types.List x) ≡ list_type (view_type x.value)
unfolding out-Ty out
seen_list x = seen (types.List x)

seen_pair : (x y : Box Ty Global) → view_type (types.Pair x y) ≡ pair_type (view_type x.value) (view_type y.value)
unfolding out-Ty out
seen_pair x y = seen (types.Pair x y)

seen_made : (k : ℕ) → view_type (types.Made k) ≡ made_type k
unfolding out-Ty out
seen_made k = seen (types.Made k)

pub int_form : (ty : Ty) → ty ≡ types.Int → view_type ty ≡ int_type
int_form ty is = ap view_type is ∙ seen_int

pub bool_form : (ty : Ty) → ty ≡ types.Bool → view_type ty ≡ bool_type
bool_form ty is = ap view_type is ∙ seen_bool

pub list_form : (ty : Ty) (x : Box Ty Global) → ty ≡ types.List x → view_type ty ≡ list_type (view_type x.value)
list_form ty x is = ap view_type is ∙ seen_list x

pub pair_form : (ty : Ty) (x y : Box Ty Global) → ty ≡ types.Pair x y → view_type ty ≡ pair_type (view_type x.value) (view_type y.value)
pair_form ty x y is = ap view_type is ∙ seen_pair x y

pub made_form : (ty : Ty) (k : ℕ) → ty ≡ types.Made k → view_type ty ≡ made_type k
made_form ty k is = ap view_type is ∙ seen_made k

-- the row of a number, as a list
pub row_at : (rows : List (Vec ℕ Global)) (d : ℕ) (row : Vec ℕ Global) → d < length rows → row ≡ get_or rows d row → get_or (map (λ r. r.items) rows) d [] ≡ row.items
row_at rows d row h is = get_or-map (λ r. r.items) rows d row [] h ∙ ap (λ r. r.items) (sym is)
