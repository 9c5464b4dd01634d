-- The candidates of a value, form by form.
use Rattle.std.proofs.Common.{◌≡◌, ◌∙◌, ℤ, List, ◌++◌, map, Box, ap}
use Rattle.std.specs.declared.alloc.Global.{Global}
use denote.Hole.Carrier.{out}
use Rattle.qk_value.specs.Data.{Data, int, pair}
use Rattle.qk_value.specs.Kinds.{KindData}
use Rattle.qk_value.specs.Types.{TypeData, int_type, pair_type}
use Rattle.qk_value.specs.View.{view_type, type_step, view_value, view_step}
use Rattle.qk_value.specs.declared.ty.Ty.{Ty, out-Ty, map-Ty, fold_out-Ty}
use Rattle.qk_value.specs.declared.ty.Ty.TheVariants as types
use Rattle.qk_value.specs.declared.value.Value.{Value, out-Value, map-Value, fold_out-Value}
use Rattle.qk_value.specs.declared.value.Value.TheVariants as values
use Rattle.qk_shrink.specs.Candidates.{value_candidates}
use Rattle.qk_shrink.specs.Numbers.{number_candidates}

seen : (o : Ty) → view_type o ≡ type_step (map-Ty Ty TypeData view_type (out-Ty o))
seen o = fold_out-Ty TypeData type_step o

seen_int : view_type types.Int ≡ int_type
unfolding out-Ty out
seen_int = seen types.Int

seen_pair : (x y : Box Ty Global) → view_type (types.Pair x y) ≡ pair_type (view_type x.value) (view_type y.value)
unfolding out-Ty out
seen_pair x y = seen (types.Pair x y)

valued : (o : Value) → view_value o ≡ view_step (map-Value Value Data view_value (out-Value o))
valued o = fold_out-Value Data view_step o

pub valued_int : (n : ℤ) → view_value (values.Int n) ≡ int n
unfolding out-Value out
valued_int n = valued (values.Int n)

valued_pair : (x y : Box Value Global) → view_value (values.Pair x y) ≡ pair (view_value x.value) (view_value y.value)
unfolding out-Value out
valued_pair x y = valued (values.Pair x y)

pub int_form : (kinds : List KindData) (ty : Ty) (v : Value) (n : ℤ) → ty ≡ types.Int → v ≡ values.Int n → value_candidates kinds (view_type ty) (view_value v) ≡ map int (number_candidates n)
int_form kinds ty v n is_type is i = value_candidates kinds ((ap view_type is_type ∙ seen_int) i) ((ap view_value is ∙ valued_int n) i)

pub pair_form : (kinds : List KindData) (ty : Ty) (v : Value) (t u : Box Ty Global) (a b : Box Value Global) → ty ≡ types.Pair t u → v ≡ values.Pair a b
    → value_candidates kinds (view_type ty) (view_value v)
    ≡ map (λ c. pair c (view_value b.value)) (value_candidates kinds (view_type t.value) (view_value a.value)) ++ map (pair (view_value a.value)) (value_candidates kinds (view_type u.value) (view_value b.value))
pair_form kinds ty v t u a b is_type is i = value_candidates kinds ((ap view_type is_type ∙ seen_pair t u) i) ((ap view_value is ∙ valued_pair a b) i)

-- the same of a shared pair
pub pair_data : (kinds : List KindData) (ty : Ty) (d : Data) (t u : Box Ty Global) (a b : Data) → ty ≡ types.Pair t u → d ≡ pair a b
    → value_candidates kinds (view_type ty) d ≡ map (λ c. pair c b) (value_candidates kinds (view_type t.value) a) ++ map (pair a) (value_candidates kinds (view_type u.value) b)
pair_data kinds ty d t u a b is_type is i = value_candidates kinds ((ap view_type is_type ∙ seen_pair t u) i) (is i)
