-- What types are seen as, and that only one type is the same as a type.
use Rattle.std.proofs.Common.{◌≡◌, ℕ, Bool, true, false, ◌&&◌, nat_eq, IsTrue, ◌↔◌, Box, refl, ap, arith, sym, subst}
use Rattle.std.specs.declared.alloc.Global.{Global}
use denote.Hole.Carrier.{out}
use Rattle.qk_value.specs.Types.{TypeData, int_type, bool_type, list_type, pair_type, made_type, same_type}
use Rattle.qk_value.specs.View.{view_type, type_step}
use Rattle.qk_value.specs.declared.ty.Ty.{Ty, out-Ty, map-Ty, fold_out-Ty}
use Rattle.qk_value.specs.declared.ty.Ty.TheBlock as block
use Rattle.qk_value.specs.declared.ty.Ty.TheVariants as types

seen : (o : Ty) → view_type o ≡ type_step (map-Ty Ty TypeData view_type (out-Ty o))
seen o = fold_out-Ty TypeData type_step o

pub unlike_list : (t : TypeData) (o : Ty) → ((x : Box Ty Global) → o ≡ types.List x → ⊥) → false ≡ same_type (list_type t) (view_type o)
unfolding out-Ty out
unlike_list t block.Int other = ap (same_type (list_type t)) (sym (seen block.Int))
unlike_list t block.Bool other = ap (same_type (list_type t)) (sym (seen block.Bool))
unlike_list t (block.List' p v) other = absurd (other (record { ptr = p.ptr; alloc = p.alloc; value = v }) refl)
unlike_list t (block.Pair' p v q w) other = ap (same_type (list_type t)) (sym (seen (block.Pair' p v q w)))
unlike_list t (block.Made k) other = ap (same_type (list_type t)) (sym (seen (block.Made k)))

pub unlike_pair : (t u : TypeData) (o : Ty) → ((x y : Box Ty Global) → o ≡ types.Pair x y → ⊥) → false ≡ same_type (pair_type t u) (view_type o)
unfolding out-Ty out
unlike_pair t u block.Int other = ap (same_type (pair_type t u)) (sym (seen block.Int))
unlike_pair t u block.Bool other = ap (same_type (pair_type t u)) (sym (seen block.Bool))
unlike_pair t u (block.List' p v) other = ap (same_type (pair_type t u)) (sym (seen (block.List' p v)))
unlike_pair t u (block.Pair' p v q w) other =
    absurd (other (record { ptr = p.ptr; alloc = p.alloc; value = v }) (record { ptr = q.ptr; alloc = q.alloc; value = w }) refl)
unlike_pair t u (block.Made k) other = ap (same_type (pair_type t u)) (sym (seen (block.Made k)))

pub unlike_made : (k : ℕ) (o : Ty) → ((x : ℕ) → o ≡ types.Made x → ⊥) → false ≡ same_type (made_type k) (view_type o)
unfolding out-Ty out
unlike_made k block.Int other = ap (same_type (made_type k)) (sym (seen block.Int))
unlike_made k block.Bool other = ap (same_type (made_type k)) (sym (seen block.Bool))
unlike_made k (block.List' p v) other = ap (same_type (made_type k)) (sym (seen (block.List' p v)))
unlike_made k (block.Pair' p v q w) other = ap (same_type (made_type k)) (sym (seen (block.Pair' p v q w)))
unlike_made k (block.Made l) other = absurd (other l refl)

pub seen_list : (x : Box Ty Global) → view_type (types.List x) ≡ list_type (view_type x.value)
unfolding out-Ty out
seen_list x = seen (types.List x)

pub seen_pair : (x y : Box Ty Global) → view_type (types.Pair x y) ≡ pair_type (view_type x.value) (view_type y.value)
unfolding out-Ty out
seen_pair x y = seen (types.Pair x y)

pub seen_made : (k : ℕ) → view_type (types.Made k) ≡ made_type k
unfolding out-Ty out
seen_made k = seen (types.Made k)

both : (b c : Bool) → IsTrue (b && c) → IsTrue b × IsTrue c
both true true h = (h, h)
both true false h = cc
both false c h = cc

same_number : (k l : ℕ) → IsTrue (nat_eq k l) → k ≡ l
same_number k l h = grind arith

itself : (k : ℕ) → IsTrue (nat_eq k k)
itself k = grind arith

same_exact : (t u : TypeData) → IsTrue (same_type t u) → t ≡ u
same_exact int_type int_type h = refl
same_exact bool_type bool_type h = refl
same_exact (list_type t) (list_type u) h = ap list_type (same_exact t u h)
same_exact (pair_type t u) (pair_type v w) h =
    let parts = both (same_type t v) (same_type u w) h in λ i. pair_type (same_exact t v parts.0 i) (same_exact u w parts.1 i)
same_exact (made_type k) (made_type l) h = ap made_type (same_number k l h)
same_exact t u h = cc

conj : (b c : Bool) → IsTrue b → IsTrue c → IsTrue (b && c)
conj true true h k = h
conj true false h k = cc
conj false c h k = cc

same_itself : (t : TypeData) → IsTrue (same_type t t)
same_itself int_type = refl
same_itself bool_type = refl
same_itself (list_type t) = same_itself t
same_itself (pair_type t u) = conj (same_type t t) (same_type u u) (same_itself t) (same_itself u)
same_itself (made_type k) = itself k

pub same_iff : (t u : TypeData) → IsTrue (same_type t u) ↔ (t ≡ u)
same_iff t u = (same_exact t u, λ e. let P : TypeData → Type 0 = λ v. IsTrue (same_type t v) in subst P e (same_itself t))
