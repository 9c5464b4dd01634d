-- Laws of lists of values: how many they are, what is joined.
use Rattle.std.proofs.Common.{◌≡◌, ℕ, suc, ◌+◌, ◌≤◌, ◌<◌, max, List, [], ◌∷◌, ◌++◌, zero, drop, length, min, get_or, refl, IsTrue, ap, ◌∙◌, arith, Ok, Err}
use Rattle.std.proofs.lemmas.Bool.Decides.{nat_tests}
use Rattle.std.specs.Ordering.{nat_cmp}
use Rattle.qk_base.specs.declared.outcome.Cause.{Cause}
use Rattle.qk_value.specs.Data.{Data, int, bool, list, pair, made, Datas, end, more, datas_of}
use Rattle.qk_value.specs.Measures.{weights, weight, depths, depth, IsSmall}
use Rattle.qk_value.specs.Order.{compare_all}
use Rattle.qk_eval.specs.Falls.{weight_some, weights_joined, depths_joined}
use Rattle.qk_eval.specs.Sizes.{data_size, datas_size}
use Rattle.qk_value.specs.View.{view_value, view_values}
use Rattle.qk_value.specs.declared.value.Value.{Value}
use Rattle.qk_eval.specs.Parts.{count, joined, small, is_list, items_of}

pub count_weights : (ds : Datas) → count ds ≤ weights ds
count_weights end = omega arith
count_weights (more d ds) = omega (arith, weight_some d, count_weights ds)

pub joined_push : (xs : List Data) (x : Data) (es : Datas) → joined (datas_of (xs ++ x ∷ [])) es ≡ joined (datas_of xs) (more x es)
joined_push [] x es = refl
joined_push (y ∷ ys) x es = ap (more y) (joined_push ys x es)

pub view_push : (vs : List Value) (v : Value) (es : Datas) → joined (view_values (vs ++ v ∷ [])) es ≡ joined (view_values vs) (more (view_value v) es)
view_push [] v es = refl
view_push (x ∷ xs) v es = ap (more (view_value x)) (view_push xs v es)

pub joined_end : (ds : Datas) → joined ds end ≡ ds
joined_end end = refl
joined_end (more d ds) = ap (more d) (joined_end ds)

-- where the end of a list is refused, so is the list, for the same cause
pub refused : (xs : List Data) (x : Data) (es : Datas) (c : Cause) → depths (datas_of xs) < 200 → depth x < 200 → depths es < 200 → small (list (more x es)) ≡ Err c → small (list (joined (datas_of xs) (more x es))) ≡ Err c
refused xs x es c hxs hx hes h = grind (arith, nat_tests, weights_joined (datas_of xs) (more x es), depths_joined (datas_of xs) (more x es))

pub depths_push : (xs : List Data) (x : Data) → depths (datas_of (xs ++ x ∷ [])) ≡ max (depth x) (depths (datas_of xs))
depths_push [] x = omega arith
depths_push (y ∷ ys) x = omega (arith, depths_push ys x)

pub items_count : (d : Data) → count (items_of d) ≤ weight d
items_count (list ds) = omega (arith, count_weights ds)
items_count (int n) = omega arith
items_count (bool b) = omega arith
items_count (pair a b) = omega arith
items_count (made k m ds) = omega arith

pub small_ok : (d : Data) → IsSmall d → small d ≡ Ok d
small_ok d h = grind (arith, nat_tests, h.0, h.1)

-- an item is smaller than the list
pub item_falls : (xs : List Data) (i : ℕ) (d : Data) → i < length xs → data_size (get_or xs i d) < datas_size (datas_of xs)
item_falls [] i d h = absurd (omega arith)
item_falls (x ∷ xs) zero d h = omega arith
item_falls (x ∷ xs) (suc i) d h = omega (arith, item_falls xs i d (omega arith))

pub size_some : (d : Data) → 1 ≤ data_size d
size_some (int n) = omega arith
size_some (bool b) = omega arith
size_some (list ds) = omega arith
size_some (pair a b) = omega arith
size_some (made k m ds) = omega arith

nat_cmp-suc : (m n : ℕ) → nat_cmp m n ≡ nat_cmp (suc m) (suc n)
nat_cmp-suc m n = grind (arith, nat_tests)

-- where one of two lists ends, the lengths decide
pub ends : (i : ℕ) (xs ys : List Data) → i ≡ min (length xs) (length ys) → compare_all (datas_of (drop i xs)) (datas_of (drop i ys)) ≡ nat_cmp (length xs) (length ys)
ends zero [] [] e = refl
ends zero [] (y ∷ ys) e = grind (arith, nat_tests)
ends zero (x ∷ xs) [] e = grind (arith, nat_tests)
ends zero (x ∷ xs) (y ∷ ys) e = absurd (omega arith)
ends (suc i) [] ys e = absurd (omega arith)
ends (suc i) (x ∷ xs) [] e = absurd (omega arith)
ends (suc i) (x ∷ xs) (y ∷ ys) e = ends i xs ys (omega arith) ∙ nat_cmp-suc (length xs) (length ys)
