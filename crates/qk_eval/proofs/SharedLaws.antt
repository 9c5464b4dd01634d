-- Laws of shared values.
use Rattle.std.proofs.Common.{◌≡◌, ℕ, ◌+◌, max, List, [], ◌∷◌, ◌++◌, refl, ap, ◌∙◌, arith, ◌<◌, length, take, get_or, IsTrue}
use Rattle.std.proofs.lemmas.List.{take_more}
use Rattle.qk_value.specs.Data.{Data, int, bool, list, pair, made, datas_of, listed_data}
use Rattle.qk_value.specs.Measures.{weights, weight, depths, depth}
use Rattle.qk_eval.specs.Parts.{items_of, is_list}

pub weight_push : (xs : List Data) (x : Data) → weights (datas_of (xs ++ x ∷ [])) ≡ weights (datas_of xs) + weight x
weight_push [] x = omega arith
weight_push (y ∷ ys) x = omega (arith, weight_push ys x)

pub depth_push : (xs : List Data) (x : Data) → depths (datas_of (xs ++ x ∷ [])) ≡ max (depth x) (depths (datas_of xs))
depth_push [] x = omega arith
depth_push (y ∷ ys) x = omega (arith, depth_push ys x)

pub listed_again : (xs : List Data) → listed_data (datas_of xs) ≡ xs
listed_again [] = refl
listed_again (x ∷ xs) = ap (λ l. x ∷ l) (listed_again xs)

-- a list is the list of its items
pub list_again : (d : Data) → IsTrue (is_list d) → list (items_of d) ≡ d
list_again (list ds) h = refl
list_again (int n) h = cc
list_again (bool b) h = cc
list_again (pair a b) h = cc
list_again (made k m ds) h = cc

pub weight_more : (xs : List Data) (i : ℕ) (d : Data) → i < length xs → weights (datas_of (take (i + 1) xs)) ≡ weights (datas_of (take i xs)) + weight (get_or xs i d)
weight_more xs i d h = ap (λ l. weights (datas_of l)) (take_more xs i d h) ∙ weight_push (take i xs) (get_or xs i d)

pub depth_more : (xs : List Data) (i : ℕ) (d : Data) → i < length xs → depths (datas_of (take (i + 1) xs)) ≡ max (depth (get_or xs i d)) (depths (datas_of (take i xs)))
depth_more xs i d h = ap (λ l. depths (datas_of l)) (take_more xs i d h) ∙ depth_push (take i xs) (get_or xs i d)
