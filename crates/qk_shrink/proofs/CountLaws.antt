-- How many candidates a value has, form by form.
use Rattle.std.proofs.Common.{◌≡◌, ◌∙◌, ℕ, zero, suc, ◌+◌, ◌≤◌, ℤ, List, [], ◌∷◌, ◌++◌, map, drop, length, ap, arith}
use Rattle.std.proofs.lemmas.List.{length-append, length-map}
use Rattle.qk_value.specs.Data.{Data, int, bool, list, pair, made, Datas, datas_of, listed_data}
use Rattle.qk_value.specs.Measures.{weight, weights}
use Rattle.qk_value.specs.View.{view_value, view_values}
use Rattle.qk_value.specs.declared.value.Value.{Value}
use Rattle.qk_eval.proofs.SharedLaws.{listed_again}
use Rattle.qk_shrink.specs.Blocks.{blocks, without, removals}
use Rattle.qk_shrink.specs.Numbers.{number_candidates}

pub weight_some : (d : Data) → 1 ≤ weight d
weight_some (int n) = omega arith
weight_some (bool b) = omega arith
weight_some (list ds) = omega arith
weight_some (pair a b) = omega arith
weight_some (made k m ds) = omega arith

-- each value weighs something
pub length_weights : (xs : List Value) → length xs ≤ weights (view_values xs)
length_weights [] = omega arith
length_weights (x ∷ xs) = omega (arith, weight_some (view_value x), length_weights xs)

pub length_drop : {X : Type 0} (n : ℕ) (xs : List X) → length xs ≤ n + length (drop n xs)
length_drop zero xs = omega arith
length_drop (suc n) [] = omega arith
length_drop (suc n) (x ∷ xs) = omega (arith, length_drop n xs)

pub many_removals : (xs : List Value) → length (removals (listed_data (view_values xs))) ≡ length (blocks (length xs))
many_removals xs =
    let values = listed_again (map view_value xs) in
    ap (λ ds. length (removals ds)) values
    ∙ length-map (blocks (length (map view_value xs))) (without (map view_value xs))
    ∙ ap (λ n. length (blocks n)) (length-map xs view_value)

pub count_int : (n : ℤ) → length (map int (number_candidates n)) ≡ length (number_candidates n)
count_int n = length-map (number_candidates n) int

pub count_pair : (a b : Data) (firsts seconds : List Data) → length (map (λ c. pair c b) firsts ++ map (pair a) seconds) ≡ length firsts + length seconds
count_pair a b firsts seconds =
    length-append (map (λ c. pair c b) firsts) (map (pair a) seconds)
    ∙ (λ i. length-map firsts (λ c. pair c b) i + length-map seconds (pair a) i)

pub count_list : (xs : List Value) (others : List Datas)
    → length (map list (map datas_of (removals (listed_data (view_values xs))) ++ others)) ≡ length (blocks (length xs)) + length others
count_list xs others =
    let removed = removals (listed_data (view_values xs)) in
    length-map (map datas_of removed ++ others) list
    ∙ length-append (map datas_of removed) others
    ∙ ap (λ n. n + length others) (length-map removed datas_of ∙ many_removals xs)

pub count_made : (k m : ℕ) (own : List Data) (others : List Datas) → length (own ++ map (made k m) others) ≡ length own + length others
count_made k m own others = length-append own (map (made k m) others) ∙ ap (λ n. length own + n) (length-map others (made k m))
