-- Worked examples.
use Rattle.std.proofs.Common.{◌≡◌, pos, negsuc, [], ◌∷◌, length, refl, codes}
use Rattle.qk_value.specs.Data.{int, bool, pair}
use Rattle.qk_value.specs.Kinds.{KindData}
use Rattle.qk_value.specs.Types.{int_type, bool_type, list_type, pair_type, made_type}
use Rattle.std.specs.Prelude.{List, true, false}
use Rattle.qk_series.specs.Series.{numbers, series}

numbers_in_turn : numbers 2 ≡ pos 0 ∷ pos 1 ∷ negsuc 0 ∷ pos 2 ∷ negsuc 1 ∷ []
numbers_in_turn = refl

-- (type T (Leaf) (Node T Int T))
abbrev trees : List KindData
trees = record {
  name = codes "T";
  makers = record { name = codes "Leaf"; fields = [] } ∷ record { name = codes "Node"; fields = made_type 0 ∷ int_type ∷ made_type 0 ∷ [] } ∷ [];
} ∷ []

no_trees_below : length (series trees 0 (made_type 0)) ≡ 1
no_trees_below = refl

small_trees : length (series trees 1 (made_type 0)) ≡ 2
small_trees = refl

more_trees : length (series trees 2 (made_type 0)) ≡ 13
more_trees = refl

lists_of_truths : length (series [] 2 (list_type bool_type)) ≡ 7
lists_of_truths = refl

first_is_slower : series [] 0 (pair_type bool_type int_type) ≡ pair (bool false) (int (pos 0)) ∷ pair (bool true) (int (pos 0)) ∷ []
first_is_slower = refl
