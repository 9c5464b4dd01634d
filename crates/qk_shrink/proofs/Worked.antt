-- Candidates, worked out by computation.
use Rattle.std.specs.Prelude.{◌≡◌, ℕ, pos, negsuc, neg_ℤ, true, false, List, [], ◌∷◌, refl, ◌-◌, ◌^◌, length, take, map}
use Rattle.qk_core.specs.GenData.{any_number}
use Rattle.qk_core.specs.Program.{ProgramData}
use Rattle.qk_core.specs.Properties.{BinderData, plain}
use Rattle.qk_core.specs.declared.property.ShrinkBy.{ShrinkBy}
use Rattle.qk_core.specs.declared.property.ShrinkBy.TheVariants.{Builtin, Function, Nothing}
use Rattle.qk_value.specs.Data.{Data, int, bool, list, pair, made, end, datas_of}
use Rattle.qk_value.specs.Kinds.{KindData}
use Rattle.qk_value.specs.Types.{TypeData, int_type, bool_type, list_type, pair_type, made_type}
use Rattle.qk_shrink.specs.Candidates.{value_candidates}
use Rattle.qk_shrink.specs.Numbers.{number_candidates, truth_candidates}
use Rattle.qk_shrink.specs.Tuples.{candidates}

eight : number_candidates (pos 8) ≡ pos 0 ∷ pos 4 ∷ pos 6 ∷ pos 7 ∷ []
eight = refl

eight_below : number_candidates (neg_ℤ (pos 8)) ≡ pos 8 ∷ pos 0 ∷ neg_ℤ (pos 4) ∷ neg_ℤ (pos 6) ∷ neg_ℤ (pos 7) ∷ []
eight_below = refl

six : number_candidates (pos 6) ≡ pos 0 ∷ pos 3 ∷ pos 5 ∷ []
six = refl

one_below : number_candidates (neg_ℤ (pos 1)) ≡ pos 1 ∷ pos 0 ∷ []
one_below = refl

none_of_zero : number_candidates (pos 0) ≡ []
none_of_zero = refl

-- the least number has no opposite
least_first : take 2 (number_candidates (negsuc (2 ^ 63 - 1))) ≡ pos 0 ∷ neg_ℤ (pos (2 ^ 62)) ∷ []
least_first = refl

least_many : length (number_candidates (negsuc (2 ^ 63 - 1))) ≡ 64
least_many = refl

greatest_many : length (number_candidates (pos (2 ^ 63 - 1))) ≡ 63
greatest_many = refl

truths : truth_candidates true ≡ false ∷ []
truths = refl

abbrev ints : List ℕ → Data
ints ns = list (datas_of (map (λ n. int (pos n)) ns))

threes : value_candidates [] (list_type int_type) (ints (3 ∷ 3 ∷ 3 ∷ []))
    ≡ ints [] ∷ ints (3 ∷ 3 ∷ []) ∷ ints (3 ∷ 3 ∷ []) ∷ ints (3 ∷ 3 ∷ []) ∷ ints (0 ∷ 3 ∷ 3 ∷ []) ∷ ints (2 ∷ 3 ∷ 3 ∷ []) ∷ ints (3 ∷ 0 ∷ 3 ∷ []) ∷ ints (3 ∷ 2 ∷ 3 ∷ []) ∷ ints (3 ∷ 3 ∷ 0 ∷ [])
    ∷ ints (3 ∷ 3 ∷ 2 ∷ []) ∷ []
threes = refl

-- blocks of 5, of 2 and of 1; the fifth item alone is no block of 2
fives : take 4 (value_candidates [] (list_type int_type) (ints (1 ∷ 2 ∷ 3 ∷ 4 ∷ 5 ∷ []))) ≡ ints [] ∷ ints (3 ∷ 4 ∷ 5 ∷ []) ∷ ints (1 ∷ 2 ∷ 5 ∷ []) ∷ ints (2 ∷ 3 ∷ 4 ∷ 5 ∷ []) ∷ []
fives = refl

pairs : value_candidates [] (pair_type int_type bool_type) (pair (int (pos 3)) (bool true)) ≡ pair (int (pos 0)) (bool true) ∷ pair (int (pos 2)) (bool true) ∷ pair (int (pos 3)) (bool false) ∷ []
pairs = refl

-- (data Tree (Leaf) (Node Tree Int Tree (List Tree)))
abbrev trees : List KindData
trees =
    record {
      name = [];
      makers = record { name = []; fields = [] } ∷ record { name = []; fields = made_type 0 ∷ int_type ∷ made_type 0 ∷ list_type (made_type 0) ∷ [] } ∷ [];
    }
    ∷ []

abbrev leaf : Data
leaf = made 0 0 end

abbrev node : Data → ℕ → Data → List Data → Data
node left n right others = made 0 1 (datas_of (left ∷ int (pos n) ∷ right ∷ list (datas_of others) ∷ []))

-- first the two trees, and none of those in the list
tree : value_candidates trees (made_type 0) (node leaf 1 (node leaf 0 leaf []) (leaf ∷ []))
    ≡ leaf ∷ node leaf 0 leaf [] ∷ node leaf 0 (node leaf 0 leaf []) (leaf ∷ []) ∷ node leaf 1 leaf (leaf ∷ []) ∷ node leaf 1 leaf (leaf ∷ []) ∷ node leaf 1 (node leaf 0 leaf []) [] ∷ []
tree = refl

abbrev binder : TypeData → ShrinkBy → BinderData
binder t s = record { name = []; ty = t; draw = plain any_number; shrink = s }

abbrev no_program : ProgramData
no_program = record { kinds = []; functions = []; generators = []; models = []; properties = [] }

two_binders : candidates no_program (binder int_type Builtin ∷ binder bool_type Builtin ∷ []) (int (pos 3) ∷ bool true ∷ []) 9
    ≡ (int (pos 0) ∷ bool true ∷ []) ∷ (int (pos 2) ∷ bool true ∷ []) ∷ (int (pos 3) ∷ bool false ∷ []) ∷ []
two_binders = refl

-- a function that is called without a unit crashes, and then there are none
not_shrunk : candidates no_program (binder int_type Nothing ∷ binder int_type (Function 0) ∷ []) (int (pos 3) ∷ int (pos 3) ∷ []) 0 ≡ []
not_shrunk = refl
