-- All values of a type up to a depth, in order, after SmallCheck.
use Rattle.std.specs.Prelude.{ℕ, zero, suc, ◌+◌, ℤ, pos, neg_ℤ, true, false, List, [], ◌∷◌, ◌++◌, map, Option, Some, None, slice_get}
use Rattle.qk_value.specs.Data.{Data, int, bool, list, pair, made, end, datas_of}
use Rattle.qk_value.specs.Kinds.{MakerData, KindData}
use Rattle.qk_value.specs.Types.{TypeData, int_type, bool_type, list_type, pair_type, made_type}
use Rattle.qk_series.specs.Small.{before}

-- what f makes of a value of each list, the first list's being the slower
abbrev pub crossed : {X Y Z : Type 0} → (X → Y → Z) → List X → List Y → List Z
crossed f [] ys = []
crossed f (x ∷ xs) ys = map (f x) ys ++ crossed f xs ys

-- all lists of one value of each list, those of earlier lists being slower
abbrev pub tuples : {X : Type 0} → List (List X) → List (List X)
tuples [] = [] ∷ []
tuples (xs ∷ rest) = crossed (λ x others. x ∷ others) xs (tuples rest)

-- 0, 1, -1, 2, -2 and so on, up to d and -d
abbrev pub numbers : ℕ → List ℤ
numbers zero = pos 0 ∷ []
numbers (suc d) = numbers d ++ pos (suc d) ∷ neg_ℤ (pos (suc d)) ∷ []

-- the values by each maker, in order, with the values that its fields have below
abbrev pub made_values : (TypeData → List Data) → ℕ → ℕ → List MakerData → List Data
made_values lower kind m [] = []
made_values lower kind m (maker ∷ makers) = map (λ parts. made kind m (datas_of parts)) (tuples (map lower maker.fields)) ++ made_values lower kind (m + 1) makers

abbrev pub makers_of : Option KindData → List MakerData
makers_of None = []
makers_of (Some kind) = kind.makers

-- the values of a type at a depth, from the values that types have below: those of items, of lists' rests and of makers' fields
abbrev pub series_over : List KindData → ℕ → (TypeData → List Data) → TypeData → List Data
series_over kinds d lower int_type = map int (numbers d)
series_over kinds d lower bool_type = bool false ∷ bool true ∷ []
series_over kinds d lower (list_type t) = list end ∷ crossed before (lower t) (lower (list_type t))
series_over kinds d lower (pair_type t u) = crossed pair (series_over kinds d lower t) (series_over kinds d lower u)
series_over kinds d lower (made_type k) = made_values lower k 0 (makers_of (slice_get kinds k))

-- the values of a type at the depth below; there is none below 0
abbrev pub below : List KindData → ℕ → TypeData → List Data
below kinds zero t = []
below kinds (suc d) t = series_over kinds d (below kinds d) t

abbrev pub series : List KindData → ℕ → TypeData → List Data
series kinds d t = series_over kinds d (below kinds d) t
