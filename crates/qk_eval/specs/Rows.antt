-- Items of one depth side by side, before a list.
use Rattle.std.specs.Prelude.{ℕ, ◌≡◌, List, [], ◌∷◌, drop}
use Rattle.qk_value.specs.Data.{Data, list, datas_of}
use Rattle.qk_value.specs.Measures.{depth}
use Rattle.qk_eval.specs.Parts.{items_of, joined}

-- each item has that depth
abbrev pub Level : ℕ → List Data → Type 0
Level n [] = Unit {0}
Level n (x ∷ xs) = (depth x ≡ n) × Level n xs

-- the items from that place on, and then a list's
abbrev pub row_from : ℕ → List Data → Data → Data
row_from at items rest = list (joined (datas_of (drop at items)) (items_of rest))
