-- A part is smaller than its whole, and so is an item of a row that is before the place of a list.
use Rattle.std.specs.Prelude.{ℕ, zero, suc, ◌≡◌, ◌*◌, max, min, ◌+◌, ◌≤◌, ◌<◌, List, [], ◌∷◌, IsTrue, length, drop}
use Rattle.std.proofs.Common.{arith}
use denote.Param.Weighed.{most}
use Rattle.qk_value.specs.Data.{Data, int, bool, list, pair, made, Datas, end, more, datas_of}
use Rattle.qk_value.specs.Measures.{weight, weights, depth, depths}
use Rattle.qk_eval.specs.Nodes.{data_of, IsProper}
use Rattle.qk_eval.specs.Parts.{before, is_list, items_of, joined}
use Rattle.qk_eval.specs.Rows.{Level, row_from}
use Rattle.qk_eval.specs.Sizes.{drop_size}
use Rattle.qk_eval.specs.declared.shared.Node.{Node}
use Rattle.qk_eval.specs.declared.shared.Node.TheVariants.{Int, Bool, Nil, Cons, Row, Pair, Made}
use Rattle.qk_eval.specs.declared.shared.Shared.TheDeep.{deep-Node}

pub weight_some : (d : Data) → 1 ≤ weight d
weight_some (int n) = omega arith
weight_some (bool b) = omega arith
weight_some (list ds) = omega arith
weight_some (pair a b) = omega arith
weight_some (made k m ds) = omega arith

pub weights_joined : (ds es : Datas) → weights (joined ds es) ≡ weights ds + weights es
weights_joined end es = omega arith
weights_joined (more d ds) es = omega (arith, weights_joined ds es)

pub depths_joined : (ds es : Datas) → depths (joined ds es) ≡ max (depths ds) (depths es)
depths_joined end es = omega arith
depths_joined (more d ds) es = omega (arith, depths_joined ds es)

pub depth_items : (d : Data) → IsTrue (is_list d) → depth d ≡ depths (items_of d) + 1
depth_items (list ds) h = omega arith
depth_items (int n) h = cc
depth_items (bool b) h = cc
depth_items (pair a b) h = cc
depth_items (made k m ds) h = cc

pub weight_items : (d : Data) → IsTrue (is_list d) → weight d ≡ weights (items_of d) + 1
weight_items (list ds) h = omega arith
weight_items (int n) h = cc
weight_items (bool b) h = cc
weight_items (pair a b) h = cc
weight_items (made k m ds) h = cc

-- the items from a place on have the depth of all
pub level_seen : (n at : ℕ) (xs : List Data) → Level n xs → at < length xs → depths (datas_of (drop at xs)) ≡ n
level_seen n at [] h l = absurd (omega arith)
level_seen n zero (x ∷ []) h l = omega (arith, h.0)
level_seen n zero (x ∷ y ∷ ys) h l = omega (arith, h.0, level_seen n zero (y ∷ ys) h.1 (omega arith))
level_seen n (suc at) (x ∷ xs) h l = level_seen n at xs h.1 (omega arith)

weight_seen : (at : ℕ) (xs : List Data) → at < length xs → 1 ≤ weights (datas_of (drop at xs))
weight_seen at [] l = absurd (omega arith)
weight_seen zero (x ∷ xs) l = omega (arith, weight_some x)
weight_seen (suc at) (x ∷ xs) l = weight_seen at xs (omega arith)

-- the depth of a row before a list
pub row_depth : (n at : ℕ) (xs : List Data) (rest : Data) → IsTrue (is_list rest) → Level n xs → at < length xs → depth (row_from at xs rest) ≡ max (n + 1) (depth rest)
row_depth n at xs rest h level l =
    omega (arith, depths_joined (datas_of (drop at xs)) (items_of rest), level_seen n at xs level l, depth_items rest h)

row_weight : (at : ℕ) (xs : List Data) (rest : Data) → IsTrue (is_list rest) → at < length xs → weight rest < weight (row_from at xs rest)
row_weight at xs rest h l = omega (arith, weights_joined (datas_of (drop at xs)) (items_of rest), weight_seen at xs l, weight_items rest h)

most_parts : (parts : List Data) → most (λ d. drop_size d + 1) parts ≤ depths (datas_of parts) * 65537 + 65537
most_parts [] = omega arith
most_parts (d ∷ ds) = omega (arith, most_parts ds)

most_level : (n : ℕ) (xs : List Data) → Level n xs → most (λ d. drop_size d + 1) xs ≤ n * 65537 + 65537
most_level n [] h = omega arith
most_level n (x ∷ xs) h = omega (arith, h.0, most_level n xs h.1)

-- the same of three times the sizes, as which a drop is measured
pub most_parts_thrice : (parts : List Data) → most (λ d. 3 * (drop_size d + 1) + 0) parts ≤ 3 * (depths (datas_of parts) * 65537 + 65537)
most_parts_thrice [] = omega arith
most_parts_thrice (d ∷ ds) = omega (arith, most_parts_thrice ds)

pub most_level_thrice : (n : ℕ) (xs : List Data) → Level n xs → most (λ d. 3 * (drop_size d + 1) + 0) xs ≤ 3 * (n * 65537 + 65537)
most_level_thrice n [] h = omega arith
most_level_thrice n (x ∷ xs) h = omega (arith, h.0, most_level_thrice n xs h.1)

pub falls : (n : Node) (w : ℕ) → w ≡ weight (data_of n) → w ≤ 65536 → IsProper n → max (deep-Node n) 0 ≤ drop_size (data_of n)
falls (Int i) w is light h = omega arith
falls (Bool b) w is light h = omega arith
falls Nil w is light h = omega arith
falls (Cons cell) w is light h =
    omega (arith, is, light, weight_some cell.value.first, depth_items cell.value.second h, weight_items cell.value.second h)
falls (Row row at) w is light h =
    let xs = row.value.items.items in
    let rest = row.value.rest in
    omega (arith, is, light, row_depth row.value.level at xs rest h.1 h.2 h.0, row_weight at xs rest h.1 h.0, most_level row.value.level xs h.2)
falls (Pair cell) w is light h = omega arith
falls (Made k m parts) w is light h = omega (arith, most_parts parts.value.items)
