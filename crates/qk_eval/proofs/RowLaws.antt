-- Laws of rows: an item and those behind it, weights and counts.
use Rattle.std.proofs.Common.{◌≡◌, ◌∙◌, ℕ, zero, suc, ◌+◌, ◌-◌, ◌≤◌, ◌<◌, max, List, [], ◌∷◌, drop, take, length, get_or, refl, ap, sym, subst, arith, IsTrue, false}
use Rattle.std.proofs.lemmas.List.{drop_more}
use Rattle.qk_core.specs.declared.expr.Pattern.{Pattern}
use Rattle.qk_core.specs.declared.expr.Pattern.TheVariants.{Nil, Cons, Pair, Maker}
use Rattle.qk_value.specs.Data.{Data, Datas, list, more, datas_of, listed_data}
use Rattle.qk_value.specs.Measures.{weights, weight, depth, IsSmall}
use Rattle.qk_eval.specs.Falls.{row_depth, weights_joined, weight_items}
use Rattle.qk_eval.specs.Parts.{count, fits, items_of, is_list, joined}
use Rattle.qk_eval.specs.Rows.{Level, row_from}
use Rattle.qk_eval.specs.declared.shared.Row.{Row}

level_suc : (n i : ℕ) (xs : List Data) (d : Data) → i < length xs → Level n (take i xs) → depth (get_or xs i d) ≡ n → Level n (take (suc i) xs)
level_suc n i [] d h all is = absurd (omega arith)
level_suc n zero (x ∷ xs) d h all is = (is, tt)
level_suc n (suc i) (x ∷ xs) d h all is = (all.0, level_suc n i xs d (omega arith) all.1 is)

-- one more item of that depth
pub level_next : (n i : ℕ) (xs : List Data) (d : Data) → i < length xs → Level n (take i xs) → depth (get_or xs i d) ≡ n → Level n (take (i + 1) xs)
level_next n i xs d h all is =
    let one : suc i ≡ i + 1 = omega arith in
    subst (λ m. Level n (take m xs)) one (level_suc n i xs d h all is)

-- the first item from a place on, and those behind it
pub row_next : (at : ℕ) (xs : List Data) (rest d : Data) → at < length xs
    → row_from at xs rest ≡ list (more (get_or xs at d) (items_of (row_from (at + 1) xs rest)))
row_next at xs rest d h i = list (joined (datas_of (drop_more xs at d h i)) (items_of rest))

-- no other pattern takes a list that has an item
pub fits_cons_alone : (p : Pattern) → (p ≡ Cons → ⊥) → (d : Data) (ds : Datas) → false ≡ fits p (list (more d ds))
fits_cons_alone Nil other d ds = refl
fits_cons_alone Cons other d ds = absurd (other refl)
fits_cons_alone Pair other d ds = refl
fits_cons_alone (Maker kind maker) other d ds = refl

count_joined : (xs : List Data) (ds : Datas) → count (joined (datas_of xs) ds) ≡ length xs + count ds
count_joined [] ds = omega arith
count_joined (x ∷ xs) ds = omega (arith, count_joined xs ds)

-- how many items there are from a place on
pub row_count : (at : ℕ) (xs : List Data) (rest : Data) → at ≤ length xs → count (items_of (row_from at xs rest)) ≡ (length xs - at) + count (items_of rest)
row_count zero xs rest h = omega (arith, count_joined xs (items_of rest))
row_count (suc at) [] rest h = absurd (omega arith)
row_count (suc at) (x ∷ xs) rest h = omega (arith, row_count at xs rest (omega arith))

-- what is behind an item is small
pub small_later : (at n : ℕ) (xs : List Data) (rest : Data) → at ≤ n → IsSmall (row_from at xs rest) → IsSmall (row_from n xs rest)
small_later zero zero xs rest h small = small
small_later zero (suc n) [] rest h small = small
small_later zero (suc n) (x ∷ xs) rest h small = small_later zero n xs rest (omega arith) (omega (arith, small.0), omega (arith, small.1))
small_later (suc at) zero xs rest h small = absurd (omega arith)
small_later (suc at) (suc n) [] rest h small = small
small_later (suc at) (suc n) (x ∷ xs) rest h small = small_later at n xs rest (omega arith) small

-- the items from a later place on are those without the items between
pub listed_later : (at left n : ℕ) (xs : List Data) (rest : Data) → n ≡ at + left → n ≤ length xs
    → listed_data (items_of (row_from n xs rest)) ≡ drop left (listed_data (items_of (row_from at xs rest)))
listed_later zero zero zero xs rest is h = refl
listed_later zero zero (suc n) xs rest is h = absurd (omega arith)
listed_later zero (suc left) zero xs rest is h = absurd (omega arith)
listed_later zero (suc left) (suc n) [] rest is h = absurd (omega arith)
listed_later zero (suc left) (suc n) (x ∷ xs) rest is h = listed_later zero left n xs rest (omega arith) (omega arith)
listed_later (suc at) left zero xs rest is h = absurd (omega arith)
listed_later (suc at) left (suc n) [] rest is h = absurd (omega arith)
listed_later (suc at) left (suc n) (x ∷ xs) rest is h = listed_later at left n xs rest (omega arith) (omega arith)

-- behind all of a row's items are those of its rest
pub listed_past : (at left less : ℕ) (xs : List Data) (rest : Data) → at ≤ length xs → left ≡ less + (length xs - at)
    → drop less (listed_data (items_of rest)) ≡ drop left (listed_data (items_of (row_from at xs rest)))
listed_past zero left less [] rest h is =
    let same : less ≡ left = omega arith in
    ap (λ n. drop n (listed_data (items_of rest))) same
listed_past zero zero less (x ∷ xs) rest h is = absurd (omega arith)
listed_past zero (suc left) less (x ∷ xs) rest h is = listed_past zero left less xs rest (omega arith) (omega arith)
listed_past (suc at) left less [] rest h is = absurd (omega arith)
listed_past (suc at) left less (x ∷ xs) rest h is = listed_past at left less xs rest (omega arith) (omega arith)

-- a level is less than the depth of its row
pub level_below : (n at : ℕ) (xs : List Data) (rest : Data) → IsTrue (is_list rest) → Level n xs → at < length xs → IsSmall (row_from at xs rest) → n < 200
level_below n at xs rest is level within small = omega (arith, row_depth n at xs rest is level within, small.1)

pub row_small : (n : ℕ) (xs : List Data) (rest : Data) → IsTrue (is_list rest) → Level n xs → 0 < length xs → n < 200 → IsSmall rest → weights (datas_of xs) + weight rest ≤ 65536
    → IsSmall (row_from 0 xs rest)
row_small n xs rest is level some below small light =
    (omega (arith, weights_joined (datas_of xs) (items_of rest), weight_items rest is, light), omega (arith, row_depth n 0 xs rest is level some, below, small.1))

-- what is kept with a list that stands in a row
abbrev pub Keeps : Row → ℕ → ℕ → ℕ → Type 0
Keeps r at w d = (w ≡ weight (row_from at r.items.items r.rest)) × (d ≡ depth (row_from at r.items.items r.rest)) × (w ≤ 65536) × (d ≤ 200)
    × ((at < length r.items.items) × IsTrue (is_list r.rest) × Level r.level r.items.items)

pub keeps : (r : Row) (at w d : ℕ) → IsTrue (is_list r.rest) → Level r.level r.items.items → at < length r.items.items → w ≡ weight (row_from at r.items.items r.rest)
    → IsSmall (row_from at r.items.items r.rest) → d ≡ max (r.level + 1) (depth r.rest) → Keeps r at w d
keeps r at w d is level within weighs small deep =
    let depth_is = row_depth r.level at r.items.items r.rest is level within in
    (weighs, omega (arith, deep, depth_is), omega (arith, weighs, small.0), omega (arith, deep, depth_is, small.1), (within, is, level))
