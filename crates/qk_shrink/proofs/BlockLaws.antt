-- Laws of the blocks of a list.
use Rattle.std.proofs.Common.{◌≡◌, ◌∙◌, ℕ, zero, suc, ◌+◌, ◌*◌, ◌-◌, ◌/◌, ◌≤◌, ◌<◌, List, [], ◌∷◌, ◌++◌, take, drop, length, sym, ap, arith}
use Rattle.std.specs.List.{flat_map}
use Rattle.std.proofs.lemmas.List.{length-append, take_all}
use Rattle.std.proofs.lemmas.List.FromFn.{length-map-range_with_len, get_or-map-range_with_len}
use Rattle.std.proofs.Math.Nat.{mul-le-mul_left, mul-div-le, div-le_self}
use Rattle.qk_shrink.specs.Blocks.{blocks_of_size}
use Rattle.qk_shrink.specs.Halves.{halves}
use Rattle.qk_shrink.specs.Sought.{sought}
use Rattle.qk_shrink.specs.declared.blocks.Block.{Block}
use Rattle.qk_shrink.specs.declared.sought.Sought.TheVariants.{Here, Past}
use Rattle.qk_shrink.proofs.HalfLaws.{halves_more, few_halves}
use Rattle.qk_shrink.proofs.SoughtLaws.{sought_here, sought_past, in_first, past_first}

pub many_blocks : (n size : ℕ) → length (blocks_of_size n size) ≡ n / size
many_blocks n size = length-map-range_with_len _ 0 (n / size)

-- the blocks of the sizes that are left
abbrev pub blocks_from : ℕ → ℕ → List Block
blocks_from n size = flat_map (blocks_of_size n) (halves size)

-- those of the first size, and of its half and so on
pub blocks_more : (n size : ℕ) → 0 < size → blocks_from n size ≡ blocks_of_size n size ++ blocks_from n (size / 2)
blocks_more n size h = ap (flat_map (blocks_of_size n)) (halves_more size h)

pub count_more : (n size : ℕ) → 0 < size → length (blocks_from n size) ≡ n / size + length (blocks_from n (size / 2))
count_more n size h =
    ap length (blocks_more n size h) ∙ length-append (blocks_of_size n size) (blocks_from n (size / 2))
    ∙ ap (λ m. m + length (blocks_from n (size / 2))) (many_blocks n size)

few_each : (n : ℕ) (sizes : List ℕ) → length (flat_map (blocks_of_size n) sizes) ≤ length sizes * n
few_each n [] = omega arith
few_each n (size ∷ sizes) =
    omega (arith, length-append (blocks_of_size n size) (flat_map (blocks_of_size n) sizes), many_blocks n size, div-le_self n size, few_each n sizes)

-- a list that is no longer than a small one has few blocks for each item
pub few_blocks : (n size : ℕ) → size ≤ 65536 → length (blocks_from n size) ≤ 20 * n
few_blocks n size h =
    omega (arith, few_each n (halves size), mul-le-mul_left n (few_halves 17 size (omega (arith, h))))

block_at : (n size k : ℕ) → k < n / size → Here (record { at = k * size; size = size }) ≡ sought (blocks_of_size n size) k
block_at n size k h =
    let block : Block = record { at = k * size; size = size } in
    sym (sought_here (blocks_of_size n size) k block (omega (arith, h, many_blocks n size))
    ∙ ap Here (get_or-map-range_with_len (λ i. record { at = i * size; size = size }) 0 (n / size) k k block h (omega arith)))

-- the block of that size and number
pub block_here : (n size k : ℕ) → 0 < size → k < n / size → Here (record { at = k * size; size = size }) ≡ sought (blocks_from n size) k
block_here n size k some h =
    in_first (blocks_of_size n size) (blocks_from n (size / 2)) k _ (block_at n size k h)
    ∙ ap (λ blocks. sought blocks k) (sym (blocks_more n size some))

-- past the blocks of that size the search goes on at its half
pub block_past : (n size k : ℕ) → 0 < size → n / size ≤ k → sought (blocks_from n (size / 2)) (k - n / size) ≡ sought (blocks_from n size) k
block_past n size k some h =
    let past = sought_past (blocks_of_size n size) k (omega (arith, h, many_blocks n size)) ∙ ap (λ m. Past (k - m)) (many_blocks n size) in
    past_first (blocks_of_size n size) (blocks_from n (size / 2)) k (k - n / size) (sym past)
    ∙ ap (λ blocks. sought blocks k) (sym (blocks_more n size some))

-- a block lies inside the list
pub inside : (n size k : ℕ) → k < n / size → k * size + size ≤ n
inside n size k h =
    let next : suc k ≤ n / size = omega (arith, h) in
    omega (arith, mul-le-mul_left size next, mul-div-le n size)

pub whole_rest : {X : Type 0} (n : ℕ) (xs : List X) → take (length xs - n) (drop n xs) ≡ drop n xs
whole_rest zero xs = take_all (length xs - 0) xs (omega arith)
whole_rest (suc n) [] = take_all (0 - suc n) [] (omega arith)
whole_rest (suc n) (x ∷ xs) = ap (λ m. take m (drop n xs)) (omega arith) ∙ whole_rest n xs
