-- The blocks that are taken out of a list.
use Rattle.std.specs.Prelude.{ℕ, ◌*◌, ◌+◌, ◌/◌, List, ◌++◌, map, take, drop, length}
use Rattle.std.specs.List.{range_with_len, flat_map}
use Rattle.qk_shrink.specs.Halves.{halves}
use Rattle.qk_shrink.specs.declared.blocks.Block.{Block}

-- the first block of that size in a list of n items, the second and so on; a shorter rest is no block
abbrev pub blocks_of_size : ℕ → ℕ → List Block
blocks_of_size n size = map (λ i. record { at = i * size; size = size }) (range_with_len 0 (n / size))

-- the blocks of n items, then those of n/2, of n/4 and so on
abbrev pub blocks : ℕ → List Block
blocks n = flat_map (blocks_of_size n) (halves n)

-- the list without that block
abbrev pub without : {X : Type 0} → List X → Block → List X
without xs block = take block.at xs ++ drop (block.at + block.size) xs

-- the list without each of its blocks
abbrev pub removals : {X : Type 0} → List X → List (List X)
removals xs = map (without xs) (blocks (length xs))
