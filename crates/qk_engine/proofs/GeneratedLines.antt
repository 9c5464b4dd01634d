-- The lines of a generated file that are left.
use Rattle.std.proofs.Common.{◌≡◌, ◌∙◌, ℕ, suc, ◌+◌, ◌-◌, ◌<◌, ◌≤◌, List, ◌++◌, sym, ap, append_assoc, append-nil, arith}
use Rattle.qk_engine.specs.Generated.{lines_from, property_line}

left_is : (count i : ℕ) → i < count → lines_from i (count - i) ≡ property_line i ++ lines_from (i + 1) (count - (i + 1))
left_is count i below =
    let one : count - i ≡ suc (count - (i + 1)) = omega (arith, below) in
    ap (lines_from i) one

pub lines_next : (count i : ℕ) (now next whole : List ℕ) → i < count → next ≡ now ++ property_line i → now ++ lines_from i (count - i) ≡ whole → next ++ lines_from (i + 1) (count - (i + 1)) ≡ whole
lines_next count i now next whole below added so_far =
    ap (λ t. t ++ lines_from (i + 1) (count - (i + 1))) added ∙ append_assoc now (property_line i) (lines_from (i + 1) (count - (i + 1))) ∙ ap (λ t. now ++ t) (sym (left_is count i below)) ∙ so_far

pub lines_end : (count i : ℕ) (now whole : List ℕ) → count ≤ i → now ++ lines_from i (count - i) ≡ whole → now ≡ whole
lines_end count i now whole past so_far =
    let none : count - i ≡ 0 = omega (arith, past) in
    sym (append-nil now) ∙ ap (λ n. now ++ lines_from i n) (sym none) ∙ so_far
