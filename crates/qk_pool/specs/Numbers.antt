-- The numbers of what was taken.
use Rattle.std.specs.Prelude.{◌≡◌, ℕ, suc, ◌≤◌, Bool, true, ◌&&◌, nat_le, nat_eq, cond, List, [], ◌∷◌}
use Rattle.qk_totals.specs.Totals.{times, total}
use Rattle.qk_pool.specs.declared.taken.Taken.{Taken}
use Rattle.qk_pool.specs.declared.taken.Taken.TheVariants.{Job, End}

-- the numbers of the jobs, in order
abbrev pub numbers_of : List Taken → List ℕ
numbers_of [] = []
numbers_of (Job n i ∷ xs) = n ∷ numbers_of xs
numbers_of (End ∷ xs) = numbers_of xs

abbrev pub is_end : Taken → ℕ
is_end (Job n i) = 0
is_end End = 1

abbrev pub ends_of : List Taken → ℕ
ends_of xs = total is_end xs

-- 1 for a job with that number
abbrev pub has_number : ℕ → Taken → ℕ
has_number n (Job m i) = cond (nat_eq m n) 1 0
has_number n End = 0

-- each number is at least the low one, and greater than each before it
abbrev pub rises : ℕ → List ℕ → Bool
rises low [] = true
rises low (m ∷ ms) = nat_le low m && rises (suc m) ms

-- each number of the list is below n
abbrev pub Below : ℕ → List ℕ → Type 0
Below n ms = (m : ℕ) → n ≤ m → times m ms ≡ 0
