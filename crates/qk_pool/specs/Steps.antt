-- What each step tells the pass that makes it.
use Rattle.std.specs.Prelude.{◌≡◌, ℕ, ◌+◌, ◌-◌, ◌<◌, false, List, [], ◌++◌, length, ⊤}
use Rattle.qk_totals.specs.Totals.{total}
use Rattle.qk_pool.specs.declared.taken.Taken.{Taken}
use Rattle.qk_pool.specs.declared.taken.Taken.TheVariants.{Job, End}
use Rattle.qk_pool.specs.declared.view.RelayView.{RelayView}
use Rattle.qk_pool.specs.Numbers.{numbers_of, is_end, ends_of, Below}
use Rattle.qk_pool.specs.Views.{known, with_taken}

-- a job's number is greater than each that the taker took before
abbrev pub IsNew : List Taken → Taken → Type 0
IsNew xs (Job n i) = (n < 256) × Below n (numbers_of xs)
IsNew xs End = ⊤

abbrev pub Took : RelayView → Taken → RelayView → Type 0
Took v x w = (w ≡ with_taken v x) × IsNew v.taken x × (ends_of w.taken ≡ ends_of v.taken + is_end x)

abbrev pub one_less : RelayView → RelayView
one_less v = record v { parts = v.parts - 1 }

abbrev pub newcomer : RelayView
newcomer = known false 1 [] []

abbrev pub joined : RelayView → RelayView → RelayView
joined v w = record v { parts = v.parts + w.parts; taken = v.taken ++ w.taken }

abbrev pub spent_view : RelayView
spent_view = known false 0 [] []

-- what the pass that stands for all learns: what was put is what was taken and what the queue holds, and after an end that is ends alone
abbrev pub Weighed : RelayView → List Taken → Type 0
Weighed v items = ((h : Taken → ℕ) → total h v.put ≡ total h v.taken + total h items) × (0 < ends_of v.taken → ends_of items ≡ length items)

-- what may be put behind what was put: a job with its place as its number while no end was put, or an end
abbrev pub Fits : List Taken → Taken → Type 0
Fits xs (Job n i) = (n ≡ length xs) × (n < 256) × (ends_of xs ≡ 0)
Fits xs End = ⊤
