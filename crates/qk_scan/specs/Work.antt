-- What one worker of a board does.
use Rattle.std.specs.Prelude.{◌≡◌, ℕ, ◌+◌, ◌-◌, ◌<◌, ◌≤◌, max, Bool, cond, nat_eq, nat_le, List, [], ◌∷◌, ◌++◌, length}
use Rattle.qk_totals.specs.Totals.{times, drawn}
use Rattle.qk_board.specs.declared.view.BoardView.{BoardView}
use Rattle.qk_scan.specs.declared.found.Found.{Found}
use Rattle.qk_scan.specs.Each.{Each}

module _ {A : Type 0} where
  -- a number with its answer
  abbrev pub answer_to : (ℕ → A) → ℕ → Found A
  answer_to answer n = record { number = n; answer = answer n }

  -- the numbers of the draws with their answers, but for those draws whose load showed a bound below the number, the i-th load being that of the i-th draw
  abbrev pub performed : (ℕ → ℕ → ℕ) → (ℕ → A) → List (ℕ × ℕ) → List ℕ → List (Found A)
  performed number answer [] bounds = []
  performed number answer (d ∷ ds) [] = []
  performed number answer (d ∷ ds) (b ∷ bs) = let n = number d.0 d.1 in cond (nat_le n b) (answer_to answer n ∷ []) [] ++ performed number answer ds bs

  -- the numbers whose answers hit
  abbrev pub hit_numbers : (A → Bool) → List (Found A) → List ℕ
  hit_numbers hits [] = []
  hit_numbers hits (f ∷ fs) = cond (hits f.answer) (f.number ∷ []) [] ++ hit_numbers hits fs

  -- What a seat with this view found: it has a load for each draw, found is exactly what no load put above the bound, and the lowered numbers are exactly the hits.
  pub record Worked (number : ℕ → ℕ → ℕ) (answer : ℕ → A) (hits : A → Bool) (v : BoardView) (found : List (Found A)) : Type 0 where
    pub loads : length v.draws ≡ length v.seen
    pub found_is : found ≡ performed number answer v.draws v.seen
    pub lowered_is : v.lowered ≡ hit_numbers hits found

  -- the number n was drawn last, and its load is still to come
  abbrev pub Pending : (ℕ → ℕ → ℕ) → (ℕ → A) → (A → Bool) → ℕ → BoardView → List (Found A) → Type 0
  Pending number answer hits n v found = (ds : List (ℕ × ℕ)) × (r : ℕ) × (x : ℕ) × (v.draws ≡ ds ++ (r, x) ∷ []) × (number r x ≡ n) × Worked number answer hits (record v { draws = ds }) found

  -- each number was drawn, and stands with its answer
  abbrev pub AreDrawn : (ℕ → ℕ → ℕ) → (ℕ → A) → List (ℕ × ℕ) → List (Found A) → Type 0
  AreDrawn number answer draws found = Each (λ f. (f.answer ≡ answer f.number) × ((r : ℕ) × (x : ℕ) × (number r x ≡ f.number) × (0 < drawn r x draws))) found

  -- how often a number was found
  abbrev pub answered : ℕ → List (Found A) → ℕ
  answered n [] = 0
  answered n (f ∷ fs) = cond (nat_eq f.number n) 1 0 + answered n fs

-- every range was met dry
abbrev pub MetAllDry : List ℕ → BoardView → Type 0
MetAllDry lengths v = (r : ℕ) → r < length lengths → 0 < times r v.dry

-- how many places a range lies after the first, going round
abbrev pub place : ℕ → ℕ → ℕ → ℕ
place first ranges r = cond (nat_le first r) (r - first) (r + ranges - first)

-- no draw comes from a range that lies fewer places after the first than the range of an earlier draw
abbrev pub InCyclicOrder : ℕ → ℕ → List (ℕ × ℕ) → Type 0
InCyclicOrder first ranges [] = Unit {0}
InCyclicOrder first ranges (d ∷ ds) = Each (λ later. place first ranges d.0 ≤ place first ranges later.0) ds × InCyclicOrder first ranges ds

-- more draws from the range r alone
abbrev pub DrawsMore : ℕ → List (ℕ × ℕ) → List (ℕ × ℕ) → Type 0
DrawsMore r before after = (more : List (ℕ × ℕ)) × (after ≡ before ++ more) × Each (λ d. d.0 ≡ r) more

-- one more than the greatest index that was drawn from the range, or 0
abbrev pub top_of : ℕ → List (ℕ × ℕ) → ℕ
top_of r [] = 0
top_of r (d ∷ ds) = max (cond (nat_eq d.0 r) (d.1 + 1) 0) (top_of r ds)

-- the ranges that lie fewer than k places after the first are met dry, and no others
abbrev pub DryUpTo : ℕ → ℕ → ℕ → List ℕ → Type 0
DryUpTo first ranges k dry = (r : ℕ) → r < ranges → (place first ranges r < k → 0 < times r dry) × (k ≤ place first ranges r → times r dry ≡ 0)
