-- The descent from a failing point, each step to the first failing candidate.
use Rattle.std.specs.Prelude.{ℕ, zero, suc, ◌+◌, Bool, true, false, Some, None, List, [], ◌∷◌, length, position, slice_index_or}

-- where a descent ends: the point, the place of each step's candidate, how many candidates were tried, and whether the limit was met
pub record Descended (P : Type 0) : Type 0 where
  pub point : P
  pub path : List ℕ
  pub tried : ℕ
  pub limit_met : Bool

-- at most `left` steps from a point
abbrev pub descent : {P : Type 0} → (P → List P) → (P → Bool) → ℕ → P → Descended P
descent children failing zero point = record { point = point; path = []; tried = 0; limit_met = true }
descent children failing (suc left) point = elim (position failing (children point)) [
  | None ↦ record { point = point; path = []; tried = length (children point); limit_met = false }
  | Some place ↦
      let more = descent children failing left (slice_index_or (children point) place point) in
      record { point = more.point; path = place ∷ more.path; tried = place + 1 + more.tried; limit_met = more.limit_met }
]
