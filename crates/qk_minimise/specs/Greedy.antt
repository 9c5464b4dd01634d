-- The minimum of a greedy shrink.
use Rattle.std.specs.Prelude.{◌≡◌, ℕ, ◌≤◌, ◌↔◌, Bool, true, false, List, length, All}
use Rattle.qk_path.specs.Points.{Leads, reached}

-- A minimum below a root, by any chain of failing candidates: each step of the path, in order, is the number of a failing candidate of the
-- point before it, the path ends at the point and has at most `limit` steps, the limit is met exactly where it has that many, and else no
-- candidate of the point fails.
pub record IsMinimum {P : Type 0} (children : P → List P) (failing : P → Bool) (root : P) (limit : ℕ) (point : P) (path : List ℕ) (limit_met : Bool) : Type 0 where
  pub leads : Leads children failing root path
  pub ends : reached children root path ≡ point
  pub short : length path ≤ limit
  pub met : (limit_met ≡ true) ↔ (length path ≡ limit)
  pub least : limit_met ≡ false → All (λ q. failing q ≡ false) (children point)
