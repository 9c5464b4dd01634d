-- The points that are reached from a root by the numbers of candidates.
use Rattle.std.specs.Prelude.{◌≡◌, ℕ, zero, suc, ◌<◌, Bool, true, List, [], ◌∷◌, length}

-- the entry n, or the point given where there is none
abbrev pub nth : {P : Type 0} → P → List P → ℕ → P
nth p [] n = p
nth p (x ∷ xs) zero = x
nth p (x ∷ xs) (suc n) = nth p xs n

module _ {P : Type 0} where
  -- the point that is reached by a path
  abbrev pub reached : (P → List P) → P → List ℕ → P
  reached children p [] = p
  reached children p (n ∷ ns) = reached children (nth p (children p) n) ns

  -- each number of the path, in order, is the place of a failing candidate of the point that is reached by those before it
  abbrev pub Leads : (P → List P) → (P → Bool) → P → List ℕ → Type 0
  Leads children failing p [] = Unit {0}
  Leads children failing p (n ∷ ns) = (n < length (children p)) × (failing (nth p (children p) n) ≡ true) × Leads children failing (nth p (children p) n) ns

  -- how many candidates the point has that is reached by the path
  abbrev pub width : (P → List P) → P → List ℕ → ℕ
  width children p path = length (children (reached children p path))

  -- candidate k of the point at the path
  abbrev pub candidate : (P → List P) → P → List ℕ → ℕ → P
  candidate children p path k = nth (reached children p path) (children (reached children p path)) k

  -- k is the place of a failing candidate of the point at the path
  abbrev pub FailsAt : (P → List P) → (P → Bool) → P → List ℕ → ℕ → Type 0
  FailsAt children failing p path k = (k < width children p path) × (failing (candidate children p path k) ≡ true)
