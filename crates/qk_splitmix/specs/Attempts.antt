-- The generators of a property's attempts.
use Rattle.std.specs.Prelude.{ℕ, zero, suc}
use Rattle.qk_splitmix.specs.SplitMix.{Generator, start, left, right}

-- the generator that is reached by k times taking the right half
abbrev pub rights : ℕ → Generator → Generator
rights zero g = g
rights (suc k) g = right (rights k g)

-- the generator of attempt k of a run with that seed
unfoldable pub attempt_gen : ℕ → ℕ → Generator
attempt_gen seed k = left (rights k (start seed))
