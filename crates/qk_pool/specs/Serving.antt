-- Jobs whose input is not the one that was told, and jobs with their answers.
use Rattle.std.specs.Prelude.{ℕ, cond, List, Option, Some, None, bytes_eq}
use Rattle.qk_pool.specs.declared.taken.Taken.{Taken}
use Rattle.qk_pool.specs.declared.taken.Taken.TheVariants.{Job, End}

abbrev pub stray : Option (List ℕ) → List ℕ → ℕ
stray None l = 0
stray (Some m) l = cond (bytes_eq l m) 0 1

-- 1 for a job with another input than the one that was told of its number
abbrev pub strays : (ℕ → Option (List ℕ)) → Taken → ℕ
strays inputs (Job n i) = stray (inputs n) i.items
strays inputs End = 0
