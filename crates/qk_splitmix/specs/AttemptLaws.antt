-- How the generators of attempts go on from what is kept.
use Rattle.std.specs.Prelude.{◌≡◌, ℕ, zero, suc, ◌+◌}
use Rattle.std.proofs.Common.{ap, sym, ◌∙◌, add-zero, add-suc}
use Rattle.qk_splitmix.specs.SplitMix.{Generator, start, left, right}
use Rattle.qk_splitmix.specs.Attempts.{rights, attempt_gen}

pub rights-add : (n k : ℕ) (g : Generator) → rights k (rights n g) ≡ rights (n + k) g
rights-add n zero g = ap (λ m. rights m g) (sym (add-zero n))
rights-add n (suc k) g = ap right (rights-add n k g) ∙ ap (λ m. rights m g) (sym (add-suc n k))

-- generator k after the first n attempts is that of attempt n + k
pub attempt-after : (seed n k : ℕ) → left (rights k (rights n (start seed))) ≡ attempt_gen seed (n + k)
unfolding attempt_gen
attempt-after seed n k = ap left (rights-add n k (start seed))
