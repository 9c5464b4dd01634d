-- The generators of prepared attempts.
use Rattle.std.proofs.Common.{◌≡◌, ◌∙◌, ℕ, zero, suc, refl, ◌+◌, ◌-◌, ◌≤◌, ◌<◌, Some, List, length, slice_get, get_or, sym, ap, add-one, arith}
use Rattle.std.proofs.lemmas.Option.{get_or_from_slice_get}
use Rattle.qk_rounds.specs.Trial.{MayPrepare}
use Rattle.qk_splitmix.specs.AttemptLaws.{rights-add, attempt-after}
use Rattle.qk_splitmix.specs.Attempts.{rights, attempt_gen}
use Rattle.qk_splitmix.specs.SplitMix.{Generator, start, left, right}

pub kept_next : (k : ℕ) (g kept rest : Generator) → kept ≡ rights k g → rest ≡ right kept → rest ≡ rights (k + 1) g
kept_next k g kept rest e r = r ∙ ap right e ∙ ap (λ (n : ℕ). rights n g) (sym (add-one k))

-- what is kept after the numbers passed over
pub kept_later : (first from : ℕ) (seed : ℕ) (kept later : Generator) → first ≤ from → kept ≡ rights first (start seed) → later ≡ rights (from - first) kept → later ≡ rights from (start seed)
kept_later first from seed kept later below e l =
    let whole : first + (from - first) ≡ from = omega (arith, below) in
    l ∙ ap (rights (from - first)) e ∙ rights-add first (from - first) (start seed) ∙ ap (λ (n : ℕ). rights n (start seed)) whole

-- the generator at a place is that of its number
pub own_at : (first number seed : ℕ) (kept own : Generator) (gens held : List Generator) → first ≤ number → kept ≡ rights first (start seed)
    → slice_get gens (number - first) ≡ Some (left (rights (number - first) kept)) → held ≡ gens → own ≡ get_or held (number - first) own → own ≡ attempt_gen seed number
own_at first number seed kept own gens held below e each same at =
    let whole : first + (number - first) ≡ number = omega (arith, below) in
    at ∙ ap (λ (xs : List Generator). get_or xs (number - first) own) same ∙ get_or_from_slice_get gens (number - first) (left (rights (number - first) kept)) own each
    ∙ ap (λ (g : Generator). left (rights (number - first) g)) e ∙ attempt-after seed first (number - first) ∙ ap (attempt_gen seed) whole

-- the generator after all that were passed over
pub own_of : (seed k : ℕ) (first kept own : Generator) → first ≡ start seed → kept ≡ rights k first → own ≡ left kept → own ≡ attempt_gen seed k
own_of seed k first kept own s e l = l ∙ ap left e ∙ ap (λ (g : Generator). left (rights k g)) s ∙ attempt-after seed 0 k ∙ ap (attempt_gen seed) (none k)
  where
    none : (n : ℕ) → 0 + n ≡ n
    none n = omega arith

-- numbers are prepared from the first prepared one on, or later
pub from_later : (first from count : ℕ) → (count ≡ 0 → first ≡ 0) → MayPrepare (record { first = first; count = count }) from → first ≤ from
from_later first from zero none next = let e = none refl in omega (arith, e)
from_later first from (suc n) none next = (next.later (omega arith)).0
