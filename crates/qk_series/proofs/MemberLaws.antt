-- The members of a series, by the form of the type.
use Rattle.std.proofs.Common.{◌≡◌, ◌∙◌, ℕ, zero, suc, ◌+◌, ◌-◌, ◌*◌, ◌/◌, ◌%◌, ◌≤◌, ◌<◌, pos, List, [], ◌∷◌, map, length, get_or, refl, subst, sym, ap, arith}
use Rattle.std.proofs.lemmas.List.{length-map, get_or-map}
use Rattle.qk_value.specs.Data.{int, list, pair, listed_data}
use Rattle.qk_value.specs.Kinds.{KindData}
use Rattle.qk_value.specs.Types.{TypeData, int_type, list_type, pair_type}
use Rattle.qk_core.specs.Properties.{BinderData}
use Rattle.qk_series.specs.Cases.{cases}
use Rattle.qk_series.specs.Members.{member, saturated}
use Rattle.qk_series.specs.Series.{below, numbers, series, tuples}
use Rattle.qk_series.specs.Small.{before, items_of}
use Rattle.qk_series.proofs.CrossLaws.{crossed_at, crossed_row}
use Rattle.qk_series.proofs.NumberLaws.{how_many}

less : (k : ℕ) → suc k - 1 ≡ k
less k = omega arith

some_factor : (m k : ℕ) → k < saturated m → 0 < saturated m
some_factor m k h = omega (arith, h)

pub number_row : (kinds : List KindData) (d k : ℕ) → k < saturated (length (series kinds d int_type)) → k < 2 * d + 1
number_row kinds d k h = omega (arith, h, length-map (numbers d) int, how_many d)

pub number_member : (kinds : List KindData) (d k : ℕ) → k < 2 * d + 1 → member kinds d int_type k ≡ int (get_or (numbers d) k (pos 0))
number_member kinds d k h = get_or-map int (numbers d) k (pos 0) (int (pos 0)) (omega (arith, h, how_many d))

pair_at : (kinds : List KindData) (d k : ℕ) (t u : TypeData) → k < saturated (length (series kinds d (pair_type t u)))
    → member kinds d (pair_type t u) k ≡ pair (member kinds d t (k / saturated (length (series kinds d u)))) (member kinds d u (k % saturated (length (series kinds d u))))
pair_at kinds d k t u h = crossed_at pair (series kinds d t) (series kinds d u) k (int (pos 0)) (int (pos 0)) (int (pos 0)) h

pair_row : (kinds : List KindData) (d k : ℕ) (t u : TypeData) → k < saturated (length (series kinds d (pair_type t u)))
    → (k / saturated (length (series kinds d u)) < saturated (length (series kinds d t))) × (k % saturated (length (series kinds d u)) < saturated (length (series kinds d u)))
pair_row kinds d k t u h = crossed_row pair (series kinds d t) (series kinds d u) k h

-- a pair by the number of second parts
abbrev pub PairStep : List KindData → ℕ → ℕ → TypeData → TypeData → ℕ → Type 0
PairStep kinds d k t u n =
    (k / n < saturated (length (series kinds d t))) × (k % n < saturated (length (series kinds d u))) × (0 < n)
    × (member kinds d (pair_type t u) k ≡ pair (member kinds d t (k / n)) (member kinds d u (k % n)))

pub pair_step : (kinds : List KindData) (d k : ℕ) (t u : TypeData) (n : ℕ) → n ≡ saturated (length (series kinds d u)) → k < saturated (length (series kinds d (pair_type t u))) → PairStep kinds d k t u n
pair_step kinds d k t u n is h =
    let row = pair_row kinds d k t u h in
    subst (λ (n : ℕ). PairStep kinds d k t u n) (sym is) (row.0, row.1, some_factor (length (series kinds d u)) _ row.1, pair_at kinds d k t u h)

-- the list of a number above 0, by the number of lists below
abbrev pub ListStep : List KindData → ℕ → ℕ → TypeData → ℕ → Type 0
ListStep kinds d k t n =
    (0 < d) × ((k - 1) / n < saturated (length (series kinds (d - 1) t))) × ((k - 1) % n < saturated (length (series kinds (d - 1) (list_type t))))
    × (member kinds d (list_type t) k ≡ before (member kinds (d - 1) t ((k - 1) / n)) (member kinds (d - 1) (list_type t) ((k - 1) % n)))

list_step_at : (kinds : List KindData) (d k : ℕ) (t : TypeData) → 0 < k → k < saturated (length (series kinds d (list_type t))) → ListStep kinds d k t (saturated (length (series kinds (d - 1) (list_type t))))
list_step_at kinds zero k t some h = absurd (omega (arith, some, h))
list_step_at kinds (suc e) zero t some h = absurd (omega (arith, some))
list_step_at kinds (suc e) (suc j) t some h =
    let row = crossed_row before (series kinds e t) (series kinds e (list_type t)) j (omega (arith, h)) in
    let at = crossed_at before (series kinds e t) (series kinds e (list_type t)) j (int (pos 0)) (int (pos 0)) (int (pos 0)) (omega (arith, h)) in
    rw (less e) (rw (less j) (omega arith, row.0, row.1, at))

pub list_step : (kinds : List KindData) (d k : ℕ) (t : TypeData) (n : ℕ) → n ≡ saturated (length (series kinds (d - 1) (list_type t))) → 0 < k → k < saturated (length (series kinds d (list_type t))) → ListStep kinds d k t n
list_step kinds d k t n is some h = subst (λ (n : ℕ). ListStep kinds d k t n) (sym is) (list_step_at kinds d k t some h)

pub list_end : (kinds : List KindData) (d k : ℕ) (t : TypeData) → k ≤ 0 → listed_data (items_of (member kinds d (list_type t) k)) ≡ []
list_end kinds d zero t h = refl
list_end kinds d (suc k) t h = absurd (omega (arith, h))

-- the members of lists are lists
pub list_whole : (kinds : List KindData) (d k : ℕ) (t : TypeData) → k < saturated (length (series kinds d (list_type t))) → member kinds d (list_type t) k ≡ list (items_of (member kinds d (list_type t) k))
list_whole kinds d zero t h = refl
list_whole kinds d (suc k) t h =
    let at = (list_step_at kinds d (suc k) t (omega arith) h).3 in
    at ∙ sym (ap (λ m. list (items_of m)) at)

-- the parts of a number, by the number of the lists of the parts behind the first
abbrev pub TupleStep : List KindData → ℕ → ℕ → TypeData → List TypeData → ℕ → Type 0
TupleStep kinds d k t ts n =
    (0 < d) × (k / n < saturated (length (series kinds (d - 1) t))) × (k % n < saturated (length (tuples (map (below kinds d) ts)))) × (0 < n)
    × (get_or (tuples (map (below kinds d) (t ∷ ts))) k [] ≡ member kinds (d - 1) t (k / n) ∷ get_or (tuples (map (below kinds d) ts)) (k % n) [])

tuple_step_at : (kinds : List KindData) (d k : ℕ) (t : TypeData) (ts : List TypeData) → k < saturated (length (tuples (map (below kinds d) (t ∷ ts)))) → TupleStep kinds d k t ts (saturated (length (tuples (map (below kinds d) ts))))
tuple_step_at kinds zero k t ts h = absurd (omega (arith, h))
tuple_step_at kinds (suc e) k t ts h =
    let lists = tuples (map (below kinds (suc e)) ts) in
    let row = crossed_row (λ x others. x ∷ others) (series kinds e t) lists k h in
    let at = crossed_at (λ x others. x ∷ others) (series kinds e t) lists k (int (pos 0)) [] [] h in
    rw (less e) (omega arith, row.0, row.1, some_factor (length lists) _ row.1, at)

pub tuple_step : (kinds : List KindData) (d k : ℕ) (t : TypeData) (ts : List TypeData) (n : ℕ) → n ≡ saturated (length (tuples (map (below kinds d) ts))) → k < saturated (length (tuples (map (below kinds d) (t ∷ ts)))) → TupleStep kinds d k t ts n
tuple_step kinds d k t ts n is h = subst (λ (n : ℕ). TupleStep kinds d k t ts n) (sym is) (tuple_step_at kinds d k t ts h)

-- the values of a case, by the number of the cases of the binders behind the first
abbrev pub CaseStep : List KindData → ℕ → ℕ → BinderData → List BinderData → ℕ → Type 0
CaseStep kinds d k b bs n =
    (k / n < saturated (length (series kinds d b.ty))) × (k % n < saturated (length (cases kinds d bs))) × (0 < n)
    × (get_or (cases kinds d (b ∷ bs)) k [] ≡ member kinds d b.ty (k / n) ∷ get_or (cases kinds d bs) (k % n) [])

case_step_at : (kinds : List KindData) (d k : ℕ) (b : BinderData) (bs : List BinderData) → k < saturated (length (cases kinds d (b ∷ bs))) → CaseStep kinds d k b bs (saturated (length (cases kinds d bs)))
case_step_at kinds d k b bs h =
    let others = cases kinds d bs in
    let row = crossed_row (λ x rest. x ∷ rest) (series kinds d b.ty) others k h in
    (row.0, row.1, some_factor (length others) _ row.1, crossed_at (λ x rest. x ∷ rest) (series kinds d b.ty) others k (int (pos 0)) [] [] h)

pub case_step : (kinds : List KindData) (d k : ℕ) (b : BinderData) (bs : List BinderData) (n : ℕ) → n ≡ saturated (length (cases kinds d bs)) → k < saturated (length (cases kinds d (b ∷ bs))) → CaseStep kinds d k b bs n
case_step kinds d k b bs n is h = subst (λ (n : ℕ). CaseStep kinds d k b bs n) (sym is) (case_step_at kinds d k b bs h)
