-- The first failing candidate, frontier by frontier.
use Rattle.std.proofs.Common.{◌≡◌, ℕ, zero, suc, ◌+◌, ◌<◌, ◌≤◌, Bool, true, false, cond, Option, Some, None, is_some, List, [], ◌∷◌, length, take, drop, slice_get, refl, sym, ◌∙◌, ap, arith, add-zero}
use Rattle.std.specs.List.{position, position_from}
use Rattle.std.proofs.lemmas.List.{drop-drop, drop_all, length-drop}
use Rattle.std.proofs.lemmas.Iterator.Adapters.{position_from-zero}
use Rattle.std.specs.Option.{option_map}
use Rattle.qk_scan.specs.Prefix.{prefix_to_hit, answers_from}
use Rattle.qk_minimise.specs.Candidates.{fails_at}

-- a later start
pub from_later : {P : Type 0} (t : P → Bool) (k m : ℕ) (xs : List P) → position_from t (k + m) xs ≡ option_map (λ i. k + i) (position_from t m xs)
from_later t k m [] = refl
from_later t k m (x ∷ xs) =
    let next = from_later t k (m + 1) xs in
    let e : k + m + 1 ≡ k + (m + 1) = omega arith in
    elim (t x) as (λ b. cond b (Some (k + m)) (position_from t (k + m + 1) xs) ≡ option_map (λ i. k + i) (cond b (Some m) (position_from t (m + 1) xs))) [
      | true ↦ refl
      | false ↦ ap (λ j. position_from t j xs) e ∙ next
    ]

-- nothing behind the first hit matters
pub in_prefix : (m : ℕ) (bs : List Bool) → position_from (λ b. b) m (prefix_to_hit (λ b. b) bs) ≡ position_from (λ b. b) m bs
in_prefix m [] = refl
in_prefix m (true ∷ bs) = refl
in_prefix m (false ∷ bs) = in_prefix (m + 1) bs

pub drop_at : {P : Type 0} (ps : List P) (k : ℕ) (p : P) → slice_get ps k ≡ Some p → drop k ps ≡ p ∷ drop (suc k) ps
drop_at [] k p h = cc
drop_at (x ∷ xs) zero p h = let same : x ≡ p = cc in ap (λ o. o ∷ xs) same
drop_at (x ∷ xs) (suc k) p h = drop_at xs k p h

get_at : {P : Type 0} (ps : List P) (k : ℕ) → k < length ps → (p : P) × (slice_get ps k ≡ Some p)
get_at [] k h = absurd (omega (arith, h))
get_at (x ∷ xs) zero h = (x, refl)
get_at (x ∷ xs) (suc k) h = get_at xs k (omega (arith, h))

pub fails_at-some : {P : Type 0} (failing : P → Bool) (ps : List P) (k : ℕ) (p : P) → slice_get ps k ≡ Some p → fails_at failing ps k ≡ failing p
fails_at-some failing ps k p is = rw (is, fails_at) refl

-- the answers of a frontier are whether its candidates fail
pub of_candidates : {P : Type 0} (failing : P → Bool) (ps : List P) (first from n m : ℕ) → first + from + n ≤ length ps
    → position_from (λ b. b) m (answers_from (λ i. fails_at failing ps (first + i)) from n) ≡ position_from failing m (take n (drop (first + from) ps))
of_candidates failing ps first from zero m h = refl
of_candidates failing ps first from (suc n) m h =
    let got = get_at ps (first + from) (omega (arith, h)) in
    let p = got.0 in
    let is : slice_get ps (first + from) ≡ Some p = got.1 in
    let fails : fails_at failing ps (first + from) ≡ failing p = fails_at-some failing ps (first + from) p is in
    let next = of_candidates failing ps first (suc from) n (m + 1) (omega (arith, h)) in
    let e : first + suc from ≡ suc (first + from) = omega arith in
    ap (λ b. cond b (Some m) (position_from (λ b. b) (m + 1) (answers_from (λ i. fails_at failing ps (first + i)) (suc from) n))) fails
    ∙ (ap (λ o. cond (failing p) (Some m) o) (next ∙ ap (λ j. position_from failing (m + 1) (take n (drop j ps))) e)
    ∙ ap (λ l. position_from failing m (take (suc n) l)) (sym (drop_at ps (first + from) p is)))

-- what a scan of a frontier tells
pub scanned : {P : Type 0} (failing : P → Bool) (ps : List P) (first n : ℕ) (answers : List Bool) (hit : Option ℕ) → first + n ≤ length ps
    → answers ≡ prefix_to_hit (λ b. b) (answers_from (λ i. fails_at failing ps (first + i)) 0 n) → hit ≡ position (λ b. b) answers
    → option_map (λ i. first + i) hit ≡ position_from failing first (take n (drop first ps))
scanned failing ps first n answers hit within are is =
    let all = answers_from (λ i. fails_at failing ps (first + i)) 0 n in
    let found : hit ≡ position_from failing 0 (take n (drop (first + 0) ps))
    = is ∙ (position_from-zero (λ b. b) answers ∙ (ap (position_from (λ b. b) 0) are ∙ (in_prefix 0 all ∙ of_candidates failing ps first 0 n 0 (omega (arith, within))))) in
    ap (option_map (λ i. first + i)) found ∙ (sym (from_later failing first 0 (take n (drop (first + 0) ps))) ∙ ap (λ j. position_from failing j (take n (drop j ps))) (add-zero first))

-- a failing candidate of a frontier is the first from there on
pub found_within : {P : Type 0} (t : P → Bool) (k n i : ℕ) (xs : List P) → position_from t k (take n xs) ≡ Some i → position_from t k xs ≡ Some i
found_within t k zero i xs h = cc
found_within t k (suc n) i [] h = h
found_within t k (suc n) i (x ∷ xs) h =
    let next = found_within t (k + 1) n i xs in
    elim (t x) as (λ b. cond b (Some k) (position_from t (k + 1) (take n xs)) ≡ Some i → cond b (Some k) (position_from t (k + 1) xs) ≡ Some i) [
      | true ↦ λ e. e
      | false ↦ next
    ] h

-- where none fails there, the first is the first behind it
pub none_within : {P : Type 0} (t : P → Bool) (k n : ℕ) (xs : List P) → n ≤ length xs → position_from t k (take n xs) ≡ None → position_from t k xs ≡ position_from t (k + n) (drop n xs)
none_within t k zero xs within h = ap (λ j. position_from t j xs) (sym (add-zero k))
none_within t k (suc n) [] within h = absurd (omega (arith, within))
none_within t k (suc n) (x ∷ xs) within h =
    let next = none_within t (k + 1) n xs (omega (arith, within)) in
    let e : k + 1 + n ≡ k + suc n = omega arith in
    elim (t x) as (λ b. cond b (Some k) (position_from t (k + 1) (take n xs)) ≡ None → cond b (Some k) (position_from t (k + 1) xs) ≡ position_from t (k + suc n) (drop n xs)) [
      | true ↦ λ none. cc
      | false ↦ λ none. next none ∙ ap (λ j. position_from t j (drop n xs)) e
    ] h

-- the first failing point of a list, where the ones before k do not fail
abbrev pub IsFirst : {P : Type 0} → (P → Bool) → List P → ℕ → Type 0
IsFirst t ps k = position_from t k (drop k ps) ≡ position t ps

pub first_begins : {P : Type 0} (t : P → Bool) (ps : List P) → IsFirst t ps 0
first_begins t ps = sym (position_from-zero t ps)

pub first_ends : {P : Type 0} (t : P → Bool) (ps : List P) (k : ℕ) → length ps ≤ k → IsFirst t ps k → None ≡ position t ps
first_ends t ps k past so_far = sym (ap (position_from t k) (drop_all k ps past)) ∙ so_far

pub first_found : {P : Type 0} (t : P → Bool) (ps : List P) (k n : ℕ) (place : Option ℕ) → IsFirst t ps k → place ≡ position_from t k (take n (drop k ps)) → is_some place ≡ true → place ≡ position t ps
first_found t ps k n None so_far is some = cc
first_found t ps k n (Some i) so_far is some = sym (found_within t k n i (drop k ps) (sym is)) ∙ so_far

pub first_goes_on : {P : Type 0} (t : P → Bool) (ps : List P) (k n : ℕ) (place : Option ℕ) → k + n ≤ length ps → IsFirst t ps k → place ≡ position_from t k (take n (drop k ps)) → is_some place ≡ false → IsFirst t ps (k + n)
first_goes_on t ps k n (Some i) within so_far is none = cc
first_goes_on t ps k n None within so_far is none =
    ap (position_from t (k + n)) (sym (drop-drop n k ps)) ∙ (sym (none_within t k n (drop k ps) (rw length-drop (omega (arith, within))) (sym is)) ∙ so_far)
