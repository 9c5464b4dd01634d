-- A walk, stretch by stretch.
use Rattle.std.proofs.Common.{◌≡◌, ◌∙◌, ℕ, zero, suc, ◌+◌, ◌-◌, ◌<◌, ◌≤◌, true, false, is_some, List, [], ◌∷◌, length, take, drop, get_or, refl, sym, ap, arith, add-zero}
use Rattle.std.proofs.lemmas.List.{drop-drop, length-take}
use Rattle.qk_base.specs.declared.outcome.Verdict.{Verdict}
use Rattle.qk_base.specs.declared.outcome.Verdict.TheVariants.{Pass, Discard, Fail}
use Rattle.qk_scan.specs.Prefix.{prefix_to_hit, answers_from}
use Rattle.qk_exhaust.specs.Run.{fails, walked}
use Rattle.qk_exhaust.specs.declared.walked.Walked.{Walked}

-- nothing behind the first that fails matters
pub in_prefix : (k d : ℕ) (vs : List Verdict) → walked k d (prefix_to_hit fails vs) ≡ walked k d vs
in_prefix k d [] = refl
in_prefix k d (Pass ∷ vs) = in_prefix (k + 1) d vs
in_prefix k d (Discard ∷ vs) = in_prefix (k + 1) (d + 1) vs
in_prefix k d (Fail c ∷ vs) = refl

-- the answers of a frontier are the verdicts of its cases
pub of_cases : (vs : List Verdict) (first from n : ℕ) → first + from + n ≤ length vs → answers_from (λ i. get_or vs (first + i) Pass) from n ≡ take n (drop (first + from) vs)
of_cases vs first from zero h = refl
of_cases vs first from (suc n) h =
    let e : first + suc from ≡ suc (first + from) = omega arith in
    ap (λ rest. get_or vs (first + from) Pass ∷ rest) (of_cases vs first (suc from) n (omega (arith, h)) ∙ ap (λ j. take n (drop j vs)) e)
    ∙ ap (take (suc n)) (sym (dropped vs (first + from) (omega (arith, h))))
  where
    dropped : (vs : List Verdict) (k : ℕ) → k < length vs → drop k vs ≡ get_or vs k Pass ∷ drop (suc k) vs
    dropped [] k h = absurd (omega (arith, h))
    dropped (v ∷ vs) zero h = refl
    dropped (v ∷ vs) (suc k) h = dropped vs k (omega (arith, h))

-- a walk that meets no failing case goes on
pub goes_on : (k d n : ℕ) (vs : List Verdict) → n ≤ length vs → is_some (walked k d (take n vs)).failed ≡ false → walked (k + n) (walked k d (take n vs)).discards (drop n vs) ≡ walked k d vs
goes_on k d zero vs h none = ap (λ j. walked j d vs) (add-zero k)
goes_on k d (suc n) [] h none = absurd (omega (arith, h))
goes_on k d (suc n) (Pass ∷ vs) h none = ap (λ j. walked j (walked (k + 1) d (take n vs)).discards (drop n vs)) (omega arith) ∙ goes_on (k + 1) d n vs (omega (arith, h)) none
goes_on k d (suc n) (Discard ∷ vs) h none = ap (λ j. walked j (walked (k + 1) (d + 1) (take n vs)).discards (drop n vs)) (omega arith) ∙ goes_on (k + 1) (d + 1) n vs (omega (arith, h)) none
goes_on k d (suc n) (Fail c ∷ vs) h none = cc

-- one that meets a failing case ends there
pub ends : (k d n : ℕ) (vs : List Verdict) → is_some (walked k d (take n vs)).failed ≡ true → walked k d (take n vs) ≡ walked k d vs
ends k d zero vs some = cc
ends k d (suc n) [] some = refl
ends k d (suc n) (Pass ∷ vs) some = ends (k + 1) d n vs some
ends k d (suc n) (Discard ∷ vs) some = ends (k + 1) (d + 1) n vs some
ends k d (suc n) (Fail c ∷ vs) some = refl

many_left : (k : ℕ) (vs : List Verdict) → k ≤ length vs → length (drop k vs) + k ≡ length vs
many_left zero vs h = omega arith
many_left (suc k) [] h = absurd (omega (arith, h))
many_left (suc k) (v ∷ vs) h = omega (arith, many_left k vs (omega (arith, h)))

take_none : (n : ℕ) → take {A = Verdict} n [] ≡ []
take_none zero = refl
take_none (suc n) = refl

take_front : (n m : ℕ) (vs : List Verdict) → n ≤ m → take n (take m vs) ≡ take n vs
take_front zero m vs h = refl
take_front (suc n) zero vs h = absurd (omega (arith, h))
take_front (suc n) (suc m) [] h = refl
take_front (suc n) (suc m) (v ∷ vs) h = ap (λ rest. v ∷ rest) (take_front n m vs (omega (arith, h)))

drop_front : (n m r : ℕ) (vs : List Verdict) → m ≡ n + r → drop n (take m vs) ≡ take r (drop n vs)
drop_front zero m r vs is = ap (λ m. take m vs) (omega (arith, is))
drop_front (suc n) zero r vs is = absurd (omega (arith, is))
drop_front (suc n) (suc m) r [] is = sym (take_none r)
drop_front (suc n) (suc m) r (v ∷ vs) is = drop_front n m r vs (omega (arith, is))

-- a stretch of the cases that are left, and those behind it
pub stretch_goes_on : (k d n m : ℕ) (vs : List Verdict) (w : Walked) → n ≤ m → k + m ≤ length vs → w ≡ walked k d (take n (drop k vs)) → is_some w.failed ≡ false
    → walked (k + n) w.discards (take (m - n) (drop (k + n) vs)) ≡ walked k d (take m (drop k vs))
stretch_goes_on k d n m vs w h within is none =
    let rest = take m (drop k vs) in
    let front : take n rest ≡ take n (drop k vs) = take_front n m (drop k vs) h in
    let same : w ≡ walked k d (take n rest) = is ∙ ap (walked k d) (sym front) in
    let long : n ≤ length rest = omega (arith, h, within, length-take m (drop k vs), many_left k vs (omega (arith, within))) in
    let behind : take (m - n) (drop (k + n) vs) ≡ drop n rest = ap (take (m - n)) (sym (drop-drop n k vs)) ∙ sym (drop_front n m (m - n) (drop k vs) (omega (arith, h))) in
    (λ i. walked (k + n) (same i).discards (behind i)) ∙ goes_on k d n rest long (sym (ap (λ w. is_some w.failed) same) ∙ none)

pub stretch_ends : (k d n m : ℕ) (vs : List Verdict) (w : Walked) → n ≤ m → w ≡ walked k d (take n (drop k vs)) → is_some w.failed ≡ true → w ≡ walked k d (take m (drop k vs))
stretch_ends k d n m vs w h is some =
    let rest = take m (drop k vs) in
    let same : w ≡ walked k d (take n rest) = is ∙ ap (walked k d) (sym (take_front n m (drop k vs) h)) in
    same ∙ ends k d n rest (sym (ap (λ w. is_some w.failed) same) ∙ some)

pub prefix_short : (vs : List Verdict) → length (prefix_to_hit fails vs) ≤ length vs
prefix_short [] = omega arith
prefix_short (Pass ∷ vs) = omega (arith, prefix_short vs)
prefix_short (Discard ∷ vs) = omega (arith, prefix_short vs)
prefix_short (Fail c ∷ vs) = omega arith

pub answers_long : (answer : ℕ → Verdict) (from n : ℕ) → length (answers_from answer from n) ≡ n
answers_long answer from zero = refl
answers_long answer from (suc n) = omega (arith, answers_long answer (suc from) n)

-- what the answers of a frontier come to
pub scanned : (k d n : ℕ) (vs answers : List Verdict) → k + n ≤ length vs → answers ≡ prefix_to_hit fails (answers_from (λ i. get_or vs (k + i) Pass) 0 n)
    → (walked k d answers ≡ walked k d (take n (drop k vs))) × (length answers ≤ n)
scanned k d n vs answers h are =
    let all = answers_from (λ i. get_or vs (k + i) Pass) 0 n in (
      ap (walked k d) are ∙ in_prefix k d all ∙ ap (walked k d) (of_cases vs k 0 n (omega (arith, h)) ∙ ap (λ j. take n (drop j vs)) (add-zero k)),
      omega (arith, ap length are, prefix_short all, answers_long (λ i. get_or vs (k + i) Pass) 0 n),
    )
