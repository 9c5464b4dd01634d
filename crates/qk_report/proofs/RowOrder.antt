-- The order of rows: it is total, and rows in order hold what they held.
use Rattle.std.proofs.Common.{◌≡◌, ◌∙◌, ◌+◌, ℕ, Bool, true, false, cond, List, [], ◌∷◌, ap, arith, refl, sym}
use Rattle.std.proofs.lemmas.Cmp.{back_total, nat_cmp_total, nat_list_cmp_total, on_total, ranked, then_total, upto}
use Rattle.std.specs.Cmp.{IsTotalOrder}
use Rattle.std.specs.Cmp.Lexicographic.{slice_cmp}
use Rattle.std.specs.List.{AllByRecursion}
use Rattle.std.specs.Ordering.{is_eq, is_gt, is_lt, nat_cmp, ordering_reverse, ordering_then}
use Rattle.std.specs.declared.cmp.Ordering.{Ordering}
use Rattle.std.specs.declared.cmp.Ordering.TheVariants.{Less, Equal, Greater}
use Rattle.qk_report.proofs.Ascending as ascending
use Rattle.qk_report.proofs.Ascending.{all_weaker}
use Rattle.qk_report.proofs.KeyCounts.{count_cons}
use Rattle.qk_report.specs.Tables.{Row, Text, in_order, placed, row_cmp}

pub row_total : IsTotalOrder row_cmp
row_total = then_total (back_total (on_total (λ (r : Row). r.count) nat_cmp_total)) (on_total (λ (r : Row). r.text) nat_list_cmp_total)

then_tied : (r s : Ordering) → ordering_then r s ≡ Equal → (r ≡ Equal) × (s ≡ Equal)
then_tied Less s e = cc
then_tied Equal s e = (refl, e)
then_tied Greater s e = cc

pub texts_tied : (a b : Text) → slice_cmp nat_cmp a b ≡ Equal → a ≡ b
texts_tied [] [] e = refl
texts_tied [] (y ∷ ys) e = cc
texts_tied (x ∷ xs) [] e = cc
texts_tied (x ∷ xs) (y ∷ ys) e =
    let both = then_tied (nat_cmp x y) (slice_cmp nat_cmp xs ys) e in
    let heads : x ≡ y = ranked x y Equal (sym both.0) in let tails : xs ≡ ys = texts_tied xs ys both.1 in λ i. heads i ∷ tails i

pub rows_tied : (a b : Row) → row_cmp a b ≡ Equal → a ≡ b
rows_tied a b e =
    let both = then_tied (nat_cmp b.count a.count) (slice_cmp nat_cmp a.text b.text) e in
    let counts : b.count ≡ a.count = ranked b.count a.count Equal (sym both.0) in let texts : a.text ≡ b.text = texts_tied a.text b.text both.1 in
    λ i. record { count = sym counts i; text = texts i }

abbrev pub occ : Row → List Row → ℕ
occ = ascending.occ row_total rows_tied

abbrev pub Asc : List Row → Type 0
Asc = ascending.Asc row_total rows_tied

all_placed : (P : Row → Type 0) (row : Row) (rows : List Row) → P row → AllByRecursion P rows → AllByRecursion P (placed row rows)
all_placed P row [] here all = (here, tt)
all_placed P row (x ∷ xs) here all = by (is_lt (row_cmp row x)) (all_placed P row xs here all.1)
  where
    by : (b : Bool) → AllByRecursion P (placed row xs) → AllByRecursion P (cond b (row ∷ x ∷ xs) (x ∷ placed row xs))
    by true rest = (here, all)
    by false rest = (all.0, rest)

asc_placed : (row : Row) (rows : List Row) → Asc rows → Asc (placed row rows)
asc_placed row [] a = (tt, tt)
asc_placed row (x ∷ xs) a = by (row_cmp row x) refl (asc_placed row xs a.1)
  where
    before : is_gt (row_cmp row x) ≡ false → Asc (row ∷ x ∷ xs)
    before h = ((h, all_weaker (λ z k. upto row_total row x z h k) xs a.0), a)

    by : (r : Ordering) → row_cmp row x ≡ r → Asc (placed row xs) → Asc (cond (is_lt r) (row ∷ x ∷ xs) (x ∷ placed row xs))
    by Less e rest = before (ap is_gt e)
    by Equal e rest = (all_placed (λ z. is_gt (row_cmp x z) ≡ false) row xs (ap is_gt (row_total.antisymm x row ∙ ap ordering_reverse e)) a.0, rest)
    by Greater e rest = (all_placed (λ z. is_gt (row_cmp x z) ≡ false) row xs (ap is_gt (row_total.antisymm x row ∙ ap ordering_reverse e)) a.0, rest)

pub asc_order : (rows : List Row) → Asc (in_order rows)
asc_order [] = tt
asc_order (row ∷ rows) = asc_placed row (in_order rows) (asc_order rows)

turned : (n a b : ℕ) → (n + a) + b ≡ (n + b) + a
turned n a b = omega arith

occ_placed : (q row : Row) (rows : List Row) → occ q (placed row rows) ≡ occ q (row ∷ rows)
occ_placed q row [] = refl
occ_placed q row (x ∷ xs) = by (is_lt (row_cmp row x)) (occ_placed q row xs)
  where
    by : (b : Bool) → occ q (placed row xs) ≡ occ q (row ∷ xs) → occ q (cond b (row ∷ x ∷ xs) (x ∷ placed row xs)) ≡ occ q (row ∷ x ∷ xs)
    by true rest = refl
    by false rest =
        count_cons (λ z. is_eq (row_cmp q z)) x (placed row xs) ∙ ap (λ n. n + cond (is_eq (row_cmp q x)) 1 0) (rest ∙ count_cons (λ z. is_eq (row_cmp q z)) row xs)
        ∙ turned (occ q xs) (cond (is_eq (row_cmp q row)) 1 0) (cond (is_eq (row_cmp q x)) 1 0) ∙ ap (λ n. n + cond (is_eq (row_cmp q row)) 1 0) (sym (count_cons (λ z. is_eq (row_cmp q z)) x xs))
        ∙ sym (count_cons (λ z. is_eq (row_cmp q z)) row (x ∷ xs))

pub occ_order : (q : Row) (rows : List Row) → occ q (in_order rows) ≡ occ q rows
occ_order q [] = refl
occ_order q (row ∷ rows) =
    occ_placed q row (in_order rows) ∙ count_cons (λ z. is_eq (row_cmp q z)) row (in_order rows) ∙ ap (λ n. n + cond (is_eq (row_cmp q row)) 1 0) (occ_order q rows)
    ∙ sym (count_cons (λ z. is_eq (row_cmp q z)) row rows)
