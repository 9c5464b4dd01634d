-- How many values there are, by the form of the type.
use Rattle.std.proofs.Common.{◌≡◌, ◌∙◌, inl, inr, ℕ, zero, suc, ◌+◌, ◌*◌, ◌≤◌, ◌<◌, List, [], ◌∷◌, ◌++◌, map, length, get_or, refl, sym, ap, arith}
use Rattle.std.proofs.lemmas.List.{length-append, length-map}
use Rattle.std.proofs.Math.Nat.{mul_assoc}
use Rattle.std.specs.Prelude.{slice_get, None}
use Rattle.qk_series.specs.Rows.{IsRow, AreRows}
use Rattle.std.proofs.lemmas.Bool.{cases_lt}
use Rattle.std.proofs.lemmas.List.{get_or_append_left, get_or-append-add}
use Rattle.qk_value.specs.Data.{Data, datas_of, int, pair, made}
use Rattle.qk_value.specs.Kinds.{MakerData, KindData}
use Rattle.qk_value.specs.Types.{TypeData, int_type, list_type, pair_type, made_type}
use Rattle.qk_series.specs.Members.{saturated}
use Rattle.qk_series.specs.Series.{tuples, numbers, below, series, made_values, makers_of}
use Rattle.qk_series.specs.Small.{before}
use Rattle.qk_series.proofs.CrossLaws.{count_crossed}
use Rattle.qk_series.proofs.NumberLaws.{how_many}
use Rattle.qk_series.proofs.SaturatedLaws.{product_twice, product_first}

pub count_numbers : (kinds : List KindData) (d : ℕ) → d ≤ 8 → 2 * d + 1 ≡ saturated (length (series kinds d int_type))
count_numbers kinds d h = omega (arith, h, length-map (numbers d) int, how_many d)

pub count_pairs : (kinds : List KindData) (d : ℕ) (t u : TypeData) → saturated (saturated (length (series kinds d t)) * saturated (length (series kinds d u))) ≡ saturated (length (series kinds d (pair_type t u)))
count_pairs kinds d t u = product_twice (length (series kinds d t)) (length (series kinds d u)) ∙ ap saturated (sym (count_crossed pair (series kinds d t) (series kinds d u)))

pub count_more_lists : (kinds : List KindData) (d n : ℕ) (t : TypeData) → n ≡ saturated (length (series kinds d (list_type t)))
    → saturated (1 + saturated (saturated (length (series kinds d t)) * n)) ≡ saturated (length (series kinds (suc d) (list_type t)))
count_more_lists kinds d n t h =
    let xs = series kinds d t in
    let ys = series kinds d (list_type t) in
    ap (λ n. saturated (1 + saturated (saturated (length xs) * n))) h
    ∙ ap (λ n. saturated (1 + n)) (product_twice (length xs) (length ys) ∙ ap saturated (sym (count_crossed before xs ys)))
    ∙ omega arith

regroup : (n a b : ℕ) → saturated (n * saturated a * b) ≡ saturated (n * (a * b))
regroup n a b =
    ap saturated (mul_assoc n (saturated a) b) ∙ sym (product_twice n (saturated a * b))
    ∙ ap (λ m. saturated (saturated n * m)) (product_first a b) ∙ product_twice n (a * b)

-- what is counted of the first lists, and what is left
pub count_more_tuples : {X : Type 0} (n : ℕ) (xs : List X) (rest : List (List X)) → saturated (saturated (n * saturated (length xs)) * length (tuples rest)) ≡ saturated (n * length (tuples (xs ∷ rest)))
count_more_tuples n xs rest = product_first (n * saturated (length xs)) (length (tuples rest)) ∙ regroup n (length xs) (length (tuples rest))
    ∙ ap (λ m. saturated (n * m)) (sym (count_crossed (λ x others. x ∷ others) xs (tuples rest)))

-- the values by one maker more
pub count_more_makers : (lower : TypeData → List Data) (kind m n : ℕ) (maker : MakerData) (rest : List MakerData)
    → saturated (saturated (n + saturated (length (tuples (map lower maker.fields)))) + length (made_values lower kind (m + 1) rest)) ≡ saturated (n + length (made_values lower kind m (maker ∷ rest)))
count_more_makers lower kind m n maker rest =
    omega (
      arith,
      length-append (map (λ parts. made kind m (datas_of parts)) (tuples (map lower maker.fields))) (made_values lower kind (m + 1) rest),
      length-map (tuples (map lower maker.fields)) (λ parts. made kind m (datas_of parts)),
    )

pub beyond : {X : Type 0} (xs : List X) (k : ℕ) → length xs ≤ k → slice_get xs k ≡ None
beyond [] k h = refl
beyond (x ∷ xs) zero h = absurd (omega (arith, h))
beyond (x ∷ xs) (suc k) h = beyond xs k (omega (arith, h))

pub none_beyond : (ns : List ℕ) (k : ℕ) → length ns ≤ k → get_or ns k 0 ≡ 0
none_beyond [] k h = refl
none_beyond (n ∷ ns) zero h = absurd (omega (arith, h))
none_beyond (n ∷ ns) (suc k) h = none_beyond ns k (omega (arith, h))

pub whole_row : (kinds : List KindData) (d : ℕ) (row : List ℕ) → length row ≡ length kinds → ((k : ℕ) → k < length kinds → get_or row k 0 ≡ saturated (length (series kinds d (made_type k)))) → IsRow kinds d row
whole_row kinds d row long h k = elim (cases_lt k (length kinds)) [
  | inl less ↦ h k less
  | inr more ↦ none_beyond row k (omega (arith, more, long)) ∙ ap (λ found. saturated (length (made_values (below kinds d) k 0 (makers_of found)))) (sym (beyond kinds k more))
]

pub row_more : (kinds : List KindData) (d : ℕ) (row after : List ℕ) (n m : ℕ) → after ≡ row ++ n ∷ [] → length row ≡ m → n ≡ saturated (length (series kinds d (made_type m)))
    → ((k : ℕ) → k < m → get_or row k 0 ≡ saturated (length (series kinds d (made_type k)))) → (k : ℕ) → k < m + 1 → get_or after k 0 ≡ saturated (length (series kinds d (made_type k)))
row_more kinds d row after n m is long count h k less = elim (cases_lt k m) [
  | inl before ↦ ap (λ row. get_or row k 0) is ∙ get_or_append_left row (n ∷ []) 0 k (omega (arith, before, long)) ∙ h k before
  | inr last ↦
      let here : k ≡ length row + 0 = omega (arith, last, less, long) in
      let same : m ≡ k = omega (arith, last, less) in
      (λ i. get_or (is i) (here i) 0) ∙ get_or-append-add row (n ∷ []) 0 0 ∙ count ∙ ap (λ m. saturated (length (series kinds d (made_type m)))) same
]

pub rows_more : (kinds : List KindData) (rows : List (List ℕ)) (row : List ℕ) → AreRows kinds rows → IsRow kinds (length rows) row → AreRows kinds (rows ++ row ∷ [])
rows_more kinds rows row right more d less k = elim (cases_lt d (length rows)) [
  | inl before ↦ ap (λ row. get_or row k 0) (get_or_append_left rows (row ∷ []) [] d before) ∙ right d before k
  | inr last ↦
      let here : d ≡ length rows + 0 = omega (arith, last, less, length-append rows (row ∷ [])) in
      let same : length rows ≡ d = omega (arith, here) in
      (λ i. get_or (get_or (rows ++ row ∷ []) (here i) []) k 0) ∙ ap (λ row. get_or row k 0) (get_or-append-add rows (row ∷ []) 0 [])
      ∙ more k ∙ ap (λ d. saturated (length (series kinds d (made_type k)))) same
]
