-- One item or part of a shared value after another is replaced in its place.
use Rattle.std.proofs.Common.{◌≡◌, ◌∙◌, ℕ, zero, suc, ◌+◌, ◌-◌, ◌<◌, ◌≤◌, min, List, [], ◌∷◌, ◌++◌, map, take, drop, length, get_or, refl, sym, ap, arith}
use Rattle.qk_value.specs.Data.{Data, int, bool, list, pair, made, Datas, end, more, datas_of, listed_data}
use Rattle.qk_value.specs.Kinds.{KindData}
use Rattle.qk_value.specs.Measures.{weights}
use Rattle.qk_value.specs.Types.{TypeData}
use Rattle.qk_value.specs.View.{view_type}
use Rattle.qk_value.specs.declared.ty.Ty.{Ty}
use Rattle.qk_eval.specs.Parts.{items_of, joined}
use Rattle.qk_eval.specs.Sizes.{data_size, datas_size}
use Rattle.qk_eval.proofs.ListLaws.{joined_push}
use Rattle.qk_shrink.specs.Candidates.{value_candidates, items_in_place, parts_in_place, own_part, own_parts}
use Rattle.qk_shrink.specs.Sought.{sought, map_sought}
use Rattle.qk_shrink.specs.declared.sought.Sought.{Sought}
use Rattle.qk_shrink.specs.declared.sought.Sought.TheVariants.{Here, Past}
use Rattle.qk_shrink.proofs.CountLaws.{weight_some}
use Rattle.qk_shrink.proofs.SizeLaws.{again}
use Rattle.qk_shrink.proofs.PlaceLaws.{placed, here_in_place, past_in_place, next, passed}

pub parts_next : (kinds : List KindData) (ts : List Ty) (xs : List Data) (i : ℕ) (t : Ty) (x : Data) → i < length ts → i < length xs → t ≡ get_or ts i t → x ≡ get_or xs i x
    → parts_in_place kinds (map view_type (drop i ts)) (datas_of (drop i xs))
    ≡ placed more x (datas_of (drop (i + 1) xs)) (value_candidates kinds (view_type t) x) (parts_in_place kinds (map view_type (drop (i + 1) ts)) (datas_of (drop (i + 1) xs)))
parts_next kinds ts xs i t x h k is_type is j = parts_in_place kinds (map view_type (next ts i t h is_type j)) (datas_of (next xs i x k is j))

pub own_next : (kind : ℕ) (ts : List Ty) (xs : List Data) (i : ℕ) (t : Ty) (x : Data) → i < length ts → i < length xs → t ≡ get_or ts i t → x ≡ get_or xs i x
    → own_parts kind (map view_type (drop i ts)) (datas_of (drop i xs)) ≡ own_part kind (view_type t) x ++ own_parts kind (map view_type (drop (i + 1) ts)) (datas_of (drop (i + 1) xs))
own_next kind ts xs i t x h k is_type is j = own_parts kind (map view_type (next ts i t h is_type j)) (datas_of (next xs i x k is j))

no_own : (kind : ℕ) (ts : List TypeData) → own_parts kind ts end ≡ []
no_own kind [] = refl
no_own kind (t ∷ ts) = refl

-- where types or parts end, no own part is left
pub own_end : (kind i : ℕ) (ts : List Ty) (xs : List Data) → min (length ts) (length xs) ≤ i → own_parts kind (map view_type (drop i ts)) (datas_of (drop i xs)) ≡ []
own_end kind zero [] xs h = refl
own_end kind zero (t ∷ ts) [] h = refl
own_end kind zero (t ∷ ts) (x ∷ xs) h = absurd (omega arith)
own_end kind (suc i) [] xs h = refl
own_end kind (suc i) (t ∷ ts) [] h = no_own kind (map view_type (drop i ts))
own_end kind (suc i) (t ∷ ts) (x ∷ xs) h = own_end kind i ts xs (omega arith)

no_part : (kinds : List KindData) (ts : List TypeData) → parts_in_place kinds ts end ≡ []
no_part kinds [] = refl
no_part kinds (t ∷ ts) = refl

-- where types or parts end, no part is left
pub parts_end : (kinds : List KindData) (i : ℕ) (ts : List Ty) (xs : List Data) → min (length ts) (length xs) ≤ i → parts_in_place kinds (map view_type (drop i ts)) (datas_of (drop i xs)) ≡ []
parts_end kinds zero [] xs h = refl
parts_end kinds zero (t ∷ ts) [] h = refl
parts_end kinds zero (t ∷ ts) (x ∷ xs) h = absurd (omega arith)
parts_end kinds (suc i) [] xs h = refl
parts_end kinds (suc i) (t ∷ ts) [] h = no_part kinds (map view_type (drop i ts))
parts_end kinds (suc i) (t ∷ ts) (x ∷ xs) h = parts_end kinds i ts xs (omega arith)

middle : (xs : List Data) (y : Data) (zs : List Data) → datas_of (xs ++ y ∷ zs) ≡ joined (datas_of xs) (more y (datas_of zs))
middle [] y zs = refl
middle (x ∷ xs) y zs = ap (more x) (middle xs y zs)

-- what is put behind one more
behind : (xs : List Data) (i : ℕ) (x : Data) → i < length xs → x ≡ get_or xs i x → joined (datas_of (take (i + 1) xs)) ≡ (λ ds. joined (datas_of (take i xs)) (more x ds))
behind xs i x h is j ds = (ap (λ ys. joined (datas_of ys) ds) (passed xs i x h is) ∙ joined_push (take i xs) x ds) j

-- the candidate of one part, put in its place, is found
pub place_here : (xs all : List Data) (i : ℕ) (x c : Data) (firsts : List Data) (others whole : List Datas) (k : ℕ) (s : Sought Data)
    → all ≡ take i xs ++ c ∷ drop (i + 1) xs → s ≡ Here c → s ≡ sought firsts k
    → whole ≡ placed more x (datas_of (drop (i + 1) xs)) firsts others → Here (datas_of all) ≡ map_sought (joined (datas_of (take i xs))) (sought whole k)
place_here xs all i x c firsts others whole k s put is found whole_is =
    let before = joined (datas_of (take i xs)) in
    ap Here (ap datas_of put ∙ middle (take i xs) c (drop (i + 1) xs))
    ∙ here_in_place more before x (datas_of (drop (i + 1) xs)) firsts others k c (sym is ∙ found)
    ∙ ap (λ l. map_sought before (sought l k)) (sym whole_is)

-- past the candidates of one part the search goes on behind it
pub place_past : (xs : List Data) (i : ℕ) (x : Data) (firsts : List Data) (others whole : List Datas) (k left : ℕ) (s : Sought Data)
    → i < length xs → x ≡ get_or xs i x → s ≡ Past left → s ≡ sought firsts k
    → whole ≡ placed more x (datas_of (drop (i + 1) xs)) firsts others
    → map_sought (joined (datas_of (take (i + 1) xs))) (sought others left) ≡ map_sought (joined (datas_of (take i xs))) (sought whole k)
place_past xs i x firsts others whole k left s below at is found whole_is =
    let before = joined (datas_of (take i xs)) in
    ap (λ f. map_sought f (sought others left)) (behind xs i x below at)
    ∙ past_in_place more before x (datas_of (drop (i + 1) xs)) firsts others k left (sym is ∙ found)
    ∙ ap (λ l. map_sought before (sought l k)) (sym whole_is)

-- the list of the items that are passed, and then of these
abbrev pub after_front : ℕ → List Data → Datas → Data
after_front i xs ds = list (joined (datas_of (take i xs)) ds)

next_behind : (xs : List Data) (i : ℕ) (x : Data) (rest : List Data) → drop i xs ≡ x ∷ rest → drop (suc i) xs ≡ rest
next_behind [] zero x rest h = cc
next_behind (y ∷ ys) zero x rest h = cc
next_behind [] (suc i) x rest h = cc
next_behind (y ∷ ys) (suc i) x rest h = next_behind ys i x rest h

next_front : (xs : List Data) (i : ℕ) (x : Data) (rest : List Data) → drop i xs ≡ x ∷ rest → take (suc i) xs ≡ take i xs ++ x ∷ []
next_front [] zero x rest h = cc
next_front (y ∷ ys) zero x rest h = cc
next_front [] (suc i) x rest h = cc
next_front (y ∷ ys) (suc i) x rest h = ap (λ l. y ∷ l) (next_front ys i x rest h)

one_more : (i : ℕ) → i + 1 ≡ suc i
one_more i = omega arith

-- one more item is passed
pub step_behind : (xs : List Data) (i : ℕ) (x : Data) (rest : List Data) → drop i xs ≡ x ∷ rest → drop (i + 1) xs ≡ rest
step_behind xs i x rest h = ap (λ n. drop n xs) (one_more i) ∙ next_behind xs i x rest h

-- what is behind an item, as data
pub step_others : (xs : List Data) (i : ℕ) (x : Data) (rest : Datas) → drop i xs ≡ x ∷ listed_data rest → datas_of (drop (i + 1) xs) ≡ rest
step_others xs i x rest h = ap datas_of (step_behind xs i x (listed_data rest) h) ∙ again rest

step_front : (xs : List Data) (i : ℕ) (x : Data) (rest : List Data) → drop i xs ≡ x ∷ rest → take (i + 1) xs ≡ take i xs ++ x ∷ []
step_front xs i x rest h = ap (λ n. take n xs) (one_more i) ∙ next_front xs i x rest h

more_front : (xs : List Data) (i : ℕ) (x : Data) (rest : List Data) → drop i xs ≡ x ∷ rest → after_front (i + 1) xs ≡ (λ ds. after_front i xs (more x ds))
more_front xs i x rest h j ds = (ap (λ ys. list (joined (datas_of ys) ds)) (step_front xs i x rest h) ∙ ap list (joined_push (take i xs) x ds)) j

-- the candidate of an item, put in its place, is found
pub item_here : (kinds : List KindData) (t : TypeData) (xs : List Data) (i : ℕ) (x : Data) (rest : Datas) (k : ℕ) (c : Data)
    → Here c ≡ sought (value_candidates kinds t x) k → Here (after_front i xs (more c rest)) ≡ map_sought (after_front i xs) (sought (items_in_place kinds t (more x rest)) k)
item_here kinds t xs i x rest k c h = here_in_place more (after_front i xs) x rest (value_candidates kinds t x) (items_in_place kinds t rest) k c h

-- past the candidates of an item the search goes on behind it
pub item_past : (kinds : List KindData) (t : TypeData) (xs : List Data) (i : ℕ) (x : Data) (rest : Datas) (k left : ℕ)
    → drop i xs ≡ x ∷ listed_data rest → Past left ≡ sought (value_candidates kinds t x) k
    → map_sought (after_front (i + 1) xs) (sought (items_in_place kinds t rest) left) ≡ map_sought (after_front i xs) (sought (items_in_place kinds t (more x rest)) k)
item_past kinds t xs i x rest k left at h =
    ap (λ f. map_sought f (sought (items_in_place kinds t rest) left)) (more_front xs i x (listed_data rest) at)
    ∙ past_in_place more (after_front i xs) x rest (value_candidates kinds t x) (items_in_place kinds t rest) k left h

-- the items are smaller than the value
pub items_fall : (d : Data) → datas_size (items_of d) + 1 ≤ data_size d
items_fall (list ds) = omega arith
items_fall (int n) = omega arith
items_fall (bool b) = omega arith
items_fall (pair a b) = omega arith
items_fall (made k m ds) = omega arith

-- what is before an item is less than all
pub within : (xs : List Data) (i : ℕ) (x : Data) (rest : List Data) → drop i xs ≡ x ∷ rest → i < length xs
within [] zero x rest h = cc
within (y ∷ ys) zero x rest h = omega arith
within [] (suc i) x rest h = cc
within (y ∷ ys) (suc i) x rest h = omega (arith, within ys i x rest h)

pub length_listed : (ds : Datas) → length (listed_data ds) ≤ weights ds
length_listed end = omega arith
length_listed (more d ds) = omega (arith, weight_some d, length_listed ds)

pushed : (xs : List Data) (x : Data) (ys : List Data) → (xs ++ x ∷ []) ++ ys ≡ xs ++ x ∷ ys
pushed [] x ys = refl
pushed (y ∷ xs) x ys = ap (λ zs. y ∷ zs) (pushed xs x ys)

-- one more of the first items is taken
pub took : (all next : List Data) (x y : Data) (others rest : Datas) (left : ℕ) (wanted : List Data) → 0 < left → more x others ≡ rest → next ≡ all ++ y ∷ [] → y ≡ x
    → all ++ take left (listed_data rest) ≡ wanted → next ++ take (left - 1) (listed_data others) ≡ wanted
took all next x y others rest zero wanted some is put same so_far = absurd (omega arith)
took all next x y others rest (suc left) wanted some is put same so_far =
    let less : suc left - 1 ≡ left = omega arith in
    let items = listed_data others in
    (λ i. (put ∙ ap (λ z. all ++ z ∷ []) same) i ++ take (less i) items) ∙ pushed all x (take left items)
    ∙ ap (λ ds. all ++ take (suc left) (listed_data ds)) is ∙ so_far
