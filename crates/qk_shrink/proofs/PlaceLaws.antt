-- One member after another is replaced in its place.
use Rattle.std.proofs.Common.{◌≡◌, ◌∙◌, ℕ, zero, suc, ◌+◌, ◌<◌, ◌≤◌, min, List, [], ◌∷◌, ◌++◌, map, take, drop, length, get_or, refl, sym, ap, add-one, arith}
use Rattle.std.proofs.Math.Seq.{drop-cons}
use Rattle.std.proofs.lemmas.List.{length-append, length-map, take_more}
use Rattle.qk_value.specs.Data.{end, more}
use Rattle.qk_value.specs.Kinds.{KindData}
use Rattle.qk_value.specs.Measures.{weight, weights}
use Rattle.qk_value.specs.Types.{TypeData}
use Rattle.qk_value.specs.View.{view_type, view_value, view_values}
use Rattle.qk_value.specs.declared.ty.Ty.{Ty}
use Rattle.qk_value.specs.declared.value.Value.{Value}
use Rattle.qk_shrink.specs.Candidates.{value_candidates, items_in_place, parts_in_place, own_part, own_parts}
use Rattle.qk_shrink.specs.Sought.{sought, map_sought}
use Rattle.qk_shrink.specs.declared.sought.Sought.{Sought}
use Rattle.qk_shrink.specs.declared.sought.Sought.TheVariants.{Here, Past}
use Rattle.qk_shrink.proofs.SoughtLaws.{sought_map, mapped, in_first, past_first}

-- the first member's candidates in its place, and then those of the rest behind it
abbrev pub placed : {X T : Type 0} → (X → T → T) → X → T → List X → List T → List T
placed put x rest firsts others = map (λ c. put c rest) firsts ++ map (put x) others

map_twice : {X Y Z : Type 0} (f : Y → Z) (g : X → Y) (s : Sought X) → map_sought f (map_sought g s) ≡ map_sought (λ x. f (g x)) s
map_twice f g (Here x) = refl
map_twice f g (Past k) = refl

-- a candidate of the first member is found
pub here_in_place : {X T U : Type 0} (put : X → T → T) (before : T → U) (x : X) (rest : T) (firsts : List X) (others : List T) (k : ℕ) (c : X)
    → Here c ≡ sought firsts k → Here (before (put c rest)) ≡ map_sought before (sought (placed put x rest firsts others) k)
here_in_place put before x rest firsts others k c h =
    ap (map_sought before) (in_first (map (λ c. put c rest) firsts) (map (put x) others) k (put c rest) (mapped (λ c. put c rest) firsts k (Here c) h))

-- past them the search goes on behind the first member
pub past_in_place : {X T U : Type 0} (put : X → T → T) (before : T → U) (x : X) (rest : T) (firsts : List X) (others : List T) (k left : ℕ)
    → Past left ≡ sought firsts k → map_sought (λ t. before (put x t)) (sought others left) ≡ map_sought before (sought (placed put x rest firsts others) k)
past_in_place put before x rest firsts others k left h =
    sym (map_twice before (put x) (sought others left)) ∙ ap (map_sought before) (sym (sought_map (put x) others left)
    ∙ past_first (map (λ c. put c rest) firsts) (map (put x) others) k left (mapped (λ c. put c rest) firsts k (Past left) h))

pub count_placed : {X T : Type 0} (put : X → T → T) (x : X) (rest : T) (firsts : List X) (others : List T) → length (placed put x rest firsts others) ≡ length firsts + length others
count_placed put x rest firsts others =
    length-append (map (λ c. put c rest) firsts) (map (put x) others)
    ∙ (λ i. length-map firsts (λ c. put c rest) i + length-map others (put x) i)

-- the first of what is left
pub next : {X : Type 0} (xs : List X) (i : ℕ) (x : X) → i < length xs → x ≡ get_or xs i x → drop i xs ≡ x ∷ drop (i + 1) xs
next xs i x h is = rw add-one (drop-cons xs i x h) ∙ ap (λ y. y ∷ drop (i + 1) xs) (sym is)

-- what is passed, and one more
pub passed : {X : Type 0} (xs : List X) (i : ℕ) (x : X) → i < length xs → x ≡ get_or xs i x → take (i + 1) xs ≡ take i xs ++ x ∷ []
passed xs i x h is = take_more xs i x h ∙ ap (λ y. take i xs ++ y ∷ []) (sym is)

pub items_next : (kinds : List KindData) (t : TypeData) (xs : List Value) (i : ℕ) (x : Value) → i < length xs → x ≡ get_or xs i x
    → items_in_place kinds t (view_values (drop i xs)) ≡ placed more (view_value x) (view_values (drop (i + 1) xs)) (value_candidates kinds t (view_value x)) (items_in_place kinds t (view_values (drop (i + 1) xs)))
items_next kinds t xs i x h is = ap (λ vs. items_in_place kinds t (view_values vs)) (next xs i x h is)

pub parts_next : (kinds : List KindData) (ts : List Ty) (xs : List Value) (i : ℕ) (t : Ty) (x : Value) → i < length ts → i < length xs → t ≡ get_or ts i t → x ≡ get_or xs i x
    → parts_in_place kinds (map view_type (drop i ts)) (view_values (drop i xs))
    ≡ placed more (view_value x) (view_values (drop (i + 1) xs)) (value_candidates kinds (view_type t) (view_value x)) (parts_in_place kinds (map view_type (drop (i + 1) ts)) (view_values (drop (i + 1) xs)))
parts_next kinds ts xs i t x h k is_type is j = parts_in_place kinds (map view_type (next ts i t h is_type j)) (view_values (next xs i x k is j))

pub own_next : (kind : ℕ) (ts : List Ty) (xs : List Value) (i : ℕ) (t : Ty) (x : Value) → i < length ts → i < length xs → t ≡ get_or ts i t → x ≡ get_or xs i x
    → own_parts kind (map view_type (drop i ts)) (view_values (drop i xs)) ≡ own_part kind (view_type t) (view_value x) ++ own_parts kind (map view_type (drop (i + 1) ts)) (view_values (drop (i + 1) xs))
own_next kind ts xs i t x h k is_type is j = own_parts kind (map view_type (next ts i t h is_type j)) (view_values (next xs i x k is j))

pub weights_next : (xs : List Value) (i : ℕ) (x : Value) → i < length xs → x ≡ get_or xs i x → weights (view_values (drop i xs)) ≡ weight (view_value x) + weights (view_values (drop (i + 1) xs))
weights_next xs i x h is = ap (λ vs. weights (view_values vs)) (next xs i x h is)

no_own : (kind : ℕ) (ts : List TypeData) → own_parts kind ts end ≡ []
no_own kind [] = refl
no_own kind (t ∷ ts) = refl

-- where types or parts end, no own part is left
pub own_end : (kind i : ℕ) (ts : List Ty) (xs : List Value) → min (length ts) (length xs) ≤ i → own_parts kind (map view_type (drop i ts)) (view_values (drop i xs)) ≡ []
own_end kind zero [] xs h = refl
own_end kind zero (t ∷ ts) [] h = refl
own_end kind zero (t ∷ ts) (x ∷ xs) h = absurd (omega arith)
own_end kind (suc i) [] xs h = refl
own_end kind (suc i) (t ∷ ts) [] h = no_own kind (map view_type (drop i ts))
own_end kind (suc i) (t ∷ ts) (x ∷ xs) h = own_end kind i ts xs (omega arith)

no_part : (kinds : List KindData) (ts : List TypeData) → parts_in_place kinds ts end ≡ []
no_part kinds [] = refl
no_part kinds (t ∷ ts) = refl

-- where types or parts end, no part is left
pub parts_end : (kinds : List KindData) (i : ℕ) (ts : List Ty) (xs : List Value) → min (length ts) (length xs) ≤ i → parts_in_place kinds (map view_type (drop i ts)) (view_values (drop i xs)) ≡ []
parts_end kinds zero [] xs h = refl
parts_end kinds zero (t ∷ ts) [] h = refl
parts_end kinds zero (t ∷ ts) (x ∷ xs) h = absurd (omega arith)
parts_end kinds (suc i) [] xs h = refl
parts_end kinds (suc i) (t ∷ ts) [] h = no_part kinds (map view_type (drop i ts))
parts_end kinds (suc i) (t ∷ ts) (x ∷ xs) h = parts_end kinds i ts xs (omega arith)

-- and no item where the items end
pub items_end : (kinds : List KindData) (t : TypeData) (i : ℕ) (xs : List Value) → length xs ≤ i → items_in_place kinds t (view_values (drop i xs)) ≡ []
items_end kinds t zero [] h = refl
items_end kinds t zero (x ∷ xs) h = absurd (omega arith)
items_end kinds t (suc i) [] h = refl
items_end kinds t (suc i) (x ∷ xs) h = items_end kinds t i xs (omega arith)
