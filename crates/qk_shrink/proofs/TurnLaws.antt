-- One value after another is replaced in its place.
use Rattle.std.proofs.Common.{◌≡◌, ◌∙◌, ℕ, zero, suc, ◌+◌, ◌<◌, ◌≤◌, min, List, [], ◌∷◌, ◌++◌, map, take, drop, length, get_or, refl, sym, ap, arith}
use Rattle.qk_core.specs.Program.{ProgramData}
use Rattle.qk_core.specs.Properties.{BinderData}
use Rattle.qk_core.specs.declared.property.ShrinkBy.{ShrinkBy}
use Rattle.qk_core.specs.declared.property.ShrinkBy.TheVariants.{Builtin, Function, Nothing}
use Rattle.qk_value.specs.Data.{Data}
use Rattle.qk_value.specs.Kinds.{KindData}
use Rattle.qk_value.specs.Types.{TypeData}
use Rattle.qk_value.specs.View.{view_value}
use Rattle.qk_value.specs.declared.value.Value.{Value}
use Rattle.qk_shrink.specs.Sought.{sought, map_sought}
use Rattle.qk_shrink.specs.Spreads.{WayData, in_turn, way_candidates, way_of, ways_of}
use Rattle.qk_shrink.specs.SpreadsView.{view_way}
use Rattle.qk_shrink.specs.Tuples.{candidates, shrunk}
use Rattle.qk_shrink.specs.declared.sought.Sought.{Sought}
use Rattle.qk_shrink.specs.declared.sought.Sought.TheVariants.{Here, Past}
use Rattle.qk_shrink.specs.declared.spread.Way.{Way}
use Rattle.qk_shrink.proofs.PlaceLaws.{placed, here_in_place, past_in_place, next, passed}

by_way : (core : ProgramData) (fuel : ℕ) (t : TypeData) (s : ShrinkBy) (x : Data) → way_candidates core.kinds (way_of core fuel t s x) x ≡ shrunk core fuel t s x
by_way core fuel t Builtin x = refl
by_way core fuel t (Function f) x = refl
by_way core fuel t Nothing x = refl

-- what is prepared stands for the candidates
pub in_turn_are : (core : ProgramData) (bs : List BinderData) (xs : List Data) (fuel : ℕ) → in_turn core.kinds (ways_of core bs xs fuel) xs ≡ candidates core bs xs fuel
in_turn_are core [] xs fuel = refl
in_turn_are core (b ∷ bs) [] fuel = refl
in_turn_are core (b ∷ bs) (x ∷ xs) fuel = λ i. map (λ y. y ∷ xs) (by_way core fuel b.ty b.shrink x i) ++ map (λ ys. x ∷ ys) (in_turn_are core bs xs fuel i)

pub ways_next : (core : ProgramData) (bs : List BinderData) (xs : List Data) (fuel i : ℕ) (b : BinderData) (x : Data) → i < length bs → i < length xs → b ≡ get_or bs i b → x ≡ get_or xs i x
    → ways_of core (drop i bs) (drop i xs) fuel ≡ way_of core fuel b.ty b.shrink x ∷ ways_of core (drop (i + 1) bs) (drop (i + 1) xs) fuel
ways_next core bs xs fuel i b x h k is_binder is j = ways_of core (next bs i b h is_binder j) (next xs i x k is j) fuel

pub turn_next : (kinds : List KindData) (ws : List Way) (xs : List Data) (i : ℕ) (w : Way) (x : Data) → i < length ws → i < length xs → w ≡ get_or ws i w → x ≡ get_or xs i x
    → in_turn kinds (map view_way (drop i ws)) (drop i xs)
    ≡ placed (λ y ys. y ∷ ys) x (drop (i + 1) xs) (way_candidates kinds (view_way w) x) (in_turn kinds (map view_way (drop (i + 1) ws)) (drop (i + 1) xs))
turn_next kinds ws xs i w x h k is_way is j = in_turn kinds (map view_way (next ws i w h is_way j)) (next xs i x k is j)

-- the same of plain values
pub plain_next : (kinds : List KindData) (ws : List Way) (xs : List Value) (i : ℕ) (w : Way) (x : Value) → i < length ws → i < length xs → w ≡ get_or ws i w → x ≡ get_or xs i x
    → in_turn kinds (map view_way (drop i ws)) (map view_value (drop i xs))
    ≡ placed (λ y ys. y ∷ ys) (view_value x) (map view_value (drop (i + 1) xs)) (way_candidates kinds (view_way w) (view_value x)) (in_turn kinds (map view_way (drop (i + 1) ws)) (map view_value (drop (i + 1) xs)))
plain_next kinds ws xs i w x h k is_way is j = in_turn kinds (map view_way (next ws i w h is_way j)) (map view_value (next xs i x k is j))

no_way : (core : ProgramData) (bs : List BinderData) (fuel : ℕ) → ways_of core bs [] fuel ≡ []
no_way core [] fuel = refl
no_way core (b ∷ bs) fuel = refl

pub ways_end : (core : ProgramData) (fuel i : ℕ) (bs : List BinderData) (xs : List Data) → min (length bs) (length xs) ≤ i → ways_of core (drop i bs) (drop i xs) fuel ≡ []
ways_end core fuel zero [] xs h = refl
ways_end core fuel zero (b ∷ bs) [] h = refl
ways_end core fuel zero (b ∷ bs) (x ∷ xs) h = absurd (omega arith)
ways_end core fuel (suc i) [] xs h = refl
ways_end core fuel (suc i) (b ∷ bs) [] h = no_way core (drop i bs) fuel
ways_end core fuel (suc i) (b ∷ bs) (x ∷ xs) h = ways_end core fuel i bs xs (omega arith)

no_turn : (kinds : List KindData) (ws : List WayData) → in_turn kinds ws [] ≡ []
no_turn kinds [] = refl
no_turn kinds (w ∷ ws) = refl

pub turn_end : (kinds : List KindData) (i : ℕ) (ws : List Way) (xs : List Data) → min (length ws) (length xs) ≤ i → in_turn kinds (map view_way (drop i ws)) (drop i xs) ≡ []
turn_end kinds zero [] xs h = refl
turn_end kinds zero (w ∷ ws) [] h = refl
turn_end kinds zero (w ∷ ws) (x ∷ xs) h = absurd (omega arith)
turn_end kinds (suc i) [] xs h = refl
turn_end kinds (suc i) (w ∷ ws) [] h = no_turn kinds (map view_way (drop i ws))
turn_end kinds (suc i) (w ∷ ws) (x ∷ xs) h = turn_end kinds i ws xs (omega arith)

pub plain_end : (kinds : List KindData) (i : ℕ) (ws : List Way) (xs : List Value) → min (length ws) (length xs) ≤ i → in_turn kinds (map view_way (drop i ws)) (map view_value (drop i xs)) ≡ []
plain_end kinds zero [] xs h = refl
plain_end kinds zero (w ∷ ws) [] h = refl
plain_end kinds zero (w ∷ ws) (x ∷ xs) h = absurd (omega arith)
plain_end kinds (suc i) [] xs h = refl
plain_end kinds (suc i) (w ∷ ws) [] h = no_turn kinds (map view_way (drop i ws))
plain_end kinds (suc i) (w ∷ ws) (x ∷ xs) h = plain_end kinds i ws xs (omega arith)

push : (xs : List Data) (x : Data) (ys : List Data) → (xs ++ x ∷ []) ++ ys ≡ xs ++ x ∷ ys
push [] x ys = refl
push (y ∷ xs) x ys = ap (λ zs. y ∷ zs) (push xs x ys)

-- what stands before the values from there on
abbrev pub behind : List Data → ℕ → List Data → List Data
behind xs i ys = take i xs ++ ys

behind_more : (xs : List Data) (i : ℕ) (x : Data) → i < length xs → x ≡ get_or xs i x → behind xs (i + 1) ≡ (λ ys. behind xs i (x ∷ ys))
behind_more xs i x h is j ys = (ap (λ vs. vs ++ ys) (passed xs i x h is) ∙ push (take i xs) x ys) j

-- the candidate of one value, put in its place, is found
pub turn_here : (xs all : List Data) (i : ℕ) (x c : Data) (firsts : List Data) (others whole : List (List Data)) (k : ℕ) (s : Sought Data)
    → all ≡ take i xs ++ c ∷ drop (i + 1) xs → s ≡ Here c → s ≡ sought firsts k
    → whole ≡ placed (λ y ys. y ∷ ys) x (drop (i + 1) xs) firsts others
    → Here all ≡ map_sought (behind xs i) (sought whole k)
turn_here xs all i x c firsts others whole k s put is found whole_is =
    let before = behind xs i in
    ap Here put
    ∙ here_in_place (λ y ys. y ∷ ys) before x (drop (i + 1) xs) firsts others k c (sym is ∙ found)
    ∙ ap (λ l. map_sought before (sought l k)) (sym whole_is)

-- past the candidates of one value the search goes on behind it
pub turn_past : (xs : List Data) (i : ℕ) (x : Data) (firsts : List Data) (others whole : List (List Data)) (k left : ℕ) (s : Sought Data)
    → i < length xs → x ≡ get_or xs i x → s ≡ Past left → s ≡ sought firsts k
    → whole ≡ placed (λ y ys. y ∷ ys) x (drop (i + 1) xs) firsts others
    → map_sought (behind xs (i + 1)) (sought others left) ≡ map_sought (behind xs i) (sought whole k)
turn_past xs i x firsts others whole k left s below at is found whole_is =
    let before = behind xs i in
    ap (λ f. map_sought f (sought others left)) (behind_more xs i x below at)
    ∙ past_in_place (λ y ys. y ∷ ys) before x (drop (i + 1) xs) firsts others k left (sym is ∙ found)
    ∙ ap (λ l. map_sought before (sought l k)) (sym whole_is)
