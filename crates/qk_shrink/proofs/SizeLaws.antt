-- No candidate is heavier or deeper than its value.
use Rattle.std.proofs.Common.{◌≡◌, ℕ, zero, suc, ◌+◌, ◌≤◌, ℤ, Bool, true, false, List, [], ◌∷◌, ◌++◌, map, take, drop, length, refl, ap, subst, arith, if◌then◌else◌}
use Rattle.std.proofs.lemmas.List.Elements.{All-nil, All-cons, All-append, All-map}
use Rattle.std.specs.List.{All}
use Rattle.qk_value.specs.Data.{Data, int, bool, list, pair, made, Datas, end, more, datas_of, listed_data}
use Rattle.qk_value.specs.Kinds.{KindData, maker_of}
use Rattle.qk_value.specs.Measures.{weight, weights, depth, depths}
use Rattle.qk_value.specs.Types.{TypeData, int_type, bool_type, list_type, pair_type, made_type}
use Rattle.qk_shrink.specs.Blocks.{blocks, without, removals}
use Rattle.qk_shrink.specs.Candidates.{value_candidates, items_in_place, parts_in_place, own_part, own_parts, is_made, fields_of}
use Rattle.qk_shrink.specs.Numbers.{number_candidates, truth_candidates}
use Rattle.qk_shrink.specs.declared.blocks.Block.{Block}

-- a value that is no heavier and no deeper
abbrev pub Within : Data → Data → Type 0
Within d c = (weight c ≤ weight d) × (depth c ≤ depth d)

-- values that are together no heavier and no deeper
abbrev pub Withins : Datas → Datas → Type 0
Withins ds es = (weights es ≤ weights ds) × (depths es ≤ depths ds)

-- a value that is no heavier and no deeper than some together
abbrev Inside : Datas → Data → Type 0
Inside ds c = (weight c ≤ weights ds) × (depth c ≤ depths ds)

light_rest : (n : ℕ) (xs : List Data) → (weights (datas_of (drop n xs)) ≤ weights (datas_of xs)) × (depths (datas_of (drop n xs)) ≤ depths (datas_of xs))
light_rest zero xs = (omega arith, omega arith)
light_rest (suc n) [] = (omega arith, omega arith)
light_rest (suc n) (x ∷ xs) = let rest = light_rest n xs in (omega (arith, rest.0), omega (arith, rest.1))

pub light_ends : (n m : ℕ) (xs : List Data) → n ≤ m → (weights (datas_of (take n xs ++ drop m xs)) ≤ weights (datas_of xs)) × (depths (datas_of (take n xs ++ drop m xs)) ≤ depths (datas_of xs))
light_ends zero m xs h = light_rest m xs
light_ends (suc n) zero xs h = absurd (omega arith)
light_ends (suc n) (suc m) [] h = (omega arith, omega arith)
light_ends (suc n) (suc m) (x ∷ xs) h = let rest = light_ends n m xs (omega arith) in (omega (arith, rest.0), omega (arith, rest.1))

light_without : (xs : List Data) (bs : List Block) → All (λ ys. Withins (datas_of xs) (datas_of ys)) (map (without xs) bs)
light_without xs [] = All-nil (λ ys. Withins (datas_of xs) (datas_of ys))
light_without xs (b ∷ bs) =
    All-cons (λ ys. Withins (datas_of xs) (datas_of ys)) (without xs b) (map (without xs) bs) (light_ends b.at (b.at + b.size) xs (omega arith)) (light_without xs bs)

pub again : (ds : Datas) → datas_of (listed_data ds) ≡ ds
again end = refl
again (more d ds) = ap (more d) (again ds)

light_removals : (ds : Datas) → All (Withins ds) (map datas_of (removals (listed_data ds)))
light_removals ds =
    let xs = listed_data ds in
    let all = All-map (Withins (datas_of xs)) datas_of (removals xs) (light_without xs (blocks (length xs))) in
    subst (λ (es : Datas). All (Withins es) (map datas_of (removals xs))) (again ds) all

-- the law of each, by what holds of all
pub each : {X : Type 0} (P Q : X → Type 0) → ((x : X) → P x → Q x) → (xs : List X) → All P xs → All Q xs
each P Q go xs all k d h = go _ (all k d h)

light_numbers : (d : Data) (ns : List ℤ) → weight d ≡ 1 → depth d ≡ 1 → All (Within d) (map int ns)
light_numbers d [] h k = All-nil (Within d)
light_numbers d (n ∷ ns) h k = All-cons (Within d) (int n) (map int ns) (omega (arith, h), omega (arith, k)) (light_numbers d ns h k)

light_truths : (d : Data) (bs : List Bool) → weight d ≡ 1 → depth d ≡ 1 → All (Within d) (map bool bs)
light_truths d [] h k = All-nil (Within d)
light_truths d (b ∷ bs) h k = All-cons (Within d) (bool b) (map bool bs) (omega (arith, h), omega (arith, k)) (light_truths d bs h k)

light_own_part : (b : Bool) (d : Data) (ds : Datas) → All (Inside (more d ds)) (if b then d ∷ [] else [])
light_own_part true d ds = All-cons (Inside (more d ds)) d [] (omega arith, omega arith) (All-nil (Inside (more d ds)))
light_own_part false d ds = All-nil (Inside (more d ds))

light_own : (k : ℕ) (ts : List TypeData) (ds : Datas) → All (Inside ds) (own_parts k ts ds)
light_own k [] ds = All-nil (Inside ds)
light_own k (t ∷ ts) end = All-nil (Inside end)
light_own k (t ∷ ts) (more d ds) =
    All-append (Inside (more d ds)) (own_part k t d) (own_parts k ts ds) (light_own_part (is_made k t) d ds)
    (each (Inside ds) (Inside (more d ds)) (λ c h. (omega (arith, h.0), omega (arith, h.1))) (own_parts k ts ds) (light_own k ts ds))

mutual
  pub light : (kinds : List KindData) (t : TypeData) (d : Data) → All (Within d) (value_candidates kinds t d)
  light kinds int_type (int n) = light_numbers (int n) (number_candidates n) refl refl
  light kinds bool_type (bool b) = light_truths (bool b) (truth_candidates b) refl refl
  light kinds (list_type t) (list ds) =
      All-map (Within (list ds)) list (map datas_of (removals (listed_data ds)) ++ items_in_place kinds t ds)
      (each (Withins ds) (λ es. Within (list ds) (list es)) (λ es h. (omega (arith, h.0), omega (arith, h.1))) (map datas_of (removals (listed_data ds)) ++ items_in_place kinds t ds)
      (All-append (Withins ds) (map datas_of (removals (listed_data ds))) (items_in_place kinds t ds) (light_removals ds) (light_items kinds t ds)))
  light kinds (pair_type t u) (pair a b) =
      All-append (Within (pair a b)) (map (λ c. pair c b) (value_candidates kinds t a)) (map (pair a) (value_candidates kinds u b))
      (All-map (Within (pair a b)) (λ c. pair c b) (value_candidates kinds t a)
      (each (Within a) (λ c. Within (pair a b) (pair c b)) (λ c h. (omega (arith, h.0), omega (arith, h.1))) (value_candidates kinds t a) (light kinds t a)))
      (All-map (Within (pair a b)) (pair a) (value_candidates kinds u b)
      (each (Within b) (λ c. Within (pair a b) (pair a c)) (λ c h. (omega (arith, h.0), omega (arith, h.1))) (value_candidates kinds u b) (light kinds u b)))
  light kinds (made_type k) (made l m ds) =
      let fields = fields_of (maker_of kinds l m) in
      All-append (Within (made l m ds)) (own_parts l fields ds) (map (made l m) (parts_in_place kinds fields ds))
      (each (Inside ds) (Within (made l m ds)) (λ c h. (omega (arith, h.0), omega (arith, h.1))) (own_parts l fields ds) (light_own l fields ds))
      (All-map (Within (made l m ds)) (made l m) (parts_in_place kinds fields ds)
      (each (Withins ds) (λ es. Within (made l m ds) (made l m es)) (λ es h. (omega (arith, h.0), omega (arith, h.1))) (parts_in_place kinds fields ds) (light_parts kinds fields ds)))
  light kinds t d = All-nil (Within d)

  light_items : (kinds : List KindData) (t : TypeData) (ds : Datas) → All (Withins ds) (items_in_place kinds t ds)
  light_items kinds t end = All-nil (Withins end)
  light_items kinds t (more d ds) =
      All-append (Withins (more d ds)) (map (λ c. more c ds) (value_candidates kinds t d)) (map (more d) (items_in_place kinds t ds))
      (All-map (Withins (more d ds)) (λ c. more c ds) (value_candidates kinds t d)
      (each (Within d) (λ c. Withins (more d ds) (more c ds)) (λ c h. (omega (arith, h.0), omega (arith, h.1))) (value_candidates kinds t d) (light kinds t d)))
      (All-map (Withins (more d ds)) (more d) (items_in_place kinds t ds)
      (each (Withins ds) (λ es. Withins (more d ds) (more d es)) (λ es h. (omega (arith, h.0), omega (arith, h.1))) (items_in_place kinds t ds) (light_items kinds t ds)))

  pub light_parts : (kinds : List KindData) (ts : List TypeData) (ds : Datas) → All (Withins ds) (parts_in_place kinds ts ds)
  light_parts kinds [] ds = All-nil (Withins ds)
  light_parts kinds (t ∷ ts) end = All-nil (Withins end)
  light_parts kinds (t ∷ ts) (more d ds) =
      All-append (Withins (more d ds)) (map (λ c. more c ds) (value_candidates kinds t d)) (map (more d) (parts_in_place kinds ts ds))
      (All-map (Withins (more d ds)) (λ c. more c ds) (value_candidates kinds t d)
      (each (Within d) (λ c. Withins (more d ds) (more c ds)) (λ c h. (omega (arith, h.0), omega (arith, h.1))) (value_candidates kinds t d) (light kinds t d)))
      (All-map (Withins (more d ds)) (more d) (parts_in_place kinds ts ds)
      (each (Withins ds) (λ es. Withins (more d ds) (more d es)) (λ es h. (omega (arith, h.0), omega (arith, h.1))) (parts_in_place kinds ts ds) (light_parts kinds ts ds)))
