-- What is put together of the parts of a small value is small.
use Rattle.std.proofs.Common.{◌≡◌, ◌∙◌, ℕ, zero, suc, ◌+◌, ◌<◌, ◌≤◌, List, [], ◌∷◌, ◌++◌, take, drop, length, refl, sym, ap, subst, arith}
use Rattle.std.specs.List.{All}
use Rattle.qk_value.specs.Data.{Data, int, bool, list, pair, made, Datas, end, more, datas_of, listed_data}
use Rattle.qk_value.specs.Kinds.{KindData}
use Rattle.qk_value.specs.Measures.{weights, depth, depths, IsSmall}
use Rattle.qk_value.specs.Types.{TypeData}
use Rattle.qk_eval.specs.Parts.{items_of, joined}
use Rattle.qk_shrink.specs.Blocks.{without}
use Rattle.qk_shrink.specs.Candidates.{value_candidates, parts_in_place}
use Rattle.qk_shrink.specs.Sought.{sought}
use Rattle.qk_shrink.specs.declared.blocks.Block.{Block}
use Rattle.qk_shrink.specs.declared.sought.Sought.{Sought}
use Rattle.qk_shrink.specs.declared.sought.Sought.TheVariants.{Here, Past}
use Rattle.qk_shrink.proofs.SizeLaws.{Within, Withins, again, light, light_parts, light_ends}
use Rattle.qk_shrink.proofs.SoughtLaws.{sought_here}

depth_some : (d : Data) → 1 ≤ depth d
depth_some (int n) = omega arith
depth_some (bool b) = omega arith
depth_some (list ds) = omega arith
depth_some (pair a b) = omega arith
depth_some (made k m ds) = omega arith

-- the items of a small value are small together
pub small_items : (d : Data) → IsSmall d → IsSmall (list (items_of d))
small_items (list ds) h = h
small_items (int n) h = (omega arith, omega arith)
small_items (bool b) h = (omega arith, omega arith)
small_items (pair a b) h = (omega arith, omega arith)
small_items (made k m ds) h = (omega arith, omega arith)

below : {X : Type 0} (xs : List X) (k : ℕ) (x : X) → Here x ≡ sought xs k → k < length xs
below [] k x h = cc
below (y ∷ ys) zero x h = omega arith
below (y ∷ ys) (suc k) x h = omega (arith, below ys k x h)

abbrev here_or : {X : Type 0} → X → Sought X → X
here_or d (Here x) = x
here_or d (Past k) = d

-- what holds of all members holds of the one that is found
pub found_has : {X : Type 0} (P : X → Type 0) (xs : List X) (k : ℕ) (x : X) → All P xs → Here x ≡ sought xs k → P x
found_has P xs k x all h =
    let inside = below xs k x h in
    subst P (sym (ap (here_or x) (h ∙ sought_here xs k x inside))) (all k x inside)

pub no_larger : (kinds : List KindData) (t : TypeData) (d : Data) (k : ℕ) (c : Data) → Here c ≡ sought (value_candidates kinds t d) k → Within d c
no_larger kinds t d k c h = found_has (Within d) (value_candidates kinds t d) k c (light kinds t d) h

pub small_first : (kinds : List KindData) (t : TypeData) (a b : Data) (k : ℕ) (c : Data) → IsSmall (pair a b) → Here c ≡ sought (value_candidates kinds t a) k → IsSmall (pair c b)
small_first kinds t a b k c small h = let w = no_larger kinds t a k c h in (omega (arith, small.0, w.0), omega (arith, small.1, w.1))

pub small_second : (kinds : List KindData) (t : TypeData) (a b : Data) (k : ℕ) (c : Data) → IsSmall (pair a b) → Here c ≡ sought (value_candidates kinds t b) k → IsSmall (pair a c)
small_second kinds t a b k c small h = let w = no_larger kinds t b k c h in (omega (arith, small.0, w.0), omega (arith, small.1, w.1))

pub small_parts : (kinds : List KindData) (ts : List TypeData) (l m : ℕ) (ds : Datas) (k : ℕ) (es : Datas) → IsSmall (made l m ds) → Here es ≡ sought (parts_in_place kinds ts ds) k → IsSmall (made l m es)
small_parts kinds ts l m ds k es small h =
    let w = found_has (Withins ds) (parts_in_place kinds ts ds) k es (light_parts kinds ts ds) h in
    (omega (arith, small.0, w.0), omega (arith, small.1, w.1))

light_item : (xs : List Data) (i : ℕ) (x c : Data) (rest : Datas) → drop i xs ≡ x ∷ listed_data rest → Within x c → Withins (datas_of xs) (joined (datas_of (take i xs)) (more c rest))
light_item xs zero x c rest h w =
    let is : datas_of xs ≡ more x rest = ap datas_of h ∙ ap (more x) (again rest) in
    (omega (arith, w.0, ap weights is), omega (arith, w.1, ap depths is))
light_item [] (suc i) x c rest h w = cc
light_item (y ∷ ys) (suc i) x c rest h w = let light = light_item ys i x c rest h w in (omega (arith, light.0), omega (arith, light.1))

-- a small list with a candidate of one item in its place
pub small_item : (kinds : List KindData) (t : TypeData) (value : Data) (i : ℕ) (x : Data) (rest : Datas) (k : ℕ) (c : Data) → IsSmall value
    → drop i (listed_data (items_of value)) ≡ x ∷ listed_data rest → Here c ≡ sought (value_candidates kinds t x) k
    → IsSmall (list (joined (datas_of (take i (listed_data (items_of value)))) (more c rest)))
small_item kinds t value i x rest k c small at h =
    let w = light_item (listed_data (items_of value)) i x c rest at (no_larger kinds t x k c h) in
    let items = small_items value small in
    let is = again (items_of value) in
    (omega (arith, items.0, w.0, ap weights is), omega (arith, items.1, w.1, ap depths is))

pub joined_append : (xs ys : List Data) → joined (datas_of xs) (datas_of ys) ≡ datas_of (xs ++ ys)
joined_append [] ys = refl
joined_append (x ∷ xs) ys = ap (more x) (joined_append xs ys)

-- the items of a list whose items are listed
pub listed_are : (ds : Datas) (xs : List Data) → listed_data ds ≡ xs → ds ≡ datas_of xs
listed_are ds xs h = sym (again ds) ∙ ap datas_of h

-- what is left of a small list without a block
pub small_without : (value : Data) (block : Block) (items : List Data) (rest : Datas) → IsSmall value → items ≡ take block.at (listed_data (items_of value))
    → listed_data rest ≡ drop (block.at + block.size) (listed_data (items_of value)) → IsSmall (list (joined (datas_of items) rest))
small_without value block items rest small first others =
    let xs = listed_data (items_of value) in
    let end = block.at + block.size in
    let w = light_ends block.at end xs (omega arith) in
    let kept = small_items value small in
    let is = again (items_of value) in
    let left = (λ i. joined (datas_of (first i)) (listed_are rest (drop end xs) others i)) ∙ joined_append (take block.at xs) (drop end xs) in
    (omega (arith, kept.0, w.0, ap weights is, ap weights left), omega (arith, kept.1, w.1, ap depths is, ap depths left))

pub is_without : (value : Data) (block : Block) (items : List Data) (rest : Datas) → items ≡ take block.at (listed_data (items_of value))
    → listed_data rest ≡ drop (block.at + block.size) (listed_data (items_of value)) → list (joined (datas_of items) rest) ≡ list (datas_of (without (listed_data (items_of value)) block))
is_without value block items rest first others =
    let xs = listed_data (items_of value) in
    let end = block.at + block.size in
    ap list ((λ i. joined (datas_of (first i)) (listed_are rest (drop end xs) others i)) ∙ joined_append (take block.at xs) (drop end xs))

depths_joined : (ds es : Datas) → depths ds ≤ depths (joined ds es)
depths_joined end es = omega arith
depths_joined (more d ds) es = omega (arith, depths_joined ds es)

-- no first item of a small list is too deep
pub shallow : (ds es : Datas) → IsSmall (list (joined ds es)) → depths ds < 200
shallow ds es h = omega (arith, h.1, depths_joined ds es)
