-- The search among the candidates of a pair, of a list and of a value of a user type.
use Rattle.std.proofs.Common.{◌≡◌, ◌∙◌, ℕ, suc, List, ◌++◌, map, length, refl, ap}
use Rattle.qk_value.specs.Data.{Data, list, pair, made, Datas, end, more, datas_of, listed_data}
use Rattle.qk_eval.specs.Parts.{count}
use Rattle.qk_shrink.specs.Blocks.{blocks, without, removals}
use Rattle.qk_shrink.specs.Sought.{sought, map_sought}
use Rattle.qk_shrink.specs.declared.blocks.Block.{Block}
use Rattle.qk_shrink.specs.declared.sought.Sought.{Sought}
use Rattle.qk_shrink.specs.declared.sought.Sought.TheVariants.{Here, Past}
use Rattle.qk_shrink.proofs.SoughtLaws.{mapped, in_first, past_first}

pub pair_first : (a b : Data) (firsts seconds : List Data) (k : ℕ) (c : Data) → Here c ≡ sought firsts k → Here (pair c b) ≡ sought (map (λ c. pair c b) firsts ++ map (pair a) seconds) k
pair_first a b firsts seconds k c h = in_first (map (λ c. pair c b) firsts) (map (pair a) seconds) k (pair c b) (mapped (λ c. pair c b) firsts k (Here c) h)

pub pair_second : (a b : Data) (firsts seconds : List Data) (k left : ℕ) (s : Sought Data) → Past left ≡ sought firsts k → s ≡ sought seconds left
    → map_sought (pair a) s ≡ sought (map (λ c. pair c b) firsts ++ map (pair a) seconds) k
pair_second a b firsts seconds k left s past h =
    mapped (pair a) seconds left s h ∙ past_first (map (λ c. pair c b) firsts) (map (pair a) seconds) k left (mapped (λ c. pair c b) firsts k (Past left) past)

removed : (xs : List Data) (k : ℕ) (s : Sought Block) → s ≡ sought (blocks (length xs)) k → map_sought datas_of (map_sought (without xs) s) ≡ sought (map datas_of (removals xs)) k
removed xs k s h = mapped datas_of (removals xs) k (map_sought (without xs) s) (mapped (without xs) (blocks (length xs)) k s h)

pub count_listed : (ds : Datas) → count ds ≡ length (listed_data ds)
count_listed end = refl
count_listed (more d ds) = ap suc (count_listed ds)

-- the list without a block is found
pub list_first : (xs : List Data) (others : List Datas) (n k : ℕ) (block : Block) → n ≡ length xs → Here block ≡ sought (blocks n) k
    → Here (list (datas_of (without xs block))) ≡ sought (map list (map datas_of (removals xs) ++ others)) k
list_first xs others n k block is found =
    let first = map datas_of (removals xs) in
    let here = found ∙ ap (λ m. sought (blocks m) k) is in
    mapped list (first ++ others) k (Here (datas_of (without xs block))) (in_first first others k (datas_of (without xs block)) (removed xs k (Here block) here))

-- past the blocks the search goes on among the others
pub list_second : (xs : List Data) (others : List Datas) (n k left : ℕ) (s : Sought Data) → n ≡ length xs → Past left ≡ sought (blocks n) k → s ≡ map_sought list (sought others left)
    → s ≡ sought (map list (map datas_of (removals xs) ++ others)) k
list_second xs others n k left s is past h =
    let first = map datas_of (removals xs) in
    let none = past ∙ ap (λ m. sought (blocks m) k) is in
    h ∙ mapped list (first ++ others) k (sought others left) (past_first first others k left (removed xs k (Past left) none))

pub made_second : (kind maker : ℕ) (own : List Data) (others : List Datas) (k left : ℕ) (s : Sought Datas) → Past left ≡ sought own k → s ≡ sought others left
    → map_sought (made kind maker) s ≡ sought (own ++ map (made kind maker) others) k
made_second kind maker own others k left s past h =
    mapped (made kind maker) others left s h ∙ past_first own (map (made kind maker) others) k left past
