-- The candidates of small values are small, and as many as the values.
use Rattle.std.proofs.Common.{◌≡◌, ℕ, suc, List, [], ◌∷◌, map, length, refl, ap, arith}
use Rattle.std.proofs.lemmas.List.Elements.{All-nil, All-cons, All-append, All-map}
use Rattle.std.specs.List.{All}
use Rattle.qk_core.specs.Program.{ProgramData}
use Rattle.qk_core.specs.Properties.{BinderData}
use Rattle.qk_core.specs.declared.property.ShrinkBy.{ShrinkBy}
use Rattle.qk_core.specs.declared.property.ShrinkBy.TheVariants.{Builtin, Function, Nothing}
use Rattle.qk_value.specs.Data.{Data, listed_data}
use Rattle.qk_value.specs.Measures.{IsSmall}
use Rattle.qk_value.specs.Types.{TypeData}
use Rattle.qk_eval.specs.Answers.{AreSmall}
use Rattle.qk_eval.specs.Meaning.{Evaluated, result, crash, called}
use Rattle.qk_eval.specs.Parts.{items_of}
use Rattle.qk_shrink.specs.Candidates.{value_candidates}
use Rattle.qk_shrink.specs.Tuples.{answered, candidates, shrunk}
use Rattle.qk_shrink.proofs.MeaningSizes.{Finds, called_small, items_small}
use Rattle.qk_shrink.proofs.SizeLaws.{Within, each, light}

of_small : (xs : List Data) → AreSmall xs → All IsSmall xs
of_small [] h = All-nil IsSmall
of_small (x ∷ xs) h = All-cons IsSmall x xs h.0 (of_small xs h.1)

answers_small : (r : Evaluated Data) → Finds IsSmall r → All IsSmall (answered r)
answers_small (result x u) h = of_small (listed_data (items_of x)) (items_small x h)
answers_small (crash c) h = All-nil IsSmall

shrunk_small : (core : ProgramData) (fuel : ℕ) (t : TypeData) (s : ShrinkBy) (x : Data) → IsSmall x → All IsSmall (shrunk core fuel t s x)
shrunk_small core fuel t Builtin x h =
    each (Within x) IsSmall (λ y k. (omega (arith, h.0, k.0), omega (arith, h.1, k.1))) (value_candidates core.kinds t x) (light core.kinds t x)
shrunk_small core fuel t (Function f) x h = answers_small (called core.functions f (x ∷ []) fuel) (called_small core.functions f (x ∷ []) fuel (h, tt))
shrunk_small core fuel t Nothing x h = All-nil IsSmall

pub candidates_small : (core : ProgramData) (bs : List BinderData) (xs : List Data) (fuel : ℕ) → AreSmall xs → All AreSmall (candidates core bs xs fuel)
candidates_small core [] xs fuel h = All-nil AreSmall
candidates_small core (b ∷ bs) [] fuel h = All-nil AreSmall
candidates_small core (b ∷ bs) (x ∷ xs) fuel h =
    let firsts = shrunk core fuel b.ty b.shrink x in
    let others = candidates core bs xs fuel in
    All-append AreSmall (map (λ y. y ∷ xs) firsts) (map (λ ys. x ∷ ys) others)
    (All-map AreSmall (λ y. y ∷ xs) firsts (each IsSmall (λ y. AreSmall (y ∷ xs)) (λ y k. (k, h.1)) firsts (shrunk_small core fuel b.ty b.shrink x h.0)))
    (All-map AreSmall (λ ys. x ∷ ys) others (each AreSmall (λ ys. AreSmall (x ∷ ys)) (λ ys k. (h.0, k)) others (candidates_small core bs xs fuel h.1)))

-- lists of that length
abbrev AreMany : ℕ → List Data → Type 0
AreMany n ys = length ys ≡ n

firsts_many : (xs firsts : List Data) → All (AreMany (suc (length xs))) (map (λ y. y ∷ xs) firsts)
firsts_many xs [] = All-nil (AreMany (suc (length xs)))
firsts_many xs (y ∷ ys) = All-cons (AreMany (suc (length xs))) (y ∷ xs) (map (λ y. y ∷ xs) ys) refl (firsts_many xs ys)

pub candidates_many : (core : ProgramData) (bs : List BinderData) (xs : List Data) (fuel : ℕ) → All (λ ys. length ys ≡ length xs) (candidates core bs xs fuel)
candidates_many core [] xs fuel = All-nil (λ ys. length ys ≡ length xs)
candidates_many core (b ∷ bs) [] fuel = All-nil (λ ys. length ys ≡ 0)
candidates_many core (b ∷ bs) (x ∷ xs) fuel =
    let firsts = shrunk core fuel b.ty b.shrink x in
    let others = candidates core bs xs fuel in
    All-append (AreMany (suc (length xs))) (map (λ y. y ∷ xs) firsts) (map (λ ys. x ∷ ys) others) (firsts_many xs firsts)
    (All-map (AreMany (suc (length xs))) (λ ys. x ∷ ys) others
    (each (AreMany (length xs)) (λ ys. AreMany (suc (length xs)) (x ∷ ys)) (λ ys h. ap suc h) others (candidates_many core bs xs fuel)))
