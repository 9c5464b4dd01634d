-- What a generator draws: a value with the units of fuel that are left, or a crash with its cause.
use Rattle.std.specs.Prelude.{ℕ, zero, suc, ◌+◌, ◌-◌, ℤ, pos, negsuc, neg_ℤ, List, [], ◌∷◌, ◌++◌, Option, Some, None, max, min, nat_lt, if◌then◌else◌, length, slice_get, option_map}
use Rattle.std.specs.Int.{int_min, int_max}
use Rattle.std.specs.Ordering.{int_eq}
use Rattle.qk_base.specs.declared.outcome.Cause.TheVariants.{Fuel, Weight}
use Rattle.qk_core.specs.Definitions.{FunctionData, UserGenData}
use Rattle.qk_core.specs.ExprData.{ExprData, exprs_of}
use Rattle.qk_core.specs.GenData.{GenData, GensData, WeightedsData}
use Rattle.qk_core.specs.GenData as gens
use Rattle.qk_eval.specs.Meaning.{Evaluated, result, crash, and_then, or_crash, mean_all, calling, meaning}
use Rattle.qk_eval.specs.Parts.{number_of, small}
use Rattle.qk_splitmix.specs.Picking.{pick}
use Rattle.qk_splitmix.specs.SplitMix.{Generator, word, left, right}
use Rattle.qk_value.specs.Data.{Data, int, bool, list, pair, made, end, datas_of}
use Rattle.qk_value.specs.Measures.{weight}

-- a number of an interval, by the next word
abbrev pub chosen : Generator → ℤ → ℤ → ℤ
chosen g lo hi = pick (word g) lo hi

-- a number between two, whichever is the lesser
abbrev pub chosen_between : Generator → ℤ → ℤ → ℤ
chosen_between g m n = chosen g (int_min m n) (int_max m n)

-- a number as a length: below 0 counts as 0
abbrev pub length_of : ℤ → ℕ
length_of (pos n) = n
length_of (negsuc n) = 0

-- a number as a size: held to 0 to 1,000
abbrev pub size_of : ℤ → ℕ
size_of z = min (length_of z) 1000

-- one of so many places, by the next word
abbrev pub place : Generator → ℕ → ℕ
place g count = length_of (chosen g (pos 0) (pos (count - 1)))

-- one of 1 to that many, by the next word
abbrev pub up_to : Generator → ℕ → ℕ
up_to g count = length_of (chosen g (pos 1) (pos (max count 1)))

abbrev pub gens_count : GensData → ℕ
gens_count gens.end = 0
gens_count (gens.more e es) = suc (gens_count es)

abbrev pub total_weight : WeightedsData → ℕ
total_weight gens.no_weighted = 0
total_weight (gens.more_weighted w e parts) = w + total_weight parts

-- what is drawn by a generator of words, with units
abbrev pub Draws : Type 0 → Type 0
Draws R = Generator → ℕ → Evaluated R

-- so many elements, a generator being split off for each; too heavy as soon as the weights so far, with those given, pass the limit
abbrev pub elements : Draws Data → ℕ → ℕ → Draws (List Data)
elements draw zero weighed g u = result [] u
elements draw (suc n) weighed g u =
    and_then (draw (left g) u) (λ x v.
    if nat_lt 65536 (weighed + weight x) then crash Weight else
    and_then (elements draw n (weighed + weight x) (right g) v) (λ xs w. result (x ∷ xs) w))

-- a list of that many elements: too heavy at once where no list of that length is small, else as soon as its elements are, and then
-- too deep where it is
abbrev pub vector : Draws Data → ℕ → Draws Data
vector draw n g u =
    if nat_lt 65535 n then crash Weight else
    and_then (elements draw n 1 g u) (λ xs v. or_crash (small (list (datas_of xs))) v)

-- what a generator of the program, by its number, draws with its arguments, at a size
abbrev pub Calls : Type 0
Calls = ℕ → List Data → ℕ → Draws Data

-- one of several expressions, by its place
abbrev pub one_expr : List FunctionData → Option ExprData → List Data → ℕ → Evaluated Data
one_expr functions None env u = result (list end) u
one_expr functions (Some e) env u = meaning functions e env u

-- the drawing of a generator in an environment, at a size, over that of calls; parts go from left to right
module _ (functions : List FunctionData) (calls : Calls) where
  abbrev mutual
    pub draws : GenData → List Data → ℕ → Draws Data
    draws gens.any_number env size g u = result (int (chosen g (neg_ℤ (pos size)) (pos size))) u
    draws gens.any_truth env size g u = result (bool (int_eq (chosen g (pos 0) (pos 1)) (pos 1))) u
    draws gens.size env size g u = result (int (pos size)) u
    draws (gens.choose a b) env size g u =
        and_then (meaning functions a env u) (λ x v.
        and_then (meaning functions b env v) (λ y w. result (int (chosen_between g (number_of x) (number_of y))) w))
    draws (gens.list e) env size g u = vector (λ h v. draws e env size h v) (length_of (chosen (left g) (pos 0) (pos size))) (right g) u
    draws (gens.vector a e) env size g u =
        and_then (meaning functions a env u) (λ x v. vector (λ h w. draws e env size h w) (length_of (number_of x)) g v)
    draws (gens.pair d e) env size g u =
        and_then (draws d env size (left g) u) (λ x v.
        and_then (draws e env size (right g) v) (λ y w. or_crash (small (pair x y)) w))
    draws (gens.elements es) env size g u = one_expr functions (slice_get es (place g (length es))) env u
    draws (gens.one_of es) env size g u = draws_at es (place (left g) (gens_count es)) env size (right g) u
    draws (gens.frequency parts) env size g u =
        draws_reached parts (up_to (left g) (total_weight parts)) env size (right g) u
    draws (gens.resize a e) env size g u = and_then (meaning functions a env u) (λ x v. draws e env (size_of (number_of x)) g v)
    draws (gens.bind d e) env size g u =
        and_then (draws d env size (left g) u) (λ x v. draws e (env ++ x ∷ []) size (right g) v)
    draws (gens.pure a) env size g u = meaning functions a env u
    draws (gens.making k m es) env size g u =
        and_then (draws_each es env size g u) (λ xs v. or_crash (small (made k m (datas_of xs))) v)
    draws (gens.call f args) env size g u =
        and_then (mean_all (calling functions) (exprs_of args) env u) (λ xs v. calls f xs size g v)

    -- the one at that place
    pub draws_at : GensData → ℕ → List Data → ℕ → Draws Data
    draws_at gens.end n env size g u = result (list end) u
    draws_at (gens.more e es) zero env size g u = draws e env size g u
    draws_at (gens.more e es) (suc n) env size g u = draws_at es n env size g u

    -- the first whose weights so far reach that number
    pub draws_reached : WeightedsData → ℕ → List Data → ℕ → Draws Data
    draws_reached gens.no_weighted n env size g u = result (list end) u
    draws_reached (gens.more_weighted w e parts) n env size g u =
        if nat_lt w n then draws_reached parts (n - w) env size g u else draws e env size g u

    -- each of them, a generator being split off for each
    pub draws_each : GensData → List Data → ℕ → Draws (List Data)
    draws_each gens.end env size g u = result [] u
    draws_each (gens.more e es) env size g u =
        and_then (draws e env size (left g) u) (λ x v.
        and_then (draws_each es env size (right g) v) (λ xs w. result (x ∷ xs) w))

  -- the drawing of a body, whose environment is the arguments
  abbrev pub draws_body : Option GenData → List Data → ℕ → Draws Data
  draws_body None env size g u = result (list end) u
  draws_body (Some body) env size g u = draws body env size g u

-- the body of a generator of the program, by its number
abbrev pub body_of : List UserGenData → ℕ → Option GenData
body_of generators f = option_map (λ generator. generator.body) (slice_get generators f)

-- what the generators of the program draw in calls that are nested at most n deep
abbrev pub calls_within : List FunctionData → List UserGenData → ℕ → Calls
calls_within functions generators n f args size g zero = crash Fuel
calls_within functions generators zero f args size g (suc u) = crash Fuel
calls_within functions generators (suc n) f args size g (suc u) =
    draws_body functions (calls_within functions generators n) (body_of generators f) args size g u

-- a call takes one unit, so that calls are nested no deeper than there are units
unfoldable pub drawing_call : List FunctionData → List UserGenData → Calls
drawing_call functions generators f args size g u = calls_within functions generators u f args size g u

-- what a generator draws in an environment at a size, over a program's functions and generators
abbrev pub drawing : List FunctionData → List UserGenData → GenData → List Data → ℕ → Draws Data
drawing functions generators = draws functions (drawing_call functions generators)

-- what a call draws, which takes one unit and draws the body with the arguments as its environment
abbrev pub drawn : List FunctionData → List UserGenData → Calls
drawn functions generators f args size g zero = crash Fuel
drawn functions generators f args size g (suc u) =
    draws_body functions (drawing_call functions generators) (body_of generators f) args size g u
