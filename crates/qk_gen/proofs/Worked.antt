-- Drawings that were worked out by hand, each form of generator at least once. The words are those of the generator of 0.
use Rattle.std.proofs.Common.{◌≡◌, ℕ, pos, negsuc, true, List, [], ◌∷◌, nat_lt, refl}
use Rattle.qk_base.specs.declared.outcome.Cause.TheVariants.{DivZero, Fuel, Weight}
use Rattle.qk_core.specs.Definitions.{UserGenData}
use Rattle.qk_core.specs.ExprData.{ExprData, number, variable, binary}
use Rattle.qk_core.specs.GenData.{GenData, gens_of, weighteds_of}
use Rattle.qk_core.specs.GenData as gens
use Rattle.qk_core.specs.declared.expr.Op2.TheVariants.{Add, Div}
use Rattle.qk_eval.specs.Meaning.{Evaluated, result, crash}
use Rattle.qk_gen.specs.Drawing.{drawing, drawing_call, drawn, Draws, vector}
use Rattle.qk_splitmix.specs.Picking.{pick}
use Rattle.qk_splitmix.specs.SplitMix.{Generator, word, left, mix64, stirred}
use Rattle.qk_value.specs.Data.{Data, int, bool, list, pair, made, datas_of}
use Rattle.qk_value.specs.Types.{int_type}

-- the generator of 0, whose next word chooses 7 from 3 to 9; the next word of its left half chooses 8 from 0 to 10
abbrev zeroth : Generator
zeroth = record { seed = 0; gamma = 0xe220a8397b1dcdaf }

-- the drawing at that size, with three units and no functions or generators
abbrev at : ℕ → GenData → Evaluated Data
at size e = drawing [] [] e [] size zeroth 3

abbrev constant : ℕ → GenData
constant n = gens.pure (number (pos n))

abbrev ints : List ℕ → Data
ints ns = list (datas_of (numbers ns))
  where
    numbers : List ℕ → List Data
    numbers [] = []
    numbers (n ∷ ns) = int (pos n) ∷ numbers ns

abbrev divided_by_0 : ExprData
divided_by_0 = binary Div (number (pos 1)) (number (pos 0))

number_is_chosen : at 10 gens.any_number ≡ result (int (pos 2)) 3
unfolding pick word mix64 stirred
number_is_chosen = refl

number_at_size_0 : at 0 gens.any_number ≡ result (int (pos 0)) 3
unfolding pick word mix64 stirred
number_at_size_0 = refl

truth_is_chosen : at 10 gens.any_truth ≡ result (bool true) 3
unfolding pick word mix64 stirred
truth_is_chosen = refl

size_is_itself : at 10 gens.size ≡ result (int (pos 10)) 3
size_is_itself = refl

ends_in_either_order : at 10 (gens.choose (number (pos 9)) (number (pos 3))) ≡ at 10 (gens.choose (number (pos 3)) (number (pos 9)))
ends_in_either_order = refl

between_3_and_9 : at 10 (gens.choose (number (pos 9)) (number (pos 3))) ≡ result (int (pos 7)) 3
unfolding pick word mix64 stirred
between_3_and_9 = refl

list_length_by_the_left_half : at 2 (gens.list gens.size) ≡ result (ints (2 ∷ 2 ∷ [])) 3
unfolding pick word left mix64 stirred
list_length_by_the_left_half = refl

list_at_size_0 : at 0 (gens.list gens.any_number) ≡ result (ints []) 3
unfolding pick word left mix64 stirred
list_at_size_0 = refl

vector_has_its_length : at 4 (gens.vector (number (pos 3)) gens.size) ≡ result (ints (4 ∷ 4 ∷ 4 ∷ [])) 3
vector_has_its_length = refl

length_below_0 : at 4 (gens.vector (number (negsuc 4)) gens.size) ≡ result (ints []) 3
length_below_0 = refl

element_by_the_left_half : at 10 (gens.vector (number (pos 1)) gens.any_number) ≡ result (ints (6 ∷ [])) 3
unfolding pick word left mix64 stirred
element_by_the_left_half = refl

pair_first_by_the_left_half : at 10 (gens.pair gens.any_number gens.size) ≡ result (pair (int (pos 6)) (int (pos 10))) 3
unfolding pick word left mix64 stirred
pair_first_by_the_left_half = refl

element_1_of_3 : at 10 (gens.elements (number (pos 4) ∷ number (pos 5) ∷ number (pos 6) ∷ [])) ≡ result (int (pos 5)) 3
unfolding pick word mix64 stirred
element_1_of_3 = refl

others_are_not_evaluated : at 10 (gens.elements (divided_by_0 ∷ number (pos 5) ∷ divided_by_0 ∷ [])) ≡ result (int (pos 5)) 3
unfolding pick word mix64 stirred
others_are_not_evaluated = refl

last_of_3 : at 10 (gens.one_of (gens_of (constant 4 ∷ constant 5 ∷ gens.size ∷ []))) ≡ result (int (pos 10)) 3
unfolding pick word left mix64 stirred
last_of_3 = refl

-- 4 of 1 to 5 is chosen
weight_is_reached : at 10 (gens.frequency (weighteds_of ((0, constant 1) ∷ (2, constant 2) ∷ (3, constant 3) ∷ []))) ≡ result (int (pos 3)) 3
unfolding pick word left mix64 stirred
weight_is_reached = refl

weight_is_just_reached : at 10 (gens.frequency (weighteds_of ((4, constant 1) ∷ (1, constant 2) ∷ []))) ≡ result (int (pos 1)) 3
unfolding pick word left mix64 stirred
weight_is_just_reached = refl

size_is_set : at 10 (gens.resize (number (pos 5)) gens.size) ≡ result (int (pos 5)) 3
size_is_set = refl

size_below_0 : at 10 (gens.resize (number (negsuc 2)) gens.size) ≡ result (int (pos 0)) 3
size_below_0 = refl

size_above_1000 : at 10 (gens.resize (number (pos 2000)) gens.size) ≡ result (int (pos 1000)) 3
size_above_1000 = refl

bound_by_the_left_half : at 10 (gens.bind gens.any_number (gens.pure (binary Add (variable 0) (number (pos 1))))) ≡ result (int (pos 7)) 3
unfolding pick word left mix64 stirred
bound_by_the_left_half = refl

crash_of_an_expression : at 10 (gens.pure divided_by_0) ≡ crash DivZero
crash_of_an_expression = refl

field_by_the_left_half : at 10 (gens.making 0 1 (gens_of (gens.any_number ∷ constant 3 ∷ []))) ≡ result (made 0 1 (datas_of (int (pos 6) ∷ int (pos 3) ∷ []))) 3
unfolding pick word left mix64 stirred
field_by_the_left_half = refl

-- (gen same ((x Int)) Int (pure x)) and (gen forever () Int (forever))
abbrev program : List UserGenData
program =
    record { params = int_type ∷ []; result = int_type; body = gens.pure (variable 0) }
    ∷ record { params = []; result = int_type; body = gens.call 1 [] }
    ∷ []

call_takes_a_unit : drawing [] program (gens.call 0 (number (pos 4) ∷ [])) [] 10 zeroth 1 ≡ result (int (pos 4)) 0
unfolding drawing_call
call_takes_a_unit = refl

arguments_come_before_the_unit : drawing [] program (gens.call 0 (divided_by_0 ∷ [])) [] 10 zeroth 0 ≡ crash DivZero
unfolding drawing_call
arguments_come_before_the_unit = refl

call_without_a_unit : drawn [] program 0 (int (pos 4) ∷ []) 10 zeroth 0 ≡ crash Fuel
call_without_a_unit = refl

recursion_spends_all_units : drawing [] program (gens.call 1 []) [] 10 zeroth 100 ≡ crash Fuel
unfolding drawing_call
recursion_spends_all_units = refl

-- before any element is drawn
long_vector : (draw : Draws Data) (n : ℕ) (g : Generator) (u : ℕ) → nat_lt 65535 n ≡ true → vector draw n g u ≡ crash Weight
long_vector draw n g u long = rw long refl
