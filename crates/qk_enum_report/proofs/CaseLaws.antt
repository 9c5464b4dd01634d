-- The values of a case are small.
use Rattle.std.proofs.Common.{◌≡◌, Bool, true, false, List, [], ◌∷◌, ◌++◌, Result, Ok, Err, nat_lt, if◌then◌else◌, refl, ap, subst, arith}
use Rattle.std.proofs.lemmas.Bool.Decides.{nat_tests}
use Rattle.qk_base.specs.declared.outcome.Cause.{Cause}
use Rattle.qk_base.specs.declared.outcome.Cause.TheVariants.{Weight, Depth}
use Rattle.qk_eval.specs.Answers.{AreSmall}
use Rattle.qk_eval.proofs.AnswerLaws.{small_push}
use Rattle.qk_series.specs.Cases.{after_value, case_from, case_of}
use Rattle.qk_series.specs.Small.{small}
use Rattle.qk_value.specs.Data.{Data}
use Rattle.qk_value.specs.Measures.{IsSmall, weight, depth}

abbrev ok_or : Result Data Cause → Data → Data
ok_or (Ok x) y = x
ok_or (Err c) y = y

small_is : (x y : Data) → small x ≡ Ok y → IsSmall y
small_is x y e = by (nat_lt 65536 (weight x)) refl (nat_lt 200 (depth x)) refl e
  where
    by : (a : Bool) → nat_lt 65536 (weight x) ≡ a → (b : Bool) → nat_lt 200 (depth x) ≡ b → (if a then Err Weight else if b then Err Depth else Ok x) ≡ Ok y → IsSmall y
    by true p b q k = cc
    by false p true q k = cc
    by false p false q k = subst IsSmall (ap (λ r. ok_or r x) k) (grind (arith, nat_tests, p), grind (arith, nat_tests, q))

next_small : (x : Data) (before xs : List Data) (r : Result Data Cause) → small x ≡ r → AreSmall before → ((y : Data) → AreSmall (before ++ y ∷ []) → AreSmall (case_from (before ++ y ∷ []) xs).values)
    → AreSmall (after_value before r (λ y. case_from (before ++ y ∷ []) xs)).values
next_small x before xs (Err c) e h rest = h
next_small x before xs (Ok y) e h rest = rest y (small_push before y h (small_is x y e))

small_from : (before xs : List Data) → AreSmall before → AreSmall (case_from before xs).values
small_from before [] h = h
small_from before (x ∷ xs) h = next_small x before xs (small x) refl h (λ y are. small_from (before ++ y ∷ []) xs are)

pub case_small : (xs : List Data) → AreSmall (case_of xs).values
case_small xs = small_from [] xs tt
