-- What an answer says leaves no more units than its meaning, and small values with one more.
use Rattle.std.proofs.Common.{◌≡◌, ℕ, List, [], ◌∷◌, ◌++◌, sym, subst}
use Rattle.qk_value.specs.Data.{Data}
use Rattle.qk_value.specs.Measures.{IsSmall}
use Rattle.qk_eval.specs.Answers.{said, LeavesWithin, AreSmall}
use Rattle.qk_eval.specs.Meaning.{Evaluated}
use Rattle.qk_eval.specs.declared.answer.Answer.{Answer}
use Rattle.qk_eval.specs.declared.answer.Answer.TheVariants.{Value, Crash}
use Rattle.qk_eval.proofs.UnitsLaws.{Within}

pub left_within : (a : Answer) (r : Evaluated Data) (fuel : ℕ) → said a ≡ r → Within r fuel → LeavesWithin fuel a
left_within (Value v u) r fuel e w = let P : Evaluated Data → Type 0 = λ s. Within s fuel in subst P (sym e) w
left_within (Crash c) r fuel e w = tt

pub small_push : (ds : List Data) (d : Data) → AreSmall ds → IsSmall d → AreSmall (ds ++ d ∷ [])
small_push [] d are is = (is, tt)
small_push (e ∷ ds) d are is = (are.0, small_push ds d are.1 is)
