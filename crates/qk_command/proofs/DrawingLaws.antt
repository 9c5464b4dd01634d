-- Where each binder was drawn, and that a list of commands leaves no more units than there were.
use Rattle.std.proofs.Common.{◌≡◌, ◌∙◌, ◌↔◌, ℕ, zero, suc, ◌+◌, ◌≤◌, Bool, true, false, if◌then◌else◌, List, [], ◌∷◌, ◌++◌, length, length-append, None, Result, Ok, Err, refl, sym, arith, le_refl, le_trans}
use Rattle.qk_base.specs.declared.outcome.Cause.{Cause}
use Rattle.qk_core.specs.Definitions.{ModelData}
use Rattle.qk_core.specs.Program.{ProgramData}
use Rattle.qk_core.specs.Properties.{BinderData}
use Rattle.qk_eval.proofs.UnitsLaws.{Within, called_within, meaning_within}
use Rattle.qk_eval.specs.Meaning.{Evaluated, result, crash, and_then, or_crash, called, meaning}
use Rattle.qk_eval.specs.Parts.{truth_of, small}
use Rattle.qk_gen.proofs.UnitsLaws.{drawn_within}
use Rattle.qk_gen.specs.Drawing.{drawn}
use Rattle.qk_splitmix.specs.SplitMix.{Generator, left, right}
use Rattle.qk_value.specs.Data.{Data, list, datas_of}
use Rattle.qk_command.specs.Drawing.{DrawnValues, turns, drawing_commands, binder_draws, after_drawing, drawn_from}

one_more : (n : ℕ) (before : List Data) (x : Data) → length (before ++ x ∷ []) + n ≡ length before + suc n
one_more n before x = omega (arith, length-append before (x ∷ []))

whole_after : (n : ℕ) (before : List Data) (r : Evaluated Data) (go : Data → ℕ → DrawnValues)
    → ((x : Data) (v : ℕ) → ((go x v).crash ≡ None) ↔ (length (go x v).values ≡ length (before ++ x ∷ []) + n))
    → ((after_drawing r before go).crash ≡ None) ↔ (length (after_drawing r before go).values ≡ length before + suc n)
whole_after n before (result x v) go whole = ((λ none. (whole x v).0 none ∙ one_more n before x), (λ same. (whole x v).1 (same ∙ sym (one_more n before x))))
whole_after n before (crash cause) go whole = ((λ none. cc), (λ same. absurd (omega (arith, same))))

-- no drawing crashed exactly where there is a value for each binder
pub whole : (c : ProgramData) (bs : List BinderData) (before : List Data) (size : ℕ) (g : Generator) (u : ℕ)
    → ((drawn_from c bs before size g u).crash ≡ None) ↔ (length (drawn_from c bs before size g u).values ≡ length before + length bs)
whole c [] before size g u = ((λ none. omega arith), (λ same. refl))
whole c (b ∷ bs) before size g u =
    whole_after (length bs) before (binder_draws c b.draw before size (left g) u) (λ x v. drawn_from c bs (before ++ x ∷ []) size (right g) v)
    (λ x v. whole c bs (before ++ x ∷ []) size (right g) v)

then_within : {R S : Type 0} (r : Evaluated R) (go : R → ℕ → Evaluated S) (u most : ℕ) → u ≤ most → Within r u → ((x : R) (v : ℕ) → v ≤ most → Within (go x v) most) → Within (and_then r go) most
then_within (result x v) go u most most_is less within = within x v (le_trans less most_is)
then_within (crash c) go u most most_is less within = tt

if_within : (b : Bool) (r s : Evaluated Data) (most : ℕ) → Within r most → Within s most → Within (if b then r else s) most
if_within true r s most h k = h
if_within false r s most h k = k

crash_within : (r : Result Data Cause) (u : ℕ) → Within (or_crash r u) u
crash_within (Ok x) u = le_refl u
crash_within (Err c) u = tt

turns_within : (c : ProgramData) (m : ModelData) (size n : ℕ) (before : List Data) (s : Data) (g : Generator) (u most : ℕ) → u ≤ most → Within (turns c m size n before s g u) most
turns_within c m size zero before s g u most h = h
turns_within c m size (suc n) before s g u most h =
    then_within (drawn c.functions c.generators m.maker (s ∷ []) size (left g) u) _ u most h (drawn_within c.functions c.generators m.maker (s ∷ []) size (left g) u) (λ x v k.
    then_within (called c.functions m.pre (s ∷ x ∷ []) v) _ v most k (called_within c.functions m.pre (s ∷ x ∷ []) v) (λ y w l.
    if_within (truth_of y) _ _ most
    (then_within (or_crash (small (list (datas_of (before ++ x ∷ [])))) w) _ w most l (crash_within (small (list (datas_of (before ++ x ∷ [])))) w) (λ all i j.
    then_within (called c.functions m.next (s ∷ x ∷ []) i) _ i most j (called_within c.functions m.next (s ∷ x ∷ []) i) (λ t v k. turns_within c m size n (before ++ x ∷ []) t (right g) v most k)))
    (turns_within c m size n before s (right g) w most l)))

pub commands_within : (c : ProgramData) (m : ModelData) (size : ℕ) (g : Generator) (u : ℕ) → Within (drawing_commands c m size g u) u
commands_within c m size g u =
    then_within (meaning c.functions m.init [] u) _ u u (le_refl u) (meaning_within c.functions m.init [] u) (λ s v k. turns_within c m size _ [] s (right g) v u k)
