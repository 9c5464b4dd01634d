-- What is drawn by a typed model is a list of its commands.
use Rattle.std.proofs.Common.{ℕ, zero, suc, pos, IsTrue, List, [], ◌∷◌, ◌++◌, refl}
use Rattle.qk_command.specs.Drawing.{turns, drawing_commands}
use Rattle.qk_core.specs.Definitions.{ModelData}
use Rattle.qk_core.specs.Program.{ProgramData}
use Rattle.qk_eval.specs.Meaning.{and_then, or_crash, called, meaning}
use Rattle.qk_eval.specs.Parts.{truth_of, small}
use Rattle.qk_gen.specs.Drawing.{chosen, length_of, drawn}
use Rattle.qk_shrink.proofs.TypedLaws.{both, conj}
use Rattle.qk_splitmix.specs.SplitMix.{Generator, left, right}
use Rattle.qk_value.specs.Data.{Data, list, datas_of}
use Rattle.qk_value.specs.Kinds.{KindData}
use Rattle.qk_value.specs.Types.{TypeData, bool_type, list_type}
use Rattle.qk_value.specs.Typing.{has_type, all_have_type}
use Rattle.qk_typed.specs.Laws.{CommandsAreTyped, StartsAreTyped, StepsAreTyped}
use Rattle.qk_typed.specs.TypedValues.{HasType, GivesType}
use Rattle.qk_typed.specs.WellTyped.{IsWellTyped, IsTypedModel}
use Rattle.qk_typed.proofs.Programs.{meanings_typed, function_gives, generator_gives}
use Rattle.qk_typed.proofs.Typing.{then_gives, if_gives, small_gives}
use Rattle.qk_typed.proofs.ValueTypes.{each_at}

one_more_has : (kinds : List KindData) (t : TypeData) (xs : List Data) (x : Data) → IsTrue (all_have_type kinds t (datas_of xs)) → HasType kinds t x → IsTrue (all_have_type kinds t (datas_of (xs ++ x ∷ [])))
one_more_has kinds t [] x h k = conj (has_type kinds t x) (all_have_type kinds t (datas_of [])) k refl
one_more_has kinds t (y ∷ ys) x h k =
    let parts = both (has_type kinds t y) (all_have_type kinds t (datas_of ys)) h in
    conj (has_type kinds t y) (all_have_type kinds t (datas_of (ys ++ x ∷ []))) parts.0 (one_more_has kinds t ys x parts.1 k)

turns_give : (c : ProgramData) → IsWellTyped c → (m : ModelData) → IsTypedModel c m → (size n : ℕ) (before : List Data) (s : Data) (g : Generator) (u : ℕ)
    → HasType c.kinds (list_type m.command) (list (datas_of before)) → HasType c.kinds m.abstract_ty s → GivesType c.kinds (list_type m.command) (turns c m size n before s g u)
turns_give c is m typed size zero before s g u h k = h
turns_give c is m typed size (suc n) before s g u h k =
    let Good : Data → Type 0 = HasType c.kinds (list_type m.command) in
    then_gives (HasType c.kinds m.command) Good (drawn c.functions c.generators m.maker (s ∷ []) size (left g) u) _
    (generator_gives c is m.maker (m.abstract_ty ∷ []) m.command (s ∷ []) size (left g) u typed.maker (k, tt)) (λ x v j.
    then_gives (HasType c.kinds bool_type) Good (called c.functions m.pre (s ∷ x ∷ []) v) _
    (function_gives c is m.pre (m.abstract_ty ∷ m.command ∷ []) bool_type (s ∷ x ∷ []) v typed.pre (k, (j, tt))) (λ y w i.
    if_gives Good (truth_of y)
    (and_then (or_crash (small (list (datas_of (before ++ x ∷ [])))) w) (λ _ w. and_then (called c.functions m.next (s ∷ x ∷ []) w) (λ t u. turns c m size n (before ++ x ∷ []) t (right g) u)))
    (turns c m size n before s (right g) w)
    (then_gives Good Good (or_crash (small (list (datas_of (before ++ x ∷ [])))) w) _
    (small_gives Good (list (datas_of (before ++ x ∷ []))) w (one_more_has c.kinds m.command before x h j)) (λ all a more.
    then_gives (HasType c.kinds m.abstract_ty) Good (called c.functions m.next (s ∷ x ∷ []) a) _
    (function_gives c is m.next (m.abstract_ty ∷ m.command ∷ []) m.abstract_ty (s ∷ x ∷ []) a typed.next (k, (j, tt))) (λ t b next.
    turns_give c is m typed size n (before ++ x ∷ []) t (right g) b (one_more_has c.kinds m.command before x h j) next)))
    (turns_give c is m typed size n before s (right g) w h k)))

pub model_gives : (c : ProgramData) → IsWellTyped c → (m : ModelData) → IsTypedModel c m → (size : ℕ) (g : Generator) (u : ℕ) → GivesType c.kinds (list_type m.command) (drawing_commands c m size g u)
model_gives c is m typed size g u =
    then_gives (HasType c.kinds m.abstract_ty) (HasType c.kinds (list_type m.command)) (meaning c.functions m.init [] u) _
    (meanings_typed c is [] [] m.init m.abstract_ty u tt typed.init) (λ s v k.
    turns_give c is m typed size (length_of (chosen (left g) (pos 0) (pos size))) [] s (right g) v refl k)

pub commands_typed : CommandsAreTyped
commands_typed c is i m size g u e = model_gives c is m (each_at (IsTypedModel c) c.models i m is.models e) size g u

pub starts_typed : StartsAreTyped
starts_typed c is i m u e =
    let typed : IsTypedModel c m = each_at (IsTypedModel c) c.models i m is.models e in
    (meanings_typed c is [] [] m.init m.abstract_ty u tt typed.init, meanings_typed c is [] [] m.start m.system_ty u tt typed.start)

pub steps_typed : StepsAreTyped
steps_typed c is i m s r x u e h k l =
    let typed : IsTypedModel c m = each_at (IsTypedModel c) c.models i m is.models e in (
      function_gives c is m.pre (m.abstract_ty ∷ m.command ∷ []) bool_type (s ∷ x ∷ []) u typed.pre (h, (l, tt)),
      function_gives c is m.next (m.abstract_ty ∷ m.command ∷ []) m.abstract_ty (s ∷ x ∷ []) u typed.next (h, (l, tt)),
      function_gives c is m.step (m.system_ty ∷ m.command ∷ []) m.system_ty (r ∷ x ∷ []) u typed.step (k, (l, tt)),
      function_gives c is m.post (m.abstract_ty ∷ m.command ∷ m.system_ty ∷ []) bool_type (s ∷ x ∷ r ∷ []) u typed.post (h, (l, (k, tt))),
    )
