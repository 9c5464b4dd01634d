-- The candidates of typed values are typed.
use Rattle.std.proofs.Common.{ℕ, IsTrue, List, [], ◌∷◌, ◌++◌, map}
use Rattle.std.proofs.lemmas.List.Elements.{All-nil, All-cons, All-append, All-map}
use Rattle.std.specs.List.{All}
use Rattle.qk_core.specs.Program.{ProgramData}
use Rattle.qk_core.specs.Properties.{BinderData}
use Rattle.qk_core.specs.declared.property.ShrinkBy.{ShrinkBy}
use Rattle.qk_core.specs.declared.property.ShrinkBy.TheVariants.{Builtin, Function, Nothing}
use Rattle.qk_value.specs.Data.{Data, Datas, end, more, listed_data}
use Rattle.qk_value.specs.Kinds.{KindData}
use Rattle.qk_value.specs.Types.{TypeData, list_type}
use Rattle.qk_value.specs.Typing.{has_type, all_have_type}
use Rattle.qk_eval.specs.Meaning.{Evaluated, result, crash, called}
use Rattle.qk_eval.specs.Parts.{items_of}
use Rattle.qk_shrink.specs.Tuples.{answered, candidates, shrunk}
use Rattle.qk_shrink.proofs.SizeLaws.{each}
use Rattle.qk_shrink.proofs.TypedLaws.{both, typed}
use Rattle.qk_typed.specs.TypedValues.{HasType, HaveTypes, GivesType}
use Rattle.qk_typed.specs.WellTyped.{IsWellTyped, IsTypedProperty, IsTypedShrink, AreTypedBinders, types_of}
use Rattle.qk_typed.specs.Laws.{CandidatesAreTyped}
use Rattle.qk_typed.proofs.ValueTypes.{each_at, items_have}
use Rattle.qk_typed.proofs.Programs.{function_gives}

listed_typed : (kinds : List KindData) (t : TypeData) (ds : Datas) → IsTrue (all_have_type kinds t ds) → All (HasType kinds t) (listed_data ds)
listed_typed kinds t end h = All-nil (HasType kinds t)
listed_typed kinds t (more d ds) h =
    let parts = both (has_type kinds t d) (all_have_type kinds t ds) h in
    All-cons (HasType kinds t) d (listed_data ds) parts.0 (listed_typed kinds t ds parts.1)

answers_typed : (kinds : List KindData) (t : TypeData) (r : Evaluated Data) → GivesType kinds (list_type t) r → All (HasType kinds t) (answered r)
answers_typed kinds t (result x u) h = listed_typed kinds t (items_of x) (items_have kinds t x h)
answers_typed kinds t (crash c) h = All-nil (HasType kinds t)

shrunk_typed : (c : ProgramData) → IsWellTyped c → (fuel : ℕ) (t : TypeData) (s : ShrinkBy) (x : Data) → IsTypedShrink c s t → HasType c.kinds t x → All (HasType c.kinds t) (shrunk c fuel t s x)
shrunk_typed c is fuel t Builtin x w h = typed c.kinds t x h
shrunk_typed c is fuel t (Function f) x w h = answers_typed c.kinds t (called c.functions f (x ∷ []) fuel) (function_gives c is f (t ∷ []) (list_type t) (x ∷ []) fuel w (h, tt))
shrunk_typed c is fuel t Nothing x w h = All-nil (HasType c.kinds t)

tuples_typed : (c : ProgramData) → IsWellTyped c → (before : List TypeData) (bs : List BinderData) (xs : List Data) (fuel : ℕ) → AreTypedBinders c before bs → HaveTypes c.kinds (types_of bs) xs → All (HaveTypes c.kinds (types_of bs)) (candidates c bs xs fuel)
tuples_typed c is before [] xs fuel w h = All-nil (HaveTypes c.kinds [])
tuples_typed c is before (b ∷ bs) [] fuel w h = absurd h
tuples_typed c is before (b ∷ bs) (x ∷ xs) fuel w h =
    let firsts = shrunk c fuel b.ty b.shrink x in
    let others = candidates c bs xs fuel in
    let Good : List Data → Type 0 = HaveTypes c.kinds (b.ty ∷ types_of bs) in
    All-append Good (map (λ y. y ∷ xs) firsts) (map (λ ys. x ∷ ys) others)
    (All-map Good (λ y. y ∷ xs) firsts (each (HasType c.kinds b.ty) (λ y. Good (y ∷ xs)) (λ y k. (k, h.1)) firsts (shrunk_typed c is fuel b.ty b.shrink x w.0.shrink h.0)))
    (All-map Good (λ ys. x ∷ ys) others (each (HaveTypes c.kinds (types_of bs)) (λ ys. Good (x ∷ ys)) (λ ys k. (h.0, k)) others (tuples_typed c is (before ++ b.ty ∷ []) bs xs fuel w.1 h.1)))

pub candidates_typed : CandidatesAreTyped
candidates_typed c is i p values fuel e h =
    tuples_typed c is [] p.binders values fuel (each_at (IsTypedProperty c) c.properties i p is.properties e).binders h
