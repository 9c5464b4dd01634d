-- The values that are drawn for typed binders have their types.
use Rattle.std.proofs.Common.{◌≡◌, ◌∙◌, ℕ, suc, List, [], ◌∷◌, ◌++◌, length, take, Option, Some, None, slice_get, refl, sym, ap, subst, append-nil, append_assoc}
use Rattle.std.proofs.Math.Seq.{take-append_seam}
use Rattle.qk_command.specs.Drawing.{DrawnValues, model_draws, binder_draws, after_drawing, drawn_from}
use Rattle.qk_core.specs.Definitions.{ModelData}
use Rattle.qk_core.specs.Program.{ProgramData}
use Rattle.qk_core.specs.Properties.{DrawData, plain, commands, BinderData}
use Rattle.qk_eval.specs.Meaning.{Evaluated, result, crash}
use Rattle.qk_splitmix.specs.SplitMix.{Generator, left, right}
use Rattle.qk_value.specs.Data.{Data}
use Rattle.qk_value.specs.Kinds.{KindData}
use Rattle.qk_value.specs.Types.{TypeData, list_type}
use Rattle.qk_typed.specs.Laws.{DrawnValuesAreTyped, JudgedValuesAreTyped}
use Rattle.qk_typed.specs.TypedValues.{HasType, HaveTypes, GivesType}
use Rattle.qk_typed.specs.WellTyped.{IsWellTyped, IsTypedModel, IsTypedDraw, AreTypedBinders, IsTypedProperty, types_of}
use Rattle.qk_typed.proofs.Commands.{model_gives}
use Rattle.qk_typed.proofs.Programs.{drawings_typed}
use Rattle.qk_typed.proofs.Typing.{as_type}
use Rattle.qk_typed.proofs.ValueTypes.{each_at, one_more}

as_many : (kinds : List KindData) (ts : List TypeData) (xs : List Data) → HaveTypes kinds ts xs → length ts ≡ length xs
as_many kinds [] [] h = refl
as_many kinds [] (x ∷ xs) h = absurd h
as_many kinds (t ∷ ts) [] h = absurd h
as_many kinds (t ∷ ts) (x ∷ xs) h = ap suc (as_many kinds ts xs h.1)

-- the first types are those of the values that are there
first_have : (kinds : List KindData) (ts us : List TypeData) (xs : List Data) → HaveTypes kinds ts xs → HaveTypes kinds (take (length xs) (ts ++ us)) xs
first_have kinds ts us xs h =
    let same : ts ≡ take (length xs) (ts ++ us) = sym (take-append_seam ts us) ∙ ap (λ n. take n (ts ++ us)) (as_many kinds ts xs h) in
    subst (λ (vs : List TypeData). HaveTypes kinds vs xs) same h

model_at : (c : ProgramData) → IsWellTyped c → (o : Option ModelData) (m : ModelData) → IsTypedModel c m → o ≡ Some m → (size : ℕ) (g : Generator) (u : ℕ) → GivesType c.kinds (list_type m.command) (model_draws c o size g u)
model_at c is o m typed e size g u = subst (λ (p : Option ModelData). GivesType c.kinds (list_type m.command) (model_draws c p size g u)) (sym e) (model_gives c is m typed size g u)

binder_gives : (c : ProgramData) → IsWellTyped c → (d : DrawData) (ts : List TypeData) (t : TypeData) (env : List Data) (size : ℕ) (g : Generator) (u : ℕ) → HaveTypes c.kinds ts env → IsTypedDraw c ts d t → GivesType c.kinds t (binder_draws c d env size g u)
binder_gives c is (plain e) ts t env size g u h w = drawings_typed c is ts env e t size g u h w
binder_gives c is (commands i) ts t env size g u h w =
    as_type c.kinds (list_type w.0.command) t (model_draws c (slice_get c.models i) size g u) w.2
    (model_at c is (slice_get c.models i) w.0 (each_at (IsTypedModel c) c.models i w.0 is.models w.1) w.1 size g u)

-- what holds of the values before a crash, and of those that go on from a value
after_gives : (Good : DrawnValues → Type 0) (kinds : List KindData) (t : TypeData) (r : Evaluated Data) (before : List Data) (go : Data → ℕ → DrawnValues)
    → GivesType kinds t r → ((x : Data) (v : ℕ) → HasType kinds t x → Good (go x v)) → ((cause : _) → Good (record { values = before; crash = Some cause })) → Good (after_drawing r before go)
after_gives Good kinds t (result x v) before go h goes stops = goes x v h
after_gives Good kinds t (crash cause) before go h goes stops = stops cause

first_typed : (c : ProgramData) → IsWellTyped c → (bs : List BinderData) (ts : List TypeData) (before : List Data) (size : ℕ) (g : Generator) (u : ℕ) → HaveTypes c.kinds ts before → AreTypedBinders c ts bs
    → HaveTypes c.kinds (take (length (drawn_from c bs before size g u).values) (ts ++ types_of bs)) (drawn_from c bs before size g u).values
first_typed c is [] ts before size g u h w = first_have c.kinds ts [] before h
first_typed c is (b ∷ bs) ts before size g u h w =
    let Good : DrawnValues → Type 0 = λ drawn. HaveTypes c.kinds (take (length drawn.values) (ts ++ b.ty ∷ types_of bs)) drawn.values in
    after_gives Good c.kinds b.ty (binder_draws c b.draw before size (left g) u) before (λ x v. drawn_from c bs (before ++ x ∷ []) size (right g) v)
    (binder_gives c is b.draw ts b.ty before size (left g) u h w.0.draw)
    (λ x v k. subst (λ (us : List TypeData). HaveTypes c.kinds (take (length (drawn_from c bs (before ++ x ∷ []) size (right g) v).values) us) (drawn_from c bs (before ++ x ∷ []) size (right g) v).values)
    (append_assoc ts (b.ty ∷ []) (types_of bs)) (first_typed c is bs (ts ++ b.ty ∷ []) (before ++ x ∷ []) size (right g) v (one_more c.kinds ts before b.ty x h k) w.1))
    (λ cause. first_have c.kinds ts (b.ty ∷ types_of bs) before h)

all_typed : (c : ProgramData) → IsWellTyped c → (bs : List BinderData) (ts : List TypeData) (before : List Data) (size : ℕ) (g : Generator) (u : ℕ) → HaveTypes c.kinds ts before → AreTypedBinders c ts bs
    → (drawn_from c bs before size g u).crash ≡ None → HaveTypes c.kinds (ts ++ types_of bs) (drawn_from c bs before size g u).values
all_typed c is [] ts before size g u h w none = subst (λ (us : List TypeData). HaveTypes c.kinds us before) (sym (append-nil ts)) h
all_typed c is (b ∷ bs) ts before size g u h w none =
    let Good : DrawnValues → Type 0 = λ drawn. drawn.crash ≡ None → HaveTypes c.kinds (ts ++ b.ty ∷ types_of bs) drawn.values in
    after_gives Good c.kinds b.ty (binder_draws c b.draw before size (left g) u) before (λ x v. drawn_from c bs (before ++ x ∷ []) size (right g) v)
    (binder_gives c is b.draw ts b.ty before size (left g) u h w.0.draw)
    (λ x v k ends. subst (λ (us : List TypeData). HaveTypes c.kinds us (drawn_from c bs (before ++ x ∷ []) size (right g) v).values)
    (append_assoc ts (b.ty ∷ []) (types_of bs)) (all_typed c is bs (ts ++ b.ty ∷ []) (before ++ x ∷ []) size (right g) v (one_more c.kinds ts before b.ty x h k) w.1 ends))
    (λ cause no_crash. cc) none

pub drawn_typed : DrawnValuesAreTyped
drawn_typed c is i p size g u e = first_typed c is p.binders [] [] size g u tt (each_at (IsTypedProperty c) c.properties i p is.properties e).binders

pub judged_typed : JudgedValuesAreTyped
judged_typed c is i p size g u e none = all_typed c is p.binders [] [] size g u tt (each_at (IsTypedProperty c) c.properties i p is.properties e).binders none
