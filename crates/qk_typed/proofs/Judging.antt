-- What is looked at where typed values are judged is typed.
use Rattle.std.proofs.Common.{◌≡◌, ◌∙◌, ℕ, zero, suc, List, [], ◌∷◌, ◌++◌, Option, Some, None, slice_get, refl, ap, subst}
use Rattle.qk_command.specs.Judging.{model_of}
use Rattle.qk_core.specs.Definitions.{ModelData}
use Rattle.qk_core.specs.ExprData.{ExprData}
use Rattle.qk_core.specs.Program.{ProgramData}
use Rattle.qk_core.specs.Properties.{DrawData, plain, commands, runs, MarkData, label, collect, classify, tabulate, cover, BinderData, PropertyData}
use Rattle.qk_eval.specs.Meaning.{meaning}
use Rattle.qk_value.specs.Data.{Data}
use Rattle.qk_value.specs.Kinds.{KindData}
use Rattle.qk_value.specs.Types.{TypeData, bool_type, list_type}
use Rattle.qk_typed.specs.Laws.{GivensAreTyped, ChecksAreTyped, RunsAreTyped, LooksAtTyped, MarksAreTyped}
use Rattle.qk_typed.specs.TypedValues.{HasType, HaveTypes, GivesType}
use Rattle.qk_typed.specs.WellTyped.{Each, HasTypeIn, IsWellTyped, IsTypedDraw, AreTypedBinders, IsTypedCheck, IsTypedMark, IsTypedProperty, types_of}
use Rattle.qk_typed.proofs.Programs.{meanings_typed}
use Rattle.qk_typed.proofs.ValueTypes.{each_at}

property_at : (c : ProgramData) → IsWellTyped c → (i : ℕ) (p : PropertyData) → slice_get c.properties i ≡ Some p → IsTypedProperty c p
property_at c is i p at = each_at (IsTypedProperty c) c.properties i p is.properties at

all_truths : (c : ProgramData) → IsWellTyped c → (ts : List TypeData) (env : List Data) (u : ℕ) (es : List ExprData) → HaveTypes c.kinds ts env → Each (λ e. HasTypeIn c ts e bool_type) es
    → Each (λ e. GivesType c.kinds bool_type (meaning c.functions e env u)) es
all_truths c is ts env u [] h w = tt
all_truths c is ts env u (e ∷ es) h w = (meanings_typed c is ts env e bool_type u h w.0, all_truths c is ts env u es h w.1)

pub givens_typed : GivensAreTyped
givens_typed c is i p values u at h = all_truths c is (types_of p.binders) values u p.givens h (property_at c is i p at).givens

pub checks_typed : ChecksAreTyped
checks_typed c is i p values u e at h by =
    meanings_typed c is (types_of p.binders) values e bool_type u h (subst (IsTypedCheck c p.binders) by (property_at c is i p at).check)

-- the type of what the binder at a place draws, and its value
draw_at : (c : ProgramData) (before : List TypeData) (bs : List BinderData) (i : ℕ) (b : BinderData) → AreTypedBinders c before bs → slice_get bs i ≡ Some b → (ts : List TypeData) × IsTypedDraw c ts b.draw b.ty
draw_at c before [] i b w e = cc
draw_at c before (x ∷ bs) zero b w e = let same : x ≡ b = cc in subst (λ (y : BinderData). (ts : List TypeData) × IsTypedDraw c ts y.draw y.ty) same (before, w.0.draw)
draw_at c before (x ∷ bs) (suc i) b w e = draw_at c (before ++ x.ty ∷ []) bs i b w.1 e

value_at : (kinds : List KindData) (bs : List BinderData) (values : List Data) (i : ℕ) (b : BinderData) → HaveTypes kinds (types_of bs) values → slice_get bs i ≡ Some b → (x : Data) × (slice_get values i ≡ Some x) × HasType kinds b.ty x
value_at kinds [] values i b h e = cc
value_at kinds (y ∷ bs) [] i b h e = absurd h
value_at kinds (y ∷ bs) (x ∷ values) zero b h e = let same : y ≡ b = cc in (x, refl, subst (λ (z : BinderData). HasType kinds z.ty x) same h.0)
value_at kinds (y ∷ bs) (x ∷ values) (suc i) b h e = value_at kinds bs values i b h.1 e

runs_from : (c : ProgramData) (p : PropertyData) (values : List Data) (j : ℕ) → IsTypedProperty c p → HaveTypes c.kinds (types_of p.binders) values → IsTypedCheck c p.binders (runs j)
    → (m : ModelData) × (x : Data) × (model_of c p.binders j ≡ Some m) × (slice_get values j ≡ Some x) × HasType c.kinds (list_type m.command) x
runs_from c p values j typed h (b, m, at, by) =
    let drawn : (ts : List TypeData) × IsTypedDraw c ts b.draw b.ty = draw_at c [] p.binders j b typed.binders at in
    let model : (model : ModelData) × (slice_get c.models m ≡ Some model) × (b.ty ≡ list_type model.command) = subst (λ (d : DrawData). IsTypedDraw c drawn.0 d b.ty) by drawn.1 in
    let value : (x : Data) × (slice_get values j ≡ Some x) × HasType c.kinds b.ty x = value_at c.kinds p.binders values j b h at in (
      model.0,
      value.0,
      ap (λ (o : Option BinderData). elim o [ None ↦ None | Some y ↦ elim y.draw [ plain g ↦ None | commands n ↦ slice_get c.models n ] ]) at
          ∙ ap (λ (d : DrawData). elim d [ plain g ↦ None | commands n ↦ slice_get c.models n ]) by ∙ model.1,
      value.1,
      subst (λ (t : TypeData). HasType c.kinds t value.0) model.2 value.2,
    )

pub runs_typed : RunsAreTyped
runs_typed c is i p values j at h by = runs_from c p values j (property_at c is i p at) h (subst (IsTypedCheck c p.binders) by (property_at c is i p at).check)

looks_typed : (c : ProgramData) → IsWellTyped c → (ts : List TypeData) (env : List Data) (u : ℕ) (m : MarkData) → HaveTypes c.kinds ts env → IsTypedMark c ts m → LooksAtTyped c env u m
looks_typed c is ts env u (label name) h w = tt
looks_typed c is ts env u (collect e) h w = (w.0, meanings_typed c is ts env e w.0 u h w.1)
looks_typed c is ts env u (classify e name) h w = meanings_typed c is ts env e bool_type u h w
looks_typed c is ts env u (tabulate name e) h w = (w.0, meanings_typed c is ts env e w.0 u h w.1)
looks_typed c is ts env u (cover percent e name) h w = meanings_typed c is ts env e bool_type u h w

all_look : (c : ProgramData) → IsWellTyped c → (ts : List TypeData) (env : List Data) (u : ℕ) (ms : List MarkData) → HaveTypes c.kinds ts env → Each (IsTypedMark c ts) ms → Each (LooksAtTyped c env u) ms
all_look c is ts env u [] h w = tt
all_look c is ts env u (m ∷ ms) h w = (looks_typed c is ts env u m h w.0, all_look c is ts env u ms h w.1)

pub marks_typed : MarksAreTyped
marks_typed c is i p values u at h = all_look c is (types_of p.binders) values u p.marks h (property_at c is i p at).marks
