-- Operators that no header bears on; and expressions that were taken from a list, the last first.
use Rattle.std.proofs.Common.{◌≡◌, ◌∙◌, List, [], ◌++◌, map, reverse, sym, ap, Result, Ok, Err, IfOk, IfErr}
use Rattle.indexmap.proofs.ReorderLemmas.{map-reverse}
use Rattle.qk_base.specs.Growing.{Growing}
use Rattle.qk_base.specs.declared.fault.Fault.{Fault}
use Rattle.qk_base.specs.declared.fault.Fault.TheVariants as faults
use Rattle.qk_base.specs.declared.place.Refusal.{Refusal}
use Rattle.qk_core.specs.ExprView.{view_expr}
use Rattle.qk_core.specs.declared.expr.Expr.{Expr}
use Rattle.qk_syntax.specs.Refusals.{IfRefusal}
use Rattle.qk_headers.specs.Headers.{HeadersData}
use Rattle.qk_typing.specs.Operators.{plain}
use Rattle.qk_typing.specs.TablesView.{typed_in}
use Rattle.qk_headers.specs.declared.tables.Typed.{Typed}

pub ok_there : {A E : Type 0} (r : Result A E) (P : A → HeadersData → Type 0) (h : HeadersData) → IfOk r (λ a. (h : HeadersData) → P a h) → IfOk r (λ a. P a h)
ok_there (Ok a) P h given = given h
ok_there (Err e) P h given = tt

refused_there : (e : Fault) (P : Refusal → HeadersData → Type 0) (h : HeadersData) → IfRefusal e (λ r. (h : HeadersData) → P r h) → IfRefusal e (λ r. P r h)
refused_there faults.Memory P h given = tt
refused_there (faults.Refused r) P h given = given h

pub err_there : {A : Type 0} (r : Result A Fault) (P : Refusal → HeadersData → Type 0) (h : HeadersData) → IfErr r (λ e. IfRefusal e (λ r. (h : HeadersData) → P r h))
    → IfErr r (λ e. IfRefusal e (λ r. P r h))
err_there (Ok a) P h given = tt
err_there (Err e) P h given = refused_there e P h given

pub taken : {E : Type 0} (r : Result (Growing Expr) E) (all left : List Typed) (backward : List Expr) → IfOk r (λ s. s.items ≡ reverse backward)
    → plain (map typed_in all) ≡ plain (map typed_in left) ++ reverse (map view_expr backward) → left ≡ [] → IfOk r (λ es. map view_expr es.items ≡ plain (map typed_in all))
taken (Ok s) all left backward turned so none =
    ap (map view_expr) turned ∙ map-reverse view_expr backward ∙ sym (so ∙ ap (λ x. plain (map typed_in x) ++ reverse (map view_expr backward)) none)
taken (Err e) all left backward turned so none = tt
