-- A first check that does not hold.
use Rattle.std.proofs.Common.{◌≡◌, sym, ap, subst, Result, Ok, Err, IfErr}
use Rattle.std.specs.Result.{IsErrAnd}
use Rattle.qk_base.specs.declared.fault.Fault.{Fault}
use Rattle.qk_base.specs.declared.fault.Fault.TheVariants as faults
use Rattle.qk_base.specs.declared.place.Refusal.{Refusal}
use Rattle.qk_syntax.specs.Refusals.{IfRefusal}
use Rattle.qk_names.specs.Checks.{Checked, ◌>>◌}

-- then all is refused so
pub refused_first : {A B : Type 0} (fault : Fault) (e : Checked A) (next : Checked B) → IfRefusal fault (λ r. e ≡ Err r) → IfRefusal fault (λ r. (e >> next) ≡ Err r)
refused_first faults.Memory e next h = tt
refused_first (faults.Refused r) e next h = ap (λ x. x >> next) h

pub handed_on : {A : Type 0} (r : Result A Fault) (fault : Fault) (P : Refusal → Type 0) → IsErrAnd r (λ e. e ≡ fault) → IfRefusal fault P → IfErr r (λ e. IfRefusal e P)
handed_on (Ok a) fault P is h = tt
handed_on (Err e) fault P is h = subst (λ e. IfRefusal e P) (sym is) h
