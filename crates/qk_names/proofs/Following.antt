-- What holds of one check, of another that comes to the same.
use Rattle.std.proofs.Common.{◌≡◌, ℕ, Result, Ok, Err, OnOk, IfOk, IfErr, sym, subst, ◌∙◌, Bool, true, false, IsTrue, ◌↔◌, refl}
use Rattle.qk_base.specs.declared.fault.Fault.{Fault}
use Rattle.qk_base.specs.declared.fault.Fault.TheVariants as faults
use Rattle.qk_base.specs.declared.place.Place.{Place}
use Rattle.qk_syntax.specs.Refusals.{IfRefusal}
use Rattle.qk_names.specs.Checks.{Checked, refuse}

pub on_ok_by : {T A : Type 0} (r : Result T Fault) (x y after : Checked A) → x ≡ y → OnOk r (y ≡ after) → OnOk r (x ≡ after)
on_ok_by r x y after same h = subst (λ z. OnOk r (z ≡ after)) (sym same) h

pub if_ok_by : {T A : Type 0} (r : Result T Fault) (x y : Checked A) (f : T → Checked A) → x ≡ y → IfOk r (λ v. y ≡ f v) → IfOk r (λ v. x ≡ f v)
if_ok_by r x y f same h = subst (λ z. IfOk r (λ v. z ≡ f v)) (sym same) h

pub refused_by : {T A : Type 0} (r : Result T Fault) (x y : Checked A) → x ≡ y → IfErr r (λ e. IfRefusal e (λ s. y ≡ Err s)) → IfErr r (λ e. IfRefusal e (λ s. x ≡ Err s))
refused_by r x y same h = subst (λ z. IfErr r (λ e. IfRefusal e (λ s. z ≡ Err s))) (sym same) h

-- a refusal that was made there
pub refused_there : {A : Type 0} (f : Fault) (x : Checked A) (code : ℕ) (p : Place) → f ≡ faults.Refused (record { code = code; place = p }) → x ≡ refuse code p → IfRefusal f (λ s. x ≡ Err s)
refused_there f x code p made same = subst (λ e. IfRefusal e (λ s. x ≡ Err s)) (sym made) same

pub same_truth : {P : Type 0} (b c : Bool) → (IsTrue b ↔ P) → (IsTrue c ↔ P) → b ≡ c
same_truth true true h k = refl
same_truth false false h k = refl
same_truth true false h k = sym (k.1 (h.0 refl))
same_truth false true h k = h.1 (k.0 refl)

-- what is the same for every value, of one
module _ {V A : Type 0} (x : Checked A) (f : V → Checked A) (v : V) (same : x ≡ f v) where
  pub on_ok_at : (r : Result (Unit {0}) Fault) (after : Checked A) → OnOk r ((w : V) → f w ≡ after) → OnOk r (x ≡ after)
  on_ok_at (Ok u) after h = same ∙ h v
  on_ok_at (Err e) after h = tt

  pub refused_at : (r : Result (Unit {0}) Fault) → IfErr r (λ e. IfRefusal e (λ s. (w : V) → f w ≡ Err s)) → IfErr r (λ e. IfRefusal e (λ s. x ≡ Err s))
  refused_at (Ok u) h = tt
  refused_at (Err faults.Memory) h = tt
  refused_at (Err (faults.Refused s)) h = same ∙ h v

-- .. for every two
module _ {U V A : Type 0} (x : Checked A) (f : U → V → Checked A) (u : U) (v : V) (same : x ≡ f u v) where
  pub on_ok_at_both : (r : Result (Unit {0}) Fault) (after : Checked A) → OnOk r ((t : U) (w : V) → f t w ≡ after) → OnOk r (x ≡ after)
  on_ok_at_both (Ok o) after h = same ∙ h u v
  on_ok_at_both (Err e) after h = tt

  pub refused_at_both : (r : Result (Unit {0}) Fault) → IfErr r (λ e. IfRefusal e (λ s. (t : U) (w : V) → f t w ≡ Err s)) → IfErr r (λ e. IfRefusal e (λ s. x ≡ Err s))
  refused_at_both (Ok o) h = tt
  refused_at_both (Err faults.Memory) h = tt
  refused_at_both (Err (faults.Refused s)) h = same ∙ h u v

pub refused_there_at : {V A : Type 0} (f : Fault) (g : V → Checked A) (code : ℕ) (p : Place) → f ≡ faults.Refused (record { code = code; place = p }) → ((v : V) → g v ≡ refuse code p) → IfRefusal f (λ s. (v : V) → g v ≡ Err s)
refused_there_at f g code p made same = subst (λ e. IfRefusal e (λ s. (v : _) → g v ≡ Err s)) (sym made) same

pub refused_there_at_both : {U V A : Type 0} (f : Fault) (g : U → V → Checked A) (code : ℕ) (p : Place) → f ≡ faults.Refused (record { code = code; place = p }) → ((u : U) (v : V) → g u v ≡ refuse code p) → IfRefusal f (λ s. (u : U) (v : V) → g u v ≡ Err s)
refused_there_at_both f g code p made same = subst (λ e. IfRefusal e (λ s. (u : _) (v : _) → g u v ≡ Err s)) (sym made) same
