-- What is known of checks one after another that have come to a value.
use Rattle.std.proofs.Common.{◌≡◌, ◌∙◌, ℕ, Bool, true, false, refl, ap, Ok, Err}
use Rattle.qk_base.specs.declared.place.Place.{Place}
use Rattle.qk_names.specs.Checks.{Checked, ◌>>=◌, ◌>>◌, refuse, check}

pub ok_is : {A : Type 0} (a b : A) (e : Checked A) → e ≡ Ok a → e ≡ Ok b → a ≡ b
ok_is a b e h k = cc

pub no_value : {A : Type 0} (code : ℕ) (p : Place) (a : A) → refuse code p ≡ Ok a → ⊥
no_value code p a h = absurd (cc)

-- a value that was handed on
pub bound : {A B : Type 0} (e : Checked A) (f : A → Checked B) (r : B) (Goal : Type 0) → ((a : A) → e ≡ Ok a → f a ≡ Ok r → Goal) → (e >>= f) ≡ Ok r → Goal
bound (Ok a) f r Goal k h = k a refl h
bound (Err x) f r Goal k h = absurd (cc)

pub followed : {A B : Type 0} (e : Checked A) (next : Checked B) (r : B) (Goal : Type 0) → ((a : A) → e ≡ Ok a → next ≡ Ok r → Goal) → (e >> next) ≡ Ok r → Goal
followed (Ok a) next r Goal k h = k a refl h
followed (Err x) next r Goal k h = absurd (cc)

-- a test that held
pub held : {B : Type 0} (b : Bool) (code : ℕ) (p : Place) (next : Checked B) (r : B) (Goal : Type 0) → (b ≡ true → next ≡ Ok r → Goal) → (check b code p >> next) ≡ Ok r → Goal
held true code p next r Goal k h = k refl h
held false code p next r Goal k h = absurd (cc)

pub test_held : (b : Bool) (code : ℕ) (p : Place) (u : Unit {0}) → check b code p ≡ Ok u → b ≡ true
test_held true code p u h = refl
test_held false code p u h = absurd (cc)

-- .. and the other way round
pub after : {A B : Type 0} (e : Checked A) (f : A → Checked B) (a : A) (r : Checked B) → e ≡ Ok a → f a ≡ r → (e >>= f) ≡ r
after e f a r same rest = ap (λ x. x >>= f) same ∙ rest

pub next_after : {A B : Type 0} (e : Checked A) (next : Checked B) (a : A) (r : Checked B) → e ≡ Ok a → next ≡ r → (e >> next) ≡ r
next_after e next a r same rest = ap (λ x. x >> next) same ∙ rest

pub passing : {B : Type 0} (b : Bool) (code : ℕ) (p : Place) (next r : Checked B) → b ≡ true → next ≡ r → (check b code p >> next) ≡ r
passing b code p next r same rest = ap (λ b. check b code p >> next) same ∙ rest

pub holds : (b : Bool) (code : ℕ) (p : Place) → b ≡ true → check b code p ≡ Ok tt
holds b code p same = ap (λ b. check b code p) same
