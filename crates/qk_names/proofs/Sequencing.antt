-- Checks one after another, once it is known how the first ends.
use Rattle.std.proofs.Common.{◌≡◌, ◌∙◌, ℕ, ◌≤◌, ◌<◌, Bool, true, false, List, [], ◌∷◌, refl, ap, suc, length, arith, Ok, Err, nat_eq, nat_le, nat_lt, ◌≢◌}
use native.Mathlib.Numerals.{unary_clauses}
use Rattle.qk_base.specs.declared.place.Place.{Place}
use Rattle.qk_base.specs.declared.place.Refusal.{Refusal}
use Rattle.qk_syntax.specs.PlainTrees.{count}
use Rattle.qk_base.specs.declared.fault.Fault.{Fault}
use Rattle.qk_base.specs.declared.fault.Fault.TheVariants as faults
use Rattle.qk_syntax.specs.Refusals.{IfRefusal}
use Rattle.qk_syntax.specs.View.{views}
use Rattle.qk_syntax.specs.declared.tree.Tree.{Tree}
use Rattle.qk_names.specs.Checks.{Checked, ◌>>=◌, ◌>>◌, check, refuse}

pub after_ok : {A B : Type 0} (e : Checked A) (f : A → Checked B) (a : A) (r : Checked B) → e ≡ Ok a → f a ≡ r → (e >>= f) ≡ r
after_ok e f a r same rest = ap (λ x. x >>= f) same ∙ rest

pub after_err : {A B : Type 0} (e : Checked A) (f : A → Checked B) (r : Refusal) → e ≡ Err r → (e >>= f) ≡ Err r
after_err e f r same = ap (λ x. x >>= f) same

pub then_ok : {A B : Type 0} (e : Checked A) (next : Checked B) (a : A) → e ≡ Ok a → (e >> next) ≡ next
then_ok e next a same = ap (λ x. x >> next) same

pub passes : {B : Type 0} (b : Bool) (code : ℕ) (p : Place) (next : Checked B) → b ≡ true → (check b code p >> next) ≡ next
passes b code p next same = ap (λ b. check b code p >> next) same

pub fails : {B : Type 0} (b : Bool) (code : ℕ) (p : Place) (next : Checked B) → b ≡ false → (check b code p >> next) ≡ refuse code p
fails b code p next same = ap (λ b. check b code p >> next) same

pub count_views : (ts : List Tree) → count (views ts) ≡ length ts
count_views [] = refl
count_views (t ∷ ts) = simp unary_clauses (ap suc (count_views ts))

pub many : (ts : List Tree) (n : ℕ) → n < length ts → nat_le (count (views ts)) n ≡ false
many ts n h = ap (λ k. nat_le k n) (count_views ts) ∙ grind arith

pub few : (ts : List Tree) (n : ℕ) → length ts ≤ n → nat_le (count (views ts)) n ≡ true
few ts n h = ap (λ k. nat_le k n) (count_views ts) ∙ grind arith

pub some : (ts : List Tree) → 0 < length ts → nat_lt 0 (count (views ts)) ≡ true
some ts h = ap (λ k. nat_lt 0 k) (count_views ts) ∙ grind arith

pub as_many : (ts : List Tree) (n : ℕ) → length ts ≡ n → nat_eq (count (views ts)) n ≡ true
as_many ts n h = ap (λ k. nat_eq k n) (count_views ts) ∙ grind arith

pub other_count : (ts : List Tree) (n : ℕ) → length ts ≢ n → nat_eq (count (views ts)) n ≡ false
other_count ts n h = ap (λ k. nat_eq k n) (count_views ts) ∙ grind arith

pub if_refusal : (e : Fault) (P Q : Refusal → Type 0) → ((r : Refusal) → P r → Q r) → IfRefusal e P → IfRefusal e Q
if_refusal faults.Memory P Q f h = tt
if_refusal (faults.Refused r) P Q f h = f r h
