-- Checks of parts by how many there are.
use Rattle.std.proofs.Common.{◌≡◌, ◌∙◌, ℕ, ◌+◌, ◌≤◌, ◌<◌, true, false, nat_le, nat_eq, List, [], ◌∷◌, length, refl, sym, ap, arith}
use Rattle.qk_base.specs.declared.place.Place.{Place}
use Rattle.qk_syntax.specs.PlainTrees.{number, name, list, PlainTrees, end, more, count}
use Rattle.qk_syntax.specs.View.{views}
use Rattle.qk_syntax.specs.declared.tree.Tree.{Tree}
use Rattle.qk_names.specs.Checks.{refuse}
use Rattle.qk_headers.specs.Headers.{parameter_at, signature_at, model_types, property_shape}
use Rattle.qk_names.specs.Names.{Declared}
use Rattle.qk_headers.specs.Scopes.{Scope}
use Rattle.qk_names.proofs.Sequencing.{count_views}

pub unlike : (ts : List Tree) (n : ℕ) → (length ts ≡ n → ⊥) → nat_eq (count (views ts)) n ≡ false
unlike ts n h = ap (λ k. nat_eq k n) (count_views ts) ∙ grind arith

pub alike : (ts : List Tree) (n : ℕ) → length ts ≡ n → nat_eq (count (views ts)) n ≡ true
alike ts n h = ap (λ k. nat_eq k n) (count_views ts) ∙ grind arith

pub none : (ts : List Tree) → length ts ≡ 0 → nat_le 1 (count (views ts)) ≡ false
none ts h = ap (λ k. nat_le 1 k) (count_views ts) ∙ grind arith

pub any : (ts : List Tree) → 0 < length ts → nat_le 1 (count (views ts)) ≡ true
any ts h = ap (λ k. nat_le 1 k) (count_views ts) ∙ grind arith

pub under : (ts : List Tree) (n : ℕ) → length ts < n → length ts ≡ n → ⊥
under ts n h e = omega arith

pub over : (ts : List Tree) (n : ℕ) → n + 1 ≤ length ts → length ts ≡ n → ⊥
over ts n h e = omega arith

module _ (names : List Declared) (p : Place) where
  pub signature_apart : (ts : List Tree) → (length ts ≡ 3 → ⊥) → signature_at names p (views ts) ≡ refuse 23 p
  signature_apart [] h = refl
  signature_apart (a ∷ []) h = refl
  signature_apart (a ∷ b ∷ []) h = refl
  signature_apart (a ∷ b ∷ c ∷ []) h = absurd (h refl)
  signature_apart (a ∷ b ∷ c ∷ d ∷ ts) h = refl

  pub model_apart : (ts : List Tree) → (length ts ≡ 3 → ⊥) → model_types names p (views ts) ≡ refuse 23 p
  model_apart [] h = refl
  model_apart (a ∷ []) h = refl
  model_apart (a ∷ b ∷ []) h = refl
  model_apart (a ∷ b ∷ c ∷ []) h = absurd (h refl)
  model_apart (a ∷ b ∷ c ∷ d ∷ ts) h = refl

  parameter_other : (before : Scope) (ts : PlainTrees) → (count ts ≡ 2 → ⊥) → parameter_at names before (list p ts) ≡ refuse 20 p
  parameter_other before end h = refl
  parameter_other before (more (number q n) ts) h = refl
  parameter_other before (more (list q us) ts) h = refl
  parameter_other before (more (name q w) end) h = refl
  parameter_other before (more (name q w) (more t end)) h = absurd (h refl)
  parameter_other before (more (name q w) (more t (more u ts))) h = refl

  pub parameter_apart : (before : Scope) (ts : List Tree) → (length ts ≡ 2 → ⊥) → parameter_at names before (list p (views ts)) ≡ refuse 20 p
  parameter_apart before ts h = parameter_other before (views ts) (λ e. h (sym (count_views ts) ∙ e))

pub shape_apart : (p : Place) (ts : List Tree) → (length ts ≡ 1 → ⊥) → property_shape p (views ts) ≡ refuse 23 p
shape_apart p [] h = refl
shape_apart p (a ∷ []) h = absurd (h refl)
shape_apart p (a ∷ b ∷ ts) h = refl
