-- Wrong numbers of parts are refused.
use Rattle.std.proofs.Common.{◌≡◌, ◌∙◌, ◌<◌, ◌≤◌, List, [], ◌∷◌, length, refl, sym, arith}
use Rattle.qk_base.specs.declared.place.Place.{Place}
use Rattle.qk_syntax.specs.PlainTrees.{number, name, list, PlainTrees, end, more, count}
use Rattle.qk_syntax.specs.View.{views}
use Rattle.qk_syntax.specs.declared.tree.Tree.{Tree}
use Rattle.qk_value.specs.Types.{TypeData}
use Rattle.qk_core.specs.Properties.{BinderData}
use Rattle.qk_clauses.specs.Binders.{commands_of, shrink_with, binder_at}
use Rattle.qk_names.specs.Checks.{refuse}
use Rattle.qk_clauses.specs.Clauses.{Clauses, clause_parts, given, checks, checks_runs, labels, collects, classifies, tabulates, covers}
use Rattle.qk_typing.specs.Operators.{Tables}
use Rattle.qk_names.specs.Reserved.{Word}
use Rattle.qk_headers.specs.TypesOf.{parts_after}

module _ (d : Tables) (p : Place) where
  pub commands_apart : (ts : List Tree) → (length ts ≡ 2 → ⊥) → commands_of d p (parts_after (views ts)) ≡ refuse 23 p
  commands_apart [] h = refl
  commands_apart (a ∷ []) h = refl
  commands_apart (a ∷ b ∷ []) h = absurd (h refl)
  commands_apart (a ∷ b ∷ c ∷ ts) h = refl

  pub shrink_apart : (t : TypeData) (ts : List Tree) → (length ts ≡ 1 → ⊥) → shrink_with d t p (views ts) ≡ refuse 23 p
  shrink_apart t [] h = refl
  shrink_apart t (a ∷ []) h = absurd (h refl)
  shrink_apart t (a ∷ b ∷ ts) h = refl

  pub given_apart : (bs : List BinderData) (before : Clauses) (ts : List Tree) → (length ts ≡ 1 → ⊥) → clause_parts d bs before p given (views ts) ≡ refuse 23 p
  given_apart bs before [] h = refl
  given_apart bs before (a ∷ []) h = absurd (h refl)
  given_apart bs before (a ∷ b ∷ ts) h = refl

  pub checks_apart : (bs : List BinderData) (before : Clauses) (ts : List Tree) → (length ts ≡ 1 → ⊥) → clause_parts d bs before p checks (views ts) ≡ refuse 23 p
  checks_apart bs before [] h = refl
  checks_apart bs before (a ∷ []) h = absurd (h refl)
  checks_apart bs before (a ∷ b ∷ ts) h = refl

  pub checks_runs_apart : (bs : List BinderData) (before : Clauses) (ts : List Tree) → (length ts ≡ 1 → ⊥) → clause_parts d bs before p checks_runs (views ts) ≡ refuse 23 p
  checks_runs_apart bs before [] h = refl
  checks_runs_apart bs before (a ∷ []) h = absurd (h refl)
  checks_runs_apart bs before (a ∷ b ∷ ts) h = refl

  pub labels_apart : (bs : List BinderData) (before : Clauses) (ts : List Tree) → (length ts ≡ 1 → ⊥) → clause_parts d bs before p labels (views ts) ≡ refuse 23 p
  labels_apart bs before [] h = refl
  labels_apart bs before (a ∷ []) h = absurd (h refl)
  labels_apart bs before (a ∷ b ∷ ts) h = refl

  pub collects_apart : (bs : List BinderData) (before : Clauses) (ts : List Tree) → (length ts ≡ 1 → ⊥) → clause_parts d bs before p collects (views ts) ≡ refuse 23 p
  collects_apart bs before [] h = refl
  collects_apart bs before (a ∷ []) h = absurd (h refl)
  collects_apart bs before (a ∷ b ∷ ts) h = refl

  pub classifies_apart : (bs : List BinderData) (before : Clauses) (ts : List Tree) → (length ts ≡ 2 → ⊥) → clause_parts d bs before p classifies (views ts) ≡ refuse 23 p
  classifies_apart bs before [] h = refl
  classifies_apart bs before (a ∷ []) h = refl
  classifies_apart bs before (a ∷ b ∷ []) h = absurd (h refl)
  classifies_apart bs before (a ∷ b ∷ c ∷ ts) h = refl

  pub tabulates_apart : (bs : List BinderData) (before : Clauses) (ts : List Tree) → (length ts ≡ 2 → ⊥) → clause_parts d bs before p tabulates (views ts) ≡ refuse 23 p
  tabulates_apart bs before [] h = refl
  tabulates_apart bs before (a ∷ []) h = refl
  tabulates_apart bs before (a ∷ b ∷ []) h = absurd (h refl)
  tabulates_apart bs before (a ∷ b ∷ c ∷ ts) h = refl

  pub covers_apart : (bs : List BinderData) (before : Clauses) (ts : List Tree) → (length ts ≡ 3 → ⊥) → clause_parts d bs before p covers (views ts) ≡ refuse 23 p
  covers_apart bs before [] h = refl
  covers_apart bs before (a ∷ []) h = refl
  covers_apart bs before (a ∷ b ∷ []) h = refl
  covers_apart bs before (a ∷ b ∷ c ∷ []) h = absurd (h refl)
  covers_apart bs before (a ∷ b ∷ c ∷ d ∷ ts) h = refl

  pub binder_few : (before : List BinderData) (ts : List Tree) → length ts < 2 → binder_at d before (list p (views ts)) ≡ refuse 23 p
  binder_few before [] h = refl
  binder_few before (a ∷ []) h = refl
  binder_few before (a ∷ b ∷ ts) h = absurd (omega arith)

  pub binder_many : (before : List BinderData) (ts : List Tree) → 4 ≤ length ts → binder_at d before (list p (views ts)) ≡ refuse 23 p
  binder_many before [] h = absurd (omega arith)
  binder_many before (a ∷ []) h = absurd (omega arith)
  binder_many before (a ∷ b ∷ []) h = absurd (omega arith)
  binder_many before (a ∷ b ∷ c ∷ []) h = absurd (omega arith)
  binder_many before (a ∷ b ∷ c ∷ e ∷ ts) h = refl
