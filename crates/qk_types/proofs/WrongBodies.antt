-- Bodies and models with a wrong number of parts are refused.
use Rattle.std.proofs.Common.{◌≡◌, ◌∙◌, ◌<◌, ◌≤◌, List, [], ◌∷◌, length, refl, sym, arith}
use Rattle.qk_base.specs.declared.place.Place.{Place}
use Rattle.qk_syntax.specs.PlainTrees.{number, name, list, PlainTrees, end, more, count}
use Rattle.qk_syntax.specs.View.{views}
use Rattle.qk_syntax.specs.declared.tree.Tree.{Tree}
use Rattle.qk_value.specs.Types.{TypeData}
use Rattle.qk_core.specs.Properties.{BinderData}
use Rattle.qk_types.specs.Bodies.{function_body, generator_body, property_body}
use Rattle.qk_names.specs.Checks.{refuse}
use Rattle.qk_headers.specs.Headers.{ModelTypesData, SignatureData}
use Rattle.qk_clauses.specs.Models.{command_at, abstract_at, system_at, model_at}
use Rattle.qk_typing.specs.Operators.{Tables}
use Rattle.qk_names.specs.Reserved.{Word}
use Rattle.qk_headers.specs.TypesOf.{parts_after}
use Rattle.qk_names.proofs.Sequencing.{count_views}

module _ (d : Tables) (p : Place) where
  pub command_apart : (m : ModelTypesData) (ts : List Tree) → (length ts ≡ 3 → ⊥) → command_at d m (list p (views ts)) ≡ refuse 20 p
  command_apart m [] h = refl
  command_apart m (a ∷ []) h = refl
  command_apart m (a ∷ b ∷ []) h = refl
  command_apart m (a ∷ b ∷ c ∷ []) h = absurd (h refl)
  command_apart m (a ∷ b ∷ c ∷ d ∷ ts) h = refl

  pub abstract_apart : (m : ModelTypesData) (ts : List Tree) → (length ts ≡ 5 → ⊥) → abstract_at d m (list p (views ts)) ≡ refuse 20 p
  abstract_apart m [] h = refl
  abstract_apart m (a ∷ []) h = refl
  abstract_apart m (a ∷ b ∷ []) h = refl
  abstract_apart m (a ∷ b ∷ c ∷ []) h = refl
  abstract_apart m (a ∷ b ∷ c ∷ d ∷ []) h = refl
  abstract_apart m (a ∷ b ∷ c ∷ d ∷ e ∷ []) h = absurd (h refl)
  abstract_apart m (a ∷ b ∷ c ∷ d ∷ e ∷ f ∷ ts) h = refl

  pub system_apart : (m : ModelTypesData) (ts : List Tree) → (length ts ≡ 5 → ⊥) → system_at d m (list p (views ts)) ≡ refuse 20 p
  system_apart m [] h = refl
  system_apart m (a ∷ []) h = refl
  system_apart m (a ∷ b ∷ []) h = refl
  system_apart m (a ∷ b ∷ c ∷ []) h = refl
  system_apart m (a ∷ b ∷ c ∷ d ∷ []) h = refl
  system_apart m (a ∷ b ∷ c ∷ d ∷ e ∷ []) h = absurd (h refl)
  system_apart m (a ∷ b ∷ c ∷ d ∷ e ∷ f ∷ ts) h = refl

  pub model_apart : (m : ModelTypesData) (ts : List Tree) → (length ts ≡ 3 → ⊥) → model_at d p m (views ts) ≡ refuse 23 p
  model_apart m [] h = refl
  model_apart m (a ∷ []) h = refl
  model_apart m (a ∷ b ∷ []) h = refl
  model_apart m (a ∷ b ∷ c ∷ []) h = absurd (h refl)
  model_apart m (a ∷ b ∷ c ∷ d ∷ ts) h = refl

  pub function_apart : (s : SignatureData) (ts : List Tree) → (length ts ≡ 3 → ⊥) → function_body d p s (views ts) ≡ refuse 23 p
  function_apart s [] h = refl
  function_apart s (a ∷ []) h = refl
  function_apart s (a ∷ b ∷ []) h = refl
  function_apart s (a ∷ b ∷ c ∷ []) h = absurd (h refl)
  function_apart s (a ∷ b ∷ c ∷ d ∷ ts) h = refl

  pub generator_apart : (s : SignatureData) (ts : List Tree) → (length ts ≡ 3 → ⊥) → generator_body d p s (views ts) ≡ refuse 23 p
  generator_apart s [] h = refl
  generator_apart s (a ∷ []) h = refl
  generator_apart s (a ∷ b ∷ []) h = refl
  generator_apart s (a ∷ b ∷ c ∷ []) h = absurd (h refl)
  generator_apart s (a ∷ b ∷ c ∷ d ∷ ts) h = refl

  property_other : (w : Word) (ts : PlainTrees) → (count ts ≡ 1 → ⊥) → property_body d p w ts ≡ refuse 23 p
  property_other w end h = refl
  property_other w (more t end) h = absurd (h refl)
  property_other w (more (number q n) (more u ts)) h = refl
  property_other w (more (name q v) (more u ts)) h = refl
  property_other w (more (list q end) (more u ts)) h = refl
  property_other w (more (list q (more head parts)) (more u ts)) h = refl

  pub property_apart : (w : Word) (ts : List Tree) → (length ts ≡ 1 → ⊥) → property_body d p w (views ts) ≡ refuse 23 p
  property_apart w ts h = property_other w (views ts) (λ e. h (sym (count_views ts) ∙ e))
