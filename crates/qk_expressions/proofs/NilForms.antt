-- An empty list that has not one part.
use Rattle.std.proofs.Common.{◌≡◌, ◌≤◌, ◌<◌, List, [], ◌∷◌, length, refl, arith}
use Rattle.qk_base.specs.declared.place.Place.{Place}
use Rattle.qk_syntax.specs.View.{views}
use Rattle.qk_syntax.specs.declared.tree.Tree.{Tree}
use Rattle.qk_names.specs.Checks.{refuse}
use Rattle.qk_expressions.specs.Expressions.{nil_at}
use Rattle.qk_typing.specs.Operators.{Tables}
use Rattle.qk_headers.specs.TypesOf.{parts_after}

module _ (d : Tables) (p : Place) where
  pub nil_few : (ts : List Tree) → length ts < 2 → nil_at d p (parts_after (views ts)) ≡ refuse 23 p
  nil_few [] h = refl
  nil_few (a ∷ []) h = refl
  nil_few (a ∷ b ∷ ts) h = absurd (omega arith)

  pub nil_many : (ts : List Tree) → 3 ≤ length ts → nil_at d p (parts_after (views ts)) ≡ refuse 23 p
  nil_many [] h = absurd (omega arith)
  nil_many (a ∷ []) h = absurd (omega arith)
  nil_many (a ∷ b ∷ []) h = absurd (omega arith)
  nil_many (a ∷ b ∷ c ∷ ts) h = refl
