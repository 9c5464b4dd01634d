-- A list as a type, by its head and the parts after it.
use Rattle.std.proofs.Common.{◌≡◌, ◌≤◌, ◌<◌, refl, sym, ap, List, [], ◌∷◌, length, get_or, Some, arith}
use Rattle.qk_base.specs.declared.place.Place.{Place}
use Rattle.qk_syntax.specs.PlainTrees.{PlainTree, number, name, list, PlainTrees, end, more}
use Rattle.qk_syntax.specs.View.{view, views}
use Rattle.qk_syntax.specs.declared.tree.Tree.{Tree}
use Rattle.qk_names.specs.Checks.{refuse}
use Rattle.qk_names.specs.Names.{Declared}
use Rattle.qk_headers.specs.declared.types_of.Former.TheVariants as formers
use Rattle.qk_headers.specs.TypesOf.{type_at, formed_type, head_former, parts_after}

pub by_former : (names : List Declared) (p : Place) (ts : PlainTrees) → type_at names (list p ts) ≡ formed_type names p (head_former ts) (parts_after ts)
by_former names p end = refl
by_former names p (more (number q n) ts) = refl
by_former names p (more (name q w) ts) = refl
by_former names p (more (list q us) ts) = refl

-- a head and one part
pub one_part : (ts : List Tree) (x : Tree) → 2 ≤ length ts → length ts < 3 → x ≡ get_or ts 1 x → parts_after (views ts) ≡ more (view x) end
one_part [] x most least is = absurd (omega arith)
one_part (a ∷ []) x most least is = absurd (omega arith)
one_part (a ∷ b ∷ []) x most least is = ap (λ y. more (view y) end) (sym is)
one_part (a ∷ b ∷ c ∷ ts) x most least is = absurd (omega arith)

-- a head and two parts
pub two_parts : (ts : List Tree) (x y : Tree) → 3 ≤ length ts → length ts < 4 → x ≡ get_or ts 1 x → y ≡ get_or ts 2 y → parts_after (views ts) ≡ more (view x) (more (view y) end)
two_parts [] x y most least is are = absurd (omega arith)
two_parts (a ∷ []) x y most least is are = absurd (omega arith)
two_parts (a ∷ b ∷ []) x y most least is are = absurd (omega arith)
two_parts (a ∷ b ∷ c ∷ []) x y most least is are = λ i. more (view (sym is i)) (more (view (sym are i)) end)
two_parts (a ∷ b ∷ c ∷ d ∷ ts) x y most least is are = absurd (omega arith)

module _ (names : List Declared) (p : Place) where
  pub list_few : (ts : List Tree) → length ts < 2 → formed_type names p (Some formers.List) (parts_after (views ts)) ≡ refuse 23 p
  list_few [] h = refl
  list_few (a ∷ []) h = refl
  list_few (a ∷ b ∷ ts) h = absurd (omega arith)

  pub list_many : (ts : List Tree) → 3 ≤ length ts → formed_type names p (Some formers.List) (parts_after (views ts)) ≡ refuse 23 p
  list_many [] h = absurd (omega arith)
  list_many (a ∷ []) h = absurd (omega arith)
  list_many (a ∷ b ∷ []) h = absurd (omega arith)
  list_many (a ∷ b ∷ c ∷ ts) h = refl

  pub pair_few : (ts : List Tree) → length ts < 3 → formed_type names p (Some formers.Pair) (parts_after (views ts)) ≡ refuse 23 p
  pair_few [] h = refl
  pair_few (a ∷ []) h = refl
  pair_few (a ∷ b ∷ []) h = refl
  pair_few (a ∷ b ∷ c ∷ ts) h = absurd (omega arith)

  pub pair_many : (ts : List Tree) → 4 ≤ length ts → formed_type names p (Some formers.Pair) (parts_after (views ts)) ≡ refuse 23 p
  pair_many [] h = absurd (omega arith)
  pair_many (a ∷ []) h = absurd (omega arith)
  pair_many (a ∷ b ∷ []) h = absurd (omega arith)
  pair_many (a ∷ b ∷ c ∷ []) h = absurd (omega arith)
  pair_many (a ∷ b ∷ c ∷ d ∷ ts) h = refl
