-- Which names the items of a program declare.
use Rattle.std.specs.Prelude.{◌≡◌, ℕ, ◌+◌, ◌<◌, ◌≤◌, false, List, [], ◌∷◌, ◌++◌, Some}
use Rattle.qk_syntax.specs.PlainTrees.{PlainTree, name, list, PlainTrees, end, more, count}
use Rattle.qk_names.specs.Names.{Declared, is_known, item_of, number_of, numbered}
use Rattle.qk_names.specs.Reserved.{Word}
use Rattle.qk_names.specs.declared.names.Item.{Item}
use Rattle.qk_names.specs.declared.names.Item.TheVariants as items
use Rattle.qk_names.specs.declared.names.Named.{Named}
use Rattle.qk_names.specs.declared.names.Named.TheVariants as named

-- the names before, and this one
abbrev pub with_name : List Declared → Word → Named → List Declared
with_name names w what = names ++ record { name = w; named = what } ∷ []

-- makers of at most 16 fields, each of a name that is new; they are numbered from there
abbrev pub DeclareMakers : List Declared → ℕ → ℕ → PlainTrees → List Declared → Type 0
DeclareMakers names kind n end after = after ≡ names
DeclareMakers names kind n (more (list p (more (name q w) fields)) makers) after =
    (is_known names w ≡ false) × (count fields ≤ 16) × DeclareMakers (with_name names w (named.Maker kind n)) kind (n + 1) makers after
DeclareMakers names kind n trees after = ⊥

-- a type has makers
abbrev pub DeclareInner : List Declared → ℕ → Item → PlainTrees → List Declared → Type 0
DeclareInner names kind items.Kind makers after = (0 < count makers) × DeclareMakers names kind 0 makers after
DeclareInner names kind item parts after = after ≡ names

-- an item of a name that is new; it is the next of its sort
abbrev pub DeclaresItem : List Declared → PlainTree → List Declared → Type 0
DeclaresItem names (list p (more (name q w) (more (name r x) parts))) after =
    (item : Item) × (item_of w ≡ Some item) × (is_known names x ≡ false) × DeclareInner (with_name names x (numbered item (number_of names item))) (number_of names items.Kind) item parts after
DeclaresItem names tree after = ⊥

abbrev pub DeclareItems : List Declared → PlainTrees → List Declared → Type 0
DeclareItems names end after = after ≡ names
DeclareItems names (more item trees) after = (between : List Declared) × DeclaresItem names item between × DeclareItems between trees after

-- the items declare these names, a property among them
pub record AreNames (trees : PlainTrees) (names : List Declared) : Type 0 where
  pub declared : DeclareItems [] trees names
  pub some : 0 < number_of names items.Property
