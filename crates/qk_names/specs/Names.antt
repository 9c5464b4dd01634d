-- The first pass: the names of all items and of all makers, which share one space.
use Rattle.std.specs.Prelude.{ℕ, ◌+◌, Bool, true, false, not, ◌||◌, List, [], ◌∷◌, ◌++◌, codes, bytes_eq, nat_le, nat_lt, Option, Some, None, option_map, find, Ok}
use Rattle.std.specs.List.{count_by}
use Rattle.std.specs.Option.{is_some}
use Rattle.qk_base.specs.declared.place.Place.{Place}
use Rattle.qk_syntax.specs.Places.{start}
use Rattle.qk_syntax.specs.PlainTrees.{PlainTree, number, name, list, PlainTrees, end, more, count}
use Rattle.qk_names.specs.Checks.{Checked, ◌>>=◌, ◌>>◌, refuse, check, place_of}
use Rattle.qk_names.specs.Reserved.{Word, entry_of, is_reserved}
use Rattle.qk_names.specs.declared.names.Item.{Item}
use Rattle.qk_names.specs.declared.names.Item.TheVariants as items
use Rattle.qk_names.specs.declared.names.Named.{Named}
use Rattle.qk_names.specs.declared.names.Named.TheVariants as named

-- a declared name, and what it names
pub record Declared : Type 0 where
  pub name : Word
  pub named : Named

abbrev pub named_by : List Declared → Word → Option Named
named_by names w = option_map (λ d. d.named) (find (λ d. bytes_eq w d.name) names)

abbrev pub is_declared : List Declared → Word → Bool
is_declared names w = is_some (named_by names w)

abbrev pub is_known : List Declared → Word → Bool
is_known names w = is_reserved w || is_declared names w

abbrev pub item_of : Word → Option Item
item_of = entry_of ((codes "type", items.Kind) ∷ (codes "fun", items.Function) ∷ (codes "gen", items.Generator) ∷ (codes "model", items.Model) ∷ (codes "prop", items.Property) ∷ [])

-- the declaration is of such an item
abbrev pub is_of : Item → Named → Bool
is_of items.Kind (named.Kind n) = true
is_of items.Function (named.Function n) = true
is_of items.Generator (named.Generator n) = true
is_of items.Model (named.Model n) = true
is_of items.Property (named.Property n) = true
is_of item n = false

-- how many such items are declared
abbrev pub number_of : List Declared → Item → ℕ
number_of names item = count_by (λ d. is_of item d.named) names

-- items are numbered by their sort, from 0
abbrev pub numbered : Item → ℕ → Named
numbered items.Kind n = named.Kind n
numbered items.Function n = named.Function n
numbered items.Generator n = named.Generator n
numbered items.Model n = named.Model n
numbered items.Property n = named.Property n

-- a name that is reserved or was declared before is refused
abbrev pub declare : List Declared → Place → Word → Named → Checked (List Declared)
declare names p w what = do
  check (not (is_known names w)) 21 p
  Ok (names ++ record { name = w; named = what } ∷ [])

abbrev pub named_maker : List Declared → ℕ → ℕ → Place → Place → Word → PlainTrees → Checked (List Declared)
named_maker names kind n p q w fields = do
  names ← declare names q w (named.Maker kind n)
  check (nat_le (count fields) 16) 23 p
  Ok names

abbrev pub maker_name : List Declared → ℕ → ℕ → PlainTree → Checked (List Declared)
maker_name names kind n (list p (more (name q w) fields)) = named_maker names kind n p q w fields
maker_name names kind n t = refuse 20 (place_of t)

-- makers are numbered within their type, from 0
abbrev pub maker_names : List Declared → ℕ → ℕ → PlainTrees → Checked (List Declared)
maker_names names kind n end = Ok names
maker_names names kind n (more maker makers) = do
  names ← maker_name names kind n maker
  maker_names names kind (n + 1) makers

-- what stands after the name of an item
abbrev pub inner_names : List Declared → Place → ℕ → Item → PlainTrees → Checked (List Declared)
inner_names names p kind items.Kind makers = do
  check (nat_lt 0 (count makers)) 27 p
  maker_names names kind 0 makers
inner_names names p kind item parts = Ok names

abbrev pub declared_item : List Declared → Place → Item → Place → Word → PlainTrees → Checked (List Declared)
declared_item names p item q w parts = do
  after ← declare names q w (numbered item (number_of names item))
  inner_names after p (number_of names items.Kind) item parts

abbrev pub named_item : List Declared → Place → Option Item → PlainTrees → Checked (List Declared)
named_item names p None parts = refuse 20 p
named_item names p (Some item) end = refuse 23 p
named_item names p (Some item) (more (name q w) parts) = declared_item names p item q w parts
named_item names p (Some item) (more (number q n) parts) = refuse 20 q
named_item names p (Some item) (more (list q ts) parts) = refuse 20 q

abbrev pub item_names : List Declared → PlainTree → Checked (List Declared)
item_names names (list p (more (name q w) parts)) = named_item names p (item_of w) parts
item_names names t = refuse 20 (place_of t)

abbrev pub all_names : List Declared → PlainTrees → Checked (List Declared)
all_names names end = Ok names
all_names names (more item items) = do
  names ← item_names names item
  all_names names items

-- the declared names of a program, in their order
abbrev pub names_of : PlainTrees → Checked (List Declared)
names_of trees = do
  names ← all_names [] trees
  check (nat_lt 0 (number_of names items.Property)) 28 start
  Ok names
