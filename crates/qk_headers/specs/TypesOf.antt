-- What trees are as types.
use Rattle.std.specs.Prelude.{◌∷◌, ◌++◌, [], List, codes, bytes_eq, Option, Some, None, Ok}
use Rattle.qk_base.specs.declared.place.Place.{Place}
use Rattle.qk_syntax.specs.PlainTrees.{PlainTree, number, name, list, PlainTrees, end, more}
use Rattle.qk_value.specs.Types.{TypeData, int_type, bool_type, list_type, pair_type, made_type}
use Rattle.qk_names.specs.Checks.{Checked, ◌>>=◌, refuse}
use Rattle.qk_names.specs.Names.{Declared, named_by}
use Rattle.qk_names.specs.Reserved.{Word, entry_of}
use Rattle.qk_names.specs.declared.names.Named.{Named}
use Rattle.qk_names.specs.declared.names.Named.TheVariants as named
use Rattle.qk_headers.specs.declared.types_of.Former.{Former}
use Rattle.qk_headers.specs.declared.types_of.Former.TheVariants as formers

abbrev pub user_type : Place → Option Named → Checked TypeData
user_type p (Some (named.Kind k)) = Ok (made_type k)
user_type p what = refuse 22 p

abbrev pub type_by_word : List Declared → Place → Word → Option TypeData → Checked TypeData
type_by_word names p w (Some t) = Ok t
type_by_word names p w None = user_type p (named_by names w)

abbrev pub named_type : List Declared → Place → Word → Checked TypeData
named_type names p w = type_by_word names p w (entry_of ((codes "Int", int_type) ∷ (codes "Bool", bool_type) ∷ []) w)

abbrev pub former : Word → Option Former
former = entry_of ((codes "List", formers.List) ∷ (codes "Pair", formers.Pair) ∷ [])

abbrev mutual
  pub type_at : List Declared → PlainTree → Checked TypeData
  type_at names (number p n) = refuse 20 p
  type_at names (name p w) = named_type names p w
  type_at names (list p (more (name q w) parts)) = formed_type names p (former w) parts
  type_at names (list p parts) = refuse 20 p

  pub formed_type : List Declared → Place → Option Former → PlainTrees → Checked TypeData
  formed_type names p (Some formers.List) (more t end) = do
    item ← type_at names t
    Ok (list_type item)
  formed_type names p (Some formers.Pair) (more t (more u end)) = do
    first ← type_at names t
    second ← type_at names u
    Ok (pair_type first second)
  formed_type names p (Some f) parts = refuse 23 p
  formed_type names p None parts = refuse 20 p

-- the former that heads the parts of a list, and the parts after it
abbrev pub head_former : PlainTrees → Option Former
head_former (more (name q w) parts) = former w
head_former parts = None

abbrev pub parts_after : PlainTrees → PlainTrees
parts_after (more t ts) = ts
parts_after end = end

-- types one after another, after these
abbrev pub types_after : List Declared → List TypeData → PlainTrees → Checked (List TypeData)
types_after names before end = Ok before
types_after names before (more t ts) = do
  next ← type_at names t
  types_after names (before ++ next ∷ []) ts
