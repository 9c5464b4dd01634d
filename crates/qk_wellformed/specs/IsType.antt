-- Which trees are types.
use Rattle.std.specs.Prelude.{◌≡◌, ◌∷◌, [], List, codes, Option, Some, None}
use Rattle.qk_syntax.specs.PlainTrees.{PlainTree, number, name, list, PlainTrees, end, more}
use Rattle.qk_value.specs.Types.{TypeData, int_type, bool_type, list_type, pair_type, made_type}
use Rattle.qk_names.specs.Names.{Declared, named_by}
use Rattle.qk_names.specs.Reserved.{Word, entry_of}
use Rattle.qk_headers.specs.TypesOf.{former}
use Rattle.qk_names.specs.declared.names.Named.{Named}
use Rattle.qk_names.specs.declared.names.Named.TheVariants as named
use Rattle.qk_headers.specs.declared.types_of.Former.{Former}
use Rattle.qk_headers.specs.declared.types_of.Former.TheVariants as formers

-- the type that has this word, if one has
abbrev pub plain_type : Word → Option TypeData
plain_type = entry_of ((codes "Int", int_type) ∷ (codes "Bool", bool_type) ∷ [])

-- a word is that type itself, or else the name of a declared one
abbrev pub NamesType : Option TypeData → Option Named → TypeData → Type 0
NamesType (Some u) what t = t ≡ u
NamesType None (Some (named.Kind k)) t = t ≡ made_type k
NamesType None what t = ⊥

abbrev mutual
  pub IsType : List Declared → PlainTree → TypeData → Type 0
  IsType names (number p n) t = ⊥
  IsType names (name p w) t = NamesType (plain_type w) (named_by names w) t
  IsType names (list p (more (name q w) parts)) t = IsFormedType names (former w) parts t
  IsType names (list p parts) t = ⊥

  pub IsFormedType : List Declared → Option Former → PlainTrees → TypeData → Type 0
  IsFormedType names (Some formers.List) (more u end) t = (item : TypeData) × IsType names u item × (t ≡ list_type item)
  IsFormedType names (Some formers.Pair) (more u (more v end)) t = (first : TypeData) × (second : TypeData) × IsType names u first × IsType names v second × (t ≡ pair_type first second)
  IsFormedType names what parts t = ⊥
