-- The declared names that a table holds.
use Rattle.std.specs.Prelude.{◌≡◌, ℕ, ◌+◌, List, [], ◌∷◌, ◌++◌, map}
use Rattle.qk_names.specs.Names.{Declared, number_of}
use Rattle.qk_names.specs.Reserved.{Word}
use Rattle.qk_names.specs.declared.names.Counts.{Counts}
use Rattle.qk_names.specs.declared.names.Item.{Item}
use Rattle.qk_names.specs.declared.names.Item.TheVariants as items
use Rattle.qk_names.specs.declared.names.Named.{Named}
use Rattle.qk_names.specs.declared.names.Names.{Names}

abbrev pub names_in : Names → List Declared
names_in n = map (λ e. record { name = e.0.items; named = e.1 }) n.table.entries

-- the names before, and this one
abbrev pub Declares : List Declared → Word → Named → List Declared → Type 0
Declares before w what after = after ≡ before ++ record { name = w; named = what } ∷ []

abbrev pub count_in : Counts → Item → ℕ
count_in c items.Kind = c.kinds
count_in c items.Function = c.functions
count_in c items.Generator = c.generators
count_in c items.Model = c.models
count_in c items.Property = c.properties

abbrev pub all_in : Counts → ℕ
all_in c = c.kinds + c.functions + c.generators + c.models + c.properties

-- the counts are those of the declared names
abbrev pub Counted : Counts → List Declared → Type 0
Counted c names = (item : Item) → count_in c item ≡ number_of names item

-- no item is declared between
abbrev pub KeepsCounts : List Declared → List Declared → Type 0
KeepsCounts before after = (c : Counts) → Counted c before → Counted c after
