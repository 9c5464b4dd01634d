-- The program that a draft stands for.
use Rattle.std.specs.Prelude.{ℕ, ◌+◌, List, length, Ok}
use Rattle.qk_base.specs.declared.place.Place.{Place}
use Rattle.qk_value.specs.Kinds.{KindData}
use Rattle.qk_core.specs.Program.{ProgramData}
use Rattle.qk_core.specs.Properties.{BinderData, PropertyData}
use Rattle.qk_names.specs.Checks.{Checked, ◌>>=◌}
use Rattle.qk_clauses.specs.Clauses.{Clauses, closed_clauses}
use Rattle.qk_names.specs.Reserved.{Word}
use Rattle.qk_types.specs.declared.bodies.Draft.{Draft}

-- the property of these binders and clauses, once no clause is left
abbrev pub closed_property : Place → Word → List BinderData → Clauses → Checked PropertyData
closed_property p w bs cs = do
  what ← closed_clauses p cs
  Ok (record { name = w; binders = bs; givens = cs.givens; check = what; marks = cs.marks })

abbrev pub draft_in : List KindData → Draft → ProgramData
draft_in kinds d = record { kinds = kinds; functions = d.functions.items; generators = d.generators.items; models = d.models.items; properties = d.properties.items }

-- how many items it has
abbrev pub size_of : Draft → ℕ
size_of d = length d.functions.items + length d.generators.items + length d.models.items + length d.properties.items
