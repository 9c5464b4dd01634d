-- What the lists that are open stand for.
use Rattle.std.specs.Prelude.{List, [], ◌∷◌, map}
use Rattle.std.specs.List.{fold}
use Rattle.qk_syntax.specs.Reader.{Level, Stack}
use Rattle.qk_syntax.specs.View.{view}
use Rattle.qk_syntax.specs.declared.open_lists.OpenList.{OpenList}
use Rattle.qk_syntax.specs.declared.open_lists.OpenLists.{OpenLists}

abbrev pub level_of : OpenList → Level
level_of l = record { place = l.place; items = map view l.before.items }

-- the innermost first
abbrev pub levels_of : List OpenList → List Level
levels_of ls = fold (λ levels l. level_of l ∷ levels) [] ls

abbrev pub stack_of : OpenLists → Stack
stack_of s = record { items = map view s.items.items; outer = levels_of s.outer.items }

-- no list is open and nothing is read
abbrev pub bottom : Stack
bottom = record { items = []; outer = [] }
