-- One case of a match after those before it.
use Rattle.std.specs.Prelude.{List, [], not, nat_eq, length, Ok}
use Rattle.qk_base.specs.declared.place.Place.{Place}
use Rattle.qk_syntax.specs.PlainTrees.{PlainTree, name, list, PlainTrees, end, more, count}
use Rattle.qk_names.specs.Checks.{Checked, ◌>>=◌, ◌>>◌, refuse, check, place_of}
use Rattle.qk_expressions.specs.Expressions.{expression}
use Rattle.qk_names.specs.Names.{Declared}
use Rattle.qk_typing.specs.Operators.{Tables, Typed}
use Rattle.qk_expressions.specs.Patterns.{Shape, shape_at, pattern_variables, Cases, is_among, agrees, with_case}
use Rattle.qk_names.specs.Reserved.{Word}
use Rattle.qk_headers.specs.Scopes.{Scope, bind_all}

-- the pattern that a part of a case at this place is
abbrev pub headed_shape : List Declared → List Shape → Cases → Place → Place → Word → PlainTrees → Checked Shape
headed_shape names shapes before q r w xs = do
  shape ← shape_at names shapes q r w
  check (nat_eq (count xs) (length shape.fields)) 23 q
  check (not (is_among before.heads w)) 26 q
  Ok shape

abbrev pub pattern_shape : List Declared → List Shape → Cases → Place → PlainTree → Checked Shape
pattern_shape names shapes before p (list q (more (name r w) xs)) = headed_shape names shapes before q r w xs
pattern_shape names shapes before p t = refuse 20 p

-- the variables after its head
abbrev pub variables_in : PlainTree → Checked (List Word)
variables_in (list q (more t xs)) = pattern_variables [] xs
variables_in t = Ok []

-- the cases before and this one
abbrev pub added : Cases → Shape → Typed → Checked Cases
added before shape body = do
  agrees before body
  Ok (with_case before shape body)

abbrev pub parted_case : Tables → Scope → List Shape → Cases → Place → PlainTree → PlainTree → Checked Cases
parted_case d s shapes before p t b = do
  shape ← pattern_shape d.names shapes before p t
  ws ← variables_in t
  body ← expression d (bind_all s ws shape.fields) b
  added before shape body

abbrev pub case_at : Tables → Scope → List Shape → Cases → PlainTree → Checked Cases
case_at d s shapes before (list p (more t (more b end))) = parted_case d s shapes before p t b
case_at d s shapes before t = refuse 20 (place_of t)
