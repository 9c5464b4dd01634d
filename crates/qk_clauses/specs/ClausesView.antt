-- The data that clauses stand for while a property is checked.
use Rattle.std.specs.Prelude.{ℕ, map, option_map, codes, List, [], ◌∷◌, Option, Ok}
use Rattle.qk_base.specs.declared.place.Place.{Place}
use Rattle.qk_syntax.specs.PlainTrees.{PlainTree}
use Rattle.qk_value.specs.Types.{bool_type}
use Rattle.qk_core.specs.ExprData.{ExprData}
use Rattle.qk_core.specs.ExprView.{view_expr}
use Rattle.qk_core.specs.Properties.{BinderData, DrawData, plain, commands, CheckData, runs}
use Rattle.qk_core.specs.PropertyView.{view_check, view_mark}
use Rattle.qk_names.specs.Checks.{Checked, ◌>>=◌, ◌>>◌, refuse}
use Rattle.qk_clauses.specs.Clauses.{Clauses, Head, given, checks, checks_runs, labels, collects, classifies, tabulates, covers, value_at, any_name}
use Rattle.qk_typing.specs.Operators.{Tables, has_type}
use Rattle.qk_names.specs.Reserved.{Word, entry_of}
use Rattle.qk_clauses.specs.declared.clause_heads.Clauses.{Clauses as CodeClauses}
use Rattle.qk_clauses.specs.declared.clause_heads.Head.{Head as CodeHead}
use Rattle.qk_clauses.specs.declared.clause_heads.Head.TheVariants as heads
use Rattle.qk_clauses.specs.declared.clause_values.Class.{Class as CodeClass}

abbrev pub head_in : CodeHead → Head
head_in heads.Given = given
head_in heads.Check = checks
head_in heads.CheckRuns = checks_runs
head_in heads.Label = labels
head_in heads.Collect = collects
head_in heads.Classify = classifies
head_in heads.Tabulate = tabulates
head_in heads.Cover = covers

-- the sorts of marks
abbrev pub mark_entries : List (Word × Head)
mark_entries = (codes "label", labels) ∷ (codes "collect", collects) ∷ (codes "classify", classifies) ∷ (codes "tabulate", tabulates) ∷ (codes "cover", covers) ∷ []

abbrev pub mark_of : Word → Option Head
mark_of = entry_of mark_entries

abbrev pub clauses_in : CodeClauses → Clauses
clauses_in c = record { givens = map view_expr c.givens.items; check = option_map view_check c.check; marks = map view_mark c.marks.items }

-- a truth value with the name of the attempts where it is true
pub record Class : Type 0 where
  pub truth : ExprData
  pub name : Word

abbrev pub class_in : CodeClass → Class
class_in c = record { truth = view_expr c.truth; name = c.name.items }

abbrev pub class_at : Tables → List BinderData → PlainTree → PlainTree → Checked Class
class_at d bs e n = do
  e ← value_at d bs e
  w ← any_name n
  has_type bool_type e
  Ok (record { truth = e.expr; name = w })

-- that the commands of a binder run, where it draws commands
abbrev pub runs_drawn : ℕ → Place → DrawData → Checked CheckData
runs_drawn i p (commands m) = Ok (runs i)
runs_drawn i p (plain g) = refuse 24 p
