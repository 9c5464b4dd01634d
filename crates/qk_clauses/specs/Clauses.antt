-- The clauses of a property: givens, then one check, then marks.
use Rattle.std.specs.Prelude.{ℕ, ◌+◌, Bool, true, false, not, ◌&&◌, List, [], ◌∷◌, ◌++◌, length, codes, bytes_eq, nat_eq, nat_le, Option, Some, None, ℤ, pos, negsuc, Ok}
use Rattle.std.specs.Option.{is_some}
use Rattle.qk_base.specs.declared.place.Place.{Place}
use Rattle.qk_syntax.specs.PlainTrees.{PlainTree, number, name, list, PlainTrees, end, more}
use Rattle.qk_value.specs.Types.{bool_type}
use Rattle.qk_clauses.specs.Binders.{scope_of}
use Rattle.qk_names.specs.Checks.{Checked, ◌>>=◌, ◌>>◌, refuse, check, place_of}
use Rattle.qk_core.specs.ExprData.{ExprData}
use Rattle.qk_expressions.specs.Expressions.{expression}
use Rattle.qk_typing.specs.Operators.{Tables, Typed, has_type}
use Rattle.qk_core.specs.Properties.{BinderData, DrawData, plain, commands, CheckData, expression as holds, runs, MarkData, label, collect, classify, tabulate, cover}
use Rattle.qk_names.specs.Reserved.{Word, entry_of}

-- the clauses so far
pub record Clauses : Type 0 where
  pub givens : List ExprData
  pub check : Option CheckData
  pub marks : List MarkData

abbrev pub no_clauses : Clauses
no_clauses = record { givens = []; check = None; marks = [] }

pub data Head : Type 0 where
  given : Head
  checks : Head
  checks_runs : Head
  labels : Head
  collects : Head
  classifies : Head
  tabulates : Head
  covers : Head

abbrev pub head_of : Word → Option Head
head_of =
    entry_of ((codes "given", given) ∷ (codes "check", checks) ∷ (codes "check-runs", checks_runs) ∷ (codes "label", labels) ∷ (codes "collect", collects) ∷ (codes "classify", classifies)
    ∷ (codes "tabulate", tabulates) ∷ (codes "cover", covers) ∷ [])

-- givens and the check come before a check has come, marks after it
abbrev pub may_follow : Clauses → Head → Bool
may_follow before given = not (is_some before.check)
may_follow before checks = not (is_some before.check)
may_follow before checks_runs = not (is_some before.check)
may_follow before mark = is_some before.check

abbrev pub with_mark : Clauses → MarkData → Clauses
with_mark before m = record before { marks = before.marks ++ m ∷ [] }

abbrev pub any_name : PlainTree → Checked Word
any_name (name p w) = Ok w
any_name t = refuse 20 (place_of t)

abbrev pub value_at : Tables → List BinderData → PlainTree → Checked Typed
value_at d binders e = expression d (scope_of binders) e

abbrev pub truth_at : Tables → List BinderData → PlainTree → Checked ExprData
truth_at d binders e = do
  e ← value_at d binders e
  has_type bool_type e
  Ok e.expr

-- a percentage: else 20 where it is no number, and 30 outside 0 to 100
abbrev pub percent_at : PlainTree → Checked ℕ
percent_at (number p (pos n)) = do
  check (nat_le n 100) 30 p
  Ok n
percent_at (number p (negsuc n)) = refuse 30 p
percent_at t = refuse 20 (place_of t)

-- the index of the binder of that name, which draws commands
abbrev pub runs_after : ℕ → Place → List BinderData → Word → Checked CheckData
runs_after i p [] w = refuse 22 p
runs_after i p (b ∷ bs) w = elim (bytes_eq b.name w) [ true ↦ elim b.draw [ commands m ↦ Ok (runs i) | plain g ↦ refuse 24 p ] | false ↦ runs_after (i + 1) p bs w ]

abbrev pub runs_at : List BinderData → PlainTree → Checked CheckData
runs_at binders (name p w) = runs_after 0 p binders w
runs_at binders t = refuse 20 (place_of t)

-- what stands after the head of a clause: its number of parts, its parts left to right, then its types
abbrev pub clause_parts : Tables → List BinderData → Clauses → Place → Head → PlainTrees → Checked Clauses
clause_parts d bs before p given (more e end) = do
  e ← truth_at d bs e
  Ok (record before { givens = before.givens ++ e ∷ [] })
clause_parts d bs before p checks (more e end) = do
  e ← truth_at d bs e
  Ok (record before { check = Some (holds e) })
clause_parts d bs before p checks_runs (more x end) = do
  c ← runs_at bs x
  Ok (record before { check = Some c })
clause_parts d bs before p labels (more n end) = do
  w ← any_name n
  Ok (with_mark before (label w))
clause_parts d bs before p collects (more e end) = do
  e ← value_at d bs e
  Ok (with_mark before (collect e.expr))
clause_parts d bs before p classifies (more e (more n end)) = do
  e ← value_at d bs e
  w ← any_name n
  has_type bool_type e
  Ok (with_mark before (classify e.expr w))
clause_parts d bs before p tabulates (more n (more e end)) = do
  w ← any_name n
  e ← value_at d bs e
  Ok (with_mark before (tabulate w e.expr))
clause_parts d bs before p covers (more c (more e (more n end))) = do
  c ← percent_at c
  e ← value_at d bs e
  w ← any_name n
  has_type bool_type e
  Ok (with_mark before (cover c e.expr w))
clause_parts d bs before p head parts = refuse 23 p

abbrev pub headed_clause : Tables → List BinderData → Clauses → Place → Option Head → PlainTrees → Checked Clauses
headed_clause d bs before p None parts = refuse 20 p
headed_clause d bs before p (Some head) parts = do
  check (may_follow before head) 20 p
  clause_parts d bs before p head parts

abbrev pub clause_at : Tables → List BinderData → Clauses → PlainTree → Checked Clauses
clause_at d bs before (list p (more (name q w) parts)) = headed_clause d bs before p (head_of w) parts
clause_at d bs before t = refuse 20 (place_of t)

abbrev pub clauses_at : Tables → List BinderData → Clauses → PlainTrees → Checked Clauses
clauses_at d bs before end = Ok before
clauses_at d bs before (more t ts) = do
  before ← clause_at d bs before t
  clauses_at d bs before ts

-- the check of a property at a place, once no clause is left
abbrev pub closed_clauses : Place → Clauses → Checked CheckData
closed_clauses p c = elim c.check [
  | None ↦ refuse 23 p
  | Some what ↦ do
    check (nat_le (length c.givens) 16 && nat_le (length c.marks) 16) 23 p
    Ok what
]
