-- The program that trees stand for, or the first check that does not hold: of all names, then of all headers, then of all bodies.
use Rattle.std.specs.Prelude.{Option}
use Rattle.std.specs.Result.{result_err}
use Rattle.qk_base.specs.declared.place.Refusal.{Refusal}
use Rattle.qk_syntax.specs.PlainTrees.{PlainTrees}
use Rattle.qk_types.specs.Bodies.{bodies_of}
use Rattle.qk_names.specs.Checks.{Checked, ◌>>=◌}
use Rattle.qk_headers.specs.Headers.{headers_of}
use Rattle.qk_names.specs.Names.{names_of}
use Rattle.qk_core.specs.Program.{ProgramData}

abbrev pub elaborated : PlainTrees → Checked ProgramData
elaborated trees = do
  names ← names_of trees
  headers ← headers_of names trees
  bodies_of (record { names = names; headers = headers }) trees

-- the fault of the trees, if they have one
abbrev pub type_fault : PlainTrees → Option Refusal
type_fault trees = result_err (elaborated trees)
