-- What is collected says what the marks before say, and the marks that are left follow.
use Rattle.std.proofs.Common.{◌≡◌, ◌++◌, List, drop, map}
use Rattle.qk_core.specs.PropertyView.{view_mark}
use Rattle.qk_eval.specs.Meaning.{result, and_then}
use Rattle.qk_command.specs.Marking.{Note, notes_of}
use Rattle.qk_command.specs.NotesView.{StandsFor}
use Rattle.qk_command.proofs.marking.mark_all.Given as goal

abbrev pub invariant-loop-one : goal.invariant-loop-one
invariant-loop-one l =
    (ns : List Note) × StandsFor l.notes ns
    × (notes_of l.core.functions l.core.kinds (map view_mark l.marks) l.env l.fn.fuel
    ≡ and_then (notes_of l.core.functions l.core.kinds (map view_mark (drop l.one-index l.marks)) l.env l.left) (λ rest u. result (ns ++ rest) u))
