-- The data that the parts of a model stand for.
use Rattle.qk_core.specs.ExprView.{view_expr}
use Rattle.qk_clauses.specs.Models.{Abstract, System}
use Rattle.qk_types.specs.declared.models.AbstractPart.{AbstractPart}
use Rattle.qk_types.specs.declared.models.SystemPart.{SystemPart}

abbrev pub abstract_in : AbstractPart → Abstract
abstract_in a = record { init = view_expr a.init; pre = a.pre; next = a.next }

abbrev pub system_in : SystemPart → System
system_in s = record { start = view_expr s.start; step = s.step; post = s.post }
