-- What a node of a shared value stands for.
use Rattle.std.specs.Prelude.{IsTrue, ◌<◌, length}
use Rattle.qk_value.specs.Data.{Data, int, bool, list, pair, made, end, datas_of}
use Rattle.qk_eval.specs.Parts.{before, is_list}
use Rattle.qk_eval.specs.Rows.{Level, row_from}
use Rattle.qk_eval.specs.declared.shared.Node.{Node}
use Rattle.qk_eval.specs.declared.shared.Node.TheVariants.{Int, Bool, Nil, Cons, Row, Pair, Made}

abbrev pub data_of : Node → Data
data_of (Int n) = int n
data_of (Bool b) = bool b
data_of Nil = list end
data_of (Cons cell) = before cell.value.first cell.value.second
data_of (Row row at) = row_from at row.value.items.items row.value.rest
data_of (Pair cell) = pair cell.value.first cell.value.second
data_of (Made k m parts) = made k m (datas_of parts.value.items)

-- an item stands before a list, and so does a row, which has an item at its place
abbrev pub IsProper : Node → Type 0
IsProper (Cons cell) = IsTrue (is_list cell.value.second)
IsProper (Row row at) = (at < length row.value.items.items) × IsTrue (is_list row.value.rest) × Level row.value.level row.value.items.items
IsProper (Int n) = Unit {0}
IsProper (Bool b) = Unit {0}
IsProper Nil = Unit {0}
IsProper (Pair cell) = Unit {0}
IsProper (Made k m parts) = Unit {0}
