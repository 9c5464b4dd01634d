-- The data that tables, and what is checked by them, stand for.
use Rattle.qk_value.specs.View.{view_type}
use Rattle.qk_core.specs.ExprView.{view_expr}
use Rattle.qk_names.specs.NameTable.{names_in}
use Rattle.qk_typing.specs.Operators.{Tables, Typed}
use Rattle.qk_headers.specs.declared.tables.Tables.{Tables as CodeTables}
use Rattle.qk_headers.specs.declared.tables.Typed.{Typed as CodeTyped}

abbrev pub tables_in : CodeTables → Tables
tables_in d = record { names = names_in d.names; headers = d.headers }

abbrev pub typed_in : CodeTyped → Typed
typed_in e = record { place = e.place; ty = view_type e.ty; expr = view_expr e.expr }
