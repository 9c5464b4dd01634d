use Rattle.std.proofs.Common.{◌≡◌, Ok, Err}
use Rattle.qk_value.specs.Types.{int_type}
use Rattle.qk_core.specs.GenData.{GenData}
use Rattle.qk_generators.specs.Drawing.{of_sized, resize, drawn}
use Rattle.qk_typing.specs.Operators.{has_type}
use Rattle.qk_typing.specs.TablesView.{typed_in}
use Rattle.qk_generators.specs.DrawingView.{drawn_in}
use Rattle.qk_names.proofs.RefusedFirst.{refused_first, handed_on}
use Rattle.qk_generators.proofs.gen_nodes.resized.Goals as goal

pub returns-in_err-is_number-clause-refused : goal.returns-in_err-is_number-clause-refused
returns-in_err-is_number-clause-refused c =
    let a = c.args in
    let e = typed_in a.size in
    let g = drawn_in a.body in
    handed_on c.from_residual.result c.in_err-is_number.field-0.0 (λ r. of_sized a.place resize e g ≡ Err r) c.from_residual.ensures.1
    (refused_first c.in_err-is_number.field-0.0 (has_type int_type e) (Ok (drawn a.place g.ty (GenData.resize e.expr g.gen))) c.in_err-is_number.ensures.refused)
