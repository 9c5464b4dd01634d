use Rattle.std.proofs.Common.{◌∙◌, sym, Ok}
use Rattle.qk_syntax.specs.View.{view}
use Rattle.qk_clauses.specs.BoundView.{draw_in}
use Rattle.qk_typing.specs.TablesView.{tables_in}
use Rattle.qk_clauses.proofs.DrawForms.{others_drawn}
use Rattle.qk_names.proofs.Following.{if_ok_by, refused_by}
use Rattle.qk_clauses.proofs.draws.draw_at.Goals as goal

pub returns-clause-draw : goal.returns-clause-draw
returns-clause-draw c =
    let a = c.args in
    if_ok_by _ _ _ (λ d. Ok (draw_in d)) (others_drawn (tables_in a.tables.now) a.scope.now.items (view a.tree.now) (sym c.draws_commands.ensures ∙ c.if-draws_commands.false)) c.drawn_by.ensures.draw

pub returns-clause-refused : goal.returns-clause-refused
returns-clause-refused c =
    let a = c.args in
    refused_by _ _ _ (others_drawn (tables_in a.tables.now) a.scope.now.items (view a.tree.now) (sym c.draws_commands.ensures ∙ c.if-draws_commands.false)) c.drawn_by.ensures.refused
