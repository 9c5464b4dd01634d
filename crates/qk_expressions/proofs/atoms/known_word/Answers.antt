use Rattle.std.proofs.Common.{◌≡◌, sym, subst, Err}
use Rattle.qk_syntax.specs.Refusals.{IfRefusal}
use Rattle.qk_expressions.specs.Expressions.{atom}
use Rattle.qk_names.specs.NameTable.{names_in}
use Rattle.qk_typing.specs.Operators.{usable}
use Rattle.qk_typing.proofs.Forms.{not_usable}
use Rattle.qk_expressions.proofs.atoms.known_word.Goals as goal

pub returns-in-None-clause-refused : goal.returns-in-None-clause-refused
returns-in-None-clause-refused c =
    let a = c.args in
    subst (λ e. IfRefusal e (λ r. usable (names_in a.names.now) a.place a.place a.word.now (atom a.place a.word.now) ≡ Err r)) (sym c.unusable.ensures)
    (not_usable (names_in a.names.now) a.place a.place a.word.now _ (sym c.in-None.ensures))
