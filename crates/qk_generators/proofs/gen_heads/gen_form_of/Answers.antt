use Rattle.std.proofs.Common.{◌≡◌, sym, subst, Err}
use Rattle.qk_syntax.specs.Refusals.{IfRefusal}
use Rattle.qk_names.specs.NameTable.{names_in}
use Rattle.qk_generators.specs.Drawing.{gen_form_of}
use Rattle.qk_typing.proofs.Forms.{not_usable}
use Rattle.qk_generators.proofs.gen_heads.gen_form_of.Goals as goal

pub returns-in-None-clause-refused : goal.returns-in-None-clause-refused
returns-in-None-clause-refused c =
    let a = c.args in
    subst (λ e. IfRefusal e (λ r. gen_form_of (names_in a.names.now) a.place a.at a.word.now ≡ Err r)) (sym c.unusable.ensures)
    (not_usable (names_in a.names.now) a.place a.at a.word.now _ (sym c.in-None.ensures))
