use Rattle.std.proofs.Common.{◌≡◌, sym, subst, Ok, Err}
use Rattle.qk_syntax.specs.Refusals.{IfRefusal}
use Rattle.qk_syntax.specs.View.{views}
use Rattle.qk_names.specs.NameTable.{names_in}
use Rattle.qk_names.specs.Names.{named_maker}
use Rattle.qk_names.proofs.Counting.{declare_adds, maker_keeps}
use Rattle.qk_names.proofs.Sequencing.{after_ok, fails, passes, many, few}
use Rattle.qk_names.proofs.naming.named_maker.Goals as goal

pub returns-then-fields-gt-MOST_PARTS-clause-refused : goal.returns-then-fields-gt-MOST_PARTS-clause-refused
returns-then-fields-gt-MOST_PARTS-clause-refused c =
    let a = c.args in
    subst (λ e. IfRefusal e (λ r. named_maker (names_in a.names.now) a.kind a.number a.place a.at a.word.now (views a.fields.now) ≡ Err r))
    (sym c.refusal.ensures)
    (after_ok _ _ _ _ c.in_ok-declare.ensures.ok (fails _ _ _ _ (many a.fields.now 16 c.if-fields-gt-MOST_PARTS.true)))

pub returns-clause-ok : goal.returns-clause-ok
returns-clause-ok c = after_ok _ _ _ _ c.in_ok-declare.ensures.ok (passes _ _ _ _ (few c.args.fields.now 16 c.if-fields-gt-MOST_PARTS.false))

pub returns-clause-counts : goal.returns-clause-counts
returns-clause-counts c =
    let a = c.args in maker_keeps _ _ a.word.now a.kind a.number (declare_adds _ _ a.at a.word.now _ c.in_ok-declare.ensures.ok)
