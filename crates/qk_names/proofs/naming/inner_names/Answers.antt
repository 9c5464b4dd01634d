use Rattle.std.proofs.Common.{◌≡◌, rules, ◌∙◌, sym, ap, subst, Ok, Err, OnOk, IfErr}
use Rattle.qk_syntax.specs.Refusals.{IfRefusal}
use Rattle.qk_syntax.specs.View.{views}
use Rattle.qk_names.specs.NameTable.{names_in}
use Rattle.qk_names.specs.Names.{inner_names, maker_names}
use Rattle.qk_names.proofs.Sequencing.{passes, some}
use Rattle.qk_names.proofs.naming.inner_names.Goals as goal

-- where makers stand, their names are what the item comes to
makers : (c : goal.After-maker_names) → inner_names (names_in c.args.names.now) c.args.place c.args.kind c.args.item (views c.args.parts.now) ≡ maker_names (names_in c.args.names.now) c.args.kind 0 (views c.args.parts.now)
makers c =
    ap (λ item. inner_names (names_in c.args.names.now) c.args.place c.args.kind item (views c.args.parts.now)) c.in-Kind.is
    ∙ passes _ _ _ _ (some c.args.parts.now (search rules))

pub returns-else-is_empty-clause-ok : goal.returns-else-is_empty-clause-ok
returns-else-is_empty-clause-ok c =
    subst (λ x. OnOk c.maker_names.result (x ≡ Ok (names_in c.maker_names.new.names))) (sym (makers c)) c.maker_names.ensures.ok

pub returns-else-is_empty-clause-refused : goal.returns-else-is_empty-clause-refused
returns-else-is_empty-clause-refused c =
    subst (λ x. IfErr c.maker_names.result (λ e. IfRefusal e (λ r. x ≡ Err r))) (sym (makers c)) c.maker_names.ensures.refused
