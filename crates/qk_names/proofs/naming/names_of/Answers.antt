use Rattle.std.proofs.Common.{◌≡◌, ◌∙◌, ◌≤◌, ℕ, sym, ap, subst, List, [], drop, length, Ok, Err, true, false, nat_lt, arith}
use Rattle.std.proofs.lemmas.List.{drop_all}
use Rattle.qk_syntax.specs.Places.{start}
use Rattle.qk_syntax.specs.Refusals.{IfRefusal}
use Rattle.qk_syntax.specs.View.{views}
use Rattle.qk_syntax.specs.declared.tree.Tree.{Tree}
use Rattle.qk_names.specs.NameTable.{names_in}
use Rattle.qk_names.specs.Names.{Declared, all_names, names_of, number_of}
use Rattle.qk_names.specs.declared.names.Item.TheVariants as items
use Rattle.qk_names.proofs.Sequencing.{after_ok, fails, passes}
use Rattle.qk_names.proofs.naming.names_of.Goals as goal

-- once no item is left, the names are those of all items
whole : (trees : List Tree) (names : List Declared) (i : ℕ) → all_names [] (views trees) ≡ all_names names (views (drop i trees)) → length trees ≤ i → all_names [] (views trees) ≡ Ok names
whole trees names i left none = left ∙ ap (λ ts. all_names names (views ts)) (drop_all i trees none)

pub returns-then-counts-eq0-clause-refused : goal.returns-then-counts-eq0-clause-refused
returns-then-counts-eq0-clause-refused c =
    let loop = c.loop-tree in
    let none : nat_lt 0 (number_of (names_in loop.names) items.Property) ≡ false = ap (nat_lt 0) (sym (loop.invariant.counted items.Property)) ∙ ap (nat_lt 0) c.if-counts-eq0.true in
    subst (λ e. IfRefusal e (λ r. names_of (views c.args.trees.now) ≡ Err r)) (sym c.refusal.ensures)
    (after_ok _ _ _ _ (whole c.args.trees.now _ loop.tree-index loop.invariant.left c.loop-tree-test.false) (fails _ _ start _ none))

pub returns-clause-names : goal.returns-clause-names
returns-clause-names c =
    let loop = c.loop-tree in
    let some : nat_lt 0 (number_of (names_in loop.names) items.Property) ≡ true = ap (nat_lt 0) (sym (loop.invariant.counted items.Property)) ∙ grind arith in
    after_ok _ _ _ _ (whole c.args.trees.now _ loop.tree-index loop.invariant.left c.loop-tree-test.false) (passes _ _ _ _ some)
