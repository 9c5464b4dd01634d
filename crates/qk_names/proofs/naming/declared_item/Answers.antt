use Rattle.std.proofs.Common.{rules, ◌≡◌, ◌∙◌, sym, ap, subst, ℕ, List, Ok, Err, IfErr}
use Rattle.qk_base.specs.declared.place.Place.{Place}
use Rattle.qk_syntax.specs.PlainTrees.{PlainTrees}
use Rattle.qk_syntax.specs.Refusals.{IfRefusal}
use Rattle.qk_syntax.specs.View.{views}
use Rattle.qk_names.specs.NameTable.{names_in, count_in, Counted}
use Rattle.qk_names.specs.Names.{Declared, declare, declared_item, inner_names, numbered, number_of}
use Rattle.qk_names.specs.Reserved.{Word}
use Rattle.qk_names.specs.declared.names.Counts.{Counts}
use Rattle.qk_names.specs.declared.names.Item.{Item}
use Rattle.qk_names.specs.declared.names.Item.TheVariants as items
use Rattle.qk_names.specs.declared.names.Named.{Named}
use Rattle.qk_names.proofs.Counting.{declare_adds, counted_item}
use Rattle.qk_names.proofs.Sequencing.{after_ok}
use Rattle.qk_names.proofs.naming.declared_item.Goals as goal

module _ (names after : List Declared) (counts : Counts) (item : Item) (p : Place) (w : Word) (next : Named) (was : Counted counts names) where
  -- the name is declared under its number
  numbered_so : next ≡ numbered item (count_in counts item) → declare names p w next ≡ Ok after → declare names p w (numbered item (number_of names item)) ≡ Ok after
  numbered_so same ok = ap (λ n. declare names p w n) (ap (numbered item) (sym (was item)) ∙ sym same) ∙ ok

  -- then the item comes to what stands inside
  comes_to : (at : Place) (parts : PlainTrees) → declare names p w (numbered item (number_of names item)) ≡ Ok after → declared_item names at item p w parts ≡ inner_names after at counts.kinds item parts
  comes_to at parts ok = after_ok _ _ after _ ok (ap (λ k. inner_names after at k item parts) (sym (was items.Kind)))

pub returns-in_err-inner_names-clause-refused : goal.returns-in_err-inner_names-clause-refused
returns-in_err-inner_names-clause-refused c =
    let a = c.args in
    let names = names_in a.names.now in
    let ok = numbered_so names _ a.counts a.item a.at a.word.now c.next.result c.requires.counted c.next.ensures c.in_ok-declare.ensures.ok in
    subst (λ x. IfErr c.from_residual-in_err-inner_names.result (λ e. IfRefusal e (λ r. x ≡ Err r)))
    (sym (comes_to names _ a.counts a.item a.at a.word.now c.next.result c.requires.counted a.place (views a.parts.now) ok)) (search rules)

pub returns-clause-counted : goal.returns-clause-counted
returns-clause-counted c =
    let a = c.args in
    let names = names_in a.names.now in
    let ok = numbered_so names _ a.counts a.item a.at a.word.now c.next.result c.requires.counted c.next.ensures c.in_ok-declare.ensures.ok in
    c.in_ok-inner_names.ensures.counts c.with.result
    (subst (Counted c.with.result) (sym (declare_adds names _ a.at a.word.now _ ok)) (counted_item a.item a.counts c.with.result _ a.word.now names c.requires.counted c.with.ensures.same c.with.ensures.others))
