use Rattle.std.proofs.Common.{◌≡◌, ◌∙◌, ◌+◌, ◌-◌, ◌≤◌, ◌<◌, length, drop, refl, sym, ap, subst, arith, IsTrue}
use Rattle.std.proofs.lemmas.Grind.{common_steps}
use Rattle.qk_value.specs.Data.{listed_data}
use Rattle.qk_eval.specs.Nodes.{data_of}
use Rattle.qk_eval.specs.Parts.{items_of, is_list}
use Rattle.qk_eval.specs.Rows.{Level, row_from}
use Rattle.qk_eval.specs.declared.shared.Row.{Row}
use Rattle.qk_eval.proofs.RowLaws.{listed_later, listed_past}
use Rattle.qk_eval.proofs.shared.Shared.behind.Goals as goal

pub returns-then-left-here-clause-rest : goal.returns-then-left-here-clause-rest
returns-then-left-here-clause-rest c =
    let row = c.in-Row.row.value in
    let at = c.in-Row.at in
    let left = c.loop-left.left in
    let is : row_from at row.items.items row.rest ≡ c.loop-left.rest.now = ap data_of (sym c.in-Row.is) ∙ c.rest.view_is in
    let within : at + left ≤ length row.items.items = grind (arith, common_steps, c.if-left-here.true, c.len.ensures, c.deref-in-Row.ensures) in
    ap (λ d. listed_data (items_of d)) c.in_ok-list-in-Row.ensures
    ∙ listed_later at left (at + left) row.items.items row.rest refl within
    ∙ ap (λ d. drop left (listed_data (items_of d))) is
    ∙ c.loop-left.invariant.rest

pub loop-left-preserved : goal.loop-left-preserved
loop-left-preserved c =
    let row = c.in-Row.row.value in
    let at = c.in-Row.at in
    let left = c.loop-left.left in
    let less = left - (c.len.result - at) in
    let proper : (at < length row.items.items) × IsTrue (is_list row.rest) × Level row.level row.items.items = rw c.in-Row.is at c.rest.invariant.4 in
    let is : row_from at row.items.items row.rest ≡ c.loop-left.rest.now = ap data_of (sym c.in-Row.is) ∙ c.rest.view_is in
    let past : left ≡ less + (length row.items.items - at) = grind (arith, common_steps, c.if-left-here.false, c.len.ensures, c.deref-in-Row.ensures) in
    record {
      list = subst (λ (r : Row). IsTrue (is_list r.rest)) (sym c.deref-in-Row-2.ensures) proper.1;
      rest = ap (λ (r : Row). drop less (listed_data (items_of r.rest))) c.deref-in-Row-2.ensures
          ∙ listed_past at left less row.items.items row.rest (omega (arith, proper.0)) past
          ∙ ap (λ d. drop left (listed_data (items_of d))) is
          ∙ c.loop-left.invariant.rest;
    }
