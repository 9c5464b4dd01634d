use Rattle.std.proofs.Common.{◌∙◌, sym, List, ◌∷◌, codes}
use Rattle.qk_clauses.specs.Clauses.{Head, given, checks, checks_runs}
use Rattle.qk_clauses.specs.ClausesView.{mark_entries}
use Rattle.qk_names.specs.Reserved.{Word}
use Rattle.qk_names.proofs.Entries.{skip}
use Rattle.qk_clauses.proofs.clause_heads.head_of.Goals as goal

abbrev after_check : List (Word × Head)
after_check = (codes "check-runs", checks_runs) ∷ mark_entries

abbrev after_given : List (Word × Head)
after_given = (codes "check", checks) ∷ after_check

pub returns-else-eq-3 : goal.returns-else-eq-3
returns-else-eq-3 c =
    let w = c.args.word.now in
    c.mark_of.ensures
    ∙ sym
    (skip (codes "given", given) after_given w _ _ c.eq.ensures c.as_slice.ensures c.if-eq.false
    ∙ skip (codes "check", checks) after_check w _ _ c.eq-else-eq.ensures c.as_slice-else-eq.ensures c.if-eq-2.false
    ∙ skip (codes "check-runs", checks_runs) mark_entries w _ _ c.eq-else-eq-2.ensures c.as_slice-else-eq-2.ensures c.if-eq-3.false)
