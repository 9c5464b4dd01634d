use Rattle.std.proofs.Common.{◌∙◌, sym, List, [], ◌∷◌, codes}
use Rattle.qk_clauses.specs.Clauses.{Head, labels, collects, classifies, tabulates, covers}
use Rattle.qk_names.specs.Reserved.{Word}
use Rattle.qk_names.proofs.Entries.{skip}
use Rattle.qk_clauses.proofs.clause_heads.mark_of.Goals as goal

abbrev after_tabulate : List (Word × Head)
after_tabulate = (codes "cover", covers) ∷ []

abbrev after_classify : List (Word × Head)
after_classify = (codes "tabulate", tabulates) ∷ after_tabulate

abbrev after_collect : List (Word × Head)
after_collect = (codes "classify", classifies) ∷ after_classify

abbrev after_label : List (Word × Head)
after_label = (codes "collect", collects) ∷ after_collect

pub returns-else-eq-5 : goal.returns-else-eq-5
returns-else-eq-5 c =
    let w = c.args.word.now in
    sym
    (skip (codes "label", labels) after_label w _ _ c.eq.ensures c.as_slice.ensures c.if-eq.false
    ∙ skip (codes "collect", collects) after_collect w _ _ c.eq-else-eq.ensures c.as_slice-else-eq.ensures c.if-eq-2.false
    ∙ skip (codes "classify", classifies) after_classify w _ _ c.eq-else-eq-2.ensures c.as_slice-else-eq-2.ensures c.if-eq-3.false
    ∙ skip (codes "tabulate", tabulates) after_tabulate w _ _ c.eq-else-eq-3.ensures c.as_slice-else-eq-3.ensures c.if-eq-4.false
    ∙ skip (codes "cover", covers) [] w _ _ c.eq-else-eq-4.ensures c.as_slice-else-eq-4.ensures c.if-eq-5.false)
