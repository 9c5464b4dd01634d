use Rattle.std.proofs.Common.{◌≡◌, ℕ, List, ◌++◌, subst, sym, ap, ◌∙◌}
use Rattle.qk_syntax.specs.Canonical.{canonical}
use Rattle.qk_syntax.specs.Spelling.{Spells}
use Rattle.qk_syntax.specs.View.{views}
use Rattle.qk_syntax.proofs.Printed.{canonical_spells}
use Rattle.qk_syntax.proofs.printing.print.Goals as goal

pub returns-clause-read_again : goal.returns-clause-read_again
returns-clause-read_again c =
    let trees = views c.args.trees.now.items in
    let text : c.put_lines.new.out.items ≡ canonical trees =
    c.in_ok-put_lines.ensures
    ∙ ap (λ x. x ++ canonical (views c.as_slice.result.now)) c.make-text.ensures
    ∙ ap (λ x. canonical (views x)) c.as_slice.ensures in
    let again = canonical_spells trees c.requires in
    (again.0, subst (λ (x : List ℕ). Spells x again.0) (sym text) again.1, again.2)
