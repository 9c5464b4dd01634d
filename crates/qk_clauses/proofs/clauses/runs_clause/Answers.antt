use Rattle.std.proofs.Common.{rules}
use Rattle.qk_syntax.specs.View.{views}
use Rattle.qk_clauses.specs.Clauses.{clause_parts, checks_runs}
use Rattle.qk_clauses.specs.ClausesView.{clauses_in}
use Rattle.qk_names.proofs.Following.{refused_there_at}
use Rattle.qk_headers.proofs.Parts.{under, over}
use Rattle.qk_clauses.proofs.WrongCounts.{checks_runs_apart}
use Rattle.qk_clauses.proofs.clauses.runs_clause.Goals as goal
use Rattle.qk_clauses.proofs.clauses.runs_clause.Goals.{in_default-via-then-parts-lt1, in_default-via-else-parts-lt1+else-parts-lt2}

pub returns-in_default-clause-refused : goal.returns-in_default-clause-refused
returns-in_default-clause-refused c =
    let a = c.args in
    refused_there_at _ (λ d. clause_parts d a.bound.now.binders.items (clauses_in a.before.now) a.place checks_runs (views a.parts.now)) _ _ c.refusal.ensures
    (λ d. elim c.in_default.branch [
      | in_default-via-then-parts-lt1 w ↦ checks_runs_apart d a.place a.bound.now.binders.items (clauses_in a.before.now) a.parts.now (under a.parts.now 1 (search rules))
      | in_default-via-else-parts-lt1+else-parts-lt2 w ↦ checks_runs_apart d a.place a.bound.now.binders.items (clauses_in a.before.now) a.parts.now (over a.parts.now 1 (search rules))
    ])
