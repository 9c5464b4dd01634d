use Rattle.std.proofs.Common.{[]}
use Rattle.qk_wellformed.proofs.ClausesStand.{clauses_are, clauses_stand, clauses_given}
use Rattle.qk_wellformed.proofs.laws.clauses_stand.Goals as goal

pub returns : goal.returns
returns c = record { judged = λ d bs trees gs what ms h. clauses_given d bs trees [] gs what ms h; stands = λ d bs trees r what h is. clauses_are d bs trees r what (clauses_stand d bs trees [] r what h is) }
