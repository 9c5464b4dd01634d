use Rattle.qk_typed.proofs.Judging.{givens_typed, checks_typed, runs_typed, marks_typed}
use Rattle.qk_typed.proofs.laws.judging_is_typed.Goals as goal

pub returns-clause-givens : goal.returns-clause-givens
returns-clause-givens c = givens_typed

pub returns-clause-checks : goal.returns-clause-checks
returns-clause-checks c = checks_typed

pub returns-clause-runs : goal.returns-clause-runs
returns-clause-runs c = runs_typed

pub returns-clause-marks : goal.returns-clause-marks
returns-clause-marks c = marks_typed
