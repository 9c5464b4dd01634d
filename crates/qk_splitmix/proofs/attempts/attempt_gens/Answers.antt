use Rattle.std.proofs.Common.{ap, ◌∙◌, length, slice_get, arith}
use Rattle.qk_splitmix.proofs.Made.{firsts-length, firsts-each}
use Rattle.qk_splitmix.proofs.attempts.attempt_gens.Goals as goal

pub returns-clause-count : goal.returns-clause-count
returns-clause-count c = ap length c.loop.invariant.made ∙ firsts-length c.loop.counter c.args.rest ∙ omega arith

pub returns-clause-each : goal.returns-clause-each
returns-clause-each c = λ k below. ap (λ gens. slice_get gens k) c.loop.invariant.made ∙ firsts-each c.loop.counter c.args.rest k (omega arith)
