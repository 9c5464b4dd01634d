use Rattle.qk_headers.specs.Headers.{no_headers}
use Rattle.qk_wellformed.proofs.HeadersStand.{headers_stand, headers_given}
use Rattle.qk_wellformed.proofs.laws.headers_stand.Goals as goal

pub returns : goal.returns
returns c = record { judged = λ names trees h k. headers_given names trees no_headers h k; stands = λ names trees h k. headers_stand names trees no_headers h k }
