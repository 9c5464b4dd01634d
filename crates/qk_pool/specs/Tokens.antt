-- What the tokens of a relay know.
use Rattle.std.specs.Prelude.{◌≡◌, ◌+◌, true, false, List, []}
use Rattle.crossbeam_queue.specs.Passes.{view, IsPassOf}
use Rattle.qk_pool.specs.declared.taken.Taken.{Taken}
use Rattle.qk_pool.specs.declared.taker.Feeder.{Feeder}
use Rattle.qk_pool.specs.declared.taker.Taker.{Taker}
use Rattle.qk_pool.specs.declared.relay.Relay.{Relay}

abbrev pub put_of : Feeder → List Taken
put_of f = (view f.pass).put

abbrev pub taken_of : Taker → List Taken
taken_of t = (view t.pass).taken

abbrev pub IsFeederOf : Relay → Feeder → Type 0
IsFeederOf r f = IsPassOf r.queue f.pass × ((view f.pass).feeds ≡ true) × ((view f.pass).parts + r.takers ≡ 1024) × ((view f.pass).taken ≡ [])

abbrev pub IsTakerOf : Relay → Taker → Type 0
IsTakerOf r t = IsPassOf r.queue t.pass × ((view t.pass).feeds ≡ false) × ((view t.pass).parts ≡ 1)
