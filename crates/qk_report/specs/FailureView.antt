-- The data that a failure stands for.
use Rattle.std.specs.Prelude.{map}
use Rattle.qk_value.specs.View.{view_value}
use Rattle.qk_report.specs.Block.{FailureData}
use Rattle.qk_report.specs.declared.failure.Failure.{Failure}
use Rattle.qk_report.specs.declared.failure.FailureRef.{FailureRef}

abbrev pub failure_in : Failure → FailureData
failure_in f = record {
  attempt = f.attempt;
  size = f.size;
  cause = f.cause;
  drawing = f.drawing;
  values = map view_value f.values.items;
  path = f.path.items;
  tried = f.tried;
  limit_met = f.limit_met;
  seed = f.seed;
  fuel = f.fuel;
}

abbrev pub failure_behind : FailureRef → FailureData
failure_behind f = record {
  attempt = f.attempt;
  size = f.size;
  cause = f.cause;
  drawing = f.drawing;
  values = map view_value f.values.now;
  path = f.path.now;
  tried = f.tried;
  limit_met = f.limit_met;
  seed = f.seed;
  fuel = f.fuel;
}
