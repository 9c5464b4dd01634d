-- The data that what is told stands for, and the lists of outcomes that fit it.
use Rattle.std.specs.Prelude.{◌≡◌, ℕ, List, length, map}
use Rattle.qk_base.specs.Judged.{Judged}
use Rattle.qk_value.specs.View.{view_value}
use Rattle.qk_report.specs.Counted.{StandsFor}
use Rattle.qk_report.specs.PropertyBlock.{ToldData}
use Rattle.qk_report.specs.Tables.{passing}
use Rattle.qk_report.specs.declared.tables.Tables.{Tables}
use Rattle.qk_report.specs.declared.told.Told.{Told}

abbrev pub told_in : Told → ToldData
told_in t = record {
  finish = t.finish;
  successes = t.successes;
  discards = t.discards;
  values = map view_value t.values.items;
  cause = t.cause;
  drawing = t.drawing;
  path = t.path.items;
  tried = t.tried;
  limit_met = t.limit_met;
  seed = t.seed;
  fuel = t.fuel;
  work = t.work;
}

-- a list for which the tables stand, and of which so many outcomes pass
pub record IsFitting (tables : Tables) (successes : ℕ) (outcomes : List Judged) : Type 0 where
  pub stands : StandsFor tables outcomes
  pub successes_are : length (passing outcomes) ≡ successes
