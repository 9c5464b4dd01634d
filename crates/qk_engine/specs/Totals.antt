-- Totals that count how the properties of a program end.
use Rattle.std.specs.Prelude.{◌≡◌}
use Rattle.qk_core.specs.Program.{ProgramData}
use Rattle.qk_property.specs.Settings.{ReportSettings}
use Rattle.qk_engine.specs.Program.{how_many, is_passed, is_failed, is_gave_up}
use Rattle.qk_engine.specs.declared.totals.Totals.{Totals}

pub record AreTotals (s : ReportSettings) (c : ProgramData) (totals : Totals) : Type 0 where
  pub passed : totals.passed ≡ how_many is_passed s c
  pub failed : totals.failed ≡ how_many is_failed s c
  pub gave_up : totals.gave_up ≡ how_many is_gave_up s c
