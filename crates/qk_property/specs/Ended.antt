-- What the end of a property's run tells.
use Rattle.std.specs.Prelude.{◌≡◌, option_map}
use Rattle.std.specs.Option.{is_some}
use Rattle.qk_base.specs.declared.outcome.Cause.{Cause}
use Rattle.qk_command.specs.Drawing.{DrawnValues}
use Rattle.qk_minimise.specs.Minimal.{Minimal}
use Rattle.qk_report.specs.PropertyBlock.{ToldData}
use Rattle.qk_property.specs.Blocks.{numbers_of}
use Rattle.qk_core.specs.Program.{ProgramData}
use Rattle.qk_core.specs.Properties.{PropertyData}
use Rattle.qk_report.specs.Counted.{StandsFor}
use Rattle.qk_rounds.specs.Run.{IsRun}
use Rattle.qk_property.specs.Running.{run_of, work_for}
use Rattle.qk_property.specs.Settings.{report_settings}
use Rattle.qk_property.specs.declared.settings.RunSettings.{RunSettings}
use Rattle.qk_property.specs.declared.testing.Tested.{Tested}

-- state, finish and tables are those of the sequential run, and the work, where it is told, is that of its run by windows
pub record IsTested (s : RunSettings) (c : ProgramData) (p : PropertyData) (tested : Tested) : Type 0 where
  pub run : IsRun tested.state tested.finish (run_of (report_settings s) c p)
  pub tables : StandsFor tested.tables (run_of (report_settings s) c p).done
  pub made : tested.tables.property.now ≡ p
  pub work : tested.work ≡ option_map (work_for (report_settings s) c p) (report_settings s).told_window

-- what is told of that end, with these last values and their cause
abbrev pub told_from : RunSettings → Tested → Minimal DrawnValues → Cause → ToldData
told_from s tested m cause = record {
  finish = tested.finish;
  successes = tested.state.successes;
  discards = tested.state.discards;
  values = m.point.values;
  cause = cause;
  drawing = is_some m.point.crash;
  path = m.path;
  tried = m.tried;
  limit_met = m.limit_met;
  seed = s.seed;
  fuel = s.fuel;
  work = option_map numbers_of tested.work;
}
