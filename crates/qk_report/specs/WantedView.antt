-- The data that what a cover clause wants stands for.
use Rattle.qk_report.specs.Tables.{Wanted}
use Rattle.qk_report.specs.declared.names.WantedRef.{WantedRef}

abbrev pub wanted_behind : WantedRef → Wanted
wanted_behind w = record { percent = w.percent; name = w.name.now }
