-- The cover lines that are left make the text whole.
use Rattle.std.proofs.Common.{◌≡◌, ◌++◌, List, drop, map}
use Rattle.qk_base.specs.Judged.{Judged}
use Rattle.qk_report.specs.TableLines.{cover_lines}
use Rattle.qk_report.specs.ToldView.{IsFitting}
use Rattle.qk_report.specs.WantedView.{wanted_behind}
use Rattle.qk_report.proofs.table_lines.put_cover_lines.Given as goal

abbrev pub invariant-loop-index : goal.invariant-loop-index
invariant-loop-index l = (outcomes : List Judged) → IsFitting l.tables l.successes outcomes →
    l.text.items ++ cover_lines l.index (map wanted_behind (drop l.index l.wanted-items)) outcomes ≡ l.fn.text.items ++ cover_lines 0 (map wanted_behind l.wanted-items) outcomes
