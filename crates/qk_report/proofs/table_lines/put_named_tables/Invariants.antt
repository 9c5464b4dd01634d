-- The tables that are left make the text whole.
use Rattle.std.proofs.Common.{◌≡◌, ◌++◌, List, drop, map}
use Rattle.std.specs.List.{flat_map}
use Rattle.qk_base.specs.Judged.{Judged}
use Rattle.qk_report.specs.TableLines.{section_lines, table}
use Rattle.qk_report.specs.ToldView.{IsFitting}
use Rattle.qk_report.proofs.table_lines.put_named_tables.Given as goal

abbrev pub invariant-loop-name : goal.invariant-loop-name
invariant-loop-name l = (outcomes : List Judged) → IsFitting l.tables l.successes outcomes →
    l.text.items ++ flat_map (section_lines l.tables.property.now outcomes) (map table (map (λ name. name.now) (drop l.name-index l.name-items)))
    ≡ l.fn.text.items ++ flat_map (section_lines l.tables.property.now outcomes) (map table (map (λ name. name.now) l.name-items))
