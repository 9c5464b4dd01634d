-- The report of an exhaustive run of a program.
use Rattle.std.specs.Prelude.{ℕ, not, nat_eq, List, [], ◌∷◌, ◌++◌, length, if◌then◌else◌}
use Rattle.std.specs.List.{count_by}
use Rattle.qk_base.specs.declared.status.Status.{Status}
use Rattle.qk_base.specs.declared.status.Status.TheVariants as status
use Rattle.qk_core.specs.Program.{ProgramData}
use Rattle.qk_core.specs.Properties.{PropertyData}
use Rattle.qk_enum_report.specs.Blocks.{block_of, fails}
use Rattle.qk_enum_report.specs.Lines.{totals_line}
use Rattle.qk_enum_report.specs.Reach.{Reach}

-- a block for each of these properties, in their order
abbrev pub blocks_of : Reach → ProgramData → List PropertyData → List ℕ
blocks_of r c [] = []
blocks_of r c (p ∷ ps) = block_of r c p ++ blocks_of r c ps

-- how many of these properties fail, and how many do not
abbrev pub failures : Reach → ProgramData → List PropertyData → ℕ
failures r c ps = count_by (fails r c) ps

abbrev pub passes : Reach → ProgramData → List PropertyData → ℕ
passes r c ps = count_by (λ p. not (fails r c p)) ps

-- the blocks in the order of the file, and the last line
abbrev pub report_of : Reach → ProgramData → List ℕ
report_of r c = blocks_of r c c.properties ++ totals_line (length c.properties) (passes r c c.properties) (failures r c c.properties)

-- whether some property fails
abbrev pub status_of : Reach → ProgramData → Status
status_of r c = if nat_eq (failures r c c.properties) 0 then status.AllPassed else status.SomeFailed
