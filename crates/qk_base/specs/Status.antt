-- The numbers of answers.
use Rattle.std.specs.Prelude.{ℕ}
use Rattle.qk_base.specs.declared.status.Status.{Status}
use Rattle.qk_base.specs.declared.status.Status.TheVariants.{AllPassed, SomeFailed, Usage, Refused, ReadFault, WriteFault, Memory}
use Rattle.qk_base.specs.declared.loading.LoadFault.{LoadFault}
use Rattle.qk_base.specs.declared.loading.LoadFault.TheVariants as faults

abbrev pub number_of : Status → ℕ
number_of AllPassed = 0
number_of SomeFailed = 1
number_of Usage = 2
number_of Refused = 3
number_of ReadFault = 4
number_of WriteFault = 5
number_of Memory = 6

-- the answer where a file was not loaded
abbrev pub load_status : LoadFault → Status
load_status faults.Memory = Memory
load_status faults.Failed = ReadFault
