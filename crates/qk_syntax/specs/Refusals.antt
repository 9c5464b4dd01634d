-- Why a text is not read.
use Rattle.std.specs.Prelude.{⊤}
use Rattle.qk_base.specs.declared.fault.Fault.{Fault}
use Rattle.qk_base.specs.declared.fault.Fault.TheVariants as faults
use Rattle.qk_base.specs.declared.place.Refusal.{Refusal}

-- the fact for a refusal; it says nothing for want of memory
abbrev pub IfRefusal : Fault → (Refusal → Type 0) → Type 0
IfRefusal faults.Memory P = ⊤
IfRefusal (faults.Refused r) P = P r
