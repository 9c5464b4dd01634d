use Rattle.std.proofs.Common.{◌≡◌, ◌+◌, min, take}
use Rattle.qk_value.specs.Data.{datas_of}
use Rattle.qk_value.specs.Measures.{weights}
use Rattle.qk_eval.proofs.shared.weight_all.Given as goal

abbrev pub invariant-loop-part : goal.invariant-loop-part
invariant-loop-part l = l.weight ≡ min (weights (datas_of (take l.part-index l.parts)) + 1) 65537
