use Rattle.std.proofs.Common.{◌≡◌, ◌+◌, ◌≤◌, take}
use Rattle.qk_value.specs.Data.{datas_of}
use Rattle.qk_value.specs.Measures.{depths}
use Rattle.qk_eval.proofs.shared.depth_all.Given as goal

abbrev pub invariant-loop-part : goal.invariant-loop-part
invariant-loop-part l = (l.depth ≡ depths (datas_of (take l.part-index l.parts)) + 1) × (l.depth ≤ 201)
