use Rattle.std.proofs.Common.{◌≡◌, ◌++◌, take}
use Rattle.qk_eval.proofs.shared.bind_all.Given as goal

abbrev pub invariant-loop-part : goal.invariant-loop-part
invariant-loop-part l = l.env.items ≡ l.initial.env.items ++ take l.part-index l.parts
