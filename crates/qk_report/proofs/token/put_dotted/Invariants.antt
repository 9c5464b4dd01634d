-- The numbers that are left make the text whole.
use Rattle.std.proofs.Common.{◌≡◌, ◌++◌, drop}
use Rattle.qk_report.specs.Token.{dotted}
use Rattle.qk_report.proofs.token.put_dotted.Given as goal

abbrev pub invariant-loop-number : goal.invariant-loop-number
invariant-loop-number l = l.text.items ++ dotted (drop l.number-index l.path) ≡ l.fn.text.items ++ dotted l.path
