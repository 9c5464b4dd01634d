use Rattle.std.proofs.Common.{◌≡◌, ℕ, ◌≤◌, false, nat_lt, arith}
use Rattle.std.proofs.lemmas.Bool.Decides.{nat_tests}
use Rattle.qk_gen.proofs.items.vector.Goals as goal

short : (n : ℕ) → n ≤ 65535 → nat_lt 65535 n ≡ false
short n h = grind (arith, nat_tests)

pub returns : goal.returns
returns c = λ functions generators env u.
    rw (short c.args.count c.if-count-gt65535.false) (rw c.new-done.ensures.items at (c.in_ok-next.ensures functions generators env u))
