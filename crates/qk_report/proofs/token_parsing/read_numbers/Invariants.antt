-- The numbers that are left make the path whole.
use Rattle.std.proofs.Common.{◌≡◌, ◌≤◌, ◌-◌, ◌∷◌, ◌++◌, length, option_map}
use Rattle.qk_report.specs.TokenReader.{dotted_in}
use Rattle.qk_report.proofs.token_parsing.read_numbers.Given as goal

abbrev pub invariant-loop-rest : goal.invariant-loop-rest
invariant-loop-rest l =
    (length l.path.items ≤ 1024)
    × (option_map (λ ns. l.path.items ++ ns) (dotted_in (1024 - length l.path.items) l.rest) ≡ option_map (λ ns. l.first ∷ ns) (dotted_in 1023 l.bytes))

abbrev pub decreases-loop-rest : goal.decreases-loop-rest
decreases-loop-rest l = 1024 - length l.path.items
