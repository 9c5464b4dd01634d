-- The names that are left make the keys whole.
use Rattle.std.proofs.Common.{◌≡◌, ◌++◌, drop, map}
use Rattle.qk_report.specs.Counted.{class, key_in}
use Rattle.qk_report.proofs.given.give_names.Given as goal

abbrev pub invariant-loop-name : goal.invariant-loop-name
invariant-loop-name l =
    map key_in l.keys.items ++ map class (map (λ name. name.now) (drop l.name-index l.names)) ≡ map key_in l.fn.keys.items ++ map class (map (λ name. name.now) l.names)
