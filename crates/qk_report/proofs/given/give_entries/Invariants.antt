-- The entries that are left make the keys whole.
use Rattle.std.proofs.Common.{◌≡◌, ◌++◌, drop, map}
use Rattle.qk_report.specs.Counted.{key_in}
use Rattle.qk_report.specs.Given.{entry_keys}
use Rattle.qk_report.proofs.given.give_entries.Given as goal

abbrev pub invariant-loop-index : goal.invariant-loop-index
invariant-loop-index l =
    map key_in l.keys.items ++ entry_keys (map (λ name. name.now) (drop l.index l.names.items)) (map (λ text. text.items) (drop l.index l.texts))
    ≡ map key_in l.fn.keys.items ++ entry_keys (map (λ name. name.now) l.names.items) (map (λ text. text.items) l.texts)
