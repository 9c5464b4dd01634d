-- The covers that are left make the keys whole.
use Rattle.std.proofs.Common.{◌≡◌, ◌++◌, drop, map}
use Rattle.qk_report.specs.Counted.{key_in}
use Rattle.qk_report.specs.Given.{cover_keys}
use Rattle.qk_report.proofs.given.give_covers.Given as goal

abbrev pub invariant-loop-index : goal.invariant-loop-index
invariant-loop-index l = map key_in l.keys.items ++ cover_keys l.index (drop l.index l.covers) ≡ map key_in l.fn.keys.items ++ cover_keys 0 l.covers
