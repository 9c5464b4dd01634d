-- What is left comes to what the whole does.
use Rattle.std.proofs.Common.{◌≡◌, drop}
use Rattle.qk_syntax.specs.View.{views}
use Rattle.qk_names.specs.NameTable.{names_in, KeepsCounts}
use Rattle.qk_names.specs.Names.{maker_names}
use Rattle.qk_names.proofs.naming.maker_names.Given as goal

abbrev pub invariant-loop-number : goal.invariant-loop-number
invariant-loop-number l = record {
  left : maker_names (names_in l.fn.names) l.kind 0 (views l.makers) ≡ maker_names (names_in l.names) l.kind l.number (views (drop l.number l.makers));
  counts : KeepsCounts (names_in l.fn.names) (names_in l.names);
}
