-- The text so far and the text of what is left make the whole.
use Rattle.std.proofs.Common.{◌≡◌, ◌++◌, drop, if◌then◌else◌, ◌==◌}
use Rattle.qk_syntax.specs.Canonical.{canonical_parts, canonical_others}
use Rattle.qk_syntax.specs.View.{views}
use Rattle.qk_syntax.proofs.printing.+print.Given as goal

abbrev pub invariant-put_parts-loop-index : goal.invariant-put_parts-loop-index
invariant-put_parts-loop-index l =
    l.out.items ++ (if l.index == 0 then canonical_parts (views l.trees) else canonical_others (views (drop l.index l.trees)))
    ≡ l.fn.out.items ++ canonical_parts (views l.trees)
