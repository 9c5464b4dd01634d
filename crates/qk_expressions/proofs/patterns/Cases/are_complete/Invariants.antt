-- What is left decides as the whole does.
use Rattle.std.proofs.Common.{◌≡◌, map, drop}
use Rattle.std.specs.List.{list_all}
use Rattle.qk_expressions.specs.CasesView.{shape_in}
use Rattle.qk_typing.specs.PartsView.{words_in}
use Rattle.qk_expressions.specs.Patterns.{is_among}
use Rattle.qk_expressions.proofs.patterns.Cases.are_complete.Given as goal

abbrev pub invariant-loop-shape : goal.invariant-loop-shape
invariant-loop-shape l =
    list_all (λ s. is_among (words_in l.self.heads.items) s.head) (map shape_in l.shapes) ≡ list_all (λ s. is_among (words_in l.self.heads.items) s.head) (map shape_in (drop l.shape-index l.shapes))
