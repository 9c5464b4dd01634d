-- What is left decides as the whole does.
use Rattle.std.proofs.Common.{◌≡◌, drop}
use Rattle.std.specs.List.{list_any}
use Rattle.std.specs.Str.{bytes_eq}
use Rattle.qk_typing.specs.PartsView.{words_in}
use Rattle.qk_typing.proofs.scopes.is_among.Given as goal

abbrev pub invariant-loop-other : goal.invariant-loop-other
invariant-loop-other l = list_any (bytes_eq l.word) (words_in l.words) ≡ list_any (bytes_eq l.word) (words_in (drop l.other-index l.words))
