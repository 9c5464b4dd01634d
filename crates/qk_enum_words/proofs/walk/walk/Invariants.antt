-- The words that are left are good from here exactly where the words are.
use Rattle.std.proofs.Common.{◌≡◌, map, drop}
use Rattle.std.specs.String.{string_bytes}
use Rattle.qk_enum_words.specs.Walk.{is_good, nothing}
use Rattle.qk_enum_words.proofs.walk.walk.Given as goal

abbrev pub invariant-loop-word : goal.invariant-loop-word
invariant-loop-word l = is_good (map string_bytes (drop l.word-index l.words)) l.state ≡ is_good (map string_bytes l.words) nothing
