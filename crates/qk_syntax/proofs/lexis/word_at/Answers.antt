use Rattle.std.proofs.Common.{◌≡◌, ◌-◌, length, drop, take, ap, ◌∙◌, arith}
use Rattle.qk_syntax.specs.Words.{word_of}
use Rattle.qk_syntax.proofs.ScanLaws.{front_word}
use Rattle.qk_syntax.proofs.lexis.word_at.Goals as goal

pub returns-clause-word : goal.returns-clause-word
returns-clause-word c =
    let xs = drop c.args.from c.args.bytes.now in
    let e : c.word_end-end.result - c.args.from ≡ length (word_of xs) = omega (arith, c.word_end-end.ensures.length) in
    ap (λ n. take n xs) e ∙ front_word xs
