use Rattle.std.proofs.Common.{sym, ap, arith, ◌∙◌}
use Rattle.std.proofs.lemmas.List.{drop_all}
use Rattle.std.specs.Str.Parse.{digits_value_after}
use Rattle.qk_report.proofs.DigitLaws.{wide_is_none, fits_whole}
use Rattle.qk_report.proofs.numerals.number_of.Goals as goal

pub returns-in-None : goal.returns-in-None
returns-in-None c =
    let kept = c.loop-digit.invariant in
    wide_is_none c.loop-digit.number c.args.digits.now c.loop-digit.digit-index c.loop-digit-test.true kept.1 (omega (arith, c.in-None.ensures)) kept.0

pub returns : goal.returns
returns c =
    let kept = c.loop-digit.invariant in
    let ended = drop_all c.loop-digit.digit-index c.args.digits.now (omega (arith, c.loop-digit-test.false)) in
    fits_whole c.loop-digit.number c.args.digits.now kept.2 (sym (ap (digits_value_after 10 c.loop-digit.number) ended) ∙ kept.0)
