use Rattle.std.proofs.Common.{◌∙◌, sym, subst}
use Rattle.std.proofs.lemmas.Result.{IfOk-weaker}
use Rattle.qk_words.specs.declared.options.OptionName.TheVariants.{Replay}
use Rattle.qk_words.specs.Given.{IsAimGiven}
use Rattle.qk_words.proofs.reading.read_aim.Goals as goal

pub returns-in-None-value-clause-ok : goal.returns-in-None-value-clause-ok
returns-in-None-value-clause-ok c = λ ps m. (sym m.file ∙ sym c.in-Some.ensures, sym (m.values Replay) ∙ sym c.in-None-value.ensures)

pub returns-in-Some-value-clause-ok : goal.returns-in-Some-value-clause-ok
returns-in-Some-value-clause-ok c = IfOk-weaker c.read_replay.result _ _
    (λ aim h ps m. subst (IsAimGiven ps) (sym h.1.1) (sym m.file ∙ sym c.in-Some.ensures, (c.in-Some-value.word.now, (sym (m.values Replay) ∙ sym c.in-Some-value.ensures, h.1.0))))
    c.read_replay.ensures.ok

pub returns-in-Some-value-clause-bad : goal.returns-in-Some-value-clause-bad
returns-in-Some-value-clause-bad c = λ e ps m. (c.in-Some-value.word.now, (sym (m.values Replay) ∙ sym c.in-Some-value.ensures, c.read_replay.ensures.bad e))
