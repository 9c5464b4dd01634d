use Rattle.std.proofs.Common.{◌∙◌, sym, ap}
use Rattle.std.proofs.lemmas.Result.{IfOk-weaker}
use Rattle.qk_report.specs.TokenReader.{token_in}
use Rattle.qk_report.proofs.NumberReading.{none_some}
use Rattle.qk_report.proofs.TokenReading.{token_sound, token_whole}
use Rattle.qk_report.proofs.tokens.Token.parse.Goals as goal

pub returns-clause-ok : goal.returns-clause-ok
returns-clause-ok c = IfOk-weaker c.read_token.result _ _ (λ t e. token_sound c.args.word.now t (sym (ap token_in c.as_bytes.ensures.value) ∙ e)) c.read_token.ensures.ok

pub returns-clause-bad : goal.returns-clause-bad
returns-clause-bad c = λ bad t h. none_some t (sym (c.read_token.ensures.bad bad) ∙ ap token_in c.as_bytes.ensures.value ∙ token_whole c.args.word.now t h)
