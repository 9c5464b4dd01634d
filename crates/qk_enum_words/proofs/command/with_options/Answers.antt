use Rattle.std.proofs.Common.{ap, ap₂, ◌∙◌}
use Rattle.std.proofs.lemmas.Result.{IfOk-weaker}
use Rattle.clap.specs.Words.{with_rule}
use Rattle.qk_enum_words.proofs.command.with_options.Goals as goal

pub returns : goal.returns
returns c = IfOk-weaker c.arg-4.result _ _ (λ m h. h.shape c.option-4.ensures.local
    ∙ ap₂ with_rule (c.in_ok-arg-3.ensures.shape c.option-3.ensures.local
    ∙ ap₂ with_rule (c.in_ok-arg-2.ensures.shape c.option-2.ensures.local
    ∙ ap₂ with_rule (c.in_ok-arg.ensures.shape c.option.ensures.local ∙ ap (with_rule _) c.option.ensures.rule) c.option-2.ensures.rule) c.option-3.ensures.rule) c.option-4.ensures.rule) c.arg-4.ensures
