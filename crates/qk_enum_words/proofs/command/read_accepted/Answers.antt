use Rattle.std.proofs.Common.{ap, map, ◌∙◌, refl, subst}
use Rattle.std.proofs.lemmas.Result.{IfErr-weaker, IfOk-weaker}
use Rattle.std.specs.String.{string_bytes}
use Rattle.clap.specs.Words.{takes, HasMatchesOf}
use Rattle.qk_enum_words.proofs.Taken.{taken}
use Rattle.qk_enum_words.proofs.command.read_accepted.Goals as goal

pub returns-clause-ok : goal.returns-clause-ok
returns-clause-ok c = IfOk-weaker c.try_get_matches_from.result _ _
    (λ m h. (subst (λ a. HasMatchesOf a (map string_bytes c.args.words.now) m) c.in_ok-command.ensures h refl).0)
    c.try_get_matches_from.ensures.matches

pub returns-clause-err : goal.returns-clause-err
returns-clause-err c = IfErr-weaker c.try_get_matches_from.result _ _
    (λ e k. k (ap (λ a. takes a (map string_bytes c.args.words.now)) c.in_ok-command.ensures ∙ taken _ c.requires))
    c.try_get_matches_from.ensures.passes
