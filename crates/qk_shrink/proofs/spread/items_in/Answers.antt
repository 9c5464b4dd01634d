use Rattle.std.proofs.Common.{◌∙◌, sym, ap}
use Rattle.qk_value.specs.Data.{listed_data}
use Rattle.qk_eval.specs.Answers.{ended}
use Rattle.qk_shrink.specs.Tuples.{answered}
use Rattle.qk_eval.proofs.SharedLaws.{listed_again}
use Rattle.qk_shrink.proofs.spread.items_in.Goals as goal

pub returns-in_ok-items-in-Value : goal.returns-in_ok-items-in-Value
returns-in_ok-items-in-Value c = sym (listed_again c.in_ok-items-in-Value.items.items) ∙ ap listed_data c.in_ok-items-in-Value.ensures ∙ ap (λ a. answered (ended a)) (sym c.in-Value.is)
