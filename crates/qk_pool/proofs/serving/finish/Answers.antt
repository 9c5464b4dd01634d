use Rattle.std.proofs.Common.{rules, sym, ◌∙◌}
use Rattle.qk_totals.specs.Totals.{times}
use Rattle.qk_pool.specs.Numbers.{numbers_of, has_number}
use Rattle.qk_pool.specs.Tokens.{put_of}
use Rattle.qk_pool.specs.Serving.{strays}
use Rattle.qk_pool.specs.Workers.{found_numbers, weights_of}
use Rattle.qk_pool.proofs.Counts.{counted, each_same}
use Rattle.qk_pool.proofs.Backing.{all_right}
use Rattle.qk_pool.proofs.serving.finish.Goals as goal

pub collect-requires-clause-found : goal.collect-requires-clause-found
collect-requires-clause-found g c κs within =
    let inputs = g.F.Feed.inputs c.args.feed.now in
    all_right (g.T.Task.answers c.args.task.now) inputs (weights_of c.in_ok-tokens.tokens.items) (sym (c.close.ensures (strays inputs)) ∙ c.requires.told) c.in_ok-tokens.found.items c.in_ok-tokens.ensures.2

-- what was put was taken, and what was taken was answered
pub collect-requires-clause-each : goal.collect-requires-clause-each
collect-requires-clause-each g c κs within =
    let put = put_of c.args.feeder in let found = c.in_ok-tokens.found.items in
    each_same c.args.count (λ n. times n (numbers_of put)) (λ n. times n (found_numbers found))
    (λ n. c.in_ok-tokens.ensures.3 n ∙ sym (c.close.ensures (has_number n)) ∙ sym (counted n put)) (search rules)
