use Rattle.std.proofs.Common.{◌≡◌, ◌<◌, All, ◌∙◌, ap, sym}
use Rattle.crossbeam_queue.specs.Passes.{view}
use Rattle.qk_totals.specs.Totals.{total}
use Rattle.qk_pool.specs.declared.taker.Taker.{Taker}
use Rattle.qk_pool.specs.Numbers.{is_end, ends_of}
use Rattle.qk_pool.specs.Tokens.{taken_of, IsTakerOf}
use Rattle.qk_pool.proofs.Keeps.{weighs}
use Rattle.qk_pool.proofs.Closing.{total_ones, all_second, settled}
use Rattle.qk_pool.proofs.relay.Relay.close.Goals as goal

pub learn_as-requires-clause-rule : goal.learn_as-requires-clause-rule
learn_as-requires-clause-rule c = weighs _ _ c.gather-all.ensures.pass.1 c.gather-all.ensures.pass.2

pub returns : goal.returns
returns c = λ h.
    let v = view c.gather-all.result in let told = c.learn_as.ensures.rule in
    let ones : All (λ (t : Taker). ends_of (taken_of t) ≡ 1) c.args.takers.items = all_second (IsTakerOf c.args.self) (λ (t : Taker). ends_of (taken_of t) ≡ 1) c.args.takers.items c.requires.takers in
    let got : ends_of v.taken ≡ c.args.self.takers = c.gather-all.ensures.taken is_end ∙ total_ones (λ (t : Taker). ends_of (taken_of t)) c.args.takers.items ones ∙ c.requires.all in
    let put : ends_of v.put ≡ c.args.self.takers = ap ends_of c.gather-all.ensures.put ∙ c.requires.ended in
    let some : 0 < c.args.self.takers = c.args.self.few.2 in
    sym (ap (total h) c.gather-all.ensures.put) ∙ settled v told.0 c.args.self.takers told.1 put got some h ∙ c.gather-all.ensures.taken h
