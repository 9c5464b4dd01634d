use Rattle.std.proofs.Common.{arith, ◌≡◌, ◌+◌, [], ◌∷◌, ◌++◌, sym, ap, ◌∙◌}
use Rattle.std.proofs.lemmas.List.Elements.{All-same}
use Rattle.crossbeam_queue.specs.Passes.{view}
use Rattle.qk_totals.specs.Totals.{total}
use Rattle.qk_totals.proofs.Totals.{total_append}
use Rattle.qk_totals.proofs.Gather.{all_last, all_front, passed, one_shorter}
use Rattle.qk_pool.specs.declared.taker.Taker.{Taker}
use Rattle.qk_pool.specs.Views.{parts_of}
use Rattle.qk_pool.specs.Steps.{joined}
use Rattle.qk_pool.specs.Tokens.{taken_of, IsTakerOf}
use Rattle.qk_pool.proofs.Keeps.{merges}
use Rattle.qk_pool.proofs.relay.Relay.gather.Goals as goal

pub absorb-requires-clause-rule : goal.absorb-requires-clause-rule
absorb-requires-clause-rule c = merges _ _ _ _ c.loop-taker.invariant.feeds c.loop-taker.invariant.some

pub loop-taker-preserved : goal.loop-taker-preserved
loop-taker-preserved c =
    let P : Taker → Type 0 = IsTakerOf c.args.self.now in let inv = c.loop-taker.invariant in
    let old = c.loop-taker.takers.items in let rest = c.pop.new.self.items in let next = c.in-Some.taker in
    let items : old ≡ rest ++ next ∷ [] = c.in-Some.ensures in
    let mine : P next = all_last P rest next (All-same P (rest ++ next ∷ []) old (sym items) inv.rest) in
    let v = view c.loop-taker.pass in let w = view c.absorb.new.pass in let u = view next.pass in
    let is : w ≡ joined v u = c.absorb.ensures.rule ∙ ap (λ p. joined v (view p)) c.pass_of.ensures in
    let sum : w.parts ≡ v.parts + u.parts = ap parts_of is in
    let one : u.parts ≡ 1 = mine.2 in
    let short = one_shorter old rest next items in
    record {
      pass = (c.absorb.ensures.queue.0 ∙ inv.pass.0, c.absorb.ensures.queue.2 ∙ inv.pass.1);
      feeds = ap (λ s. s.feeds) is ∙ inv.feeds;
      some = omega (arith, inv.some);
      parts = omega (arith, inv.parts);
      put = ap (λ s. s.put) is ∙ inv.put;
      taken = λ h. passed (λ t. total h (taken_of t)) old rest next (total h v.taken) (total h w.taken) _ items (ap (λ s. total h s.taken) is ∙ total_append h v.taken u.taken) (inv.taken h);
      rest = all_front P rest next (All-same P (rest ++ next ∷ []) old (sym items) inv.rest);
    }
