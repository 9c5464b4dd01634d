use Rattle.std.proofs.Common.{arith, ◌≡◌, suc, [], ◌∷◌, ◌++◌, length, refl, ap}
use mathlib.Core.Logic.{dite}
use native.Mathlib.Decide.{dec_le}
use Rattle.qk_totals.specs.Totals.{drawn}
use Rattle.qk_totals.proofs.Totals.{drawn_append, draw_same}
use Rattle.qk_path.specs.Walkers.{view_of}
use Rattle.qk_worker_tests.proofs.path.claim.Goals as goal

pub returns-clause-drawn : goal.returns-clause-drawn
returns-clause-drawn c =
    let v = view_of c.args.walker.now in let w = view_of c.claim.new.walker in let k = c.claim.result in
    let is : w.draws ≡ v.draws ++ (length v.path, k) ∷ [] = dite (dec_le (suc k) 5) (λ low. ap (λ u. u.draws) (c.claim.ensures.draw low)) (λ high. ap (λ u. u.draws) (c.claim.ensures.done (omega arith))) in
    let same = ap (drawn 0 k) is in let sum = drawn_append 0 k v.draws ((length v.path, k) ∷ []) in
    let one = draw_same 0 k (length v.path) k (ap length c.requires.start.2) refl in omega arith

pub returns-clause-kept : goal.returns-clause-kept
returns-clause-kept c x h =
    let v = view_of c.args.walker.now in let w = view_of c.claim.new.walker in let k = c.claim.result in
    let is : w.draws ≡ v.draws ++ (length v.path, k) ∷ [] = dite (dec_le (suc k) 5) (λ low. ap (λ u. u.draws) (c.claim.ensures.draw low)) (λ high. ap (λ u. u.draws) (c.claim.ensures.done (omega arith))) in
    let same = ap (drawn 0 x) is in let sum = drawn_append 0 x v.draws ((length v.path, k) ∷ []) in omega arith
