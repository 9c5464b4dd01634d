use Rattle.std.proofs.Common.{rules, arith, ◌≡◌, ◌<◌, true, false, [], ◌∷◌, ◌++◌, sym, ap, ◌∙◌}
use Rattle.qk_scan.proofs.Prefixes.{ends, grows}
use Rattle.qk_scan.proofs.scanning.scan_alone.Goals as goal

pub returns-then-hit : goal.returns-then-hit
returns-then-hit g c =
    let j = g.J.Jobs in let js = c.args.jobs.now in let inv = c.loop-index.invariant in let at = c.loop-index.index in
    let low : at < j.total js = omega (arith, c.count-count.ensures.value, c.loop-index-test.true) in
    let told : c.in_ok-answer.answer ≡ j.answer_at js at = c.in_ok-answer.ensures in
    let hits : j.hits js c.in_ok-answer.answer ≡ true = search rules in
    let done = ends (j.answer_at js) (j.hits js) at (j.total js) _ c.loop-index.found.items c.in_ok-answer.answer low told inv.so_far hits in
    let pushed : c.add.new.self.items ≡ c.loop-index.found.items ++ c.in_ok-answer.answer ∷ [] = search rules in
    pushed ∙ sym done

pub loop-index-preserved : goal.loop-index-preserved
loop-index-preserved g c =
    let j = g.J.Jobs in let js = c.args.jobs.now in let inv = c.loop-index.invariant in let at = c.loop-index.index in
    let low : at < j.total js = omega (arith, c.count-count.ensures.value, c.loop-index-test.true) in
    let told : c.in_ok-answer.answer ≡ j.answer_at js at = c.in_ok-answer.ensures in
    let miss : j.hits js c.in_ok-answer.answer ≡ false = search rules in
    let more = grows (j.answer_at js) (j.hits js) at (j.total js) _ c.loop-index.found.items c.in_ok-answer.answer low told inv.so_far miss in
    let pushed : c.add.new.self.items ≡ c.loop-index.found.items ++ c.in_ok-answer.answer ∷ [] = search rules in
    record { in_range = omega (arith, low); so_far = rw pushed more }
