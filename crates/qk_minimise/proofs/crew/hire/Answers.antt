use Rattle.std.proofs.Common.{rules, arith, ◌≡◌, ◌+◌, false, [], ◌∷◌, ◌++◌, length, length-append, All, sym, subst, ap, ◌∙◌}
use Rattle.qk_totals.proofs.Gather.{all_last, all_front, all_snoc, one_shorter}
use Rattle.qk_path.specs.declared.walker.Walker.{Walker}
use Rattle.qk_minimise.specs.declared.crew.Hired.{Hired}
use Rattle.qk_minimise.specs.Crew.{IsReady}
use Rattle.qk_minimise.proofs.crew.hire.Goals as goal

pub loop-walker-preserved : goal.loop-walker-preserved
loop-walker-preserved g c =
    let t = c.args.table.now in
    let W : Type 0 = Walker g.row.F.Denot g.row.F-Point.Denot g.row.F-Spread.Denot g.F.Family in
    let H : Type 0 = Hired g.row.F.Denot g.row.F-Point.Denot g.row.F-Spread.Denot g.F.Family in
    let P : W → Type 0 = IsReady t.table.shared.table_id t.family.now t.root.now t.limit in
    let Q : H → Type 0 = λ h. P h.walker in
    let old = c.loop-walker.walkers.items in let rest = c.pop.new.self.items in let walker : W = c.in-Some.walker in let ready = c.loop-walker.ready.items in
    let one : H = record { walker = walker; failed = false } in
    let items : old ≡ rest ++ walker ∷ [] = c.in-Some.ensures in
    let all : All P (rest ++ walker ∷ []) = subst (All P) items c.loop-walker.invariant.rest in
    let pushed : c.push.new.self.items ≡ ready ++ one ∷ [] = search rules in
    let longer : length c.push.new.self.items ≡ length ready + 1 = ap length pushed ∙ length-append ready (one ∷ []) in
    let shorter = one_shorter old rest walker items in
    let before = c.loop-walker.invariant.all in
    record {
      all = omega (arith, longer, shorter, before);
      rest = all_front P rest walker all;
      ready = subst (All Q) (sym pushed) (all_snoc Q ready one c.loop-walker.invariant.ready (all_last P rest walker all));
    }
