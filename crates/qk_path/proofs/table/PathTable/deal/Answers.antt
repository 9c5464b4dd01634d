use Rattle.std.proofs.Common.{rules, arith, ◌≡◌, ◌<◌, [], ◌∷◌, ◌++◌, length, length-append, All, refl, sym, subst, ap, ◌∙◌}
use Rattle.qk_path.specs.declared.walker.Walker.{Walker}
use Rattle.qk_path.specs.Views.{IsEmptyView}
use Rattle.qk_path.specs.Walkers.{view_of, IsWalkerOf}
use Rattle.qk_totals.proofs.Gather.{all_snoc}
use Rattle.qk_path.proofs.Steps.{splits}
use Rattle.qk_path.proofs.table.PathTable.deal.Goals as goal

pub split_seat-seat-requires : goal.split_seat-seat-requires
split_seat-seat-requires g c =
    let k = c.args.self.now.table.shared.key in let v = c.loop-left.first.me.0 in
    let is = ap (λ m. m.0) c.loop-left.invariant.me in
    let bare : IsEmptyView v = subst IsEmptyView (sym is) (refl, refl, refl, refl, refl) in
    let alive : 0 < v.parts = subst (λ u. 0 < u.parts) (sym is) c.loop-left.invariant.some in
    (search rules, search rules, splits g.F.Family.children g.F.Family.failing k.family.now k.root.now k.walkers k.limit _ v bare alive)

pub loop-left-preserved : goal.loop-left-preserved
loop-left-preserved g c =
    let W : Type 0 = Walker g.row.F.Denot g.row.F-Point.Denot g.row.F-Spread.Denot g.F.Family in
    let t = c.args.self.now in
    let P : W → Type 0 = λ w. IsWalkerOf t.table.shared.table_id t.family.now t.root.now t.limit w × IsEmptyView (view_of w) in
    let old = c.loop-left.list.items in let x : W = c.in_ok-one.field-0 in
    let items : c.add.new.self.items ≡ old ++ x ∷ [] = c.in_ok-add.ensures.ok in
    let len = ap length items ∙ length-append old (x ∷ []) in
    record {
      some = omega arith;
      count = omega (arith, c.loop-left.invariant.count);
      table = search rules;
      me = search rules;
      made = subst (All P) (sym items) (all_snoc P old x c.loop-left.invariant.made c.in_ok-one.ensures);
    }

pub returns : goal.returns
returns g c =
    let W : Type 0 = Walker g.row.F.Denot g.row.F-Point.Denot g.row.F-Spread.Denot g.F.Family in
    let t = c.args.self.now in
    let P : W → Type 0 = λ w. IsWalkerOf t.table.shared.table_id t.family.now t.root.now t.limit w × IsEmptyView (view_of w) in
    let old = c.loop-left.list.items in let x : W = c.in_ok-one-2.field-0 in
    let items : c.add-2.new.self.items ≡ old ++ x ∷ [] = c.in_ok-add-2.ensures.ok in
    let len = ap length items ∙ length-append old (x ∷ []) in
    (omega (arith, c.loop-left.invariant.count, c.loop-left.invariant.some, c.loop-left-test.false), subst (All P) (sym items) (all_snoc P old x c.loop-left.invariant.made c.in_ok-one-2.ensures))
