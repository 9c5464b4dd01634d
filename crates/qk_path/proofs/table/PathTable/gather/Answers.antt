use Rattle.std.proofs.Common.{arith, ◌≡◌, ℕ, ◌+◌, ◌<◌, List, [], ◌∷◌, ◌++◌, length, All, sym, ap, ◌∙◌, subst}
use Rattle.qk_path.specs.declared.walker.Walker.{Walker}
use Rattle.qk_path.specs.Paths.{longer, IsPrefix, AllPrefixes}
use Rattle.qk_path.specs.Steps.{joined}
use Rattle.qk_path.specs.Views.{draws_of, full_of, parts_of}
use Rattle.qk_totals.specs.Totals.{total}
use Rattle.qk_path.specs.Walkers.{view_of, IsWalkerOf}
use Rattle.qk_totals.proofs.Totals.{drawn_append}
use Rattle.qk_path.proofs.Closing.{full_pos, prefixes_split}
use Rattle.qk_totals.proofs.Gather.{all_front, all_last, passed, first_passed, one_shorter, fewer, counted, put_back}
use Rattle.qk_path.proofs.Steps.{joins, longer_by}
use Rattle.qk_path.proofs.table.PathTable.gather.Goals as goal

pub loop-next-init : goal.loop-next-init
loop-next-init g c =
    let W : Type 0 = Walker g.row.F.Denot g.row.F-Point.Denot g.row.F-Spread.Denot g.F.Family in
    let t = c.args.self.now in
    let P : W → Type 0 = IsWalkerOf t.table.shared.table_id t.family.now t.root.now t.limit in
    let old = c.args.walkers.items in let rest = c.pop.new.self.items in let first = c.in-Some.first in
    let items : old ≡ rest ++ first ∷ [] = c.in-Some.ensures in
    let mine : P first = all_last P rest first (subst (All P) items c.requires.walkers) in
    let v = c.part-seat.result.seat.me.0 in
    let is : v ≡ view_of first = ap (λ s. s.me.0) c.part-seat.ensures.0 in
    let one : v.parts ≡ 1 = ap parts_of is ∙ mine.2 in
    let short = one_shorter old rest first items in
    record {
      some = omega arith;
      table = ap (λ s. s.table_id) c.part-seat.ensures.0 ∙ mine.0;
      longest = c.part-seat.ensures.1 ∙ sym (ap (λ u. u.path) is);
      parts = omega arith;
      draws = λ e x. first_passed (λ w. draws_of e x (view_of w)) old rest first (draws_of e x v) items (ap (draws_of e x) is);
      prefixes = λ places pre taken all. put_back (λ w. IsPrefix (view_of w).path places) old rest first items all (subst (λ u. IsPrefix u.path places) is pre);
      among = λ n. fewer (λ w. full_of n (view_of w)) old rest first (total (λ w. full_of n (view_of w)) old) items (omega arith);
      whole = counted (λ w. full_of (length v.path) (view_of w)) old rest first (total (λ w. full_of (length v.path) (view_of w)) old) items (omega arith) (full_pos (length (view_of first).path) (length v.path) (sym (ap (λ u. length u.path) is)));
      rest = all_front P rest first (subst (All P) items c.requires.walkers);
    }

pub join_seat-requires : goal.join_seat-requires
join_seat-requires g c =
    let W : Type 0 = Walker g.row.F.Denot g.row.F-Point.Denot g.row.F-Spread.Denot g.F.Family in
    let t = c.args.self.now in let k = t.table.shared.key in
    let P : W → Type 0 = IsWalkerOf t.table.shared.table_id t.family.now t.root.now t.limit in
    let old = c.loop-next.walkers.items in let rest = c.pop-in-loop-next.new.self.items in let next = c.in-Some-pop.next in
    let items : old ≡ rest ++ next ∷ [] = c.in-Some-pop.ensures in
    let mine : P next = all_last P rest next (subst (All P) items c.loop-next.invariant.rest) in (
      c.loop-next.invariant.table,
      ap (λ s. s.table_id) c.part-seat-in-Some-pop.ensures.0 ∙ mine.0,
      c.part-seat-in-Some-pop.ensures.2,
      omega (arith, t.words.0),
      joins g.F.Family.children g.F.Family.failing k.family.now k.root.now k.walkers k.limit _ _ c.loop-next.all.me.0 c.part-seat-in-Some-pop.result.seat.me.0 c.loop-next.invariant.some,
    )

pub loop-next-preserved : goal.loop-next-preserved
loop-next-preserved g c =
    let W : Type 0 = Walker g.row.F.Denot g.row.F-Point.Denot g.row.F-Spread.Denot g.F.Family in
    let t = c.args.self.now in
    let P : W → Type 0 = IsWalkerOf t.table.shared.table_id t.family.now t.root.now t.limit in
    let inv = c.loop-next.invariant in
    let all = c.args.walkers.items in
    let old = c.loop-next.walkers.items in let rest = c.pop-in-loop-next.new.self.items in let next = c.in-Some-pop.next in
    let items : old ≡ rest ++ next ∷ [] = c.in-Some-pop.ensures in
    let mine : P next = all_last P rest next (subst (All P) items inv.rest) in
    let v = c.loop-next.all.me.0 in let w = c.join_seat.new.seat.me.0 in let n = view_of next in
    let is : w ≡ joined v n = ap (λ m. m.0) c.join_seat.ensures.2 ∙ ap (λ s. joined v s) (ap (λ s. s.me.0) c.part-seat-in-Some-pop.ensures.0) in
    let sum : w.parts ≡ v.parts + n.parts = ap parts_of is in
    let one : n.parts ≡ 1 = mine.2 in
    let short = one_shorter old rest next items in
    let Q : List ℕ → Type 0 = λ l. 0 < total (λ a. full_of (length l) (view_of a)) all in
    let whole : Q (longer v.path n.path) = longer_by Q v.path n.path inv.whole (counted (λ a. full_of (length n.path) (view_of a)) old rest next (total (λ a. full_of (length n.path) (view_of a)) all) items (inv.among (length n.path)) (full_pos (length n.path) (length n.path) (λ i. length n.path))) in
    let path : w.path ≡ longer v.path n.path = ap (λ u. u.path) is in
    record {
      some = omega (arith, inv.some);
      table = c.join_seat.ensures.0 ∙ inv.table;
      longest = c.longer_of-longest.ensures ∙ ((λ i. longer (inv.longest i) (c.part-seat-in-Some-pop.ensures.1 i)) ∙ sym path);
      parts = omega (arith, inv.parts);
      draws = λ e x. passed (λ a. draws_of e x (view_of a)) old rest next (draws_of e x v) (draws_of e x w) _ items (ap (draws_of e x) is ∙ drawn_append e x v.draws n.draws) (inv.draws e x);
      prefixes = λ places pre taken others. (let r = prefixes_split v.absorbed (v.path ∷ n.path ∷ n.absorbed) places (subst (λ u. AllPrefixes u.absorbed places) is taken) in
          inv.prefixes places r.1.0 r.0 (put_back (λ a. IsPrefix (view_of a).path places) old rest next items others r.1.1.0));
      among = λ m. fewer (λ a. full_of m (view_of a)) old rest next (total (λ a. full_of m (view_of a)) all) items (inv.among m);
      whole = subst Q (sym path) whole;
      rest = all_front P rest next (subst (All P) items inv.rest);
    }
