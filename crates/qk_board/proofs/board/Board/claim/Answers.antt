use Rattle.std.proofs.Common.{rules, arith, ◌≡◌, ◌+◌, ◌-◌, ◌<◌, set, true, ◌≤◌, ◌^◌, length, sym, subst, ap, ◌∙◌, ◌++◌, [], ◌∷◌}
use Rattle.qk_board.specs.Views.{length_at, with_dry}
use Rattle.qk_board.specs.Flags.{Flagged}
use Rattle.qk_board.proofs.Steps.{claims}
use Rattle.qk_board.proofs.Flags.{flagged}
use Rattle.qk_board.proofs.board.Board.claim.Goals as goal

pub fetch_add-found-requires : goal.fetch_add-found-requires
fetch_add-found-requires g c =
    let k = c.args.self.now.table.shared.key in
    let planned = c.args.self.now.planned in
    let here : c.args.range < length k.lengths.items = subst (λ l. c.args.range < length l) (sym planned.1) c.requires.range in
    let len : length_at k.lengths.items c.args.range ≡ c.length-length.result = ap (λ l. length_at l c.args.range) planned.1 ∙ sym c.length-length.ensures.0 in
    let small : length_at k.lengths.items c.args.range + k.seats < 2 ^ 63 = omega (arith, planned.2, c.length-length.ensures.1) in
    let alive : 0 < c.args.seat.now.seat.me.0.parts = omega (arith, c.requires.seat.3) in (
      search rules,
      search rules,
      claims k.limit k.seats k.lengths.items _ _ c.args.range c.args.seat.now.seat.me alive here small c.requires.wet,
    )

pub bounds-seat-range : goal.bounds-seat-range
bounds-seat-range g c = omega (arith, c.args.self.now.words.1, c.requires.range)

pub invariant_of-seat-else-found-length : goal.invariant_of-seat-else-found-length
invariant_of-seat-else-found-length g c =
    let v = c.args.seat.now.seat.me.0 in let w = c.fetch_add-found.new.seat.me.0 in let x = c.fetch_add-found.result in let r = c.args.range in
    let told = c.fetch_add-found.ensures.2 in
    let back : r + 1 - 1 ≡ r = omega arith in
    let len : length_at v.lengths r ≡ c.length-length.result = ap (λ l. length_at l r) c.requires.seat.2 ∙ sym c.length-length.ensures.0 in
    let dry : length_at v.lengths r ≤ x → w ≡ with_dry v r = subst (λ q. length_at v.lengths q ≤ x → w ≡ with_dry v q) back told.2 in
    let past : length_at v.lengths r ≤ x = omega arith in
    let is : w.dry ≡ v.dry ++ r ∷ [] = ap (λ u. u.dry) (dry past) in
    let wide : length c.args.seat.now.dry ≡ 64 = search rules in
    let there : r < length c.args.seat.now.dry = omega (arith, c.args.self.now.words.1, c.requires.range) in
    record { no_slot = told.0 ∙ c.args.seat.now.no_slot; flags = subst (λ l. Flagged (set c.args.seat.now.dry r true) l) (sym is) (flagged c.args.seat.now.dry v.dry r there c.args.seat.now.flags) }
