use Rattle.std.proofs.Common.{◌∙◌, ◌∷◌, [], ℕ, List, map, length, subst, sym, ap, arith}
use Rattle.std.proofs.lemmas.List.{length-append, length-map, map-append}
use Rattle.qk_series.specs.Rows.{AreRows, IsRow}
use Rattle.qk_series.proofs.CountLaws.{rows_more}
use Rattle.qk_series.proofs.counts.Counts.with_next.Goals as goal

pub invariant_of-result : goal.invariant_of-result
invariant_of-result c =
    let kinds = c.args.self.kinds.now in
    let rows = c.args.self.rows.items in
    let row = c.in_ok-row.row in
    let is = c.in_ok-push.ensures.items in
    let after = ap (map (λ r. r.items)) is ∙ map-append (λ r. r.items) rows (row ∷ []) in
    record {
      few = omega (arith, ap length is, length-append rows (row ∷ []), c.requires);
      right = subst (λ (after : List (List ℕ)). AreRows kinds after) (sym after)
          (rows_more kinds (map (λ r. r.items) rows) row.items c.args.self.right
          (subst (λ (n : ℕ). IsRow kinds n row.items) (sym (length-map rows (λ r. r.items))) c.in_ok-row.ensures));
    }
