use Rattle.std.proofs.Common.{◌∙◌, List, map, sym, ap, Vec}
use Rattle.std.specs.declared.alloc.Global.{Global}
use Rattle.qk_value.specs.Data.{Data}
use Rattle.qk_shrink.specs.Sought.{sought, map_sought}
use Rattle.qk_shrink.specs.Spreads.{in_turn, spread_over}
use Rattle.qk_shrink.specs.SpreadsView.{view_way}
use Rattle.qk_shrink.specs.declared.sought.Sought.{Sought}
use Rattle.qk_shrink.proofs.SoughtLaws.{found, not_past}
use Rattle.qk_shrink.proofs.spread.Spread.candidate_shared.Goals as goal

abbrev seen : Sought (Vec Data Global) → Sought (List Data)
seen s = map_sought (λ all. all.items) s

pub unreachable-requires : goal.unreachable-requires
unreachable-requires c =
    let values = c.args.values.now in
    let k = c.args.k in
    let same = (λ i. sought (in_turn c.self.inside.kinds.now (map view_way (c.as_slice.ensures i)) values) k)
    ∙ ap (λ s. sought (spread_over s values) k) c.self.view_is in
    not_past (spread_over c.args.self.now values) k c.in-Past.field-0 c.requires (sym (c.in_ok-candidate.ensures ∙ same) ∙ ap seen c.in-Past.is)

pub returns : goal.returns
returns c =
    let values = c.args.values.now in
    let k = c.args.k in
    let same = (λ i. sought (in_turn c.self.inside.kinds.now (map view_way (c.as_slice.ensures i)) values) k)
    ∙ ap (λ s. sought (spread_over s values) k) c.self.view_is in
    found (spread_over c.args.self.now values) k c.in-Here.candidate.items (sym (c.in_ok-candidate.ensures ∙ same) ∙ ap seen c.in-Here.is)
