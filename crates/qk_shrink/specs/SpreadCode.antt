-- Spreads as trees of numbers, by which what holds them can be told apart.
use Rattle.std.specs.Prelude.{◌≡◌}
use Rattle.std.proofs.Common.{ap}
use base.Stored.{Coded, Gv, gnum, gcons, coded×, coded_list, coded_ℕ, coded_via}
use Rattle.qk_value.specs.Code.{second, data_code, type_code}
use Rattle.qk_value.specs.Kinds.{kind_code}
use Rattle.qk_shrink.specs.Spreads.{WayData, by_type, listed, SpreadData}

abbrev pub way_tree : WayData → Gv
way_tree (by_type t) = gcons (gnum 0) (type_code.code t)
way_tree (listed xs) = gcons (gnum 1) ((coded_list data_code).code xs)

pub way_tells : (v w : WayData) → way_tree v ≡ way_tree w → v ≡ w
way_tells (by_type t) (by_type u) e = ap by_type (type_code.inj t u (ap second e))
way_tells (listed xs) (listed ys) e = ap listed ((coded_list data_code).inj xs ys (ap second e))
way_tells v w e = cc

abbrev pub way_code : Coded WayData
way_code = record { code = way_tree; inj = way_tells }

abbrev pub spread_code : Coded SpreadData
spread_code =
    coded_via (coded× (coded_list kind_code) (coded× (coded_list way_code) coded_ℕ)) (λ s. (s.kinds, (s.ways, s.count)))
    (λ a b e i. record { kinds = (e i).0; ways = (e i).1.0; count = (e i).1.1 })
