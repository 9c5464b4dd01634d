-- The table of user types, as plain data.
use Rattle.std.specs.Prelude.{ℕ, List, [], Option, slice_get, unwrap_or, option_map, option_and_then}
use base.Stored.{Coded, coded×, coded_list, coded_ℕ, coded_via}
use Rattle.qk_value.specs.Code.{type_code}
use Rattle.qk_value.specs.Types.{TypeData}

pub record MakerData : Type 0 where
  pub name : List ℕ
  pub fields : List TypeData

pub record KindData : Type 0 where
  pub name : List ℕ
  pub makers : List MakerData

abbrev pub maker_code : Coded MakerData
maker_code = coded_via (coded× (coded_list coded_ℕ) (coded_list type_code)) (λ m. (m.name, m.fields)) (λ a b e i. record { name = (e i).0; fields = (e i).1 })

abbrev pub kind_code : Coded KindData
kind_code = coded_via (coded× (coded_list coded_ℕ) (coded_list maker_code)) (λ k. (k.name, k.makers)) (λ a b e i. record { name = (e i).0; makers = (e i).1 })

-- a maker, by the number of its kind and its own number there
abbrev pub maker_of : List KindData → ℕ → ℕ → Option MakerData
maker_of kinds k m = option_and_then (λ kind. slice_get kind.makers m) (slice_get kinds k)

-- the name of a maker, or nothing where there is none
abbrev pub maker_name : List KindData → ℕ → ℕ → List ℕ
maker_name kinds k m = unwrap_or (option_map (λ maker. maker.name) (maker_of kinds k m)) []
