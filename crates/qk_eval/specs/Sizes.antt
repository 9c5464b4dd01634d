-- Measures of values that fall from a value to its parts, and from a list to its rest.
use Rattle.std.specs.Prelude.{ℕ, ◌+◌, ◌*◌, min}
use Rattle.qk_value.specs.Data.{Data, int, bool, list, pair, made, Datas, end, more}
use Rattle.qk_value.specs.Measures.{weight, depth}

abbrev mutual
  pub data_size : Data → ℕ
  data_size (int n) = 1
  data_size (bool b) = 1
  data_size (list ds) = datas_size ds + 1
  data_size (pair a b) = data_size a + data_size b + 1
  data_size (made k m ds) = datas_size ds + 1

  pub datas_size : Datas → ℕ
  datas_size end = 0
  datas_size (more d ds) = data_size d + datas_size ds + 1

-- also from a list to the items of its row that are before its place
abbrev pub drop_size : Data → ℕ
drop_size d = depth d * 65537 + min (weight d) 65536
