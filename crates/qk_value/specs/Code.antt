-- Data and types as trees of numbers, by which what holds them can be told apart.
use Rattle.std.specs.Prelude.{◌≡◌, ℕ, refl}
use Rattle.std.proofs.Common.{ap}
use base.Stored.{Coded, Gv, gnil, gnum, gcons, coded_bool, coded_ℤ}
use Rattle.qk_value.specs.Data.{Data, int, bool, list, pair, made, Datas, end, more}
use Rattle.qk_value.specs.Types.{TypeData, int_type, bool_type, list_type, pair_type, made_type}

-- the parts of a tree, and its number
abbrev pub first : Gv → Gv
first gnil = gnil
first (gnum n) = gnil
first (gcons a b) = a

abbrev pub second : Gv → Gv
second gnil = gnil
second (gnum n) = gnil
second (gcons a b) = b

pub same_number : (m n : ℕ) → gnum m ≡ gnum n → m ≡ n
same_number m n e = cc

abbrev mutual
  pub data_tree : Data → Gv
  data_tree (int n) = gcons (gnum 0) (coded_ℤ.code n)
  data_tree (bool b) = gcons (gnum 1) (coded_bool.code b)
  data_tree (list ds) = gcons (gnum 2) (datas_tree ds)
  data_tree (pair a b) = gcons (gnum 3) (gcons (data_tree a) (data_tree b))
  data_tree (made k m ds) = gcons (gnum 4) (gcons (gnum k) (gcons (gnum m) (datas_tree ds)))

  pub datas_tree : Datas → Gv
  datas_tree end = gnil
  datas_tree (more d ds) = gcons (data_tree d) (datas_tree ds)

mutual
  pub data_tells : (a b : Data) → data_tree a ≡ data_tree b → a ≡ b
  data_tells (int m) (int n) e = ap int (coded_ℤ.inj m n (ap second e))
  data_tells (bool b) (bool c) e = ap bool (coded_bool.inj b c (ap second e))
  data_tells (list ds) (list es) e = ap list (datas_tell ds es (ap second e))
  data_tells (pair a b) (pair c d) e =
      let parts = ap second e in λ i. pair (data_tells a c (ap first parts) i) (data_tells b d (ap second parts) i)
  data_tells (made k m ds) (made l n es) e =
      let parts = ap second e in
      let others = ap second parts in
      λ i. made (same_number k l (ap first parts) i) (same_number m n (ap first others) i) (datas_tell ds es (ap second others) i)
  data_tells a b e = cc

  pub datas_tell : (ds es : Datas) → datas_tree ds ≡ datas_tree es → ds ≡ es
  datas_tell end end e = refl
  datas_tell (more d ds) (more b es) e = λ i. more (data_tells d b (ap first e) i) (datas_tell ds es (ap second e) i)
  datas_tell ds es e = cc

abbrev pub data_code : Coded Data
data_code = record { code = data_tree; inj = data_tells }

abbrev pub type_tree : TypeData → Gv
type_tree int_type = gnum 0
type_tree bool_type = gnum 1
type_tree (list_type t) = gcons (gnum 2) (type_tree t)
type_tree (pair_type t u) = gcons (gnum 3) (gcons (type_tree t) (type_tree u))
type_tree (made_type k) = gcons (gnum 4) (gnum k)

pub types_tell : (t u : TypeData) → type_tree t ≡ type_tree u → t ≡ u
types_tell int_type int_type e = refl
types_tell bool_type bool_type e = refl
types_tell (list_type t) (list_type u) e = ap list_type (types_tell t u (ap second e))
types_tell (pair_type t u) (pair_type v w) e =
    let parts = ap second e in λ i. pair_type (types_tell t v (ap first parts) i) (types_tell u w (ap second parts) i)
types_tell (made_type k) (made_type l) e = ap made_type (same_number k l (ap second e))
types_tell t u e = cc

abbrev pub type_code : Coded TypeData
type_code = record { code = type_tree; inj = types_tell }
