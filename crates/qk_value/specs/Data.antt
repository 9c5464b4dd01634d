-- What a value is, apart from where it lies in memory.
use Rattle.std.specs.Prelude.{ℕ, ℤ, Bool, List, [], ◌∷◌}

mutual
  pub data Data : Type 0 where
    int : ℤ → Data
    bool : Bool → Data
    list : Datas → Data
    pair : Data → Data → Data
    made : ℕ → ℕ → Datas → Data

  pub data Datas : Type 0 where
    end : Datas
    more : Data → Datas → Datas

abbrev pub datas_of : List Data → Datas
datas_of [] = end
datas_of (d ∷ ds) = more d (datas_of ds)

abbrev pub listed_data : Datas → List Data
listed_data end = []
listed_data (more d ds) = d ∷ listed_data ds
