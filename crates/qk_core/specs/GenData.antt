-- What a generator is, apart from where it lies in memory.
use Rattle.std.specs.Prelude.{ℕ, List, [], ◌∷◌}
use Rattle.qk_core.specs.ExprData.{ExprData}

mutual
  pub data GenData : Type 0 where
    any_number : GenData
    any_truth : GenData
    size : GenData
    choose : ExprData → ExprData → GenData
    list : GenData → GenData
    vector : ExprData → GenData → GenData
    pair : GenData → GenData → GenData
    elements : List ExprData → GenData
    one_of : GensData → GenData
    frequency : WeightedsData → GenData
    resize : ExprData → GenData → GenData
    bind : GenData → GenData → GenData
    pure : ExprData → GenData
    making : ℕ → ℕ → GensData → GenData
    call : ℕ → List ExprData → GenData

  pub data GensData : Type 0 where
    end : GensData
    more : GenData → GensData → GensData

  pub data WeightedsData : Type 0 where
    no_weighted : WeightedsData
    more_weighted : ℕ → GenData → WeightedsData → WeightedsData

abbrev pub gens_of : List GenData → GensData
gens_of [] = end
gens_of (g ∷ gs) = more g (gens_of gs)

abbrev pub weighteds_of : List (ℕ × GenData) → WeightedsData
weighteds_of [] = no_weighted
weighteds_of (part ∷ parts) = more_weighted part.0 part.1 (weighteds_of parts)
