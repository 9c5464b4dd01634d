-- Trees as plain data, apart from where they lie in memory.
use Rattle.std.specs.Prelude.{ℕ, ◌+◌, ℤ, List, [], ◌∷◌}
use Rattle.qk_base.specs.declared.place.Place.{Place}

mutual
  pub data PlainTree : Type 0 where
    number : Place → ℤ → PlainTree
    name : Place → List ℕ → PlainTree
    list : Place → PlainTrees → PlainTree

  pub data PlainTrees : Type 0 where
    end : PlainTrees
    more : PlainTree → PlainTrees → PlainTrees

abbrev pub trees_of : List PlainTree → PlainTrees
trees_of [] = end
trees_of (t ∷ ts) = more t (trees_of ts)

-- how many trees stand side by side
abbrev pub count : PlainTrees → ℕ
count end = 0
count (more t ts) = count ts + 1

-- trees apart from their places
mutual
  pub data Bare : Type 0 where
    bare_number : ℤ → Bare
    bare_name : List ℕ → Bare
    bare_list : Bares → Bare

  pub data Bares : Type 0 where
    bare_end : Bares
    bare_more : Bare → Bares → Bares

abbrev mutual
  pub bare : PlainTree → Bare
  bare (number p n) = bare_number n
  bare (name p w) = bare_name w
  bare (list p ts) = bare_list (bares ts)

  pub bares : PlainTrees → Bares
  bares end = bare_end
  bares (more t ts) = bare_more (bare t) (bares ts)
