-- The trees of a generated file, apart from their places.
use Rattle.std.proofs.Common.{ℕ, zero, suc, ◌+◌, ◌%◌, List, [], ◌∷◌, ◌++◌, codes, decimal, pos}
use Rattle.qk_syntax.specs.PlainTrees.{Bare, bare_number, bare_name, bare_list, Bares, bare_end, bare_more}

abbrev pub parts : List Bare → Bares
parts [] = bare_end
parts (b ∷ bs) = bare_more b (parts bs)

abbrev pub of : List Bare → Bare
of bs = bare_list (parts bs)

abbrev pub called : List ℕ → List Bare → Bare
called w bs = of (bare_name w ∷ bs)

abbrev pub numeral : ℕ → Bare
numeral n = bare_number (pos n)

-- the name of property i
abbrev pub name_of : ℕ → List ℕ
name_of i = codes "p" ++ decimal i

-- one binder of that name
abbrev pub bound : List ℕ → Bare → Bare
bound x g = of (of (bare_name x ∷ g ∷ []) ∷ [])

-- what is asked of property i: its binder and its clauses
abbrev pub asked_parts : ℕ → ℕ → List Bare
asked_parts zero i = bound (codes "x") (bare_name (codes "int")) ∷ called (codes "check") (called (codes "=") (bare_name (codes "x") ∷ bare_name (codes "x") ∷ []) ∷ []) ∷ []
asked_parts (suc zero) i =
    bound (codes "x") (bare_name (codes "size"))
    ∷ called (codes "given") (called (codes "=") (called (codes "mod") (bare_name (codes "x") ∷ numeral 2 ∷ []) ∷ numeral 0 ∷ []) ∷ [])
    ∷ called (codes "check") (called (codes "<=") (numeral 0 ∷ bare_name (codes "x") ∷ []) ∷ []) ∷ []
asked_parts (suc (suc zero)) i =
    bound (codes "x") (called (codes "choose") (numeral (8 + i) ∷ numeral (8 + i) ∷ []))
    ∷ called (codes "check") (called (codes "<") (bare_name (codes "x") ∷ numeral 5 ∷ []) ∷ []) ∷ []
asked_parts (suc (suc (suc n))) i =
    bound (codes "xs") (called (codes "vector") (numeral (2 + i % 50) ∷ called (codes "choose") (numeral 3 ∷ numeral 3 ∷ []) ∷ []))
    ∷ called (codes "check") (called (codes "<") (called (codes "length") (bare_name (codes "xs") ∷ []) ∷ numeral 2 ∷ []) ∷ []) ∷ []

-- the tree of property i, of the rest of i by 4
abbrev pub property_of : ℕ → ℕ → Bare
property_of rest i = called (codes "prop") (bare_name (name_of i) ∷ called (codes "forall") (asked_parts rest i) ∷ [])

-- the trees of that many properties from that number on
abbrev pub properties_from : ℕ → ℕ → Bares
properties_from i zero = bare_end
properties_from i (suc n) = bare_more (property_of (i % 4) i) (properties_from (i + 1) n)
