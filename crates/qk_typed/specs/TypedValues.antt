-- Values that have types.
use Rattle.std.specs.Prelude.{List, [], ◌∷◌, IsTrue}
use Rattle.qk_value.specs.Data.{Data}
use Rattle.qk_value.specs.Kinds.{KindData}
use Rattle.qk_value.specs.Types.{TypeData}
use Rattle.qk_value.specs.Typing.{has_type}
use Rattle.qk_eval.specs.Meaning.{Evaluated, result, crash}

abbrev pub HasType : List KindData → TypeData → Data → Type 0
HasType kinds t x = IsTrue (has_type kinds t x)

-- as many values as types, each of its own
abbrev pub HaveTypes : List KindData → List TypeData → List Data → Type 0
HaveTypes kinds [] [] = Unit {0}
HaveTypes kinds (t ∷ ts) (x ∷ xs) = HasType kinds t x × HaveTypes kinds ts xs
HaveTypes kinds ts xs = ⊥

-- what holds of the result, unless there was a crash
abbrev pub IfResult : {R : Type 0} → Evaluated R → (R → Type 0) → Type 0
IfResult (result x u) holds = holds x
IfResult (crash c) holds = Unit {0}

-- a value of the type, or a crash
abbrev pub GivesType : List KindData → TypeData → Evaluated Data → Type 0
GivesType kinds t r = IfResult r (HasType kinds t)
