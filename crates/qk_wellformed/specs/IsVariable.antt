-- Which trees name new variables.
use Rattle.std.specs.Prelude.{◌≡◌, false, List, [], ◌∷◌, ◌++◌}
use Rattle.qk_syntax.specs.PlainTrees.{PlainTree, name, PlainTrees, end, more}
use Rattle.qk_expressions.specs.Patterns.{is_among}
use Rattle.qk_names.specs.Reserved.{Word}
use Rattle.qk_headers.specs.Scopes.{is_truth_word}

-- neither `true`, `false` nor one of these
pub record MayBeBound (before : List Word) (w : Word) : Type 0 where
  pub no_truth : is_truth_word w ≡ false
  pub new : is_among before w ≡ false

abbrev pub IsVariable : List Word → PlainTree → Word → Type 0
IsVariable before (name p v) w = (v ≡ w) × MayBeBound before v
IsVariable before t w = ⊥

-- each differs from those before it
abbrev pub AreVariables : List Word → PlainTrees → List Word → Type 0
AreVariables before end [] = Unit {0}
AreVariables before (more t ts) (w ∷ ws) = IsVariable before t w × AreVariables (before ++ w ∷ []) ts ws
AreVariables before ts ws = ⊥
