-- The text that is printed for trees.
use Rattle.std.specs.Prelude.{◌≡◌, ℕ, ◌-◌, ◌^◌, ◌<◌, ◌≤◌, pos, neg_ℤ, ◌≤ℤ◌, ◌<ℤ◌, true, List, [], ◌∷◌, ◌++◌, length}
use Rattle.std.specs.Fmt.{signed_decimal}
use Rattle.std.specs.List.{list_all}
use Rattle.qk_syntax.specs.PlainTrees.{PlainTree, number, name, list, PlainTrees, end, more, count}
use Rattle.qk_syntax.specs.Spelling.{IsName}
use Rattle.qk_syntax.specs.Words.{is_word_byte}

-- a number in shortest decimal, a name as it is, a list with one space between its parts
abbrev mutual
  pub canonical_tree : PlainTree → List ℕ
  canonical_tree (number p n) = signed_decimal n
  canonical_tree (name p w) = w
  canonical_tree (list p ts) = 40 ∷ canonical_parts ts ++ 41 ∷ []

  pub canonical_parts : PlainTrees → List ℕ
  canonical_parts end = []
  canonical_parts (more t ts) = canonical_tree t ++ canonical_others ts

  -- with a space before each
  pub canonical_others : PlainTrees → List ℕ
  canonical_others end = []
  canonical_others (more t ts) = 32 ∷ canonical_tree t ++ canonical_others ts

-- with a line feed after each tree
abbrev pub canonical : PlainTrees → List ℕ
canonical end = []
canonical (more t ts) = canonical_tree t ++ 10 ∷ canonical ts

-- names are names of the notation, and lists nest at most so many levels deep
abbrev mutual
  pub ReadableTree : ℕ → PlainTree → Type 0
  ReadableTree levels (number p n) = (neg_ℤ (pos (2 ^ 63)) ≤ℤ n) × (n <ℤ pos (2 ^ 63))
  ReadableTree levels (name p w) = (0 < length w) × (list_all is_word_byte w ≡ true) × IsName w
  ReadableTree levels (list p ts) = (0 < levels) × ReadableTrees (levels - 1) ts

  pub ReadableTrees : ℕ → PlainTrees → Type 0
  ReadableTrees levels end = Unit {0}
  ReadableTrees levels (more t ts) = ReadableTree levels t × ReadableTrees levels ts

-- trees that a text can spell
pub record Readable (trees : PlainTrees) : Type 0 where
  pub each : ReadableTrees 200 trees
  pub few : count trees ≤ 1000
  pub short : length (canonical trees) ≤ 1048576
