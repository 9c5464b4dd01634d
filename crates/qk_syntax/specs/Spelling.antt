-- Which trees a text spells.
use Rattle.std.specs.Prelude.{◌≡◌, ℕ, ◌-◌, ◌<◌, ◌≤◌, ℤ, true, false, List, [], ◌∷◌, ◌++◌, length, None}
use Rattle.qk_base.specs.declared.place.Place.{Place}
use Rattle.qk_syntax.specs.PlainTrees.{PlainTree, number, name, list, PlainTrees, end, more, count}
use Rattle.qk_syntax.specs.Tokens.{Token, opening, closing, word, tokens}
use Rattle.qk_syntax.specs.Words.{is_number_word, word_fault, number_of}

-- a word without a fault that is this number
pub record IsNumber (w : List ℕ) (n : ℤ) : Type 0 where
  pub kind : is_number_word w ≡ true
  pub good : word_fault w ≡ None
  pub value : number_of w ≡ n

-- a word without a fault that is a name
pub record IsName (w : List ℕ) : Type 0 where
  pub kind : is_number_word w ≡ false
  pub good : word_fault w ≡ None

-- the tokens spell the tree, or the trees one after another; lists may nest as many levels deep
abbrev mutual
  pub SpellsTree : ℕ → List Token → PlainTree → Type 0
  SpellsTree levels ts (number p n) = (w : List ℕ) × (ts ≡ word p w ∷ []) × IsNumber w n
  SpellsTree levels ts (name p w) = (ts ≡ word p w ∷ []) × IsName w
  SpellsTree levels ts (list p us) = (inner : List Token) × (q : Place) × (ts ≡ opening p ∷ inner ++ closing q ∷ []) × (0 < levels) × SpellsTrees (levels - 1) inner us

  pub SpellsTrees : ℕ → List Token → PlainTrees → Type 0
  SpellsTrees levels ts end = ts ≡ []
  SpellsTrees levels ts (more u us) = (first : List Token) × (rest : List Token) × (ts ≡ first ++ rest) × SpellsTree levels first u × SpellsTrees levels rest us

-- the text spells the trees: it has at most 1,048,576 bytes, 200 levels and 1,000 trees outside of lists
pub record Spells (bytes : List ℕ) (trees : PlainTrees) : Type 0 where
  pub short : length bytes ≤ 1048576
  pub few : count trees ≤ 1000
  pub spelled : SpellsTrees 200 (tokens bytes) trees
