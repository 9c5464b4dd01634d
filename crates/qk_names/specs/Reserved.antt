-- Words that no declaration may take.
use Rattle.std.specs.Prelude.{ℕ, Bool, ◌||◌, List, [], ◌∷◌, codes, bytes_eq, Option, Some, None, if◌then◌else◌}
use Rattle.std.specs.List.{list_any}

abbrev pub Word : Type 0
Word = List ℕ

-- the first entry under the word
abbrev pub entry_of : {A : Type 0} → List (Word × A) → Word → Option A
entry_of [] w = None
entry_of (entry ∷ entries) w = if bytes_eq entry.0 w then Some entry.1 else entry_of entries w

abbrev pub type_words : List Word
type_words = codes "Int" ∷ codes "Bool" ∷ codes "List" ∷ codes "Pair" ∷ []

abbrev pub value_words : List Word
value_words = codes "true" ∷ codes "false" ∷ codes "if" ∷ codes "let" ∷ codes "match" ∷ []

abbrev pub operator_words : List Word
operator_words =
    codes "+" ∷ codes "-" ∷ codes "*" ∷ codes "div" ∷ codes "mod" ∷ codes "neg" ∷ codes "=" ∷ codes "<" ∷ codes "<=" ∷ codes "and" ∷ codes "or" ∷ codes "not" ∷ []

-- `pair` is a generator too
abbrev pub list_words : List Word
list_words = codes "nil" ∷ codes "cons" ∷ codes "append" ∷ codes "length" ∷ codes "pair" ∷ []

abbrev pub generator_words : List Word
generator_words = codes "int" ∷ codes "bool" ∷ codes "size" ∷ codes "choose" ∷ codes "list" ∷ codes "vector" ∷ codes "elements" ∷ []

abbrev pub drawing_words : List Word
drawing_words = codes "oneof" ∷ codes "frequency" ∷ codes "resize" ∷ codes "bind" ∷ codes "pure" ∷ codes "commands" ∷ []

-- the heads and atoms of the forms of types, expressions and generators, and `commands`
abbrev pub is_reserved : Word → Bool
is_reserved w =
    list_any (bytes_eq w) type_words || list_any (bytes_eq w) value_words || list_any (bytes_eq w) operator_words || list_any (bytes_eq w) list_words
    || list_any (bytes_eq w) generator_words || list_any (bytes_eq w) drawing_words
