-- The words of the forms of the language.
use Rattle.std.specs.Prelude.{◌≡◌, Bool, ◌||◌, codes, bytes_eq}
use Rattle.std.specs.Option.{is_some}
use Rattle.qk_generators.specs.Drawing.{gen_forms}
use Rattle.qk_headers.specs.TypesOf.{former}
use Rattle.qk_names.specs.Reserved.{Word, entry_of, is_reserved}
use Rattle.qk_typing.specs.Operators.{forms}
use Rattle.qk_wellformed.specs.IsExpression.{truth_of}
use Rattle.qk_wellformed.specs.IsGenerator.{plain_generator}
use Rattle.qk_wellformed.specs.IsType.{plain_type}

-- a type of one word, or the head of one
abbrev pub is_type_word : Word → Bool
is_type_word w = is_some (plain_type w) || is_some (former w)

-- .. an expression
abbrev pub is_expression_word : Word → Bool
is_expression_word w = is_some (truth_of w) || is_some (entry_of forms w)

-- .. a generator, or what a binder draws lists of commands by
abbrev pub is_generator_word : Word → Bool
is_generator_word w = is_some (plain_generator w) || is_some (entry_of gen_forms w) || bytes_eq w (codes "commands")

-- the words that no declaration may take are those of the forms, and no others
abbrev pub ReservedWordsAreForms : Type 0
ReservedWordsAreForms = (w : Word) → is_reserved w ≡ (is_type_word w || is_expression_word w || is_generator_word w)
