-- The heads of expressions by what they work on.
use Rattle.std.specs.Prelude.{List, [], ◌∷◌, codes, if◌then◌else◌}
use Rattle.qk_base.specs.declared.place.Place.{Place}
use Rattle.qk_base.specs.declared.place.Refusal.{Refusal}
use Rattle.qk_syntax.specs.PlainTrees.{PlainTree, number, name, list}
use Rattle.qk_core.specs.declared.expr.Op1.TheVariants as ones
use Rattle.qk_core.specs.declared.expr.Op2.TheVariants as twos
use Rattle.qk_names.specs.Checks.{Checked, refuse}
use Rattle.qk_names.specs.Names.{Declared, is_known}
use Rattle.qk_typing.specs.Operators.{Form, empty_list, binding, matching, operator, choice, unary, binary, form_of}
use Rattle.qk_names.specs.Reserved.{Word}

abbrev pub choice_forms : List (Word × Form)
choice_forms = (codes "if", operator choice) ∷ (codes "let", binding) ∷ []

abbrev pub number_forms : List (Word × Form)
number_forms =
    (codes "+", operator (binary twos.Add)) ∷ (codes "-", operator (binary twos.Sub)) ∷ (codes "*", operator (binary twos.Mul)) ∷ (codes "div", operator (binary twos.Div))
    ∷ (codes "mod", operator (binary twos.Mod)) ∷ (codes "neg", operator (unary ones.Neg)) ∷ []

abbrev pub truth_forms : List (Word × Form)
truth_forms =
    (codes "=", operator (binary twos.Equal)) ∷ (codes "<", operator (binary twos.Less)) ∷ (codes "<=", operator (binary twos.AtMost)) ∷ (codes "and", operator (binary twos.And))
    ∷ (codes "or", operator (binary twos.Or)) ∷ (codes "not", operator (unary ones.Not)) ∷ []

abbrev pub list_forms : List (Word × Form)
list_forms = (codes "nil", empty_list) ∷ (codes "cons", operator (binary twos.Cons)) ∷ []

abbrev pub whole_list_forms : List (Word × Form)
whole_list_forms = (codes "append", operator (binary twos.Append)) ∷ (codes "length", operator (unary ones.Length)) ∷ []

abbrev pub part_forms : List (Word × Form)
part_forms = (codes "pair", operator (binary twos.Pair)) ∷ (codes "match", matching) ∷ []

-- the form of a list at a place whose first part this is
abbrev pub head_form : List Declared → Place → PlainTree → Checked Form
head_form names p (name q w) = form_of names p q w
head_form names p (number q n) = refuse 20 p
head_form names p (list q ts) = refuse 20 p

-- why a name has no form at a place
abbrev pub unusable : List Declared → Place → Place → Word → Refusal
unusable names p q w = if is_known names w then record { code = 20; place = p } else record { code = 22; place = q }
