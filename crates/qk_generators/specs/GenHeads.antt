-- The heads of generators, a few at a time.
use Rattle.std.specs.Prelude.{List, [], ◌∷◌, codes}
use Rattle.qk_base.specs.declared.place.Place.{Place}
use Rattle.qk_syntax.specs.PlainTrees.{PlainTree, number, name, list}
use Rattle.qk_names.specs.Checks.{Checked, refuse}
use Rattle.qk_generators.specs.Drawing.{GenForm, values, draws, sized, frequency, bind, choose, elements, pure, pair, one_of, vector, resize, gen_form_of, OfDraws}
use Rattle.qk_names.specs.Names.{Declared}
use Rattle.qk_names.specs.Reserved.{Word}

abbrev pub range_and_list : List (Word × GenForm)
range_and_list = (codes "choose", values choose) ∷ (codes "list", draws OfDraws.list) ∷ []

abbrev pub vector_and_pair : List (Word × GenForm)
vector_and_pair = (codes "vector", sized vector) ∷ (codes "pair", draws pair) ∷ []

abbrev pub one_among : List (Word × GenForm)
one_among = (codes "elements", values elements) ∷ (codes "oneof", draws one_of) ∷ []

abbrev pub weighed : List (Word × GenForm)
weighed = (codes "frequency", frequency) ∷ []

abbrev pub resized_and_bound : List (Word × GenForm)
resized_and_bound = (codes "resize", sized resize) ∷ (codes "bind", bind) ∷ []

abbrev pub pure_value : List (Word × GenForm)
pure_value = (codes "pure", values pure) ∷ []

-- the form of a list at a place whose first part this is
abbrev pub gen_head_form : List Declared → Place → PlainTree → Checked GenForm
gen_head_form names p (name q w) = gen_form_of names p q w
gen_head_form names p (number q n) = refuse 20 p
gen_head_form names p (list q ts) = refuse 20 p
