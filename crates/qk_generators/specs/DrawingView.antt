-- The data that the parts of a check of a generator stand for.
use Rattle.qk_value.specs.View.{view_type}
use Rattle.qk_core.specs.GenView.{view_gen}
use Rattle.qk_generators.specs.Drawing.{Drawn, OfValues, choose, elements, pure, call, OfDraws, list, pair, one_of, made, Sized, vector, resize, GenForm, values, draws, sized, frequency, bind, Part}
use Rattle.qk_generators.specs.declared.drawn_types.Drawn.{Drawn as CodeDrawn}
use Rattle.qk_generators.specs.declared.gen_heads.GenForm.{GenForm as CodeForm}
use Rattle.qk_generators.specs.declared.gen_heads.GenForm.TheVariants as forms
use Rattle.qk_generators.specs.declared.gen_heads.OfValues.{OfValues as CodeValues}
use Rattle.qk_generators.specs.declared.gen_heads.OfValues.TheVariants as of_values
use Rattle.qk_generators.specs.declared.gen_heads.OfDraws.{OfDraws as CodeDraws}
use Rattle.qk_generators.specs.declared.gen_heads.OfDraws.TheVariants as of_draws
use Rattle.qk_generators.specs.declared.gen_heads.Sized.{Sized as CodeSized}
use Rattle.qk_generators.specs.declared.gen_heads.Sized.TheVariants as of_sizes
use Rattle.qk_generators.specs.declared.weights.Part.{Part as CodePart}

abbrev pub drawn_in : CodeDrawn → Drawn
drawn_in g = record { place = g.place; ty = view_type g.ty; gen = view_gen g.gen_expr }

abbrev pub values_in : CodeValues → OfValues
values_in of_values.Choose = choose
values_in of_values.Elements = elements
values_in of_values.Pure = pure
values_in (of_values.Call g) = call g

abbrev pub draws_in : CodeDraws → OfDraws
draws_in of_draws.List = list
draws_in of_draws.Pair = pair
draws_in of_draws.OneOf = one_of
draws_in (of_draws.Made k m) = made k m

abbrev pub sized_in : CodeSized → Sized
sized_in of_sizes.Vector = vector
sized_in of_sizes.Resize = resize

abbrev pub gen_form_in : CodeForm → GenForm
gen_form_in (forms.Values f) = values (values_in f)
gen_form_in (forms.Draws f) = draws (draws_in f)
gen_form_in (forms.Sized f) = sized (sized_in f)
gen_form_in forms.Frequency = frequency
gen_form_in forms.Bind = bind

abbrev pub part_in : CodePart → Part
part_in part = record { weight = part.weight; body = drawn_in part.body }
