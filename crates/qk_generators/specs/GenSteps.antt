-- Steps of the judging of a generator, each after those before it.
use Rattle.std.specs.Prelude.{ℕ, [], nat_lt, Ok}
use Rattle.qk_base.specs.declared.place.Place.{Place}
use Rattle.qk_syntax.specs.PlainTrees.{PlainTree, number, list, PlainTrees, end, more, count}
use Rattle.qk_core.specs.GenData.{GenData}
use Rattle.qk_names.specs.Checks.{Checked, ◌>>=◌, ◌>>◌, refuse, check, place_of}
use Rattle.qk_generators.specs.Drawing.{Drawn, drawn, GenForm, values, draws, sized, frequency, bind, OfValues, OfDraws, Part, takes_values, takes_draws, of_values, of_draws, of_parts, weight_at}
use Rattle.qk_expressions.specs.Expressions.{expressions}
use Rattle.qk_generators.specs.Generators.{generator, generators, sized_at, bind_at, parts_at}
use Rattle.qk_headers.specs.Headers.{HeadersData}
use Rattle.qk_typing.specs.Operators.{Tables}
use Rattle.qk_names.specs.Reserved.{Word}
use Rattle.qk_headers.specs.Scopes.{Scope, bind as with_variable}

-- it may have so many parts
abbrev pub check_values : HeadersData → Place → OfValues → PlainTrees → Checked (Unit {0})
check_values h p f parts = check (takes_values h f (count parts)) 23 p

abbrev pub check_draws : HeadersData → Place → OfDraws → PlainTrees → Checked (Unit {0})
check_draws h p f parts = check (takes_draws h f (count parts)) 23 p

abbrev pub check_some : Place → PlainTrees → Checked (Unit {0})
check_some p parts = check (nat_lt 0 (count parts)) 23 p

abbrev pub values_at : Tables → Scope → Place → PlainTrees → OfValues → Checked Drawn
values_at d s p parts f = do
  check (takes_values d.headers f (count parts)) 23 p
  es ← expressions d s [] parts
  of_values d.headers p f es

abbrev pub draws_at : Tables → Scope → Place → PlainTrees → OfDraws → Checked Drawn
draws_at d s p parts f = do
  check (takes_draws d.headers f (count parts)) 23 p
  gs ← generators d s [] parts
  of_draws d.headers p f gs

abbrev pub frequency_at : Tables → Scope → Place → PlainTrees → Checked Drawn
frequency_at d s p parts = do
  check (nat_lt 0 (count parts)) 23 p
  ws ← parts_at d s [] parts
  of_parts p ws

-- the parts after the head of a list of this form
abbrev pub formed_gen : Tables → Scope → Place → PlainTrees → GenForm → Checked Drawn
formed_gen d s p parts (values f) = values_at d s p parts f
formed_gen d s p parts (draws f) = draws_at d s p parts f
formed_gen d s p parts (sized f) = sized_at d s p f parts
formed_gen d s p parts bind = bind_at d s p parts
formed_gen d s p parts frequency = frequency_at d s p parts

-- a variable of this name is bound to what is drawn in a body
abbrev pub bind_body : Tables → Scope → Place → Word → Drawn → PlainTree → Checked Drawn
bind_body d s p w f t = do
  g ← generator d (with_variable s w f.ty) t
  Ok (drawn p g.ty (GenData.bind f.gen g.gen))

abbrev pub weight_of : PlainTree → Checked ℕ
weight_of (number q n) = weight_at q n
weight_of t = refuse 20 (place_of t)

abbrev pub weighed_part : Tables → Scope → PlainTree → PlainTree → Checked Part
weighed_part d s w g = do
  n ← weight_of w
  g ← generator d s g
  Ok (record { weight = n; body = g })

-- one part of a frequency
abbrev pub part_at : Tables → Scope → PlainTree → Checked Part
part_at d s (list p (more w (more g end))) = weighed_part d s w g
part_at d s (list p parts) = refuse 23 p
part_at d s t = refuse 20 (place_of t)
