-- What trees are as generators. Of each node: its form, its number of parts, its parts left to right, then its types.
use Rattle.std.specs.Prelude.{◌∷◌, ◌++◌, [], List, nat_lt, Ok}
use Rattle.qk_base.specs.declared.place.Place.{Place}
use Rattle.qk_syntax.specs.PlainTrees.{PlainTree, number, name, list, PlainTrees, end, more, count}
use Rattle.qk_names.specs.Checks.{Checked, ◌>>=◌, ◌>>◌, refuse, check, place_of}
use Rattle.qk_generators.specs.Drawing.{Drawn, drawn, GenForm, values, draws, sized, frequency, bind, Sized, Part, gen_form_of, lone_gen, takes_values, takes_draws, of_values, of_draws, of_sized, of_parts, weight_at}
use Rattle.qk_expressions.specs.Expressions.{expression, expressions}
use Rattle.qk_core.specs.GenData.{GenData}
use Rattle.qk_typing.specs.Operators.{Tables}
use Rattle.qk_headers.specs.Scopes.{Scope, bind as with_variable, variable_at}

abbrev mutual
  pub generator : Tables → Scope → PlainTree → Checked Drawn
  generator d s (number p n) = refuse 20 p
  generator d s (name p w) = lone_gen d.names p w
  generator d s (list p (more (name q w) parts)) = do
    form ← gen_form_of d.names p q w
    elim form [
      | values f ↦ do
        check (takes_values d.headers f (count parts)) 23 p
        es ← expressions d s [] parts
        of_values d.headers p f es
      | draws f ↦ do
        check (takes_draws d.headers f (count parts)) 23 p
        gs ← generators d s [] parts
        of_draws d.headers p f gs
      | sized f ↦ sized_at d s p f parts
      | bind ↦ bind_at d s p parts
      | frequency ↦ do
        check (nat_lt 0 (count parts)) 23 p
        ws ← parts_at d s [] parts
        of_parts p ws
    ]
  generator d s (list p parts) = refuse 20 p

  -- one after another, after these
  pub generators : Tables → Scope → List Drawn → PlainTrees → Checked (List Drawn)
  generators d s before end = Ok before
  generators d s before (more t ts) = do
    g ← generator d s t
    generators d s (before ++ g ∷ []) ts

  pub sized_at : Tables → Scope → Place → Sized → PlainTrees → Checked Drawn
  sized_at d s p f (more e (more g end)) = do
    e ← expression d s e
    g ← generator d s g
    of_sized p f e g
  sized_at d s p f parts = refuse 23 p

  pub bind_at : Tables → Scope → Place → PlainTrees → Checked Drawn
  bind_at d s p (more x (more f (more g end))) = do
    w ← variable_at [] x
    f ← generator d s f
    g ← generator d (with_variable s w f.ty) g
    Ok (drawn p g.ty (GenData.bind f.gen g.gen))
  bind_at d s p parts = refuse 23 p

  pub parts_at : Tables → Scope → List Part → PlainTrees → Checked (List Part)
  parts_at d s before end = Ok before
  parts_at d s before (more (list p (more (number q n) (more g end))) ts) = do
    n ← weight_at q n
    g ← generator d s g
    parts_at d s (before ++ record { weight = n; body = g } ∷ []) ts
  parts_at d s before (more (list p (more w (more g end))) ts) = refuse 20 (place_of w)
  parts_at d s before (more (list p parts) ts) = refuse 23 p
  parts_at d s before (more t ts) = refuse 20 (place_of t)
