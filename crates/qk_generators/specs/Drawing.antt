-- The heads of generators, and the types of their parts.
use Rattle.std.specs.Prelude.{ℕ, Bool, ◌&&◌, List, [], ◌∷◌, map, length, codes, nat_eq, nat_le, nat_lt, sum_by, Option, Some, None, option_and_then, unwrap_or, slice_get, ℤ, pos, negsuc, Ok}
use Rattle.qk_base.specs.declared.place.Place.{Place}
use Rattle.qk_value.specs.Types.{TypeData, int_type, bool_type, list_type, pair_type, made_type, same_type}
use Rattle.qk_names.specs.Checks.{Checked, ◌>>=◌, ◌>>◌, refuse, check}
use Rattle.qk_core.specs.GenData.{GenData, gens_of, weighteds_of}
use Rattle.qk_headers.specs.Headers.{HeadersData, SignatureData}
use Rattle.qk_names.specs.Names.{Declared, named_by}
use Rattle.qk_typing.specs.Operators.{Typed, usable, fields_of, no_signature, has_type, have_types, agree, plain}
use Rattle.qk_names.specs.Reserved.{Word, entry_of}
use Rattle.qk_headers.specs.Scopes.{types_of}
use Rattle.qk_names.specs.declared.names.Named.{Named}
use Rattle.qk_names.specs.declared.names.Named.TheVariants as named

-- a generator with the type of what it draws and its place
pub record Drawn : Type 0 where
  pub place : Place
  pub ty : TypeData
  pub gen : GenData

abbrev pub drawn : Place → TypeData → GenData → Drawn
drawn p t g = record { place = p; ty = t; gen = g }

-- generators whose parts are all expressions
pub data OfValues : Type 0 where
  choose : OfValues
  elements : OfValues
  pure : OfValues
  call : ℕ → OfValues

-- .. all generators
pub data OfDraws : Type 0 where
  list : OfDraws
  pair : OfDraws
  one_of : OfDraws
  made : ℕ → ℕ → OfDraws

-- .. an expression and then a generator
pub data Sized : Type 0 where
  vector : Sized
  resize : Sized

pub data GenForm : Type 0 where
  values : OfValues → GenForm
  draws : OfDraws → GenForm
  sized : Sized → GenForm
  frequency : GenForm
  bind : GenForm

abbrev pub gen_forms : List (Word × GenForm)
gen_forms =
    (codes "choose", values choose) ∷ (codes "list", draws list) ∷ (codes "vector", sized vector) ∷ (codes "pair", draws pair) ∷ (codes "elements", values elements)
    ∷ (codes "oneof", draws one_of) ∷ (codes "frequency", frequency) ∷ (codes "resize", sized resize) ∷ (codes "bind", bind) ∷ (codes "pure", values pure) ∷ []

abbrev pub declared_gen : Named → Option GenForm
declared_gen (named.Maker k m) = Some (draws (made k m))
declared_gen (named.Generator g) = Some (values (call g))
declared_gen n = None

abbrev pub gen_form_by : List Declared → Word → Option GenForm → Option GenForm
gen_form_by names w (Some f) = Some f
gen_form_by names w None = option_and_then declared_gen (named_by names w)

abbrev pub gen_form_of : List Declared → Place → Place → Word → Checked GenForm
gen_form_of names p q w = usable names p q w (gen_form_by names w (entry_of gen_forms w))

-- a generator that is one word
abbrev pub gen_atom : Place → Word → Option Drawn
gen_atom p w = entry_of ((codes "int", drawn p int_type GenData.any_number) ∷ (codes "bool", drawn p bool_type GenData.any_truth) ∷ (codes "size", drawn p int_type GenData.size) ∷ []) w

abbrev pub lone_gen : List Declared → Place → Word → Checked Drawn
lone_gen names p w = usable names p p w (gen_atom p w)

abbrev pub generator_of : HeadersData → ℕ → SignatureData
generator_of h g = unwrap_or (slice_get h.generators g) no_signature

-- it may have so many parts
abbrev pub takes_values : HeadersData → OfValues → ℕ → Bool
takes_values h choose n = nat_eq n 2
takes_values h elements n = nat_lt 0 n
takes_values h pure n = nat_eq n 1
takes_values h (call g) n = nat_eq n (length (generator_of h g).params)

abbrev pub takes_draws : HeadersData → OfDraws → ℕ → Bool
takes_draws h list n = nat_eq n 1
takes_draws h pair n = nat_eq n 2
takes_draws h one_of n = nat_lt 0 n
takes_draws h (made k m) n = nat_eq n (length (fields_of h k m))

abbrev pub of_values : HeadersData → Place → OfValues → List Typed → Checked Drawn
of_values h p choose (a ∷ b ∷ []) = do
  has_type int_type a
  has_type int_type b
  Ok (drawn p int_type (GenData.choose a.expr b.expr))
of_values h p elements (e ∷ es) = do
  agree e.ty es
  Ok (drawn p e.ty (GenData.elements (plain (e ∷ es))))
of_values h p pure (e ∷ []) = Ok (drawn p e.ty (GenData.pure e.expr))
of_values h p (call g) es = do
  have_types (types_of (generator_of h g).params) es
  Ok (drawn p (generator_of h g).result (GenData.call g (plain es)))
of_values h p f es = refuse 23 p

abbrev pub draws_type : TypeData → Drawn → Checked (Unit {0})
draws_type t g = check (same_type t g.ty) 24 g.place

abbrev pub draw_types : List TypeData → List Drawn → Checked (Unit {0})
draw_types (t ∷ ts) (g ∷ gs) = do
  draws_type t g
  draw_types ts gs
draw_types ts gs = Ok tt

-- each draws values of the type of the first
abbrev pub draws_agree : TypeData → List Drawn → Checked (Unit {0})
draws_agree t [] = Ok tt
draws_agree t (g ∷ gs) = do
  draws_type t g
  draws_agree t gs

abbrev pub bare : List Drawn → List GenData
bare gs = map (λ g. g.gen) gs

abbrev pub of_draws : HeadersData → Place → OfDraws → List Drawn → Checked Drawn
of_draws h p list (g ∷ []) = Ok (drawn p (list_type g.ty) (GenData.list g.gen))
of_draws h p pair (f ∷ g ∷ []) = Ok (drawn p (pair_type f.ty g.ty) (GenData.pair f.gen g.gen))
of_draws h p one_of (g ∷ gs) = do
  draws_agree g.ty gs
  Ok (drawn p g.ty (GenData.one_of (gens_of (bare (g ∷ gs)))))
of_draws h p (made k m) gs = do
  draw_types (fields_of h k m) gs
  Ok (drawn p (made_type k) (GenData.making k m (gens_of (bare gs))))
of_draws h p f gs = refuse 23 p

abbrev pub of_sized : Place → Sized → Typed → Drawn → Checked Drawn
of_sized p vector e g = do
  has_type int_type e
  Ok (drawn p (list_type g.ty) (GenData.vector e.expr g.gen))
of_sized p resize e g = do
  has_type int_type e
  Ok (drawn p g.ty (GenData.resize e.expr g.gen))

-- a weight of 0 to 1,000,000: else 29 at the number
abbrev pub weight_at : Place → ℤ → Checked ℕ
weight_at p (pos n) = do
  check (nat_le n 1000000) 29 p
  Ok n
weight_at p (negsuc n) = refuse 29 p

-- a part of a frequency
pub record Part : Type 0 where
  pub weight : ℕ
  pub body : Drawn

abbrev pub of_parts : Place → List Part → Checked Drawn
of_parts p [] = refuse 23 p
of_parts p (part ∷ parts) = do
  check (nat_lt 0 (sum_by (λ a. a.weight) (part ∷ parts))) 29 p
  draws_agree part.body.ty (map (λ a. a.body) parts)
  Ok (drawn p part.body.ty (GenData.frequency (weighteds_of (map (λ a. (a.weight, a.body.gen)) (part ∷ parts)))))
