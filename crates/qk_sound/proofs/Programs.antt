-- What trees stand for is well typed.
use Rattle.std.specs.Prelude.{unwrap_or, option_map}
use Rattle.std.proofs.Common.{◌≡◌, ◌∙◌, ℕ, ◌<◌, List, [], length, Option, Some, None, slice_get, refl, sym, ap, subst, arith}
use Rattle.qk_clauses.specs.Binders.{command_list}
use Rattle.qk_core.specs.Definitions.{FunctionData, UserGenData, ModelData}
use Rattle.qk_core.specs.Program.{ProgramData}
use Rattle.qk_generators.specs.Drawing.{generator_of}
use Rattle.qk_headers.specs.Headers.{SignatureData, ModelTypesData, no_headers}
use Rattle.qk_headers.specs.Scopes.{types_of}
use Rattle.qk_names.specs.Names.{named_by}
use Rattle.qk_names.specs.Reserved.{Word}
use Rattle.qk_names.specs.declared.names.Named.TheVariants as named
use Rattle.qk_syntax.specs.PlainTrees.{PlainTrees, end, more}
use Rattle.qk_types.specs.Bodies.{no_model}
use Rattle.qk_typed.specs.TypedExpressions.{IsType, AreTypes}
use Rattle.qk_typed.specs.WellTyped.{HasTypeIn, DrawsIn, IsTypedFunction, IsTypedGenerator, IsTypedModel, IsTypedProperty, IsWellTyped}
use Rattle.qk_typing.specs.Operators.{Tables, function_of, no_signature}
use Rattle.qk_value.specs.Kinds.{KindData}
use Rattle.qk_value.specs.Types.{TypeData, int_type, list_type}
use Rattle.qk_wellformed.specs.IsModel.{IsModel}
use Rattle.qk_wellformed.specs.StandsFor.{IsFunction, IsUserGenerator, BodiesFrom, no_bodies}
use Rattle.qk_sound.specs.Laws.{ProgramsAreTyped}
use Rattle.qk_sound.proofs.Bodies.{BodiesHold, bodies_hold, none_hold, Counted, all_counted, kinds_kept}
use Rattle.qk_sound.proofs.Declared.{Kept, all_kept, none_kept}
use Rattle.qk_sound.proofs.Expressions.{expression_typed}
use Rattle.qk_sound.proofs.Found.{each_from, each_or, at_within, named_holds}
use Rattle.qk_sound.proofs.Generators.{generator_typed}
use Rattle.qk_sound.proofs.Headers.{IsTypedSignature, AreModelTypes, TypedHeaders, headers_typed, none_typed}
use Rattle.qk_sound.proofs.Models.{headed, model_typed}
use Rattle.qk_sound.proofs.Properties.{property_typed}
use Rattle.qk_sound.proofs.Regular.{Sound}
use Rattle.qk_sound.proofs.Stands.{Stands, Fits}

-- a body of the signature that its header has
record Agrees (s : SignatureData) (params : List TypeData) (result : TypeData) : Type 0 where
  takes : params ≡ types_of s.params
  gives : result ≡ s.result

function_agrees : (d : Tables) (n : ℕ) (parts : PlainTrees) (f : FunctionData) → IsFunction d (function_of d.headers n) parts f → Agrees (function_of d.headers n) f.params f.result
function_agrees d n (more params (more t (more body end))) f h = record { takes = h.0; gives = h.1 }
function_agrees d n parts f h = absurd h

generator_agrees : (d : Tables) (n : ℕ) (parts : PlainTrees) (g : UserGenData) → IsUserGenerator d (generator_of d.headers n) parts g → Agrees (generator_of d.headers n) g.params g.result
generator_agrees d n (more params (more t (more body end))) g h = record { takes = h.0; gives = h.1 }
generator_agrees d n parts g h = absurd h

model_agrees : (d : Tables) (n : ℕ) (parts : PlainTrees) (m : ModelData) → IsModel d (unwrap_or (slice_get d.headers.models n) no_model) parts m → m.command ≡ (unwrap_or (slice_get d.headers.models n) no_model).command
model_agrees d n (more x (more s (more t end))) m h = h.0.command
model_agrees d n parts m h = absurd h

command_by : (o : Option ModelTypesData) → (unwrap_or o no_model).command ≡ unwrap_or (option_map (λ (m : ModelTypesData). m.command) o) int_type
command_by None = refl
command_by (Some m) = refl

same_command : (ms : List ModelTypesData) (n : ℕ) → (unwrap_or (slice_get ms n) no_model).command ≡ unwrap_or (option_map (λ (m : ModelTypesData). m.command) (slice_get ms n)) int_type
same_command ms n = command_by (slice_get ms n)

abbrev Agree : Tables → ProgramData → Type 0
Agree d c =
    BodiesHold (λ n f. Agrees (function_of d.headers n) f.params f.result) (λ n g. Agrees (generator_of d.headers n) g.params g.result)
    (λ n m. m.command ≡ (unwrap_or (slice_get d.headers.models n) no_model).command) (λ n p. Unit {0}) c

module _ (d : Tables) (c : ProgramData) (kept : Kept d.names d.headers) (agree : Agree d c) (counted : Counted d.headers c) (typed : TypedHeaders d.headers.kinds d.headers) where
  fits : Fits d c.functions c.generators
  fits =
      record {
        stand = λ w what e. named_holds (Stands d.headers) d.names w what kept.stand e;
        new = kept.new;
        function_at = λ f l. let found : (function : FunctionData) × (slice_get c.functions f ≡ Some function) = at_within c.functions f (omega (arith, counted.functions, l)) in
            let is : Agrees (function_of d.headers f) found.0.params found.0.result = agree.functions_hold f found.0 found.1 in (found.0, found.1, is.takes, is.gives);
        generator_at = λ g l. let found : (generator : UserGenData) × (slice_get c.generators g ≡ Some generator) = at_within c.generators g (omega (arith, counted.generators, l)) in
            let is : Agrees (generator_of d.headers g) found.0.params found.0.result = agree.generators_hold g found.0 found.1 in (found.0, found.1, is.takes, is.gives);
      }

  unsigned : IsTypedSignature d.headers.kinds no_signature
  unsigned = record { params = tt; result = tt }

  function_signature : (n : ℕ) → IsTypedSignature d.headers.kinds (function_of d.headers n)
  function_signature n = each_or (IsTypedSignature d.headers.kinds) d.headers.functions n no_signature typed.functions unsigned

  generator_signature : (n : ℕ) → IsTypedSignature d.headers.kinds (generator_of d.headers n)
  generator_signature n = each_or (IsTypedSignature d.headers.kinds) d.headers.generators n no_signature typed.generators unsigned

  model_types : (n : ℕ) → AreModelTypes d.headers.kinds (unwrap_or (slice_get d.headers.models n) no_model)
  model_types n = each_or (AreModelTypes d.headers.kinds) d.headers.models n no_model typed.models (record { command = tt; abstract_ty = tt; system_ty = tt })

  sound : Sound d.headers c.functions c.generators
  sound =
      record {
        kinds_typed = typed.kinds_typed;
        some_maker = kept.some_maker;
        function_results = λ f function e. subst (IsType d.headers.kinds) (sym (agree.functions_hold f function e).gives) (function_signature f).result;
        generator_results = λ g generator e. subst (IsType d.headers.kinds) (sym (agree.generators_hold g generator e).gives) (generator_signature g).result;
      }

  model_at : (m : ℕ) → m < length d.headers.models → (model : ModelData) × (slice_get c.models m ≡ Some model) × (list_type model.command ≡ command_list d.headers m)
  model_at m l =
      let found : (model : ModelData) × (slice_get c.models m ≡ Some model) = at_within c.models m (omega (arith, counted.models, l)) in
      (found.0, found.1, ap list_type (agree.models_hold m found.0 found.1 ∙ same_command d.headers.models m))

  function_typed : (n : ℕ) (parts : PlainTrees) (f : FunctionData) → IsFunction d (function_of d.headers n) parts f → IsTypedFunction (headed d c fits) f
  function_typed n (more params (more t (more body end))) f (takes, gives, is) =
      let s : SignatureData = function_of d.headers n in
      let body_typed : HasTypeIn (headed d c fits) (types_of s.params) f.body s.result = expression_typed d c.functions c.generators fits body s.params s.result f.body is in
      record {
        params = subst (AreTypes d.headers.kinds) (sym takes) (function_signature n).params;
        result = subst (IsType d.headers.kinds) (sym gives) (function_signature n).result;
        body = subst (λ (ts : List TypeData). HasTypeIn (headed d c fits) ts f.body f.result) (sym takes) (subst (HasTypeIn (headed d c fits) (types_of s.params) f.body) (sym gives) body_typed);
      }
  function_typed n parts f h = absurd h

  user_generator_typed : (n : ℕ) (parts : PlainTrees) (g : UserGenData) → IsUserGenerator d (generator_of d.headers n) parts g → IsTypedGenerator (headed d c fits) g
  user_generator_typed n (more params (more t (more body end))) g (takes, gives, is) =
      let s : SignatureData = generator_of d.headers n in
      let body_typed : DrawsIn (headed d c fits) (types_of s.params) g.body s.result = generator_typed d c.functions c.generators fits body s.params s.result g.body is in
      record {
        params = subst (AreTypes d.headers.kinds) (sym takes) (generator_signature n).params;
        result = subst (IsType d.headers.kinds) (sym gives) (generator_signature n).result;
        body = subst (λ (ts : List TypeData). DrawsIn (headed d c fits) ts g.body g.result) (sym takes) (subst (DrawsIn (headed d c fits) (types_of s.params) g.body) (sym gives) body_typed);
      }
  user_generator_typed n parts g h = absurd h

  abbrev AllTyped : ProgramData → Type 0
  AllTyped b = BodiesHold (λ n f. IsTypedFunction (headed d c fits) f) (λ n g. IsTypedGenerator (headed d c fits) g) (λ n m. IsTypedModel (headed d c fits) m) (λ n p. IsTypedProperty (headed d c fits) p) b

  well_typed : (trees : PlainTrees) → BodiesFrom d (no_bodies d.headers) trees c → IsWellTyped (headed d c fits)
  well_typed trees bodies =
      let all : AllTyped c =
      bodies_hold d (λ n f. IsTypedFunction (headed d c fits) f) (λ n g. IsTypedGenerator (headed d c fits) g) (λ n m. IsTypedModel (headed d c fits) m) (λ n p. IsTypedProperty (headed d c fits) p)
      function_typed user_generator_typed (λ n parts m h. model_typed d c fits m (unwrap_or (slice_get d.headers.models n) no_model) parts (model_types n) h)
      (λ n w parts p h. property_typed d c fits sound typed.models model_at w parts p h) trees (no_bodies d.headers) c bodies
      (none_hold (λ n f. IsTypedFunction (headed d c fits) f) (λ n g. IsTypedGenerator (headed d c fits) g) (λ n m. IsTypedModel (headed d c fits) m) (λ n p. IsTypedProperty (headed d c fits) p) d.headers.kinds) in
      record {
        kinds = typed.kinds_typed;
        functions = each_from (IsTypedFunction (headed d c fits)) c.functions all.functions_hold;
        generators = each_from (IsTypedGenerator (headed d c fits)) c.generators all.generators_hold;
        models = each_from (IsTypedModel (headed d c fits)) c.models all.models_hold;
        properties = each_from (IsTypedProperty (headed d c fits)) c.properties all.properties_hold;
      }

pub programs_typed : ProgramsAreTyped
programs_typed trees core is =
    let d : Tables = record { names = is.names; headers = is.headers } in
    let kept : Kept is.names is.headers = all_kept is.names trees [] is.names no_headers is.headers is.declared.declared is.headed none_kept in
    let stand : (w : Word) (k : ℕ) → named_by is.names w ≡ Some (named.Kind k) → k < length is.headers.kinds = λ w k e. named_holds (Stands is.headers) is.names w (named.Kind k) kept.stand e in
    let typed : TypedHeaders is.headers.kinds is.headers = headers_typed is.names is.headers.kinds stand trees no_headers is.headers is.headed (none_typed is.headers.kinds) in
    let agree : Agree d core =
    bodies_hold d (λ n f. Agrees (function_of is.headers n) f.params f.result) (λ n g. Agrees (generator_of is.headers n) g.params g.result)
    (λ n m. m.command ≡ (unwrap_or (slice_get is.headers.models n) no_model).command) (λ n p. Unit {0})
    (function_agrees d) (generator_agrees d) (model_agrees d) (λ n w parts p h. tt) trees (no_bodies is.headers) core is.bodies
    (none_hold (λ n f. Agrees (function_of is.headers n) f.params f.result) (λ n g. Agrees (generator_of is.headers n) g.params g.result)
    (λ n m. m.command ≡ (unwrap_or (slice_get is.headers.models n) no_model).command) (λ n p. Unit {0}) is.headers.kinds) in
    let counted : Counted is.headers core = all_counted is.names d trees no_headers is.headers (no_bodies is.headers) core is.headed is.bodies (record { functions = refl; generators = refl; models = refl }) in
    let same : core.kinds ≡ is.headers.kinds = kinds_kept is.names d trees (no_bodies is.headers) core is.bodies in
    subst (λ (kinds : List KindData). IsWellTyped (record core { kinds = kinds })) (sym same) (well_typed d core kept agree counted typed trees is.bodies)
