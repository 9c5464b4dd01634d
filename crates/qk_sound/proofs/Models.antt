-- The parts of a model are typed.
use Rattle.std.proofs.Common.{◌≡◌, ◌∙◌, ℕ, List, [], ◌∷◌, Some, slice_get, sym, subst}
use Rattle.qk_core.specs.Definitions.{FunctionData, UserGenData, ModelData}
use Rattle.qk_core.specs.Program.{ProgramData}
use Rattle.qk_generators.specs.Drawing.{generator_of}
use Rattle.qk_headers.specs.Headers.{ModelTypesData}
use Rattle.qk_headers.specs.Scopes.{types_of}
use Rattle.qk_names.specs.declared.names.Named.TheVariants as named
use Rattle.qk_syntax.specs.PlainTrees.{PlainTree, name, list, PlainTrees, end, more}
use Rattle.qk_typed.specs.TypedExpressions.{IsFunction}
use Rattle.qk_typed.specs.TypedGenerators.{IsGenerator}
use Rattle.qk_typed.specs.WellTyped.{HasTypeIn, IsTypedModel}
use Rattle.qk_typing.specs.Operators.{Tables, function_of}
use Rattle.qk_value.specs.Types.{TypeData, bool_type}
use Rattle.qk_wellformed.specs.IsModel.{NamesFunction, NamesGenerator, IsCommandPart, IsAbstractPart, IsSystemPart, HasTypes, IsModel}
use Rattle.qk_sound.proofs.Expressions.{expression_typed}
use Rattle.qk_sound.proofs.Headers.{AreModelTypes}
use Rattle.qk_sound.proofs.Stands.{Fits}

module _ (d : Tables) (c : ProgramData) (fits : Fits d c.functions c.generators) where
  -- the program with the declared types
  abbrev pub headed : ProgramData
  headed = record c { kinds = d.headers.kinds }

  pub names_function : (params : List TypeData) (result : TypeData) (tree : PlainTree) (f : ℕ) → NamesFunction d params result tree f → IsFunction c.functions f params result
  names_function params result (name p w) f (known, is) =
      let found : (function : FunctionData) × (slice_get c.functions f ≡ Some function) × (function.params ≡ types_of (function_of d.headers f).params) × (function.result ≡ (function_of d.headers f).result) =
      fits.function_at f (fits.stand w (named.Function f) known) in
      (found.0, found.1, found.2 ∙ is.takes, found.3 ∙ is.gives)
  names_function params result tree f h = absurd h

  names_generator : (params : List TypeData) (result : TypeData) (tree : PlainTree) (g : ℕ) → NamesGenerator d params result tree g → IsGenerator c.generators g params result
  names_generator params result (name p w) g (known, is) =
      let found : (generator : UserGenData) × (slice_get c.generators g ≡ Some generator) × (generator.params ≡ types_of (generator_of d.headers g).params) × (generator.result ≡ (generator_of d.headers g).result) =
      fits.generator_at g (fits.stand w (named.Generator g) known) in
      (found.0, found.1, found.2 ∙ is.takes, found.3 ∙ is.gives)
  names_generator params result tree g h = absurd h

  module _ (r : ModelData) where
    -- the types that the model has
    abbrev own : ModelTypesData
    own = record { command = r.command; abstract_ty = r.abstract_ty; system_ty = r.system_ty }

    command_typed : (tree : PlainTree) → IsCommandPart d own tree r → IsGenerator c.generators r.maker (r.abstract_ty ∷ []) r.command
    command_typed (list p (more head (more x (more g end)))) h = names_generator (r.abstract_ty ∷ []) r.command g r.maker h
    command_typed tree h = absurd h

    record Abstract : Type 0 where
      init : HasTypeIn headed [] r.init r.abstract_ty
      pre : IsFunction c.functions r.pre (r.abstract_ty ∷ r.command ∷ []) bool_type
      next : IsFunction c.functions r.next (r.abstract_ty ∷ r.command ∷ []) r.abstract_ty

    abstract_typed : (tree : PlainTree) → IsAbstractPart d own tree r → Abstract
    abstract_typed (list p (more head (more s (more init (more pre (more next end)))))) h =
        record {
          init = expression_typed d c.functions c.generators fits init [] r.abstract_ty r.init h.0;
          pre = names_function (r.abstract_ty ∷ r.command ∷ []) bool_type pre r.pre h.1;
          next = names_function (r.abstract_ty ∷ r.command ∷ []) r.abstract_ty next r.next h.2;
        }
    abstract_typed tree h = absurd h

    record System : Type 0 where
      start : HasTypeIn headed [] r.start r.system_ty
      step : IsFunction c.functions r.step (r.system_ty ∷ r.command ∷ []) r.system_ty
      post : IsFunction c.functions r.post (r.abstract_ty ∷ r.command ∷ r.system_ty ∷ []) bool_type

    system_typed : (tree : PlainTree) → IsSystemPart d own tree r → System
    system_typed (list p (more head (more s (more start (more step (more post end)))))) h =
        record {
          start = expression_typed d c.functions c.generators fits start [] r.system_ty r.start h.0;
          step = names_function (r.system_ty ∷ r.command ∷ []) r.system_ty step r.step h.1;
          post = names_function (r.abstract_ty ∷ r.command ∷ r.system_ty ∷ []) bool_type post r.post h.2;
        }
    system_typed tree h = absurd h

    own_is : (m : ModelTypesData) → HasTypes m r → m ≡ own
    own_is m h = λ i. record { command = (sym h.command) i; abstract_ty = (sym h.abstract_ty) i; system_ty = (sym h.system_ty) i }

    pub model_typed : (m : ModelTypesData) (parts : PlainTrees) → AreModelTypes d.headers.kinds m → IsModel d m parts r → IsTypedModel headed r
    model_typed m (more x (more s (more t end))) types (has, x_is, s_is, t_is) =
        let same : m ≡ own = own_is m has in
        let mine : AreModelTypes d.headers.kinds own = subst (AreModelTypes d.headers.kinds) same types in
        let a : Abstract = abstract_typed s (subst (λ (n : ModelTypesData). IsAbstractPart d n s r) same s_is) in
        let b : System = system_typed t (subst (λ (n : ModelTypesData). IsSystemPart d n t r) same t_is) in
        record {
          command = mine.command;
          abstract_ty = mine.abstract_ty;
          system_ty = mine.system_ty;
          maker = command_typed x (subst (λ (n : ModelTypesData). IsCommandPart d n x r) same x_is);
          init = a.init;
          pre = a.pre;
          next = a.next;
          start = b.start;
          step = b.step;
          post = b.post;
        }
    model_typed m parts types h = absurd h
