-- What holds of each body of a program, and that each header has one.
use Rattle.std.specs.Prelude.{unwrap_or}
use Rattle.std.proofs.Common.{◌≡◌, ◌∙◌, ℕ, List, [], ◌∷◌, ◌++◌, length, length-append, Option, Some, slice_get, sym, ap, subst, arith}
use Rattle.qk_core.specs.Definitions.{FunctionData, UserGenData, ModelData}
use Rattle.qk_core.specs.Program.{ProgramData}
use Rattle.qk_core.specs.Properties.{PropertyData}
use Rattle.qk_generators.specs.Drawing.{generator_of}
use Rattle.qk_headers.specs.Headers.{HeadersData}
use Rattle.qk_names.specs.Names.{Declared, item_of}
use Rattle.qk_names.specs.Reserved.{Word}
use Rattle.qk_names.specs.declared.names.Item.{Item}
use Rattle.qk_names.specs.declared.names.Item.TheVariants as items
use Rattle.qk_syntax.specs.PlainTrees.{PlainTree, name, list, PlainTrees, end, more}
use Rattle.qk_types.specs.Bodies.{no_model}
use Rattle.qk_typing.specs.Operators.{Tables, function_of}
use Rattle.qk_value.specs.Kinds.{KindData}
use Rattle.qk_wellformed.specs.AreHeaders.{AddsHeader, IsHeader, HeadersFrom}
use Rattle.qk_wellformed.specs.IsModel.{IsModel}
use Rattle.qk_wellformed.specs.StandsFor.{IsFunction, IsUserGenerator, IsProperty, AddsBody, IsBody, BodiesFrom}
use Rattle.qk_sound.proofs.Found.{HoldsAt, held_more}

pub record BodiesHold (F : ℕ → FunctionData → Type 0) (G : ℕ → UserGenData → Type 0) (M : ℕ → ModelData → Type 0) (P : ℕ → PropertyData → Type 0) (c : ProgramData) : Type 0 where
  pub functions_hold : HoldsAt F c.functions
  pub generators_hold : HoldsAt G c.generators
  pub models_hold : HoldsAt M c.models
  pub properties_hold : HoldsAt P c.properties

module _ (d : Tables) (F : ℕ → FunctionData → Type 0) (G : ℕ → UserGenData → Type 0) (M : ℕ → ModelData → Type 0) (P : ℕ → PropertyData → Type 0)
    (function : (n : ℕ) (parts : PlainTrees) (f : FunctionData) → IsFunction d (function_of d.headers n) parts f → F n f)
    (generator : (n : ℕ) (parts : PlainTrees) (g : UserGenData) → IsUserGenerator d (generator_of d.headers n) parts g → G n g)
    (model : (n : ℕ) (parts : PlainTrees) (m : ModelData) → IsModel d (unwrap_or (slice_get d.headers.models n) no_model) parts m → M n m)
    (property : (n : ℕ) (w : Word) (parts : PlainTrees) (p : PropertyData) → IsProperty d w parts p → P n p) where
  added_hold : (c after : ProgramData) (w : Word) (item : Item) (parts : PlainTrees) → AddsBody d c w item parts after → BodiesHold F G M P c → BodiesHold F G M P after
  added_hold c after w items.Kind parts is k = subst (BodiesHold F G M P) (sym is) k
  added_hold c after w items.Function parts (f, body, is) k =
      subst (BodiesHold F G M P) (sym is)
      (record { functions_hold = held_more F c.functions f k.functions_hold (function (length c.functions) parts f body); generators_hold = k.generators_hold; models_hold = k.models_hold; properties_hold = k.properties_hold })
  added_hold c after w items.Generator parts (g, body, is) k =
      subst (BodiesHold F G M P) (sym is)
      (record { functions_hold = k.functions_hold; generators_hold = held_more G c.generators g k.generators_hold (generator (length c.generators) parts g body); models_hold = k.models_hold; properties_hold = k.properties_hold })
  added_hold c after w items.Model parts (m, body, is) k =
      subst (BodiesHold F G M P) (sym is)
      (record { functions_hold = k.functions_hold; generators_hold = k.generators_hold; models_hold = held_more M c.models m k.models_hold (model (length c.models) parts m body); properties_hold = k.properties_hold })
  added_hold c after w items.Property parts (p, body, is) k =
      subst (BodiesHold F G M P) (sym is)
      (record { functions_hold = k.functions_hold; generators_hold = k.generators_hold; models_hold = k.models_hold; properties_hold = held_more P c.properties p k.properties_hold (property (length c.properties) w parts p body) })

  body_holds : (c after : ProgramData) (tree : PlainTree) → IsBody d c tree after → BodiesHold F G M P c → BodiesHold F G M P after
  body_holds c after (list p (more (name q w) (more (name r x) parts))) (item, is, adds) k = added_hold c after x item parts adds k
  body_holds c after tree b k = absurd b

  pub bodies_hold : (trees : PlainTrees) (c after : ProgramData) → BodiesFrom d c trees after → BodiesHold F G M P c → BodiesHold F G M P after
  bodies_hold end c after b k = subst (BodiesHold F G M P) (sym b) k
  bodies_hold (more tree trees) c after (between, b, rest) k = bodies_hold trees between after rest (body_holds c between tree b k)

pub none_hold : (F : ℕ → FunctionData → Type 0) (G : ℕ → UserGenData → Type 0) (M : ℕ → ModelData → Type 0) (P : ℕ → PropertyData → Type 0) (kinds : List KindData)
    → BodiesHold F G M P (record { kinds = kinds; functions = []; generators = []; models = []; properties = [] })
none_hold F G M P kinds = record { functions_hold = λ i x e. cc; generators_hold = λ i x e. cc; models_hold = λ i x e. cc; properties_hold = λ i x e. cc }

-- as many bodies as headers
pub record Counted (h : HeadersData) (c : ProgramData) : Type 0 where
  pub functions : length c.functions ≡ length h.functions
  pub generators : length c.generators ≡ length h.generators
  pub models : length c.models ≡ length h.models

one_more : {X Y : Type 0} (xs : List X) (ys : List Y) (x : X) (y : Y) → length xs ≡ length ys → length (xs ++ x ∷ []) ≡ length (ys ++ y ∷ [])
one_more xs ys x y h = omega (arith, length-append xs (x ∷ []), length-append ys (y ∷ []), h)

module _ (names : List Declared) (d : Tables) where
  added_counted : (h larger : HeadersData) (c after : ProgramData) (w : Word) (item : Item) (parts : PlainTrees) → AddsHeader names h w item parts larger → AddsBody d c w item parts after → Counted h c → Counted larger after
  added_counted h larger c after w items.Kind parts (makers, are, is) same k = subst (λ (y : HeadersData). Counted y after) (sym is) (subst (Counted _) (sym same) (record { functions = k.functions; generators = k.generators; models = k.models }))
  added_counted h larger c after w items.Function parts (s, are, is) (f, body, same) k =
      subst (λ (y : HeadersData). Counted y after) (sym is) (subst (Counted _) (sym same) (record { functions = one_more c.functions h.functions f s k.functions; generators = k.generators; models = k.models }))
  added_counted h larger c after w items.Generator parts (s, are, is) (g, body, same) k =
      subst (λ (y : HeadersData). Counted y after) (sym is) (subst (Counted _) (sym same) (record { functions = k.functions; generators = one_more c.generators h.generators g s k.generators; models = k.models }))
  added_counted h larger c after w items.Model parts (s, are, is) (m, body, same) k =
      subst (λ (y : HeadersData). Counted y after) (sym is) (subst (Counted _) (sym same) (record { functions = k.functions; generators = k.generators; models = one_more c.models h.models m s k.models }))
  added_counted h larger c after w items.Property parts (shape, is) (p, body, same) k =
      subst (λ (y : HeadersData). Counted y after) (sym is) (subst (Counted _) (sym same) (record { functions = k.functions; generators = k.generators; models = k.models }))

  one_item : (a b : Item) (o : Option Item) → o ≡ Some a → o ≡ Some b → a ≡ b
  one_item a b o h k = cc

  tree_counted : (h larger : HeadersData) (c after : ProgramData) (tree : PlainTree) → IsHeader names h tree larger → IsBody d c tree after → Counted h c → Counted larger after
  tree_counted h larger c after (list p (more (name q w) (more (name r x) parts))) (item, is, a) (other, also, b) k =
      added_counted h larger c after x item parts a (subst (λ (i : Item). AddsBody d c x i parts after) (one_item other item (item_of w) also is) b) k
  tree_counted h larger c after tree a b k = absurd b

  pub all_counted : (trees : PlainTrees) (h larger : HeadersData) (c after : ProgramData) → HeadersFrom names h trees larger → BodiesFrom d c trees after → Counted h c → Counted larger after
  all_counted end h larger c after a b k = subst (λ (y : HeadersData). Counted y after) (sym a) (subst (Counted h) (sym b) k)
  all_counted (more tree trees) h larger c after (middle, a, ra) (between, b, rb) k = all_counted trees middle larger between after ra rb (tree_counted h middle c between tree a b k)

  -- the types stay those that are declared
  added_keeps : (c after : ProgramData) (w : Word) (item : Item) (parts : PlainTrees) → AddsBody d c w item parts after → after.kinds ≡ c.kinds
  added_keeps c after w items.Kind parts is = ap (λ (x : ProgramData). x.kinds) is
  added_keeps c after w items.Function parts (f, body, is) = ap (λ (x : ProgramData). x.kinds) is
  added_keeps c after w items.Generator parts (g, body, is) = ap (λ (x : ProgramData). x.kinds) is
  added_keeps c after w items.Model parts (m, body, is) = ap (λ (x : ProgramData). x.kinds) is
  added_keeps c after w items.Property parts (p, body, is) = ap (λ (x : ProgramData). x.kinds) is

  body_keeps : (c after : ProgramData) (tree : PlainTree) → IsBody d c tree after → after.kinds ≡ c.kinds
  body_keeps c after (list p (more (name q w) (more (name r x) parts))) (item, is, adds) = added_keeps c after x item parts adds
  body_keeps c after tree b = absurd b

  pub kinds_kept : (trees : PlainTrees) (c after : ProgramData) → BodiesFrom d c trees after → after.kinds ≡ c.kinds
  kinds_kept end c after b = ap (λ (x : ProgramData). x.kinds) b
  kinds_kept (more tree trees) c after (between, b, rest) = kinds_kept trees between after rest ∙ body_keeps c between tree b
