-- The names of a program stand for entries of its tables.
use Rattle.std.specs.Prelude.{cond, find, option_map, option_and_then, bytes_eq}
use Rattle.std.specs.Option.{is_some}
use Rattle.std.proofs.Common.{◌≡◌, ◌∙◌, ℕ, suc, ◌+◌, ◌<◌, Bool, true, false, ◌||◌, List, [], ◌∷◌, ◌++◌, map, length, length-append, Option, Some, None, slice_get, refl, sym, ap, subst, arith}
use Rattle.std.proofs.lemmas.List.Folds.{list_any-append}
use Rattle.std.proofs.lemmas.List.Sums.{sum_by_push}
use Rattle.qk_expressions.specs.Patterns.{is_among}
use Rattle.qk_headers.specs.Headers.{HeadersData, SignatureData, ModelTypesData, no_headers}
use Rattle.qk_names.specs.Names.{Declared, is_declared, number_of, numbered, is_of, item_of}
use Rattle.qk_names.specs.Reserved.{Word, is_reserved}
use Rattle.qk_names.specs.declared.names.Item.{Item}
use Rattle.qk_names.specs.declared.names.Item.TheVariants as items
use Rattle.qk_names.specs.declared.names.Named.{Named}
use Rattle.qk_names.specs.declared.names.Named.TheVariants as named
use Rattle.qk_syntax.specs.PlainTrees.{PlainTree, name, list, PlainTrees, end, more, count}
use Rattle.qk_typed.specs.WellTyped.{Each}
use Rattle.qk_value.specs.Kinds.{MakerData, KindData, maker_of}
use Rattle.qk_wellformed.specs.AreHeaders.{AddsHeader, IsHeader, HeadersFrom, AreMakers}
use Rattle.qk_wellformed.specs.AreNames.{with_name, DeclareMakers, DeclareInner, DeclaresItem, DeclareItems}
use Rattle.qk_wellformed.specs.IsExpression.{AreNew}
use Rattle.qk_sound.proofs.Found.{each_more, each_weaker, at_within, still_at, last_at}
use Rattle.qk_sound.proofs.Regular.{HasMaker}
use Rattle.qk_sound.proofs.Stands.{Stands, HasNewMakers}

-- as many names of each sort as entries, and each name stands for one
pub record Kept (names : List Declared) (h : HeadersData) : Type 0 where
  pub kinds : number_of names items.Kind ≡ length h.kinds
  pub functions : number_of names items.Function ≡ length h.functions
  pub generators : number_of names items.Generator ≡ length h.generators
  pub models : number_of names items.Model ≡ length h.models
  pub stand : Each (λ (e : Declared). Stands h e.named) names
  pub new : Each HasNewMakers h.kinds
  pub some_maker : Each HasMaker h.kinds

counted : (names : List Declared) (w : Word) (what : Named) (item : Item) → number_of (with_name names w what) item ≡ number_of names item + cond (is_of item what) 1 0
counted names w what item = sum_by_push (λ (x : Declared). cond (is_of item x.named) 1 0) names (record { name = w; named = what })

-- names stand for their entries when there are more entries
maker_still : (kinds more_kinds : List KindData) (k m : ℕ) (o : Option KindData) (maker : MakerData) → slice_get kinds k ≡ o → option_and_then (λ (kind : KindData). slice_get kind.makers m) o ≡ Some maker → maker_of (kinds ++ more_kinds) k m ≡ Some maker
maker_still kinds more_kinds k m None maker at e = cc
maker_still kinds more_kinds k m (Some kind) maker at e =
    ap (λ (o : Option KindData). option_and_then (λ (x : KindData). slice_get x.makers m) o) (still_at kinds more_kinds k kind at) ∙ e

with_kind : (h : HeadersData) (kind : KindData) (what : Named) → Stands h what → Stands (record h { kinds = h.kinds ++ kind ∷ [] }) what
with_kind h kind (named.Kind k) s = omega (arith, length-append h.kinds (kind ∷ []), s)
with_kind h kind (named.Maker k m) s = (s.0, maker_still h.kinds (kind ∷ []) k m (slice_get h.kinds k) s.0 refl s.1)
with_kind h kind (named.Function f) s = s
with_kind h kind (named.Generator g) s = s
with_kind h kind (named.Model m) s = s
with_kind h kind (named.Property p) s = s

with_function : (h : HeadersData) (x : SignatureData) (what : Named) → Stands h what → Stands (record h { functions = h.functions ++ x ∷ [] }) what
with_function h x (named.Kind k) s = s
with_function h x (named.Maker k m) s = s
with_function h x (named.Function f) s = omega (arith, length-append h.functions (x ∷ []), s)
with_function h x (named.Generator g) s = s
with_function h x (named.Model m) s = s
with_function h x (named.Property p) s = s

with_generator : (h : HeadersData) (x : SignatureData) (what : Named) → Stands h what → Stands (record h { generators = h.generators ++ x ∷ [] }) what
with_generator h x (named.Kind k) s = s
with_generator h x (named.Maker k m) s = s
with_generator h x (named.Function f) s = s
with_generator h x (named.Generator g) s = omega (arith, length-append h.generators (x ∷ []), s)
with_generator h x (named.Model m) s = s
with_generator h x (named.Property p) s = s

with_model : (h : HeadersData) (x : ModelTypesData) (what : Named) → Stands h what → Stands (record h { models = h.models ++ x ∷ [] }) what
with_model h x (named.Kind k) s = s
with_model h x (named.Maker k m) s = s
with_model h x (named.Function f) s = s
with_model h x (named.Generator g) s = s
with_model h x (named.Model m) s = omega (arith, length-append h.models (x ∷ []), s)
with_model h x (named.Property p) s = s

-- a word is declared once it has been added
found_by : (b c : Bool) (n : Declared) (o p : Option Declared) → is_some (option_map (λ (e : Declared). e.named) p) ≡ (is_some (option_map (λ (e : Declared). e.named) o) || c)
    → is_some (option_map (λ (e : Declared). e.named) (cond b (Some n) p)) ≡ (is_some (option_map (λ (e : Declared). e.named) (cond b (Some n) o)) || c)
found_by true c n o p h = refl
found_by false c n o p h = h

last_by : (b : Bool) (n : Declared) → is_some (option_map (λ (e : Declared). e.named) (cond b (Some n) None)) ≡ (false || b)
last_by true n = refl
last_by false n = refl

declared_more : (names : List Declared) (w v : Word) (what : Named) → is_declared (with_name names w what) v ≡ (is_declared names v || bytes_eq v w)
declared_more [] w v what = last_by (bytes_eq v w) (record { name = w; named = what })
declared_more (n ∷ names) w v what =
    found_by (bytes_eq v n.name) (bytes_eq v w) n (find (λ d. bytes_eq v d.name) names) (find (λ d. bytes_eq v d.name) (with_name names w what)) (declared_more names w v what)

not_among : (b k : Bool) → (b ≡ true → k ≡ true) → k ≡ false → b ≡ false
not_among true k h e = let yes : k ≡ true = h refl in cc
not_among false k h e = refl

undeclared : (a b : Bool) → (a || b) ≡ false → b ≡ false
undeclared true b h = cc
undeclared false b h = h

some_more : (a b c : Bool) → (a ≡ true → c ≡ true) → (a || (b || false)) ≡ true → (c || b) ≡ true
some_more true b c h e = let yes : c ≡ true = h refl in cc
some_more false true true h e = refl
some_more false true false h e = refl
some_more false false c h e = cc

new_makers : (final : List Declared) (kind : ℕ) (parts : PlainTrees) (makers : List MakerData) (before : List Word) (names : List Declared) (n : ℕ) (after : List Declared)
    → DeclareMakers names kind n parts after → AreMakers final parts makers → ((v : Word) → is_among before v ≡ true → is_declared names v ≡ true) → AreNew before (map (λ (m : MakerData). m.name) makers)
new_makers final kind end [] before names n after h k known = tt
new_makers final kind (more (list p (more (name q w) fields)) trees) (m ∷ ms) before names n after h k known =
    let fresh : is_among before w ≡ false = not_among (is_among before w) (is_declared names w) (known w) (undeclared (is_reserved w) (is_declared names w) h.0) in (
      ap (is_among before) k.0 ∙ fresh,
      new_makers final kind trees ms (before ++ m.name ∷ []) (with_name names w (named.Maker kind n)) (n + 1) after h.2 k.2
          (λ v among. declared_more names w v (named.Maker kind n)
          ∙ some_more (is_among before v) (bytes_eq v w) (is_declared names v) (known v)
          (ap (λ (x : Word). is_among before v || (bytes_eq v x || false)) (sym k.0) ∙ sym (list_any-append (bytes_eq v) before (m.name ∷ [])) ∙ among)),
    )
new_makers final kind parts makers before names n after h k known = absurd k

as_many : (final : List Declared) (parts : PlainTrees) (makers : List MakerData) → AreMakers final parts makers → count parts ≡ length makers
as_many final end [] k = refl
as_many final (more (list p (more (name q w) fields)) trees) (m ∷ ms) k = omega (arith, as_many final trees ms k.2)
as_many final parts makers k = absurd k

-- the makers of a kind are named after it
makers_kept : (final : List Declared) (h : HeadersData) (kind : ℕ) (parts : PlainTrees) (makers : List MakerData) (names : List Declared) (n : ℕ) (after : List Declared)
    → DeclareMakers names kind n parts after → AreMakers final parts makers → ((i : ℕ) → i < length makers → Stands h (named.Maker kind (n + i))) → Kept names h → Kept after h
makers_kept final h kind end [] names n after d k stand kept = subst (λ (ns : List Declared). Kept ns h) (sym d) kept
makers_kept final h kind (more (list p (more (name q w) fields)) trees) (m ∷ ms) names n after d k stand kept =
    let here : n + 0 ≡ n = omega arith in
    let first : Stands h (named.Maker kind n) = subst (λ j. Stands h (named.Maker kind j)) here (stand 0 (omega arith)) in
    makers_kept final h kind trees ms (with_name names w (named.Maker kind n)) (n + 1) after d.2 k.2
    (λ i l. let at : n + suc i ≡ n + 1 + i = omega arith in subst (λ j. Stands h (named.Maker kind j)) at (stand (suc i) (omega (arith, l))))
    (record {
      kinds = omega (arith, counted names w (named.Maker kind n) items.Kind, kept.kinds);
      functions = omega (arith, counted names w (named.Maker kind n) items.Function, kept.functions);
      generators = omega (arith, counted names w (named.Maker kind n) items.Generator, kept.generators);
      models = omega (arith, counted names w (named.Maker kind n) items.Model, kept.models);
      stand = each_more (λ (e : Declared). Stands h e.named) names (record { name = w; named = named.Maker kind n }) kept.stand first;
      new = kept.new;
      some_maker = kept.some_maker;
    })
makers_kept final h kind parts makers names n after d k stand kept = absurd k

maker_last : (kinds : List KindData) (kind : KindData) (k i : ℕ) → k ≡ length kinds → i < length kind.makers → (maker : MakerData) × (maker_of (kinds ++ kind ∷ []) k i ≡ Some maker)
maker_last kinds kind k i is l =
    let found : (maker : MakerData) × (slice_get kind.makers i ≡ Some maker) = at_within kind.makers i l in (
      found.0,
      ap (λ (o : Option KindData). option_and_then (λ (x : KindData). slice_get x.makers i) o) (ap (slice_get (kinds ++ kind ∷ [])) is ∙ last_at kinds kind) ∙ found.1,
    )

module _ (final names : List Declared) (h : HeadersData) (x : Word) (kept : Kept names h) where
  kind_kept : (parts : PlainTrees) (after : List Declared) (makers : List MakerData) → 0 < count parts → DeclareMakers (with_name names x (named.Kind (number_of names items.Kind))) (number_of names items.Kind) 0 parts after
      → AreMakers final parts makers → Kept after (record h { kinds = h.kinds ++ record { name = x; makers = makers } ∷ [] })
  kind_kept parts after makers some d k =
      let kind : KindData = record { name = x; makers = makers } in
      let larger : HeadersData = record h { kinds = h.kinds ++ kind ∷ [] } in
      let number : ℕ = number_of names items.Kind in
      makers_kept final larger number parts makers (with_name names x (named.Kind number)) 0 after d k (λ i l. let at : i ≡ 0 + i = omega arith in subst (λ j. Stands larger (named.Maker number j)) at (maker_last h.kinds kind number i kept.kinds l))
      (record {
        kinds = omega (arith, counted names x (named.Kind number) items.Kind, kept.kinds, length-append h.kinds (kind ∷ []));
        functions = omega (arith, counted names x (named.Kind number) items.Function, kept.functions);
        generators = omega (arith, counted names x (named.Kind number) items.Generator, kept.generators);
        models = omega (arith, counted names x (named.Kind number) items.Model, kept.models);
        stand = each_more (λ (e : Declared). Stands larger e.named) names (record { name = x; named = named.Kind number })
            (each_weaker (λ (e : Declared). Stands h e.named) (λ (e : Declared). Stands larger e.named) names (λ e s. with_kind h kind e.named s) kept.stand) (omega (arith, kept.kinds, length-append h.kinds (kind ∷ [])));
        new = each_more HasNewMakers h.kinds kind kept.new (new_makers final number parts makers [] (with_name names x (named.Kind number)) 0 after d k (λ v among. cc));
        some_maker = each_more HasMaker h.kinds kind kept.some_maker (omega (arith, as_many final parts makers k, some));
      })

  function_kept : (s : SignatureData) → Kept (with_name names x (named.Function (number_of names items.Function))) (record h { functions = h.functions ++ s ∷ [] })
  function_kept s =
      let number : ℕ = number_of names items.Function in
      let larger : HeadersData = record h { functions = h.functions ++ s ∷ [] } in
      record {
        kinds = omega (arith, counted names x (named.Function number) items.Kind, kept.kinds);
        functions = omega (arith, counted names x (named.Function number) items.Function, kept.functions, length-append h.functions (s ∷ []));
        generators = omega (arith, counted names x (named.Function number) items.Generator, kept.generators);
        models = omega (arith, counted names x (named.Function number) items.Model, kept.models);
        stand = each_more (λ (e : Declared). Stands larger e.named) names (record { name = x; named = named.Function number })
            (each_weaker (λ (e : Declared). Stands h e.named) (λ (e : Declared). Stands larger e.named) names (λ e t. with_function h s e.named t) kept.stand) (omega (arith, kept.functions, length-append h.functions (s ∷ [])));
        new = kept.new;
        some_maker = kept.some_maker;
      }

  generator_kept : (s : SignatureData) → Kept (with_name names x (named.Generator (number_of names items.Generator))) (record h { generators = h.generators ++ s ∷ [] })
  generator_kept s =
      let number : ℕ = number_of names items.Generator in
      let larger : HeadersData = record h { generators = h.generators ++ s ∷ [] } in
      record {
        kinds = omega (arith, counted names x (named.Generator number) items.Kind, kept.kinds);
        functions = omega (arith, counted names x (named.Generator number) items.Function, kept.functions);
        generators = omega (arith, counted names x (named.Generator number) items.Generator, kept.generators, length-append h.generators (s ∷ []));
        models = omega (arith, counted names x (named.Generator number) items.Model, kept.models);
        stand = each_more (λ (e : Declared). Stands larger e.named) names (record { name = x; named = named.Generator number })
            (each_weaker (λ (e : Declared). Stands h e.named) (λ (e : Declared). Stands larger e.named) names (λ e t. with_generator h s e.named t) kept.stand) (omega (arith, kept.generators, length-append h.generators (s ∷ [])));
        new = kept.new;
        some_maker = kept.some_maker;
      }

  model_kept : (m : ModelTypesData) → Kept (with_name names x (named.Model (number_of names items.Model))) (record h { models = h.models ++ m ∷ [] })
  model_kept m =
      let number : ℕ = number_of names items.Model in
      let larger : HeadersData = record h { models = h.models ++ m ∷ [] } in
      record {
        kinds = omega (arith, counted names x (named.Model number) items.Kind, kept.kinds);
        functions = omega (arith, counted names x (named.Model number) items.Function, kept.functions);
        generators = omega (arith, counted names x (named.Model number) items.Generator, kept.generators);
        models = omega (arith, counted names x (named.Model number) items.Model, kept.models, length-append h.models (m ∷ []));
        stand = each_more (λ (e : Declared). Stands larger e.named) names (record { name = x; named = named.Model number })
            (each_weaker (λ (e : Declared). Stands h e.named) (λ (e : Declared). Stands larger e.named) names (λ e t. with_model h m e.named t) kept.stand) (omega (arith, kept.models, length-append h.models (m ∷ [])));
        new = kept.new;
        some_maker = kept.some_maker;
      }

  property_kept : (n : ℕ) → Kept (with_name names x (named.Property n)) h
  property_kept n =
      record {
        kinds = omega (arith, counted names x (named.Property n) items.Kind, kept.kinds);
        functions = omega (arith, counted names x (named.Property n) items.Function, kept.functions);
        generators = omega (arith, counted names x (named.Property n) items.Generator, kept.generators);
        models = omega (arith, counted names x (named.Property n) items.Model, kept.models);
        stand = each_more (λ (e : Declared). Stands h e.named) names (record { name = x; named = named.Property n }) kept.stand tt;
        new = kept.new;
        some_maker = kept.some_maker;
      }

  as_kept : (ns after : List Declared) (g k : HeadersData) → after ≡ ns → k ≡ g → Kept ns g → Kept after k
  as_kept ns after g k is same here = subst (λ (y : HeadersData). Kept after y) (sym same) (subst (λ (ms : List Declared). Kept ms g) (sym is) here)

  item_kept : (item : Item) (parts : PlainTrees) (after : List Declared) (larger : HeadersData) → DeclareInner (with_name names x (numbered item (number_of names item))) (number_of names items.Kind) item parts after
      → AddsHeader final h x item parts larger → Kept after larger
  item_kept items.Kind parts after larger d a = subst (λ (y : HeadersData). Kept after y) (sym a.2) (kind_kept parts after a.0 d.0 d.1 a.1)
  item_kept items.Function parts after larger d a = as_kept _ after _ larger d a.2 (function_kept a.0)
  item_kept items.Generator parts after larger d a = as_kept _ after _ larger d a.2 (generator_kept a.0)
  item_kept items.Model parts after larger d a = as_kept _ after _ larger d a.2 (model_kept a.0)
  item_kept items.Property parts after larger d a = as_kept _ after h larger d a.1 (property_kept (number_of names items.Property))

one_item : (a b : Item) (o : Option Item) → o ≡ Some a → o ≡ Some b → a ≡ b
one_item a b o h k = cc

tree_kept : (final : List Declared) (tree : PlainTree) (names after : List Declared) (h larger : HeadersData) → DeclaresItem names tree after → IsHeader final h tree larger → Kept names h → Kept after larger
tree_kept final (list p (more (name q w) (more (name r x) parts))) names after h larger (item, is, fresh, inner) (other, also, adds) kept =
    item_kept final names h x kept item parts after larger inner (subst (λ (i : Item). AddsHeader final h x i parts larger) (one_item other item (item_of w) also is) adds)
tree_kept final tree names after h larger d a kept = absurd d

pub all_kept : (final : List Declared) (trees : PlainTrees) (names after : List Declared) (h larger : HeadersData) → DeclareItems names trees after → HeadersFrom final h trees larger → Kept names h → Kept after larger
all_kept final end names after h larger d a kept = subst (λ (y : HeadersData). Kept after y) (sym a) (subst (λ (ns : List Declared). Kept ns h) (sym d) kept)
all_kept final (more tree trees) names after h larger (between, d, ds) (middle, a, rest) kept = all_kept final trees between after middle larger ds rest (tree_kept final tree names between h middle d a kept)

pub none_kept : Kept [] no_headers
none_kept = record { kinds = refl; functions = refl; generators = refl; models = refl; stand = tt; new = tt; some_maker = tt }
