-- The trees of a generated file stand for a program.
use Rattle.std.proofs.Common.{ℕ, zero, suc, ◌+◌, ◌%◌, ◌≤◌, pos, List, [], ◌∷◌, ◌++◌, codes, refl, subst, arith, lit≤}
use Rattle.qk_core.specs.ExprData.{ExprData}
use Rattle.qk_core.specs.GenData.{GenData}
use Rattle.qk_core.specs.Program.{ProgramData}
use Rattle.qk_core.specs.Properties.{BinderData, plain, PropertyData, expression as holds}
use Rattle.qk_core.specs.declared.expr.Op1.TheVariants as ones
use Rattle.qk_core.specs.declared.expr.Op2.TheVariants as twos
use Rattle.qk_core.specs.declared.property.ShrinkBy.TheVariants as shrinks
use Rattle.qk_value.specs.Types.{TypeData, int_type, list_type}
use Rattle.qk_generators.specs.Drawing.{values, sized, choose, vector}
use Rattle.qk_headers.specs.Headers.{no_headers}
use Rattle.qk_names.specs.Names.{Declared, number_of}
use Rattle.qk_typing.specs.Operators.{Tables, operator, unary, binary}
use Rattle.qk_names.specs.declared.names.Item.TheVariants as items
use Rattle.qk_names.specs.declared.names.Named.TheVariants as named
use Rattle.qk_wellformed.specs.AreHeaders.{HeadersFrom, IsForall}
use Rattle.qk_wellformed.specs.AreNames.{DeclareItems, with_name}
use Rattle.qk_wellformed.specs.StandsFor.{StandsFor, IsProperty, BodiesFrom, no_bodies}
use Rattle.qk_engine.proofs.GeneratedTrees.{parts, called, name_of, asked_parts, properties_from}
use Rattle.qk_engine.proofs.PlacedTrees.{Spots, all_at, inner, others}
use Rattle.qk_engine.proofs.GeneratedNames.{Before, none_before, one_more, is_new}

names_declared : (n i : ℕ) (names : List Declared) (s : Spots) → i + n ≤ 1000 → Before i names → (after : List Declared) × DeclareItems names (all_at s (properties_from i n)) after × Before (i + n) after
names_declared zero i names s few before = (names, refl, subst (λ (k : ℕ). Before k names) (omega arith) before)
names_declared (suc n) i names s few before =
    let between = with_name names (name_of i) (named.Property (number_of names items.Property)) in
    let rest = names_declared n (i + 1) between (others s) (omega (arith, few)) (one_more i names (omega (arith, few)) before) in (
      rest.0,
      (between, (items.Property, refl, is_new i names (omega (arith, few)) before, refl), rest.1),
      subst (λ (k : ℕ). Before k rest.0) (omega arith) rest.2,
    )

is_forall : (s : Spots) (rest i : ℕ) → IsForall (all_at s (parts (called (codes "forall") (asked_parts rest i) ∷ [])))
is_forall s zero i = (refl, lit≤ tt, lit≤ tt)
is_forall s (suc zero) i = (refl, lit≤ tt, lit≤ tt)
is_forall s (suc (suc zero)) i = (refl, lit≤ tt, lit≤ tt)
is_forall s (suc (suc (suc n))) i = (refl, lit≤ tt, lit≤ tt)

no_more_headers : (names : List Declared) (n i : ℕ) (s : Spots) → HeadersFrom names no_headers (all_at s (properties_from i n)) no_headers
no_more_headers names zero i s = refl
no_more_headers names (suc n) i s = (no_headers, (items.Property, refl, (is_forall (others (others (inner (inner s)))) (i % 4) i, refl)), no_more_headers names n (i + 1) (others s))

bound_by : List ℕ → TypeData → GenData → BinderData
bound_by x t g = record { name = x; ty = t; draw = plain g; shrink = shrinks.Builtin }

asking : ℕ → List BinderData → List ExprData → ExprData → PropertyData
asking i binders givens check = record { name = name_of i; binders = binders; givens = givens; check = holds check; marks = [] }

abbrev x : ExprData
x = ExprData.variable 0

abbrev numeral : ℕ → ExprData
numeral n = ExprData.number (pos n)

abbrev property_data : ℕ → ℕ → PropertyData
property_data zero i = asking i (bound_by (codes "x") int_type GenData.any_number ∷ []) [] (ExprData.binary twos.Equal x x)
property_data (suc zero) i = asking i (bound_by (codes "x") int_type GenData.size ∷ []) (ExprData.binary twos.Equal (ExprData.binary twos.Mod x (numeral 2)) (numeral 0) ∷ []) (ExprData.binary twos.AtMost (numeral 0) x)
property_data (suc (suc zero)) i = asking i (bound_by (codes "x") int_type (GenData.choose (numeral (8 + i)) (numeral (8 + i))) ∷ []) [] (ExprData.binary twos.Less x (numeral 5))
property_data (suc (suc (suc n))) i =
    asking i (bound_by (codes "xs") (list_type int_type) (GenData.vector (numeral (2 + i % 50)) (GenData.choose (numeral 3) (numeral 3))) ∷ []) [] (ExprData.binary twos.Less (ExprData.unary ones.Length x) (numeral 2))

is_property : (d : Tables) (s : Spots) (rest i : ℕ) → IsProperty d (name_of i) (all_at s (parts (called (codes "forall") (asked_parts rest i) ∷ []))) (property_data rest i)
unfolding bound_by asking
is_property d s zero i = (
  refl,
  (((refl, record { no_truth = refl; new = refl }), (GenData.any_number, refl, refl), refl), tt),
  ((ExprData.binary twos.Equal x x, (operator (binary twos.Equal), refl, (int_type ∷ int_type ∷ [], x ∷ x ∷ [], ((refl, refl), ((refl, refl), tt)), (refl, refl), refl)), refl), tt),
  lit≤ tt,
  lit≤ tt,
)
is_property d s (suc zero) i = (
  refl,
  (((refl, record { no_truth = refl; new = refl }), (GenData.size, refl, refl), refl), tt),
  (
    (
      operator (binary twos.Equal),
      refl,
      (
        int_type ∷ int_type ∷ [],
        ExprData.binary twos.Mod x (numeral 2) ∷ numeral 0 ∷ [],
        ((operator (binary twos.Mod), refl, (int_type ∷ int_type ∷ [], x ∷ numeral 2 ∷ [], ((refl, refl), ((refl, refl), tt)), (refl, refl, refl), refl)), ((refl, refl), tt)),
        (refl, refl),
        refl,
      ),
    ),
    ((ExprData.binary twos.AtMost (numeral 0) x, (operator (binary twos.AtMost), refl, (int_type ∷ int_type ∷ [], numeral 0 ∷ x ∷ [], ((refl, refl), ((refl, refl), tt)), (refl, refl), refl)), refl), tt),
  ),
  lit≤ tt,
  lit≤ tt,
)
is_property d s (suc (suc zero)) i = (
  refl,
  (
    (
      (refl, record { no_truth = refl; new = refl }),
      (
        GenData.choose (numeral (8 + i)) (numeral (8 + i)),
        (values choose, refl, (int_type ∷ int_type ∷ [], numeral (8 + i) ∷ numeral (8 + i) ∷ [], ((refl, refl), ((refl, refl), tt)), (refl, refl, refl), refl)),
        refl,
      ),
      refl,
    ),
    tt,
  ),
  ((ExprData.binary twos.Less x (numeral 5), (operator (binary twos.Less), refl, (int_type ∷ int_type ∷ [], x ∷ numeral 5 ∷ [], ((refl, refl), ((refl, refl), tt)), (refl, refl), refl)), refl), tt),
  lit≤ tt,
  lit≤ tt,
)
is_property d s (suc (suc (suc n))) i = (
  refl,
  (
    (
      (refl, record { no_truth = refl; new = refl }),
      (
        GenData.vector (numeral (2 + i % 50)) (GenData.choose (numeral 3) (numeral 3)),
        (
          sized vector,
          refl,
          (
            numeral (2 + i % 50),
            int_type,
            GenData.choose (numeral 3) (numeral 3),
            (refl, refl),
            (values choose, refl, (int_type ∷ int_type ∷ [], numeral 3 ∷ numeral 3 ∷ [], ((refl, refl), ((refl, refl), tt)), (refl, refl, refl), refl)),
            refl,
            refl,
          ),
        ),
        refl,
      ),
      refl,
    ),
    tt,
  ),
  (
    (
      ExprData.binary twos.Less (ExprData.unary ones.Length x) (numeral 2),
      (
        operator (binary twos.Less),
        refl,
        (
          int_type ∷ int_type ∷ [],
          ExprData.unary ones.Length x ∷ numeral 2 ∷ [],
          ((operator (unary ones.Length), refl, (list_type int_type ∷ [], x ∷ [], ((refl, refl), tt), (int_type, refl, refl), refl)), ((refl, refl), tt)),
          (refl, refl),
          refl,
        ),
      ),
      refl,
    ),
    tt,
  ),
  lit≤ tt,
  lit≤ tt,
)

bodies_from : (d : Tables) (n i : ℕ) (c : ProgramData) (s : Spots) → (after : ProgramData) × BodiesFrom d c (all_at s (properties_from i n)) after
bodies_from d zero i c s = (c, refl)
bodies_from d (suc n) i c s =
    let r = property_data (i % 4) i in
    let between = record c { properties = c.properties ++ r ∷ [] } in
    let rest = bodies_from d n (i + 1) between (others s) in
    (rest.0, (between, (items.Property, refl, (r, is_property d (others (others (inner (inner s)))) (i % 4) i, refl)), rest.1))

pub generated_stands : (n : ℕ) (s : Spots) → 1 ≤ n → n ≤ 1000 → (c : ProgramData) × StandsFor (all_at s (properties_from 0 n)) c
generated_stands n s some few =
    let names = names_declared n 0 [] s (omega (arith, few)) none_before in
    let d : Tables = record { names = names.0; headers = no_headers } in
    let bodies = bodies_from d n 0 (no_bodies no_headers) s in
    let count = names.2.properties in (
      bodies.0,
      record {
        names = names.0;
        headers = no_headers;
        declared = record { declared = names.1; some = omega (arith, some, count) };
        headed = no_more_headers names.0 n 0 s;
        bodies = bodies.1;
      },
    )
