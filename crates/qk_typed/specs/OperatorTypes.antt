-- The types of an operator's parts, and of its value.
use Rattle.std.specs.Prelude.{◌≡◌}
use Rattle.qk_value.specs.Types.{TypeData, int_type, bool_type, list_type, pair_type}
use Rattle.qk_core.specs.declared.expr.Op1.{Op1}
use Rattle.qk_core.specs.declared.expr.Op1.TheVariants as ones
use Rattle.qk_core.specs.declared.expr.Op2.{Op2}
use Rattle.qk_core.specs.declared.expr.Op2.TheVariants as twos

-- from a part of one type to that type
abbrev pub TakesOne : Op1 → TypeData → TypeData → Type 0
TakesOne ones.Neg a t = (a ≡ int_type) × (t ≡ int_type)
TakesOne ones.Not a t = (a ≡ bool_type) × (t ≡ bool_type)
TakesOne ones.Length a t = (item : TypeData) × (a ≡ list_type item) × (t ≡ int_type)

-- from parts of two types to that type: only values of one type are compared
abbrev pub TakesTwo : Op2 → TypeData → TypeData → TypeData → Type 0
TakesTwo twos.Add a b t = (a ≡ int_type) × (b ≡ int_type) × (t ≡ int_type)
TakesTwo twos.Sub a b t = (a ≡ int_type) × (b ≡ int_type) × (t ≡ int_type)
TakesTwo twos.Mul a b t = (a ≡ int_type) × (b ≡ int_type) × (t ≡ int_type)
TakesTwo twos.Div a b t = (a ≡ int_type) × (b ≡ int_type) × (t ≡ int_type)
TakesTwo twos.Mod a b t = (a ≡ int_type) × (b ≡ int_type) × (t ≡ int_type)
TakesTwo twos.Equal a b t = (a ≡ b) × (t ≡ bool_type)
TakesTwo twos.Less a b t = (a ≡ b) × (t ≡ bool_type)
TakesTwo twos.AtMost a b t = (a ≡ b) × (t ≡ bool_type)
TakesTwo twos.And a b t = (a ≡ bool_type) × (b ≡ bool_type) × (t ≡ bool_type)
TakesTwo twos.Or a b t = (a ≡ bool_type) × (b ≡ bool_type) × (t ≡ bool_type)
TakesTwo twos.Cons a b t = (b ≡ list_type a) × (t ≡ list_type a)
TakesTwo twos.Append a b t = (item : TypeData) × (a ≡ list_type item) × (b ≡ list_type item) × (t ≡ list_type item)
TakesTwo twos.Pair a b t = t ≡ pair_type a b
