-- The types of the parts of each operator, and its own.
use Rattle.std.specs.Prelude.{◌≡◌, List, [], ◌∷◌}
use Rattle.qk_value.specs.Types.{TypeData, int_type, bool_type, list_type, pair_type, made_type}
use Rattle.qk_core.specs.ExprData.{ExprData, exprs_of}
use Rattle.qk_core.specs.declared.expr.Op1.{Op1}
use Rattle.qk_core.specs.declared.expr.Op1.TheVariants as ones
use Rattle.qk_core.specs.declared.expr.Op2.{Op2}
use Rattle.qk_core.specs.declared.expr.Op2.TheVariants as twos
use Rattle.qk_headers.specs.Headers.{HeadersData}
use Rattle.qk_typing.specs.Operators.{Operator, choice, unary, binary, maker, function, fields_of, function_of}
use Rattle.qk_headers.specs.Scopes.{types_of}

-- of one part
abbrev pub UnaryTypes : Op1 → TypeData → TypeData → Type 0
UnaryTypes ones.Neg a t = (a ≡ int_type) × (t ≡ int_type)
UnaryTypes ones.Not a t = (a ≡ bool_type) × (t ≡ bool_type)
UnaryTypes ones.Length a t = (item : TypeData) × (a ≡ list_type item) × (t ≡ int_type)

-- .. and of two
abbrev pub BinaryTypes : Op2 → TypeData → TypeData → TypeData → Type 0
BinaryTypes twos.Add a b t = (a ≡ int_type) × (b ≡ int_type) × (t ≡ int_type)
BinaryTypes twos.Sub a b t = (a ≡ int_type) × (b ≡ int_type) × (t ≡ int_type)
BinaryTypes twos.Mul a b t = (a ≡ int_type) × (b ≡ int_type) × (t ≡ int_type)
BinaryTypes twos.Div a b t = (a ≡ int_type) × (b ≡ int_type) × (t ≡ int_type)
BinaryTypes twos.Mod a b t = (a ≡ int_type) × (b ≡ int_type) × (t ≡ int_type)
BinaryTypes twos.Equal a b t = (a ≡ b) × (t ≡ bool_type)
BinaryTypes twos.Less a b t = (a ≡ b) × (t ≡ bool_type)
BinaryTypes twos.AtMost a b t = (a ≡ b) × (t ≡ bool_type)
BinaryTypes twos.And a b t = (a ≡ bool_type) × (b ≡ bool_type) × (t ≡ bool_type)
BinaryTypes twos.Or a b t = (a ≡ bool_type) × (b ≡ bool_type) × (t ≡ bool_type)
BinaryTypes twos.Cons a b t = (b ≡ list_type a) × (t ≡ list_type a)
BinaryTypes twos.Append a b t = (item : TypeData) × (a ≡ list_type item) × (b ≡ list_type item) × (t ≡ list_type item)
BinaryTypes twos.Pair a b t = t ≡ pair_type a b

abbrev pub OperatorTypes : HeadersData → Operator → List TypeData → TypeData → Type 0
OperatorTypes h choice (c ∷ a ∷ b ∷ []) t = (c ≡ bool_type) × (a ≡ t) × (b ≡ t)
OperatorTypes h (unary op) (a ∷ []) t = UnaryTypes op a t
OperatorTypes h (binary op) (a ∷ b ∷ []) t = BinaryTypes op a b t
OperatorTypes h (maker k m) ts t = (ts ≡ fields_of h k m) × (t ≡ made_type k)
OperatorTypes h (function f) ts t = (ts ≡ types_of (function_of h f).params) × (t ≡ (function_of h f).result)
OperatorTypes h op ts t = ⊥

-- the operator at these parts
abbrev pub IsApplied : Operator → List ExprData → ExprData → Type 0
IsApplied choice (c ∷ a ∷ b ∷ []) e = e ≡ ExprData.choice c a b
IsApplied (unary op) (a ∷ []) e = e ≡ ExprData.unary op a
IsApplied (binary op) (a ∷ b ∷ []) e = e ≡ ExprData.binary op a b
IsApplied (maker k m) es e = e ≡ ExprData.making k m (exprs_of es)
IsApplied (function f) es e = e ≡ ExprData.call f (exprs_of es)
IsApplied op es e = ⊥
