-- The heads of expressions, and the types of those whose parts are all expressions.
use Rattle.std.specs.Prelude.{ℕ, List, [], ◌∷◌, map, length, codes, Option, Some, None, option_map, option_and_then, unwrap_or, slice_get, nat_eq, Ok}
use Rattle.qk_base.specs.declared.place.Place.{Place}
use Rattle.qk_syntax.specs.PlainTrees.{PlainTrees, count}
use Rattle.qk_value.specs.Kinds.{maker_of}
use Rattle.qk_value.specs.Types.{TypeData, int_type, bool_type, list_type, pair_type, made_type, same_type}
use Rattle.qk_names.specs.Checks.{Checked, ◌>>=◌, ◌>>◌, refuse, check}
use Rattle.qk_core.specs.ExprData.{ExprData, exprs_of}
use Rattle.qk_headers.specs.Headers.{HeadersData, SignatureData}
use Rattle.qk_names.specs.Names.{Declared, named_by, is_known}
use Rattle.qk_names.specs.Reserved.{Word, entry_of}
use Rattle.qk_headers.specs.Scopes.{types_of}
use Rattle.qk_core.specs.declared.expr.Op1.{Op1}
use Rattle.qk_core.specs.declared.expr.Op1.TheVariants as ones
use Rattle.qk_core.specs.declared.expr.Op2.{Op2}
use Rattle.qk_core.specs.declared.expr.Op2.TheVariants as twos
use Rattle.qk_names.specs.declared.names.Named.{Named}
use Rattle.qk_names.specs.declared.names.Named.TheVariants as named

-- what bodies see: the declared names, and what their headers say
pub record Tables : Type 0 where
  pub names : List Declared
  pub headers : HeadersData

-- an expression with its type and its place
pub record Typed : Type 0 where
  pub place : Place
  pub ty : TypeData
  pub expr : ExprData

abbrev pub typed : Place → TypeData → ExprData → Typed
typed p t e = record { place = p; ty = t; expr = e }

-- operators whose parts are all expressions
pub data Operator : Type 0 where
  choice : Operator
  unary : Op1 → Operator
  binary : Op2 → Operator
  maker : ℕ → ℕ → Operator
  function : ℕ → Operator

pub data Form : Type 0 where
  empty_list : Form
  binding : Form
  matching : Form
  operator : Operator → Form

abbrev pub forms : List (Word × Form)
forms =
    (codes "if", operator choice) ∷ (codes "let", binding) ∷ (codes "+", operator (binary twos.Add)) ∷ (codes "-", operator (binary twos.Sub)) ∷ (codes "*", operator (binary twos.Mul))
    ∷ (codes "div", operator (binary twos.Div)) ∷ (codes "mod", operator (binary twos.Mod)) ∷ (codes "neg", operator (unary ones.Neg)) ∷ (codes "=", operator (binary twos.Equal))
    ∷ (codes "<", operator (binary twos.Less)) ∷ (codes "<=", operator (binary twos.AtMost)) ∷ (codes "and", operator (binary twos.And)) ∷ (codes "or", operator (binary twos.Or))
    ∷ (codes "not", operator (unary ones.Not)) ∷ (codes "nil", empty_list) ∷ (codes "cons", operator (binary twos.Cons)) ∷ (codes "append", operator (binary twos.Append))
    ∷ (codes "length", operator (unary ones.Length)) ∷ (codes "pair", operator (binary twos.Pair)) ∷ (codes "match", matching) ∷ []

abbrev pub declared_form : Named → Option Form
declared_form (named.Maker k m) = Some (operator (maker k m))
declared_form (named.Function f) = Some (operator (function f))
declared_form n = None

-- a name that is known but not usable here is 20 at the tree, and one that is not known 22 at the name
abbrev pub usable : {A : Type 0} → List Declared → Place → Place → Word → Option A → Checked A
usable names p q w (Some a) = Ok a
usable names p q w None = do
  check (is_known names w) 22 q
  refuse 20 p

abbrev pub form_by : List Declared → Word → Option Form → Option Form
form_by names w (Some f) = Some f
form_by names w None = option_and_then declared_form (named_by names w)

-- the form of a list at a place with such a head
abbrev pub form_of : List Declared → Place → Place → Word → Checked Form
form_of names p q w = usable names p q w (form_by names w (entry_of forms w))

abbrev pub fields_of : HeadersData → ℕ → ℕ → List TypeData
fields_of h k m = unwrap_or (option_map (λ maker. maker.fields) (maker_of h.kinds k m)) []

abbrev pub no_signature : SignatureData
no_signature = record { params = []; result = int_type }

abbrev pub function_of : HeadersData → ℕ → SignatureData
function_of h f = unwrap_or (slice_get h.functions f) no_signature

-- how many parts it takes
abbrev pub arity : HeadersData → Operator → ℕ
arity h choice = 3
arity h (unary op) = 1
arity h (binary op) = 2
arity h (maker k m) = length (fields_of h k m)
arity h (function f) = length (function_of h f).params

-- a part of another type is 24 at the part
abbrev pub has_type : TypeData → Typed → Checked (Unit {0})
has_type t e = check (same_type t e.ty) 24 e.place

abbrev pub have_types : List TypeData → List Typed → Checked (Unit {0})
have_types (t ∷ ts) (e ∷ es) = do
  has_type t e
  have_types ts es
have_types ts es = Ok tt

-- each has the type of the first
abbrev pub agree : TypeData → List Typed → Checked (Unit {0})
agree t [] = Ok tt
agree t (e ∷ es) = do
  has_type t e
  agree t es

abbrev pub is_list : Typed → Checked (Unit {0})
is_list e = elim e.ty [ list_type t ↦ Ok tt | _ ↦ refuse 24 e.place ]

-- the type of a value of the operator whose one part this is
abbrev pub unary_type : Op1 → Typed → Checked TypeData
unary_type ones.Neg a = do
  has_type int_type a
  Ok int_type
unary_type ones.Not a = do
  has_type bool_type a
  Ok bool_type
unary_type ones.Length a = do
  is_list a
  Ok int_type

abbrev pub of_numbers : TypeData → Typed → Typed → Checked TypeData
of_numbers t a b = do
  has_type int_type a
  has_type int_type b
  Ok t

abbrev pub of_truths : Typed → Typed → Checked TypeData
of_truths a b = do
  has_type bool_type a
  has_type bool_type b
  Ok bool_type

abbrev pub of_same : Typed → Typed → Checked TypeData
of_same a b = do
  has_type a.ty b
  Ok bool_type

-- .. and whose two parts these are
abbrev pub binary_type : Op2 → Typed → Typed → Checked TypeData
binary_type twos.Add a b = of_numbers int_type a b
binary_type twos.Sub a b = of_numbers int_type a b
binary_type twos.Mul a b = of_numbers int_type a b
binary_type twos.Div a b = of_numbers int_type a b
binary_type twos.Mod a b = of_numbers int_type a b
binary_type twos.Equal a b = of_same a b
binary_type twos.Less a b = of_same a b
binary_type twos.AtMost a b = of_same a b
binary_type twos.And a b = of_truths a b
binary_type twos.Or a b = of_truths a b
binary_type twos.Cons a b = do
  has_type (list_type a.ty) b
  Ok (list_type a.ty)
binary_type twos.Append a b = do
  is_list a
  has_type a.ty b
  Ok a.ty
binary_type twos.Pair a b = Ok (pair_type a.ty b.ty)

abbrev pub plain : List Typed → List ExprData
plain es = map (λ e. e.expr) es

-- the operator at these parts
abbrev pub applied : HeadersData → Place → Operator → List Typed → Checked Typed
applied h p choice (c ∷ a ∷ b ∷ []) = do
  has_type bool_type c
  has_type a.ty b
  Ok (typed p a.ty (ExprData.choice c.expr a.expr b.expr))
applied h p (unary op) (a ∷ []) = do
  t ← unary_type op a
  Ok (typed p t (ExprData.unary op a.expr))
applied h p (binary op) (a ∷ b ∷ []) = do
  t ← binary_type op a b
  Ok (typed p t (ExprData.binary op a.expr b.expr))
applied h p (maker k m) es = do
  have_types (fields_of h k m) es
  Ok (typed p (made_type k) (ExprData.making k m (exprs_of (plain es))))
applied h p (function f) es = do
  have_types (types_of (function_of h f).params) es
  Ok (typed p (function_of h f).result (ExprData.call f (exprs_of (plain es))))
applied h p op es = refuse 23 p

-- it has as many parts as it takes
abbrev pub check_count : HeadersData → Place → Operator → PlainTrees → Checked (Unit {0})
check_count h p op parts = check (nat_eq (count parts) (arity h op)) 23 p
