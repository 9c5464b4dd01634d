-- An operator at parts has a type exactly where the table of types says so.
use Rattle.std.proofs.Common.{◌≡◌, ◌∙◌, List, [], ◌∷◌, map, length, refl, sym, ap, Ok}
use Rattle.std.proofs.lemmas.List.{length-map}
use Rattle.qk_base.specs.declared.place.Place.{Place}
use Rattle.qk_value.specs.Types.{TypeData, int_type, bool_type, list_type, made_type}
use Rattle.qk_core.specs.ExprData.{ExprData, exprs_of}
use Rattle.qk_core.specs.declared.expr.Op1.{Op1}
use Rattle.qk_core.specs.declared.expr.Op1.TheVariants as ones
use Rattle.qk_core.specs.declared.expr.Op2.{Op2}
use Rattle.qk_core.specs.declared.expr.Op2.TheVariants as twos
use Rattle.qk_names.specs.Checks.{Checked, ◌>>◌}
use Rattle.qk_headers.specs.Headers.{HeadersData}
use Rattle.qk_typing.specs.Operators.{Typed, typed, has_type, have_types, is_list, unary_type, binary_type, Operator, choice, unary, binary, maker, function, fields_of, function_of, arity, plain, applied}
use Rattle.qk_headers.specs.Scopes.{types_of}
use Rattle.qk_wellformed.specs.OperatorTypes.{UnaryTypes, BinaryTypes, OperatorTypes, IsApplied}
use Rattle.qk_wellformed.proofs.Inversion.{ok_is, bound, followed, after, next_after}
use Rattle.qk_wellformed.proofs.SameTypes.{has, given, some_list, list_given, all_have, all_given}

-- a part of a type, and then that
one_stands : (t u : TypeData) (a : Typed) (v : TypeData) → (has_type t a >> Ok u) ≡ Ok v → (a.ty ≡ t) × (v ≡ u)
one_stands t u a v h = followed (has_type t a) (Ok u) v _ (λ x e r. (sym (has t a x e), ok_is _ _ _ r refl)) h

one_given : (t u : TypeData) (a : Typed) (v : TypeData) → a.ty ≡ t → v ≡ u → (has_type t a >> Ok u) ≡ Ok v
one_given t u a v h is = next_after (has_type t a) (Ok u) tt _ (given t a (sym h)) (ap Ok (sym is))

two_stand : (t u : TypeData) (a b : Typed) (v : TypeData) → (has_type t a >> (has_type t b >> Ok u)) ≡ Ok v → (a.ty ≡ t) × (b.ty ≡ t) × (v ≡ u)
two_stand t u a b v h = followed (has_type t a) (has_type t b >> Ok u) v _ (λ x e r. let rest : (b.ty ≡ t) × (v ≡ u) = one_stands t u b v r in (sym (has t a x e), rest.0, rest.1)) h

two_given : (t u : TypeData) (a b : Typed) (v : TypeData) → a.ty ≡ t → b.ty ≡ t → v ≡ u → (has_type t a >> (has_type t b >> Ok u)) ≡ Ok v
two_given t u a b v h k is = next_after (has_type t a) (has_type t b >> Ok u) tt _ (given t a (sym h)) (one_given t u b v k is)

swapped : (t u : TypeData) (a b : Typed) (v : TypeData) → (b.ty ≡ t) × (v ≡ u) → (t ≡ b.ty) × (v ≡ u)
swapped t u a b v h = (sym h.0, h.1)

pub unary_stands : (op : Op1) (a : Typed) (t : TypeData) → unary_type op a ≡ Ok t → UnaryTypes op a.ty t
unary_stands ones.Neg a t h = one_stands int_type int_type a t h
unary_stands ones.Not a t h = one_stands bool_type bool_type a t h
unary_stands ones.Length a t h = followed (is_list a) (Ok int_type) t _ (λ x e r. let some : (item : TypeData) × (a.ty ≡ list_type item) = some_list a x e in (some.0, some.1, ok_is _ _ _ r refl)) h

pub unary_given : (op : Op1) (a : Typed) (t : TypeData) → UnaryTypes op a.ty t → unary_type op a ≡ Ok t
unary_given ones.Neg a t (h, is) = one_given int_type int_type a t h is
unary_given ones.Not a t (h, is) = one_given bool_type bool_type a t h is
unary_given ones.Length a t (item, h, is) = next_after (is_list a) (Ok int_type) tt _ (list_given a item h) (ap Ok (sym is))

pub binary_stands : (op : Op2) (a b : Typed) (t : TypeData) → binary_type op a b ≡ Ok t → BinaryTypes op a.ty b.ty t
binary_stands twos.Add a b t h = two_stand int_type int_type a b t h
binary_stands twos.Sub a b t h = two_stand int_type int_type a b t h
binary_stands twos.Mul a b t h = two_stand int_type int_type a b t h
binary_stands twos.Div a b t h = two_stand int_type int_type a b t h
binary_stands twos.Mod a b t h = two_stand int_type int_type a b t h
binary_stands twos.Equal a b t h = swapped a.ty bool_type a b t (one_stands a.ty bool_type b t h)
binary_stands twos.Less a b t h = swapped a.ty bool_type a b t (one_stands a.ty bool_type b t h)
binary_stands twos.AtMost a b t h = swapped a.ty bool_type a b t (one_stands a.ty bool_type b t h)
binary_stands twos.And a b t h = two_stand bool_type bool_type a b t h
binary_stands twos.Or a b t h = two_stand bool_type bool_type a b t h
binary_stands twos.Cons a b t h = one_stands (list_type a.ty) (list_type a.ty) b t h
binary_stands twos.Append a b t h =
    followed (is_list a) (has_type a.ty b >> Ok a.ty) t _
    (λ x e r. let some : (item : TypeData) × (a.ty ≡ list_type item) = some_list a x e in let rest : (b.ty ≡ a.ty) × (t ≡ a.ty) = one_stands a.ty a.ty b t r in (some.0, some.1, rest.0 ∙ some.1, rest.1 ∙ some.1)) h
binary_stands twos.Pair a b t h = ok_is _ _ _ h refl

pub binary_given : (op : Op2) (a b : Typed) (t : TypeData) → BinaryTypes op a.ty b.ty t → binary_type op a b ≡ Ok t
binary_given twos.Add a b t (h, k, is) = two_given int_type int_type a b t h k is
binary_given twos.Sub a b t (h, k, is) = two_given int_type int_type a b t h k is
binary_given twos.Mul a b t (h, k, is) = two_given int_type int_type a b t h k is
binary_given twos.Div a b t (h, k, is) = two_given int_type int_type a b t h k is
binary_given twos.Mod a b t (h, k, is) = two_given int_type int_type a b t h k is
binary_given twos.Equal a b t (h, is) = one_given a.ty bool_type b t (sym h) is
binary_given twos.Less a b t (h, is) = one_given a.ty bool_type b t (sym h) is
binary_given twos.AtMost a b t (h, is) = one_given a.ty bool_type b t (sym h) is
binary_given twos.And a b t (h, k, is) = two_given bool_type bool_type a b t h k is
binary_given twos.Or a b t (h, k, is) = two_given bool_type bool_type a b t h k is
binary_given twos.Cons a b t (h, is) = one_given (list_type a.ty) (list_type a.ty) b t h is
binary_given twos.Append a b t (item, h, k, is) = next_after (is_list a) (has_type a.ty b >> Ok a.ty) tt _ (list_given a item h) (one_given a.ty a.ty b t (k ∙ sym h) (is ∙ sym h))
binary_given twos.Pair a b t is = ap Ok (sym is)

-- the types of parts
abbrev pub types_in : List Typed → List TypeData
types_in es = map (λ e. e.ty) es

module _ (h : HeadersData) (p : Place) where
  pub applied_stands : (op : Operator) (es : List Typed) (r : Typed) → length es ≡ arity h op → applied h p op es ≡ Ok r → OperatorTypes h op (types_in es) r.ty × IsApplied op (plain es) r.expr
  applied_stands choice [] r n k = absurd (cc)
  applied_stands choice (c ∷ []) r n k = absurd (cc)
  applied_stands choice (c ∷ a ∷ []) r n k = absurd (cc)
  applied_stands choice (c ∷ a ∷ b ∷ []) r n k =
      followed (has_type bool_type c) (has_type a.ty b >> Ok (typed p a.ty (ExprData.choice c.expr a.expr b.expr))) r _
      (λ x e rest. followed (has_type a.ty b) (Ok (typed p a.ty (ExprData.choice c.expr a.expr b.expr))) r _
      (λ y f last. let same : r ≡ typed p a.ty (ExprData.choice c.expr a.expr b.expr) = ok_is _ _ _ last refl in
      ((sym (has bool_type c x e), ap (λ v. v.ty) (sym same), sym (has a.ty b y f) ∙ ap (λ v. v.ty) (sym same)), ap (λ v. v.expr) same)) rest) k
  applied_stands choice (c ∷ a ∷ b ∷ x ∷ es) r n k = absurd (cc)
  applied_stands (unary op) [] r n k = absurd (cc)
  applied_stands (unary op) (a ∷ []) r n k =
      bound (unary_type op a) (λ t. Ok (typed p t (ExprData.unary op a.expr))) r _
      (λ t e rest. let same : typed p t (ExprData.unary op a.expr) ≡ r = ok_is _ _ _ refl rest in (unary_stands op a r.ty (e ∙ ap (λ v. Ok (v.ty)) same), ap (λ v. v.expr) (sym same))) k
  applied_stands (unary op) (a ∷ b ∷ es) r n k = absurd (cc)
  applied_stands (binary op) [] r n k = absurd (cc)
  applied_stands (binary op) (a ∷ []) r n k = absurd (cc)
  applied_stands (binary op) (a ∷ b ∷ []) r n k =
      bound (binary_type op a b) (λ t. Ok (typed p t (ExprData.binary op a.expr b.expr))) r _
      (λ t e rest. let same : typed p t (ExprData.binary op a.expr b.expr) ≡ r = ok_is _ _ _ refl rest in (binary_stands op a b r.ty (e ∙ ap (λ v. Ok (v.ty)) same), ap (λ v. v.expr) (sym same))) k
  applied_stands (binary op) (a ∷ b ∷ c ∷ es) r n k = absurd (cc)
  applied_stands (maker i m) es r n k =
      followed (have_types (fields_of h i m) es) (Ok (typed p (made_type i) (ExprData.making i m (exprs_of (plain es))))) r _
      (λ x e rest. let same : typed p (made_type i) (ExprData.making i m (exprs_of (plain es))) ≡ r = ok_is _ _ _ refl rest in
      ((all_have es (fields_of h i m) x n e, ap (λ v. v.ty) (sym same)), ap (λ v. v.expr) (sym same))) k
  applied_stands (function f) es r n k =
      followed (have_types (types_of (function_of h f).params) es) (Ok (typed p (function_of h f).result (ExprData.call f (exprs_of (plain es))))) r _
      (λ x e rest. let same : typed p (function_of h f).result (ExprData.call f (exprs_of (plain es))) ≡ r = ok_is _ _ _ refl rest in
      ((all_have es (types_of (function_of h f).params) x (n ∙ sym (length-map (function_of h f).params (λ v. v.ty))) e, ap (λ v. v.ty) (sym same)), ap (λ v. v.expr) (sym same))) k

  made : (t u : TypeData) (e f : ExprData) → t ≡ u → e ≡ f → ◌≡◌ {A = Checked Typed} (Ok (typed p u f)) (Ok (typed p t e))
  made t u e f is are = λ i. Ok (typed p (sym is i) (sym are i))

  pub applied_given : (op : Operator) (es : List Typed) (t : TypeData) (e : ExprData) → OperatorTypes h op (types_in es) t → IsApplied op (plain es) e → applied h p op es ≡ Ok (typed p t e)
  applied_given choice [] t e k is = absurd k
  applied_given choice (c ∷ []) t e k is = absurd k
  applied_given choice (c ∷ a ∷ []) t e k is = absurd k
  applied_given choice (c ∷ a ∷ b ∷ []) t e (k, l, m) is =
      next_after (has_type bool_type c) (has_type a.ty b >> Ok (typed p a.ty (ExprData.choice c.expr a.expr b.expr))) tt _ (given bool_type c (sym k))
      (next_after (has_type a.ty b) (Ok (typed p a.ty (ExprData.choice c.expr a.expr b.expr))) tt _ (given a.ty b (l ∙ sym m)) (made t a.ty e _ (sym l) is))
  applied_given choice (c ∷ a ∷ b ∷ x ∷ es) t e k is = absurd k
  applied_given (unary op) [] t e k is = absurd k
  applied_given (unary op) (a ∷ []) t e k is = after (unary_type op a) (λ t. Ok (typed p t (ExprData.unary op a.expr))) t _ (unary_given op a t k) (made t t e _ refl is)
  applied_given (unary op) (a ∷ b ∷ es) t e k is = absurd k
  applied_given (binary op) [] t e k is = absurd k
  applied_given (binary op) (a ∷ []) t e k is = absurd k
  applied_given (binary op) (a ∷ b ∷ []) t e k is = after (binary_type op a b) (λ t. Ok (typed p t (ExprData.binary op a.expr b.expr))) t _ (binary_given op a b t k) (made t t e _ refl is)
  applied_given (binary op) (a ∷ b ∷ c ∷ es) t e k is = absurd k
  applied_given (maker i m) es t e (k, l) is =
      next_after (have_types (fields_of h i m) es) (Ok (typed p (made_type i) (ExprData.making i m (exprs_of (plain es))))) tt _ (all_given es (fields_of h i m) k) (made t _ e _ l is)
  applied_given (function f) es t e (k, l) is =
      next_after (have_types (types_of (function_of h f).params) es) (Ok (typed p (function_of h f).result (ExprData.call f (exprs_of (plain es))))) tt _ (all_given es (types_of (function_of h f).params) k)
      (made t _ e _ l is)

  pub types_fit : (op : Operator) (ts : List TypeData) (t : TypeData) → OperatorTypes h op ts t → length ts ≡ arity h op
  types_fit choice [] t k = absurd k
  types_fit choice (c ∷ []) t k = absurd k
  types_fit choice (c ∷ a ∷ []) t k = absurd k
  types_fit choice (c ∷ a ∷ b ∷ []) t k = refl
  types_fit choice (c ∷ a ∷ b ∷ x ∷ es) t k = absurd k
  types_fit (unary op) [] t k = absurd k
  types_fit (unary op) (a ∷ []) t k = refl
  types_fit (unary op) (a ∷ b ∷ es) t k = absurd k
  types_fit (binary op) [] t k = absurd k
  types_fit (binary op) (a ∷ []) t k = absurd k
  types_fit (binary op) (a ∷ b ∷ []) t k = refl
  types_fit (binary op) (a ∷ b ∷ c ∷ es) t k = absurd k
  types_fit (maker i m) ts t k = ap length k.0
  types_fit (function f) ts t k = ap length k.0 ∙ length-map (function_of h f).params (λ v. v.ty)
