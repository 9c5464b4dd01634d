-- Expressions as trees of numbers, by which what holds them can be told apart.
use Rattle.std.specs.Prelude.{◌≡◌, ℕ, refl}
use Rattle.std.proofs.Common.{ap}
use base.Stored.{Coded, Gv, gnil, gnum, gcons, coded_bool, coded_ℤ}
use Rattle.qk_value.specs.Code.{first, second, same_number, type_code}
use Rattle.qk_core.specs.ExprData.{ExprData, number, truth, variable, empty, choice, binding, unary, binary, matching, making, call, ExprsData, end, more, CasesData, no_case, more_cases}
use Rattle.qk_core.specs.declared.expr.Op1.{Op1}
use Rattle.qk_core.specs.declared.expr.Op1.TheVariants as ones
use Rattle.qk_core.specs.declared.expr.Op2.{Op2}
use Rattle.qk_core.specs.declared.expr.Op2.TheVariants as twos
use Rattle.qk_core.specs.declared.expr.Pattern.{Pattern}
use Rattle.qk_core.specs.declared.expr.Pattern.TheVariants as patterns

abbrev pub op1_number : Op1 → ℕ
op1_number ones.Neg = 0
op1_number ones.Not = 1
op1_number ones.Length = 2

op1_tells : (a b : Op1) → gnum (op1_number a) ≡ gnum (op1_number b) → a ≡ b
op1_tells ones.Neg ones.Neg e = refl
op1_tells ones.Not ones.Not e = refl
op1_tells ones.Length ones.Length e = refl
op1_tells a b e = cc

abbrev pub op2_number : Op2 → ℕ
op2_number twos.Add = 0
op2_number twos.Sub = 1
op2_number twos.Mul = 2
op2_number twos.Div = 3
op2_number twos.Mod = 4
op2_number twos.Equal = 5
op2_number twos.Less = 6
op2_number twos.AtMost = 7
op2_number twos.And = 8
op2_number twos.Or = 9
op2_number twos.Cons = 10
op2_number twos.Append = 11
op2_number twos.Pair = 12

op2_tells : (a b : Op2) → gnum (op2_number a) ≡ gnum (op2_number b) → a ≡ b
op2_tells twos.Add twos.Add e = refl
op2_tells twos.Sub twos.Sub e = refl
op2_tells twos.Mul twos.Mul e = refl
op2_tells twos.Div twos.Div e = refl
op2_tells twos.Mod twos.Mod e = refl
op2_tells twos.Equal twos.Equal e = refl
op2_tells twos.Less twos.Less e = refl
op2_tells twos.AtMost twos.AtMost e = refl
op2_tells twos.And twos.And e = refl
op2_tells twos.Or twos.Or e = refl
op2_tells twos.Cons twos.Cons e = refl
op2_tells twos.Append twos.Append e = refl
op2_tells twos.Pair twos.Pair e = refl
op2_tells a b e = cc

abbrev pub pattern_tree : Pattern → Gv
pattern_tree patterns.Nil = gnum 0
pattern_tree patterns.Cons = gnum 1
pattern_tree patterns.Pair = gnum 2
pattern_tree (patterns.Maker k m) = gcons (gnum k) (gnum m)

pattern_tells : (p q : Pattern) → pattern_tree p ≡ pattern_tree q → p ≡ q
pattern_tells patterns.Nil patterns.Nil e = refl
pattern_tells patterns.Cons patterns.Cons e = refl
pattern_tells patterns.Pair patterns.Pair e = refl
pattern_tells (patterns.Maker k m) (patterns.Maker l n) e = λ i. patterns.Maker (same_number k l (ap first e) i) (same_number m n (ap second e) i)
pattern_tells p q e = cc

abbrev mutual
  pub expr_tree : ExprData → Gv
  expr_tree (number n) = gcons (gnum 0) (coded_ℤ.code n)
  expr_tree (truth b) = gcons (gnum 1) (coded_bool.code b)
  expr_tree (variable x) = gcons (gnum 2) (gnum x)
  expr_tree (empty t) = gcons (gnum 3) (type_code.code t)
  expr_tree (choice c a b) = gcons (gnum 4) (gcons (expr_tree c) (gcons (expr_tree a) (expr_tree b)))
  expr_tree (binding a b) = gcons (gnum 5) (gcons (expr_tree a) (expr_tree b))
  expr_tree (unary op a) = gcons (gnum 6) (gcons (gnum (op1_number op)) (expr_tree a))
  expr_tree (binary op a b) = gcons (gnum 7) (gcons (gnum (op2_number op)) (gcons (expr_tree a) (expr_tree b)))
  expr_tree (matching a cases) = gcons (gnum 8) (gcons (expr_tree a) (cases_tree cases))
  expr_tree (making k m parts) = gcons (gnum 9) (gcons (gnum k) (gcons (gnum m) (exprs_tree parts)))
  expr_tree (call f args) = gcons (gnum 10) (gcons (gnum f) (exprs_tree args))

  pub exprs_tree : ExprsData → Gv
  exprs_tree end = gnil
  exprs_tree (more e es) = gcons (expr_tree e) (exprs_tree es)

  pub cases_tree : CasesData → Gv
  cases_tree no_case = gnil
  cases_tree (more_cases p e cases) = gcons (pattern_tree p) (gcons (expr_tree e) (cases_tree cases))

mutual
  pub expr_tells : (a b : ExprData) → expr_tree a ≡ expr_tree b → a ≡ b
  expr_tells (number m) (number n) e = ap number (coded_ℤ.inj m n (ap second e))
  expr_tells (truth b) (truth c) e = ap truth (coded_bool.inj b c (ap second e))
  expr_tells (variable x) (variable y) e = ap variable (same_number x y (ap second e))
  expr_tells (empty t) (empty u) e = ap empty (type_code.inj t u (ap second e))
  expr_tells (choice a b c) (choice d f g) e =
      let parts = ap second e in
      let both = ap second parts in
      λ i. choice (expr_tells a d (ap first parts) i) (expr_tells b f (ap first both) i) (expr_tells c g (ap second both) i)
  expr_tells (binding a b) (binding c d) e =
      let parts = ap second e in λ i. binding (expr_tells a c (ap first parts) i) (expr_tells b d (ap second parts) i)
  expr_tells (unary o a) (unary p b) e =
      let parts = ap second e in λ i. unary (op1_tells o p (ap first parts) i) (expr_tells a b (ap second parts) i)
  expr_tells (binary o a b) (binary p c d) e =
      let parts = ap second e in
      let both = ap second parts in
      λ i. binary (op2_tells o p (ap first parts) i) (expr_tells a c (ap first both) i) (expr_tells b d (ap second both) i)
  expr_tells (matching a cs) (matching b ds) e =
      let parts = ap second e in λ i. matching (expr_tells a b (ap first parts) i) (cases_tell cs ds (ap second parts) i)
  expr_tells (making k m cs) (making l n bs) e =
      let parts = ap second e in
      let others = ap second parts in
      λ i. making (same_number k l (ap first parts) i) (same_number m n (ap first others) i) (exprs_tell cs bs (ap second others) i)
  expr_tells (call f cs) (call g bs) e =
      let parts = ap second e in λ i. call (same_number f g (ap first parts) i) (exprs_tell cs bs (ap second parts) i)
  expr_tells a b e = cc

  pub exprs_tell : (es fs : ExprsData) → exprs_tree es ≡ exprs_tree fs → es ≡ fs
  exprs_tell end end e = refl
  exprs_tell (more a cs) (more b bs) e = λ i. more (expr_tells a b (ap first e) i) (exprs_tell cs bs (ap second e) i)
  exprs_tell es fs e = cc

  pub cases_tell : (cs ds : CasesData) → cases_tree cs ≡ cases_tree ds → cs ≡ ds
  cases_tell no_case no_case e = refl
  cases_tell (more_cases p a cs) (more_cases q b ds) e =
      let others = ap second e in
      λ i. more_cases (pattern_tells p q (ap first e) i) (expr_tells a b (ap first others) i) (cases_tell cs ds (ap second others) i)
  cases_tell cs ds e = cc

abbrev pub expr_code : Coded ExprData
expr_code = record { code = expr_tree; inj = expr_tells }
