-- Generators as trees of numbers, by which what holds them can be told apart.
use Rattle.std.specs.Prelude.{◌≡◌, ℕ, false, nat_eq, List, refl}
use Rattle.std.proofs.Common.{ap, arith}
use base.Stored.{Coded, Gv, gnil, gnum, gcons, coded_list}
use Rattle.qk_value.specs.Code.{first, second, same_number}
use Rattle.qk_core.specs.ExprCode.{expr_code}
use Rattle.qk_core.specs.ExprData.{ExprData}
use Rattle.qk_core.specs.GenData.{GenData, any_number, any_truth, size, choose, list, vector, pair, elements, one_of, frequency, resize, bind, pure, making, call, GensData, end, more, WeightedsData, no_weighted, more_weighted}

unlike : (m n : ℕ) → gnum m ≡ gnum n → nat_eq m n ≡ false → ⊥
unlike m n e apart = let same : m ≡ n = same_number m n e in grind arith

abbrev pub exprs_code : Coded (List ExprData)
exprs_code = coded_list expr_code

abbrev mutual
  pub gen_tree : GenData → Gv
  gen_tree any_number = gcons (gnum 0) gnil
  gen_tree any_truth = gcons (gnum 1) gnil
  gen_tree size = gcons (gnum 2) gnil
  gen_tree (choose lo hi) = gcons (gnum 3) (gcons (expr_code.code lo) (expr_code.code hi))
  gen_tree (list g) = gcons (gnum 4) (gen_tree g)
  gen_tree (vector e g) = gcons (gnum 5) (gcons (expr_code.code e) (gen_tree g))
  gen_tree (pair g h) = gcons (gnum 6) (gcons (gen_tree g) (gen_tree h))
  gen_tree (elements es) = gcons (gnum 7) (exprs_code.code es)
  gen_tree (one_of gs) = gcons (gnum 8) (gens_tree gs)
  gen_tree (frequency parts) = gcons (gnum 9) (weighteds_tree parts)
  gen_tree (resize e g) = gcons (gnum 10) (gcons (expr_code.code e) (gen_tree g))
  gen_tree (bind g h) = gcons (gnum 11) (gcons (gen_tree g) (gen_tree h))
  gen_tree (pure e) = gcons (gnum 12) (expr_code.code e)
  gen_tree (making k m gs) = gcons (gnum 13) (gcons (gnum k) (gcons (gnum m) (gens_tree gs)))
  gen_tree (call f es) = gcons (gnum 14) (gcons (gnum f) (exprs_code.code es))

  pub gens_tree : GensData → Gv
  gens_tree end = gnil
  gens_tree (more g gs) = gcons (gen_tree g) (gens_tree gs)

  pub weighteds_tree : WeightedsData → Gv
  weighteds_tree no_weighted = gnil
  weighteds_tree (more_weighted w g parts) = gcons (gnum w) (gcons (gen_tree g) (weighteds_tree parts))

mutual
  pub gen_tells : (g h : GenData) → gen_tree g ≡ gen_tree h → g ≡ h
  gen_tells any_number any_number e = refl
  gen_tells any_truth any_truth e = refl
  gen_tells size size e = refl
  gen_tells (choose a b) (choose c d) e =
      let parts = ap second e in λ i. choose (expr_code.inj a c (ap first parts) i) (expr_code.inj b d (ap second parts) i)
  gen_tells (list g) (list h) e = ap list (gen_tells g h (ap second e))
  gen_tells (vector a g) (vector b h) e =
      let parts = ap second e in λ i. vector (expr_code.inj a b (ap first parts) i) (gen_tells g h (ap second parts) i)
  gen_tells (pair f g) (pair h k) e =
      let parts = ap second e in λ i. pair (gen_tells f h (ap first parts) i) (gen_tells g k (ap second parts) i)
  gen_tells (elements xs) (elements ys) e = ap elements (exprs_code.inj xs ys (ap second e))
  gen_tells (one_of gs) (one_of hs) e = ap one_of (gens_tell gs hs (ap second e))
  gen_tells (frequency ps) (frequency qs) e = ap frequency (weighteds_tell ps qs (ap second e))
  gen_tells (resize a g) (resize b h) e =
      let parts = ap second e in λ i. resize (expr_code.inj a b (ap first parts) i) (gen_tells g h (ap second parts) i)
  gen_tells (bind f g) (bind h k) e =
      let parts = ap second e in λ i. bind (gen_tells f h (ap first parts) i) (gen_tells g k (ap second parts) i)
  gen_tells (pure a) (pure b) e = ap pure (expr_code.inj a b (ap second e))
  gen_tells (making k m gs) (making l n hs) e =
      let parts = ap second e in
      let others = ap second parts in
      λ i. making (same_number k l (ap first parts) i) (same_number m n (ap first others) i) (gens_tell gs hs (ap second others) i)
  gen_tells (call f xs) (call g ys) e =
      let parts = ap second e in λ i. call (same_number f g (ap first parts) i) (exprs_code.inj xs ys (ap second parts) i)
  gen_tells g h e = absurd (unlike _ _ (ap first e) refl)

  pub gens_tell : (gs hs : GensData) → gens_tree gs ≡ gens_tree hs → gs ≡ hs
  gens_tell end end e = refl
  gens_tell (more g gs) (more h hs) e = λ i. more (gen_tells g h (ap first e) i) (gens_tell gs hs (ap second e) i)
  gens_tell gs hs e = cc

  pub weighteds_tell : (ps qs : WeightedsData) → weighteds_tree ps ≡ weighteds_tree qs → ps ≡ qs
  weighteds_tell no_weighted no_weighted e = refl
  weighteds_tell (more_weighted w g ps) (more_weighted v h qs) e =
      let others = ap second e in
      λ i. more_weighted (same_number w v (ap first e) i) (gen_tells g h (ap first others) i) (weighteds_tell ps qs (ap second others) i)
  weighteds_tell ps qs e = cc

abbrev pub gen_code : Coded GenData
gen_code = record { code = gen_tree; inj = gen_tells }
