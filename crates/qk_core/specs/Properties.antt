-- Properties as plain data.
use Rattle.std.specs.Prelude.{◌≡◌, ℕ, List, refl}
use Rattle.std.proofs.Common.{ap}
use base.Stored.{Coded, Gv, gnum, gcons, coded×, coded_list, coded_ℕ, coded_via}
use Rattle.qk_value.specs.Code.{first, second, same_number, type_code}
use Rattle.qk_value.specs.Types.{TypeData}
use Rattle.qk_core.specs.ExprCode.{expr_code}
use Rattle.qk_core.specs.ExprData.{ExprData}
use Rattle.qk_core.specs.GenCode.{exprs_code, gen_code}
use Rattle.qk_core.specs.GenData.{GenData}
use Rattle.qk_core.specs.declared.property.ShrinkBy.{ShrinkBy}
use Rattle.qk_core.specs.declared.property.ShrinkBy.TheVariants as shrinks

pub data DrawData : Type 0 where
  plain : GenData → DrawData
  commands : ℕ → DrawData

pub data CheckData : Type 0 where
  expression : ExprData → CheckData
  runs : ℕ → CheckData

pub data MarkData : Type 0 where
  label : List ℕ → MarkData
  collect : ExprData → MarkData
  classify : ExprData → List ℕ → MarkData
  tabulate : List ℕ → ExprData → MarkData
  cover : ℕ → ExprData → List ℕ → MarkData

pub record BinderData : Type 0 where
  pub name : List ℕ
  pub ty : TypeData
  pub draw : DrawData
  pub shrink : ShrinkBy

pub record PropertyData : Type 0 where
  pub name : List ℕ
  pub binders : List BinderData
  pub givens : List ExprData
  pub check : CheckData
  pub marks : List MarkData

abbrev pub name_code : Coded (List ℕ)
name_code = coded_list coded_ℕ

abbrev pub draw_tree : DrawData → Gv
draw_tree (plain g) = gcons (gnum 0) (gen_code.code g)
draw_tree (commands m) = gcons (gnum 1) (gnum m)

pub draw_tells : (a b : DrawData) → draw_tree a ≡ draw_tree b → a ≡ b
draw_tells (plain g) (plain h) e = ap plain (gen_code.inj g h (ap second e))
draw_tells (commands m) (commands n) e = ap commands (same_number m n (ap second e))
draw_tells a b e = cc

abbrev pub draw_code : Coded DrawData
draw_code = record { code = draw_tree; inj = draw_tells }

abbrev pub shrink_tree : ShrinkBy → Gv
shrink_tree shrinks.Builtin = gnum 0
shrink_tree (shrinks.Function f) = gcons (gnum 1) (gnum f)
shrink_tree shrinks.Nothing = gnum 2

pub shrink_tells : (a b : ShrinkBy) → shrink_tree a ≡ shrink_tree b → a ≡ b
shrink_tells shrinks.Builtin shrinks.Builtin e = refl
shrink_tells (shrinks.Function f) (shrinks.Function g) e = ap shrinks.Function (same_number f g (ap second e))
shrink_tells shrinks.Nothing shrinks.Nothing e = refl
shrink_tells a b e = cc

abbrev pub shrink_code : Coded ShrinkBy
shrink_code = record { code = shrink_tree; inj = shrink_tells }

abbrev pub check_tree : CheckData → Gv
check_tree (expression x) = gcons (gnum 0) (expr_code.code x)
check_tree (runs binder) = gcons (gnum 1) (gnum binder)

pub check_tells : (a b : CheckData) → check_tree a ≡ check_tree b → a ≡ b
check_tells (expression x) (expression y) e = ap expression (expr_code.inj x y (ap second e))
check_tells (runs m) (runs n) e = ap runs (same_number m n (ap second e))
check_tells a b e = cc

abbrev pub check_code : Coded CheckData
check_code = record { code = check_tree; inj = check_tells }

abbrev pub mark_tree : MarkData → Gv
mark_tree (label name) = gcons (gnum 0) (name_code.code name)
mark_tree (collect x) = gcons (gnum 1) (expr_code.code x)
mark_tree (classify x name) = gcons (gnum 2) (gcons (expr_code.code x) (name_code.code name))
mark_tree (tabulate name x) = gcons (gnum 3) (gcons (name_code.code name) (expr_code.code x))
mark_tree (cover percent x name) = gcons (gnum 4) (gcons (gnum percent) (gcons (expr_code.code x) (name_code.code name)))

pub mark_tells : (a b : MarkData) → mark_tree a ≡ mark_tree b → a ≡ b
mark_tells (label m) (label n) e = ap label (name_code.inj m n (ap second e))
mark_tells (collect x) (collect y) e = ap collect (expr_code.inj x y (ap second e))
mark_tells (classify x m) (classify y n) e =
    let parts = ap second e in λ i. classify (expr_code.inj x y (ap first parts) i) (name_code.inj m n (ap second parts) i)
mark_tells (tabulate m x) (tabulate n y) e =
    let parts = ap second e in λ i. tabulate (name_code.inj m n (ap first parts) i) (expr_code.inj x y (ap second parts) i)
mark_tells (cover p x m) (cover q y n) e =
    let parts = ap second e in
    let others = ap second parts in
    λ i. cover (same_number p q (ap first parts) i) (expr_code.inj x y (ap first others) i) (name_code.inj m n (ap second others) i)
mark_tells a b e = cc

abbrev pub mark_code : Coded MarkData
mark_code = record { code = mark_tree; inj = mark_tells }

abbrev pub binder_code : Coded BinderData
binder_code =
    coded_via (coded× (coded× name_code type_code) (coded× draw_code shrink_code)) (λ b. ((b.name, b.ty), (b.draw, b.shrink)))
    (λ a b e i. record { name = (e i).0.0; ty = (e i).0.1; draw = (e i).1.0; shrink = (e i).1.1 })

abbrev pub property_code : Coded PropertyData
property_code =
    coded_via (coded× (coded× name_code (coded_list binder_code)) (coded× exprs_code (coded× check_code (coded_list mark_code))))
    (λ p. ((p.name, p.binders), (p.givens, (p.check, p.marks))))
    (λ a b e i. record { name = (e i).0.0; binders = (e i).0.1; givens = (e i).1.0; check = (e i).1.1.0; marks = (e i).1.1.1 })
