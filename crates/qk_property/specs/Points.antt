-- The points that a shrink of a property goes through: values of its binders with an optional crash of the drawing.
use Rattle.std.specs.Prelude.{◌≡◌, ℕ, Bool, List, [], map, Option, Some, None, refl}
use Rattle.std.specs.Option.{is_some}
use Rattle.std.proofs.Common.{ap}
use Rattle.std.specs.Coded.{coded_option}
use base.Stored.{Coded, Gv, gnum, coded×, coded_list, coded_via}
use Rattle.qk_base.specs.Judged.{cause_of}
use Rattle.qk_base.specs.declared.outcome.Cause.{Cause}
use Rattle.qk_base.specs.declared.outcome.Cause.TheVariants as causes
use Rattle.qk_command.specs.Attempt.{judged_drawn}
use Rattle.qk_command.specs.Drawing.{DrawnValues}
use Rattle.qk_core.specs.Program.{ProgramData}
use Rattle.qk_core.specs.Properties.{PropertyData}
use Rattle.qk_eval.specs.Answers.{AreSmall}
use Rattle.qk_shrink.specs.Tuples.{candidates}
use Rattle.qk_value.specs.Code.{data_code}
use Rattle.qk_value.specs.Data.{Data}

-- a point without a crash
abbrev pub with_values : List Data → DrawnValues
with_values xs = record { values = xs; crash = None }

-- a point is judged as an attempt that drew it, with so many units of fuel; this is why it fails, if it does
abbrev pub cause_at : ProgramData → PropertyData → ℕ → DrawnValues → Option Cause
cause_at c p fuel point = cause_of (judged_drawn c p fuel point).verdict

abbrev pub fails_at : ProgramData → PropertyData → ℕ → DrawnValues → Bool
fails_at c p fuel point = is_some (cause_at c p fuel point)

-- where a binder was not drawn there are no candidates
abbrev pub children_at : ProgramData → PropertyData → ℕ → DrawnValues → List DrawnValues
children_at c p fuel point = elim point.crash [ None ↦ map with_values (candidates c p.binders point.values fuel) | Some cause ↦ [] ]

-- the points of a family: each value is small
abbrev pub IsSmallPoint : DrawnValues → Type 0
IsSmallPoint point = AreSmall point.values

abbrev pub IsSmallOr : Option DrawnValues → Type 0
IsSmallOr None = Unit {0}
IsSmallOr (Some point) = IsSmallPoint point

-- a cause is stored as its number
abbrev pub cause_tree : Cause → Gv
cause_tree causes.False = gnum 0
cause_tree causes.Overflow = gnum 1
cause_tree causes.DivZero = gnum 2
cause_tree causes.Fuel = gnum 3
cause_tree causes.Weight = gnum 4
cause_tree causes.Depth = gnum 5
cause_tree causes.Post = gnum 6

pub cause_tells : (a b : Cause) → cause_tree a ≡ cause_tree b → a ≡ b
cause_tells causes.False causes.False e = refl
cause_tells causes.Overflow causes.Overflow e = refl
cause_tells causes.DivZero causes.DivZero e = refl
cause_tells causes.Fuel causes.Fuel e = refl
cause_tells causes.Weight causes.Weight e = refl
cause_tells causes.Depth causes.Depth e = refl
cause_tells causes.Post causes.Post e = refl
cause_tells a b e = cc

abbrev pub cause_code : Coded Cause
cause_code = record { code = cause_tree; inj = cause_tells }

abbrev pub point_code : Coded DrawnValues
point_code = coded_via (coded× (coded_list data_code) (coded_option cause_code)) (λ p. (p.values, p.crash)) (λ a b e i. record { values = (e i).0; crash = (e i).1 })
