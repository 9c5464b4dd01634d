-- The candidates of a point of a family are points of it.
use Rattle.std.specs.Prelude.{◌≡◌, ℕ, All, List, [], map, Option, Some, None}
use Rattle.std.proofs.lemmas.List.Elements.{All-nil, All-map}
use Rattle.qk_base.specs.declared.outcome.Cause.{Cause}
use Rattle.qk_command.specs.Drawing.{DrawnValues}
use Rattle.qk_core.specs.Program.{ProgramData}
use Rattle.qk_core.specs.Properties.{PropertyData}
use Rattle.qk_eval.specs.Answers.{AreSmall}
use Rattle.qk_shrink.specs.Tuples.{candidates}
use Rattle.qk_shrink.proofs.TupleLaws.{candidates_small}
use Rattle.qk_value.specs.Data.{Data}
use Rattle.qk_property.specs.Points.{with_values, children_at, IsSmallPoint}

of_crash : (c : ProgramData) (p : PropertyData) (fuel : ℕ) (xs : List Data) (crash : Option Cause) → AreSmall xs → All IsSmallPoint (children_at c p fuel (record { values = xs; crash = crash }))
of_crash c p fuel xs None small = All-map IsSmallPoint with_values (candidates c p.binders xs fuel) (candidates_small c p.binders xs fuel small)
of_crash c p fuel xs (Some cause) small = All-nil IsSmallPoint

pub children_are_small : (c : ProgramData) (p : PropertyData) (fuel : ℕ) (point : DrawnValues) → IsSmallPoint point → All IsSmallPoint (children_at c p fuel point)
children_are_small c p fuel point small = of_crash c p fuel point.values point.crash small
