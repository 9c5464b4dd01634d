-- The steps that are left lead where all steps lead.
use Rattle.std.proofs.Common.{◌≡◌, drop}
use Rattle.qk_property.specs.Points.{children_at, fails_at, IsSmallPoint}
use Rattle.qk_property.specs.Replayed.{followed}
use Rattle.qk_property.proofs.replaying.follow.Given as goal

abbrev pub invariant-loop-i : goal.invariant-loop-i
invariant-loop-i l =
    let children = children_at l.family.core.now l.family.property.now l.family.fuel in
    let failing = fails_at l.family.core.now l.family.property.now l.family.fuel in
    record {
      left : followed children failing l.point (drop l.i l.path) ≡ followed children failing l.fn.start l.path;
      small : IsSmallPoint l.point;
    }
