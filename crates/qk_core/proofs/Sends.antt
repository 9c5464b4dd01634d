-- A checked program may be sent to other threads and shared with them. One search over all of it would break off, so it goes field by field.
use Rattle.std.proofs.Crossing.{crosses}
use denote.Param.Send.{IsSend, IsSync, sendable, view_send, view_sync}
use denote.Param.SendFields.{declared_send, declared_sync}
use Rattle.qk_value.proofs.ty.Ty.TheLaws.TheKnot as types
use Rattle.qk_core.proofs.expr.Expr.TheLaws.TheKnot as exprs
use Rattle.qk_core.proofs.gen_expr.GenExpr.TheLaws.TheKnot as gens
use Rattle.qk_core.specs.contracts.checked.Core as core
use Rattle.qk_core.specs.contracts.checked.Core.TheInside as core_inside
use Rattle.qk_core.specs.contracts.property.Property as property
use Rattle.qk_core.specs.contracts.property.Property.TheInside as property_inside
use Rattle.qk_core.specs.declared.checked.Core.{Core, the_code}
use Rattle.qk_core.specs.declared.checked.Core.TheView.{view, invariant}
use Rattle.qk_core.specs.declared.property.Property as properties
use Rattle.qk_core.specs.declared.property.Property.TheView as seen

ruleset crossing = (crosses, exprs.crosses, gens.crosses, types.crosses, sendable)

property_fields_send : IsSend property_inside.the_row
property_fields_send =
    declared_send property_inside.the_type (
      search crossing depth 60 fits 20000,
      (search crossing depth 60 fits 20000, (search crossing depth 60 fits 20000, (search crossing depth 60 fits 20000, (search crossing depth 60 fits 20000, tt)))),
    )

property_fields_sync : IsSync property_inside.the_row
property_fields_sync =
    declared_sync property_inside.the_type (
      search crossing depth 60 fits 20000,
      (search crossing depth 60 fits 20000, (search crossing depth 60 fits 20000, (search crossing depth 60 fits 20000, (search crossing depth 60 fits 20000, tt)))),
    )

pub property_send : IsSend property.the_row
property_send = view_send property_inside.the_row properties.Property properties.the_code seen.view seen.invariant property_fields_send

pub property_sync : IsSync property.the_row
property_sync = view_sync property_inside.the_row properties.Property properties.the_code seen.view seen.invariant property_fields_sync

fields_send : IsSend core_inside.the_row
fields_send =
    declared_send core_inside.the_type (
      search crossing depth 60 fits 20000,
      (search crossing depth 60 fits 20000, (search crossing depth 60 fits 20000, (search crossing depth 60 fits 20000, (search (property_send, crosses, sendable) depth 60 fits 20000, tt)))),
    )

fields_sync : IsSync core_inside.the_row
fields_sync =
    declared_sync core_inside.the_type (
      search crossing depth 60 fits 20000,
      (search crossing depth 60 fits 20000, (search crossing depth 60 fits 20000, (search crossing depth 60 fits 20000, (search (property_sync, crosses, sendable) depth 60 fits 20000, tt)))),
    )

pub core_send : IsSend core.the_row
core_send = view_send core_inside.the_row Core the_code view invariant fields_send

pub core_sync : IsSync core.the_row
core_sync = view_sync core_inside.the_row Core the_code view invariant fields_sync
