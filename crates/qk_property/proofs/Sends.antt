-- What is prepared of a point may be sent to other threads and shared with them. One search over all of it would break off, so it goes
-- field by field.
use Rattle.std.proofs.Crossing.{crosses}
use denote.Param.Send.{IsSend, IsSync, sendable}
use denote.Param.SendFields.{declared_send, declared_sync}
use denote.Ref.{NamedLft}
use Rattle.qk_eval.proofs.shared.Shared.TheLaws.TheKnot as shared
use Rattle.qk_value.proofs.ty.Ty.TheLaws.TheKnot as types
use Rattle.qk_property.specs.contracts.family.PointSpread

module _ (a : NamedLft) where
  pub spread_send : IsSend (PointSpread.the_row a)
  spread_send =
      declared_send (PointSpread.the_type a) (
        search (shared.crosses, crosses, sendable) depth 60 fits 20000,
        (search (types.crosses, shared.crosses, crosses, sendable) depth 60 fits 20000, tt),
      )

  pub spread_sync : IsSync (PointSpread.the_row a)
  spread_sync =
      declared_sync (PointSpread.the_type a) (
        search (shared.crosses, crosses, sendable) depth 60 fits 20000,
        (search (types.crosses, shared.crosses, crosses, sendable) depth 60 fits 20000, tt),
      )
