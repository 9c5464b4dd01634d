-- The counts of values may be shared with other threads.
use Rattle.std.proofs.Crossing.{crosses}
use denote.Param.Send.{IsSync, sendable}
use denote.Param.SendFields.{declared_sync}
use denote.Ref.{NamedLft}
use Rattle.qk_value.proofs.ty.Ty.TheLaws.TheKnot as types
use Rattle.qk_series.specs.contracts.counts.Counts

module _ (a : NamedLft) where
  pub counts_sync : IsSync (Counts.the_row a)
  counts_sync = declared_sync (Counts.the_type a) (search (types.crosses, crosses, sendable) depth 60 fits 20000, (search (crosses, sendable) depth 60 fits 20000, tt))
