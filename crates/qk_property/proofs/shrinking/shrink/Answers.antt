use Rattle.std.proofs.Crossing.{crosses}
use denote.Param.Send.{sendable}
use Rattle.qk_core.proofs.Sends.{core_sync, property_sync}
use Rattle.qk_property.proofs.Sends.{spread_send, spread_sync}
use Rattle.qk_property.proofs.shrinking.shrink.Goals as goal

pub greedy-requires-sync-F : goal.greedy-requires-sync-F
greedy-requires-sync-F g c κs within = search (core_sync, property_sync, crosses, sendable) depth 60 fits 20000

pub greedy-requires-send-F-Spread : goal.greedy-requires-send-F-Spread
greedy-requires-send-F-Spread g c κs within = search (spread_send, sendable)

pub greedy-requires-sync-F-Spread : goal.greedy-requires-sync-F-Spread
greedy-requires-sync-F-Spread g c κs within = search (spread_sync, sendable)

pub descend-requires-sync-F : goal.descend-requires-sync-F
descend-requires-sync-F g c κs within = search (core_sync, property_sync, crosses, sendable) depth 60 fits 20000

pub descend-requires-send-F-Spread : goal.descend-requires-send-F-Spread
descend-requires-send-F-Spread g c κs within = search (spread_send, sendable)

pub descend-requires-sync-F-Spread : goal.descend-requires-sync-F-Spread
descend-requires-sync-F-Spread g c κs within = search (spread_sync, sendable)
