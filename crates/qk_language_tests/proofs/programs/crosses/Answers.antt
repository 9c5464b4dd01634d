use denote.Param.Send.{sendable}
use Rattle.qk_core.proofs.Sends.{core_send, core_sync}
use Rattle.qk_language_tests.proofs.programs.crosses.Goals as goal

pub shared-requires-send-T : goal.shared-requires-send-T
shared-requires-send-T c κs = search (core_send, sendable) depth 20

pub shared-requires-sync-T : goal.shared-requires-sync-T
shared-requires-sync-T c κs = search (core_sync, sendable) depth 20
