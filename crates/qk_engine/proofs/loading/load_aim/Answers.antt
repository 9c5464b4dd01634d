use Rattle.std.proofs.Common.{ap}
use Rattle.qk_words.specs.SettingsData.{aim_in}
use Rattle.qk_engine.proofs.Replies.{whole_names, replayed_names}
use Rattle.qk_engine.proofs.loading.load_aim.Goals as goal

pub returns-in-File-clause-unread : goal.returns-in-File-clause-unread
returns-in-File-clause-unread g c none = absurd (none c.in-File.file.now (whole_names (aim_in c.args.aim.now) c.in-File.file.now (ap aim_in c.in-File.is)))

pub returns-in-Replay-clause-unread : goal.returns-in-Replay-clause-unread
returns-in-Replay-clause-unread g c none = absurd (none c.in-Replay.file.now (replayed_names (aim_in c.args.aim.now) _ c.in-Replay.file.now (ap aim_in c.in-Replay.is)))
