use Rattle.std.proofs.Common.{List, ℕ, subst}
use Rattle.qk_file.specs.Files.{FileReply}
use Rattle.qk_engine.specs.Reply.{program_reply}
use Rattle.qk_engine.specs.Settings.{settings_told}
use Rattle.qk_engine.proofs.Replies.{file_is_reply, loaded_says, run_is_short, runnable_is_run, tells_all}
use Rattle.qk_words.specs.SettingsData.{settings_in}
use Rattle.qk_engine.proofs.top.run_with.Goals as goal

pub returns-clause-replies : goal.returns-clause-replies
returns-clause-replies g c =
    let d = settings_in c.args.settings.now in
    let made = c.in_ok-bytes_reply.field-0 in
    let answers = program_reply d.aim (settings_told d) in
    let said = subst (λ (b : List ℕ). FileReply answers b made.status made.text.items) c.as_slice.ensures c.in_ok-bytes_reply.ensures in (
      file_is_reply d.aim (settings_told d) _ made.status made.text.items said,
      λ bytes told. loaded_says answers d.aim bytes c.in_ok-bytes.bytes.items made.status made.text.items (c.in_ok-bytes.ensures.loaded bytes told) said,
    )

pub returns-clause-read_whole : goal.returns-clause-read_whole
returns-clause-read_whole g c run file bytes names held =
    let d = settings_in c.args.settings.now in
    let made = c.in_ok-bytes_reply.field-0 in
    let answers = program_reply d.aim (settings_told d) in
    let said = subst (λ (b : List ℕ). FileReply answers b made.status made.text.items) c.as_slice.ensures c.in_ok-bytes_reply.ensures in
    let is_loaded = c.in_ok-bytes.ensures.loaded bytes (tells_all (g.L.Library.holds c.args.library.now) d.aim file bytes names held) in
    c.in_ok-bytes.ensures.whole file bytes names held (run_is_short answers d.aim file bytes c.in_ok-bytes.bytes.items made.status made.text.items run names is_loaded said)

pub returns-clause-completes : goal.returns-clause-completes
returns-clause-completes g c bytes told runnable =
    let d = settings_in c.args.settings.now in
    let made = c.in_ok-bytes_reply.field-0 in
    let answers = program_reply d.aim (settings_told d) in
    let said = subst (λ (b : List ℕ). FileReply answers b made.status made.text.items) c.as_slice.ensures c.in_ok-bytes_reply.ensures in
    runnable_is_run d bytes made.status made.text.items c.requires.aim runnable (loaded_says answers d.aim bytes c.in_ok-bytes.bytes.items made.status made.text.items (c.in_ok-bytes.ensures.loaded bytes told) said)
