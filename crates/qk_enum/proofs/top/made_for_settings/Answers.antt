use Rattle.std.proofs.Common.{List, ℕ, subst}
use Rattle.qk_enum.specs.Reply.{ReplyOf}
use Rattle.qk_enum.proofs.EnumReplies.{file_is_reply, loaded_says, program_is_run, run_is_short}
use Rattle.qk_enum_words.specs.SettingsData.{settings_in}
use Rattle.qk_enum.proofs.top.made_for_settings.Goals as goal

pub returns-clause-replies : goal.returns-clause-replies
returns-clause-replies g c =
    let d = settings_in c.args.settings.now in
    let made = c.in_ok-bytes_reply.field-0 in
    let said = subst (λ (b : List ℕ). ReplyOf d b made.status made.text.items) c.as_slice.ensures c.in_ok-bytes_reply.ensures in (
      file_is_reply d _ made.status made.text.items said,
      λ bytes held. loaded_says d bytes c.in_ok-bytes.bytes.items made.status made.text.items (c.in_ok-bytes.ensures.loaded bytes held) said,
    )

pub returns-clause-read_whole : goal.returns-clause-read_whole
returns-clause-read_whole g c run bytes held =
    let d = settings_in c.args.settings.now in
    let made = c.in_ok-bytes_reply.field-0 in
    let said = subst (λ (b : List ℕ). ReplyOf d b made.status made.text.items) c.as_slice.ensures c.in_ok-bytes_reply.ensures in
    c.in_ok-bytes.ensures.whole bytes held (run_is_short d bytes c.in_ok-bytes.bytes.items made.status made.text.items run (c.in_ok-bytes.ensures.loaded bytes held) said)

pub returns-clause-completes : goal.returns-clause-completes
returns-clause-completes g c bytes held program =
    let d = settings_in c.args.settings.now in
    let made = c.in_ok-bytes_reply.field-0 in
    let said = subst (λ (b : List ℕ). ReplyOf d b made.status made.text.items) c.as_slice.ensures c.in_ok-bytes_reply.ensures in
    program_is_run d bytes made.status made.text.items program (loaded_says d bytes c.in_ok-bytes.bytes.items made.status made.text.items (c.in_ok-bytes.ensures.loaded bytes held) said)
