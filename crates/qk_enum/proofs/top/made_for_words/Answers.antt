use Rattle.std.proofs.Common.{map, string_bytes, inr}
use Rattle.qk_enum.proofs.WordsReplies.{held_own, names_own, tells_own}
use Rattle.qk_enum_words.specs.SettingsData.{settings_in}
use Rattle.qk_enum.proofs.top.made_for_words.Goals as goal

pub returns-in_ok-made-in-Ok-clause-replies : goal.returns-in_ok-made-in-Ok-clause-replies
returns-in_ok-made-in-Ok-clause-replies g c =
    let words = map string_bytes c.args.words.now in
    let d = settings_in c.in-Ok.settings in
    let are = c.in-Ok.ensures.ok in (
      c.in_ok-made-in-Ok.ensures.replies.0,
      λ bytes told. inr (d, are, c.in_ok-made-in-Ok.ensures.replies.1 bytes (tells_own words d are (g.L.Library.holds c.args.library.now) bytes told)),
    )

pub returns-in_ok-made-in-Ok-clause-read_whole : goal.returns-in_ok-made-in-Ok-clause-read_whole
returns-in_ok-made-in-Ok-clause-read_whole g c run file bytes named held =
    let words = map string_bytes c.args.words.now in
    let d = settings_in c.in-Ok.settings in
    c.in_ok-made-in-Ok.ensures.read_whole run bytes (held_own words d c.in-Ok.ensures.ok (g.L.Library.holds c.args.library.now) file bytes named held)

pub returns-in_ok-made-in-Ok-clause-unread : goal.returns-in_ok-made-in-Ok-clause-unread
returns-in_ok-made-in-Ok-clause-unread g c none =
    let d = settings_in c.in-Ok.settings in
    absurd (none d.file (names_own (map string_bytes c.args.words.now) d c.in-Ok.ensures.ok))

pub returns-in_err-made-in-Ok-clause-unread : goal.returns-in_err-made-in-Ok-clause-unread
returns-in_err-made-in-Ok-clause-unread g c none =
    let d = settings_in c.in-Ok.settings in
    absurd (none d.file (names_own (map string_bytes c.args.words.now) d c.in-Ok.ensures.ok))

pub returns-in_ok-made-in-Ok-clause-completes : goal.returns-in_ok-made-in-Ok-clause-completes
returns-in_ok-made-in-Ok-clause-completes g c bytes told may =
    let words = map string_bytes c.args.words.now in
    let d = settings_in c.in-Ok.settings in
    c.in_ok-made-in-Ok.ensures.completes bytes (tells_own words d c.in-Ok.ensures.ok (g.L.Library.holds c.args.library.now) bytes told) may.1
