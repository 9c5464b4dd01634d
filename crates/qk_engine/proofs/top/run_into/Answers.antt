use Rattle.std.proofs.Common.{rules, map, string_bytes, inr, ap, Err}
use Rattle.qk_engine.proofs.WordsReplies.{names_of_settings, no_bad_token_runs, runs_by_settings, tells_of_settings}
use Rattle.qk_words.specs.SettingsData.{settings_in}
use Rattle.qk_engine.proofs.top.run_into.Goals as goal

pub returns-in_ok-made-in-Ok-clause-replies : goal.returns-in_ok-made-in-Ok-clause-replies
returns-in_ok-made-in-Ok-clause-replies g c =
    let words = map string_bytes c.args.words.now in
    let d = settings_in c.in-Ok.settings in
    let are = c.in-Ok.ensures.ok in (
      c.in_ok-made-in-Ok.ensures.replies.0,
      λ bytes told. inr (inr (d, are, c.in_ok-made-in-Ok.ensures.replies.1 bytes (tells_of_settings words (g.L.Library.holds c.args.library.now) d bytes are told))),
    )

pub returns-in_ok-made-in-Ok-clause-read_whole : goal.returns-in_ok-made-in-Ok-clause-read_whole
returns-in_ok-made-in-Ok-clause-read_whole g c run file bytes named held =
    let words = map string_bytes c.args.words.now in
    let d = settings_in c.in-Ok.settings in
    c.in_ok-made-in-Ok.ensures.read_whole run file bytes (names_of_settings words d file c.in-Ok.ensures.ok named) held

pub returns-in_ok-made-in-Ok-clause-unread : goal.returns-in_ok-made-in-Ok-clause-unread
returns-in_ok-made-in-Ok-clause-unread g c none = c.run_with.ensures.unread (λ file names. none file (settings_in c.in-Ok.settings, c.in-Ok.ensures.ok, names))

pub returns-in_err-made-in-Ok-clause-unread : goal.returns-in_err-made-in-Ok-clause-unread
returns-in_err-made-in-Ok-clause-unread g c none = c.run_with.ensures.unread (λ file names. none file (settings_in c.in-Ok.settings, c.in-Ok.ensures.ok, names))

pub returns-in_ok-made-in-Ok-clause-completes : goal.returns-in_ok-made-in-Ok-clause-completes
returns-in_ok-made-in-Ok-clause-completes g c bytes told may =
    let words = map string_bytes c.args.words.now in
    let d = settings_in c.in-Ok.settings in
    let are = c.in-Ok.ensures.ok in
    c.in_ok-made-in-Ok.ensures.completes bytes (tells_of_settings words (g.L.Library.holds c.args.library.now) d bytes are told) (runs_by_settings words d bytes are may)

pub returns-in_err-made-in-Ok-clause-answers : goal.returns-in_err-made-in-Ok-clause-answers
returns-in_err-made-in-Ok-clause-answers g c none =
    let wants = c.run_with.ensures.answers (λ file names. none file (settings_in c.in-Ok.settings, c.in-Ok.ensures.ok, names)) in
    search (rules, wants)

pub returns-in_ok-refused_token-in-Err-BadToken-clause-completes : goal.returns-in_ok-refused_token-in-Err-BadToken-clause-completes
returns-in_ok-refused_token-in-Err-BadToken-clause-completes g c bytes told may =
    absurd (no_bad_token_runs (map string_bytes c.args.words.now) bytes may (c.in-Err-BadToken.ensures.bad_token (ap Err c.in-Err-BadToken.field-0-is)))
