use Rattle.std.proofs.Common.{refl, sym, subst, map}
use Rattle.std.specs.String.{string_bytes}
use Rattle.clap.specs.Words.{found_of, rows_of}
use Rattle.qk_words.specs.Accepted.{IsAccepted}
use Rattle.qk_words.specs.Matches.{AreMatches}
use Rattle.qk_words.proofs.GivenLaws.{same_error}
use Rattle.qk_words.proofs.Matched.{matched}
use Rattle.qk_words.proofs.reading.read_words.Goals as goal

pub read_aim-requires : goal.read_aim-requires
read_aim-requires c =
    let accepted : IsAccepted (map string_bytes c.args.words.now) = c.if-not-are_accepted.ensures.0 refl in
    (accepted.0, subst (AreMatches accepted.0) (sym c.in-Ok.ensures.ok) (matched (map string_bytes c.args.words.now) accepted.0 accepted.1))

pub returns-in-Err-read_aim-clause-bad_token : goal.returns-in-Err-read_aim-clause-bad_token
returns-in-Err-read_aim-clause-bad_token c = λ e.
    let accepted : IsAccepted (map string_bytes c.args.words.now) = c.if-not-are_accepted.ensures.0 refl in
    let found : AreMatches accepted.0 (rows_of (found_of c.in-Ok.matches)) = subst (AreMatches accepted.0) (sym c.in-Ok.ensures.ok) (matched (map string_bytes c.args.words.now) accepted.0 accepted.1) in
    (accepted.0, (accepted.1, c.in-Err-read_aim.ensures.bad (same_error _ _ e) accepted.0 found))

pub settings_for-requires : goal.settings_for-requires
settings_for-requires c =
    let accepted : IsAccepted (map string_bytes c.args.words.now) = c.if-not-are_accepted.ensures.0 refl in
    (accepted.0, subst (AreMatches accepted.0) (sym c.in-Ok.ensures.ok) (matched (map string_bytes c.args.words.now) accepted.0 accepted.1))

pub returns-clause-ok : goal.returns-clause-ok
returns-clause-ok c =
    let accepted : IsAccepted (map string_bytes c.args.words.now) = c.if-not-are_accepted.ensures.0 refl in
    let found : AreMatches accepted.0 (rows_of (found_of c.in-Ok.matches)) = subst (AreMatches accepted.0) (sym c.in-Ok.ensures.ok) (matched (map string_bytes c.args.words.now) accepted.0 accepted.1) in
    (accepted.0, (accepted.1, c.settings_for.ensures.given accepted.0 found (c.in-Ok-read_aim.ensures.ok accepted.0 found)))
