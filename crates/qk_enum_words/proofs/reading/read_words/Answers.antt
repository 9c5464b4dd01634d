use Rattle.std.proofs.Common.{refl, sym, subst, map}
use Rattle.std.specs.String.{string_bytes}
use Rattle.clap.specs.Words.{found_of, rows_of}
use Rattle.qk_enum_words.specs.Accepted.{IsAccepted}
use Rattle.qk_enum_words.specs.Matches.{AreMatches}
use Rattle.qk_enum_words.proofs.Matched.{matched}
use Rattle.qk_enum_words.proofs.reading.read_words.Goals as goal

pub settings_for-requires : goal.settings_for-requires
settings_for-requires c =
    let accepted : IsAccepted (map string_bytes c.args.words.now) = c.if-not-are_accepted.ensures.0 refl in
    (accepted.0, subst (AreMatches accepted.0) (sym c.in-Ok.ensures.ok) (matched (map string_bytes c.args.words.now) accepted.0 accepted.1))

pub returns-clause-ok : goal.returns-clause-ok
returns-clause-ok c =
    let accepted : IsAccepted (map string_bytes c.args.words.now) = c.if-not-are_accepted.ensures.0 refl in
    let found : AreMatches accepted.0 (rows_of (found_of c.in-Ok.matches)) = subst (AreMatches accepted.0) (sym c.in-Ok.ensures.ok) (matched (map string_bytes c.args.words.now) accepted.0 accepted.1) in
    (accepted.0, (accepted.1, c.settings_for.ensures.given accepted.0 found))
