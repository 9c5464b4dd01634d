use Rattle.std.proofs.Common.{◌≡◌, ◌∙◌, ap, sym, subst, Some}
use Rattle.clap.specs.Words.{found_of, rows_of, first_of}
use Rattle.qk_enum_words.specs.Options.{option_text, IsTaken}
use Rattle.qk_enum_words.specs.Parts.{given}
use Rattle.qk_enum_words.proofs.GivenLaws.{given_number}
use Rattle.qk_enum_words.proofs.reading.number.Goals as goal

pub written-requires : goal.written-requires
written-requires c =
    let ps = c.requires.matches.0 in
    let m = c.requires.matches.1 in
    let rows = rows_of (found_of c.args.matches.now) in
    let there : given (option_text c.args.name) ps ≡ Some c.in-Some.text.now = sym (m.values c.args.name) ∙ sym (ap (λ k. first_of k rows) c.text.ensures) ∙ sym c.in-Some.ensures in
    let found = given_number c.args.name ps c.in-Some.text.now m.parts there in
    (found.digits, found.wide)

pub returns-in-Some-clause-taken : goal.returns-in-Some-clause-taken
returns-in-Some-clause-taken c =
    let ps = c.requires.matches.0 in
    let m = c.requires.matches.1 in
    let rows = rows_of (found_of c.args.matches.now) in
    let there : given (option_text c.args.name) ps ≡ Some c.in-Some.text.now = sym (m.values c.args.name) ∙ sym (ap (λ k. first_of k rows) c.text.ensures) ∙ sym c.in-Some.ensures in
    subst (IsTaken c.args.name) (sym c.written.ensures) (given_number c.args.name ps c.in-Some.text.now m.parts there).taken
