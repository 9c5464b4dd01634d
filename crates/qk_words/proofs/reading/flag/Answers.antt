use Rattle.std.proofs.Common.{◌≡◌, ◌∙◌, ap, true, false, Some, codes, if◌then◌else◌}
use Rattle.clap.specs.Words.{found_of, rows_of, one_text}
use Rattle.clap.specs.Walk.{one_of}
use Rattle.clap.proofs.WalkLemmas.{one_text-rows}
use Rattle.qk_words.specs.Options.{flag_text}
use Rattle.qk_words.specs.Parts.{is_given}
use Rattle.qk_words.proofs.reading.flag.Goals as goal

pub returns : goal.returns
returns c = λ ps m.
    let rows = rows_of (found_of c.args.matches.now) in
    let told = one_text-rows (found_of c.args.matches.now) c.text.result.now ∙ ap (λ id. one_of id rows) c.text.ensures ∙ m.flags c.args.name in
    (elim (is_given (flag_text c.args.name) ps) as (λ b. one_text (found_of c.args.matches.now) c.text.result.now ≡ Some (if b then codes "true" else codes "false") → c.get_flag.result ≡ b)
    [ true ↦ c.get_flag.ensures.value | false ↦ c.get_flag.ensures.other ]) told
