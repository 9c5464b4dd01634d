-- A generated file spells trees that stand for a program.
use Rattle.std.proofs.Common.{◌≡◌, ℕ, ◌≤◌, List, sym, ap, ◌∙◌, subst}
use Rattle.qk_core.specs.Program.{ProgramData}
use Rattle.qk_syntax.specs.PlainTrees.{PlainTrees}
use Rattle.qk_syntax.specs.Spelling.{Spells}
use Rattle.qk_syntax.proofs.Printed.{canonical_spells}
use Rattle.qk_wellformed.specs.StandsFor.{StandsFor}
use Rattle.qk_engine.specs.Generated.{generated_file}
use Rattle.qk_file.specs.Files.{IsProgram}
use Rattle.qk_engine.proofs.GeneratedTrees.{properties_from}
use Rattle.qk_engine.proofs.PlacedTrees.{nowhere, all_at}
use Rattle.qk_engine.proofs.PlacedTrees.{all_placed, all_unplaced}
use Rattle.qk_engine.proofs.GeneratedText.{generated_text}
use Rattle.qk_engine.proofs.GeneratedReadable.{generated_readable}
use Rattle.qk_engine.proofs.GeneratedStands.{generated_stands}

pub generated_program : (n : ℕ) → 1 ≤ n → n ≤ 1000 → (c : ProgramData) × IsProgram (generated_file n) c
generated_program n some few =
    let spelled = canonical_spells (all_at nowhere (properties_from 0 n)) (generated_readable n nowhere few) in
    let spots = all_placed spelled.0 in
    let same : all_at spots.0 (properties_from 0 n) ≡ spelled.0 = ap (all_at spots.0) (sym (spelled.2 ∙ all_unplaced (properties_from 0 n) nowhere)) ∙ spots.1 in
    let stands = generated_stands n spots.0 some few in (
      stands.0,
      (spelled.0, subst (λ (b : List ℕ). Spells b spelled.0) (generated_text n 0 nowhere) spelled.1, subst (λ (ts : PlainTrees). StandsFor ts stands.0) same stands.1),
    )
