-- Texts that differ only in what failures are shrunk to, or only in their lines on work.
use Rattle.std.specs.Prelude.{◌≡◌, ◌⊎◌, ℕ, ◌+◌, List, [], ◌∷◌, ◌++◌}
use Rattle.qk_core.specs.Program.{ProgramData}
use Rattle.qk_core.specs.Properties.{PropertyData}
use Rattle.qk_value.specs.Kinds.{KindData}
use Rattle.qk_report.specs.Block.{FailureData, failed_block}
use Rattle.qk_report.specs.Lines.{work_line}
use Rattle.qk_file.specs.Files.{IsProgram}

-- failures of one attempt of one run: they differ in the cause, in the values and in how these were found
pub record AreOfOneAttempt (f g : FailureData) : Type 0 where
  pub attempt : f.attempt ≡ g.attempt
  pub size : f.size ≡ g.size
  pub seed : f.seed ≡ g.seed
  pub fuel : f.fuel ≡ g.fuel

-- blocks of one property: the same, or of one failing attempt after as many tests and discards, and with the same line on work, if any
abbrev pub AreShrunkOtherwise : List KindData → ℕ → PropertyData → List ℕ → List ℕ → Type 0
AreShrunkOtherwise kinds number p one other =
    (one ≡ other)
    ⊎ ((tests : ℕ) × (discards : ℕ) × (f : FailureData) × (g : FailureData) × (work : List ℕ) × AreOfOneAttempt f g
    × (one ≡ failed_block kinds number p tests discards f ++ work) × (other ≡ failed_block kinds number p tests discards g ++ work))

-- blocks of one property: the same, or the same but for a line on work
abbrev pub TellOtherWork : ℕ → PropertyData → List ℕ → List ℕ → Type 0
TellOtherWork number p one other =
    (one ≡ other) ⊎ ((block : List ℕ) × (v : ℕ × ℕ × ℕ) × (w : ℕ × ℕ × ℕ) × (one ≡ block ++ work_line v) × (other ≡ block ++ work_line w))

-- texts that agree block by block, for these properties, the first of which has that number, and are the same after the last block
abbrev pub AgreeInBlocks : (ℕ → PropertyData → List ℕ → List ℕ → Type 0) → ℕ → List PropertyData → List ℕ → List ℕ → Type 0
AgreeInBlocks agree number [] one other = one ≡ other
AgreeInBlocks agree number (p ∷ ps) one other =
    (a : List ℕ) × (b : List ℕ) × (more : List ℕ) × (rest : List ℕ)
    × agree number p a b × AgreeInBlocks agree (number + 1) ps more rest × (one ≡ a ++ more) × (other ≡ b ++ rest)

-- texts that tell of these bytes: the same, or of one program, and they agree block by block
abbrev pub AgreeOn : (ProgramData → ℕ → PropertyData → List ℕ → List ℕ → Type 0) → List ℕ → List ℕ → List ℕ → Type 0
AgreeOn agree bytes one other = (one ≡ other) ⊎ ((c : ProgramData) × IsProgram bytes c × AgreeInBlocks (agree c) 0 c.properties one other)
