-- The properties that are left: the first, and then the others.
use Rattle.std.proofs.Common.{◌≡◌, ◌∙◌, ℕ, ◌+◌, ◌<◌, ◌≤◌, Bool, true, false, cond, List, [], ◌∷◌, ◌++◌, length, get_or, drop, Some, refl, sym, ap, subst, add-one, append_assoc, append-nil, arith, count_by}
use Rattle.std.proofs.Math.Seq.{drop-cons}
use Rattle.std.proofs.lemmas.List.Sums.{sum_by-cons}
use Rattle.std.proofs.lemmas.Option.{get_or_from_slice_get, slice_get_within, slice_get-get_or}
use Rattle.std.proofs.lemmas.List.{drop_all}
use Rattle.std.specs.List.{slice_get}
use Rattle.qk_core.specs.Program.{ProgramData}
use Rattle.qk_core.specs.Properties.{PropertyData}
use Rattle.qk_property.specs.Blocks.{IsBlock}
use Rattle.qk_property.specs.Running.{run_of}
use Rattle.qk_property.specs.Settings.{ReportSettings}
use Rattle.qk_rounds.specs.Run.{attempts}
use Rattle.qk_schedule.specs.declared.finish.Finish.{Finish}
use Rattle.qk_engine.specs.Generated.{attempts_in}
use Rattle.qk_engine.specs.Program.{AreBlocks, finishes}

pub next_is : (ps : List PropertyData) (i : ℕ) (p : PropertyData) → slice_get ps i ≡ Some p → drop i ps ≡ p ∷ drop (i + 1) ps
next_is ps i p found = rw add-one (drop-cons ps i p (slice_get_within ps i p found)) ∙ ap (λ q. q ∷ drop (i + 1) ps) (get_or_from_slice_get ps i p p found)

pub some_at : (ps : List PropertyData) (i : ℕ) → i < length ps → (p : PropertyData) × (slice_get ps i ≡ Some p)
some_at [] i h = absurd (omega arith)
some_at (p ∷ ps) i h = (get_or (p ∷ ps) i p, slice_get-get_or (p ∷ ps) i p h)

pub few_next : (b : Bool) (before after i : ℕ) → after ≡ before + cond b 1 0 → before ≤ i → after ≤ i + 1
few_next true before after i more few = omega (arith, more, few)
few_next false before after i more few = omega (arith, more, few)

module _ (s : ReportSettings) (c : ProgramData) where
  -- what is there makes, with the blocks that are left, the old text with all blocks
  abbrev pub BlocksLeft : ℕ → List PropertyData → List PropertyData → List ℕ → List ℕ → Type 0
  BlocksLeft i left all now old = (rest : List ℕ) → AreBlocks s c i left rest → (blocks : List ℕ) × AreBlocks s c 0 all blocks × (now ++ rest ≡ old ++ blocks)

  pub blocks_begin : (ps : List PropertyData) (text : List ℕ) → BlocksLeft 0 ps ps text text
  blocks_begin ps text rest are = (rest, are, refl)

  pub blocks_next : (all ps : List PropertyData) (i : ℕ) (p : PropertyData) (now next old block : List ℕ) → slice_get ps i ≡ Some p → IsBlock s c i p block → next ≡ now ++ block
      → BlocksLeft i (drop i ps) all now old → BlocksLeft (i + 1) (drop (i + 1) ps) all next old
  blocks_next all ps i p now next old block found is_block added left rest are =
      let more : AreBlocks s c i (drop i ps) (block ++ rest) = subst (λ qs. AreBlocks s c i qs (block ++ rest)) (sym (next_is ps i p found)) (block, rest, is_block, are, refl) in
      let whole = left (block ++ rest) more in (
        whole.0,
        whole.1,
        ap (λ t. t ++ rest) added ∙ append_assoc now block rest ∙ whole.2,
      )

  pub blocks_end : (all : List PropertyData) (i : ℕ) (now old : List ℕ) → length all ≤ i → BlocksLeft i (drop i all) all now old → (blocks : List ℕ) × AreBlocks s c 0 all blocks × (now ≡ old ++ blocks)
  blocks_end all i now old past left =
      let none : AreBlocks s c i (drop i all) [] = subst (λ qs. AreBlocks s c i qs []) (sym (drop_all i all past)) refl in
      let whole = left [] none in
      (whole.0, whole.1, sym (append-nil now) ∙ whole.2)

  pub counted_next : (test : Finish → Bool) (ps : List PropertyData) (i : ℕ) (p : PropertyData) (f : Finish) (before after whole : ℕ) → slice_get ps i ≡ Some p → f ≡ (run_of s c p).finish
      → after ≡ before + cond (test f) 1 0 → before + count_by test (finishes s c (drop i ps)) ≡ whole → after + count_by test (finishes s c (drop (i + 1) ps)) ≡ whole
  counted_next test ps i p f before after whole found is_finish more so_far =
      let first : count_by test (finishes s c (drop i ps)) ≡ cond (test f) 1 0 + count_by test (finishes s c (drop (i + 1) ps)) =
      ap (λ qs. count_by test (finishes s c qs)) (next_is ps i p found) ∙ sum_by-cons (λ x. cond (test x) 1 0) (run_of s c p).finish (finishes s c (drop (i + 1) ps)) ∙ ap (λ g. cond (test g) 1 0 + count_by test (finishes s c (drop (i + 1) ps))) (sym is_finish) in
      omega (arith, first, more, so_far)

  pub attempts_next : (ps : List PropertyData) (i : ℕ) (p : PropertyData) (n before after whole : ℕ) → slice_get ps i ≡ Some p → n ≡ attempts (run_of s c p)
      → after ≡ before + n → before + attempts_in s c (drop i ps) ≡ whole → after + attempts_in s c (drop (i + 1) ps) ≡ whole
  attempts_next ps i p n before after whole found is_attempts more so_far =
      let unrolled : attempts_in s c (drop i ps) ≡ attempts (run_of s c p) + attempts_in s c (drop (i + 1) ps) = ap (attempts_in s c) (next_is ps i p found) in
      omega (arith, unrolled, is_attempts, more, so_far)
