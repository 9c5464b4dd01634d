-- The properties that are left: the first, and then the others.
use Rattle.std.proofs.Common.{◌≡◌, ◌∙◌, ℕ, ◌+◌, ◌≤◌, Bool, true, false, cond, List, ◌∷◌, ◌++◌, length, drop, Some, sym, ap, add-one, append_assoc, append-nil, arith, count_by}
use Rattle.std.proofs.Math.Seq.{drop-cons}
use Rattle.std.proofs.lemmas.List.Sums.{sum_by-cons}
use Rattle.std.proofs.lemmas.Option.{get_or_from_slice_get, slice_get_within}
use Rattle.std.proofs.lemmas.List.{drop_all}
use Rattle.std.specs.List.{slice_get}
use Rattle.qk_core.specs.Program.{ProgramData}
use Rattle.qk_core.specs.Properties.{PropertyData}
use Rattle.qk_enum_report.specs.Blocks.{block_of}
use Rattle.qk_enum_report.specs.Reach.{Reach}
use Rattle.qk_enum_report.specs.Report.{blocks_of}

next_is : (ps : List PropertyData) (i : ℕ) (p : PropertyData) → Some p ≡ slice_get ps i → drop i ps ≡ p ∷ drop (i + 1) ps
next_is ps i p found = rw add-one (drop-cons ps i p (slice_get_within ps i p (sym found))) ∙ ap (λ q. q ∷ drop (i + 1) ps) (get_or_from_slice_get ps i p p (sym found))

pub few_next : (b : Bool) (before after i : ℕ) → after ≡ before + cond b 1 0 → before ≤ i → after ≤ i + 1
few_next true before after i more few = omega (arith, more, few)
few_next false before after i more few = omega (arith, more, few)

module _ (r : Reach) (c : ProgramData) (ps : List PropertyData) (i : ℕ) (p : PropertyData) (found : Some p ≡ slice_get ps i) where
  pub blocks_next : (now next whole : List ℕ) → next ≡ now ++ block_of r c p → now ++ blocks_of r c (drop i ps) ≡ whole → next ++ blocks_of r c (drop (i + 1) ps) ≡ whole
  blocks_next now next whole added so_far =
      ap (λ t. t ++ blocks_of r c (drop (i + 1) ps)) added ∙ append_assoc now (block_of r c p) (blocks_of r c (drop (i + 1) ps))
      ∙ ap (λ qs. now ++ blocks_of r c qs) (sym (next_is ps i p found)) ∙ so_far

  pub counted_next : (test : PropertyData → Bool) (b : Bool) (before after whole : ℕ) → b ≡ test p → after ≡ before + cond b 1 0
      → before + count_by test (drop i ps) ≡ whole → after + count_by test (drop (i + 1) ps) ≡ whole
  counted_next test b before after whole is more so_far =
      let first : count_by test (drop i ps) ≡ cond b 1 0 + count_by test (drop (i + 1) ps) =
      ap (count_by test) (next_is ps i p found) ∙ sum_by-cons (λ x. cond (test x) 1 0) p (drop (i + 1) ps) ∙ ap (λ t. cond t 1 0 + count_by test (drop (i + 1) ps)) (sym is) in
      omega (arith, first, more, so_far)

pub blocks_end : (r : Reach) (c : ProgramData) (ps : List PropertyData) (i : ℕ) (now whole : List ℕ) → length ps ≤ i → now ++ blocks_of r c (drop i ps) ≡ whole → now ≡ whole
blocks_end r c ps i now whole past so_far = sym (append-nil now) ∙ ap (λ qs. now ++ blocks_of r c qs) (sym (drop_all i ps past)) ∙ so_far

pub counted_end : (test : PropertyData → Bool) (ps : List PropertyData) (i : ℕ) (n whole : ℕ) → length ps ≤ i → n + count_by test (drop i ps) ≡ whole → n ≡ whole
counted_end test ps i n whole past so_far = let none = ap (count_by test) (drop_all i ps past) in omega (arith, none, so_far)
