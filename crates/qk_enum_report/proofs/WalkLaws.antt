-- What a walk over the cases of a property tells.
use Rattle.std.proofs.Common.{◌≡◌, ◌∙◌, ℕ, ◌+◌, ◌<◌, ◌≤◌, ◌^◌, List, [], ◌∷◌, ◌++◌, Option, Some, length, min, take, unwrap_or, sym, ap, subst, append_assoc, arith}
use Rattle.std.proofs.lemmas.List.{length-map, length-take}
use Rattle.qk_base.specs.declared.outcome.Verdict.{Verdict}
use Rattle.qk_base.specs.declared.outcome.Verdict.TheVariants.{Pass, Discard, Fail}
use Rattle.qk_core.specs.Program.{ProgramData}
use Rattle.qk_core.specs.Properties.{PropertyData}
use Rattle.qk_exhaust.specs.Run.{IsExhausted, walked}
use Rattle.qk_exhaust.specs.declared.exhausting.Exhausted.{Exhausted}
use Rattle.qk_series.specs.Cases.{case_of}
use Rattle.qk_value.specs.Kinds.{KindData}
use Rattle.qk_enum_report.specs.Blocks.{block_from, block_of, case_at, failure_lines, walk_of}
use Rattle.qk_enum_report.specs.Lines.{failed_line}
use Rattle.qk_enum_report.specs.Reach.{Reach}
use Rattle.qk_enum_report.specs.Verdicts.{case_verdict, cases_of, verdicts_of, verdicts_over}

some_eq : (m n : ℕ) → ◌≡◌ {A = Option ℕ} (Some m) (Some n) → m ≡ n
some_eq m n e = ap (λ o. unwrap_or o m) e

-- a case that fails is one of those that were walked over
found_below : (k d : ℕ) (vs : List Verdict) (n : ℕ) → (walked k d vs).failed ≡ Some n → n < k + length vs
found_below k d [] n e = cc
found_below k d (Pass ∷ vs) n e = let h = found_below (k + 1) d vs n e in omega (arith, h)
found_below k d (Discard ∷ vs) n e = let h = found_below (k + 1) (d + 1) vs n e in omega (arith, h)
found_below k d (Fail cause ∷ vs) n e = let h = some_eq k n e in omega (arith, h)

module _ (r : Reach) (c : ProgramData) (p : PropertyData) (found : Exhausted) (is : IsExhausted r.cases (verdicts_of c p r.depth r.fuel) found) where
  how_many : length (verdicts_of c p r.depth r.fuel) ≡ length (cases_of c p r.depth)
  how_many = length-map (cases_of c p r.depth) (λ xs. case_verdict c p r.fuel (case_of xs))

  pub number_below : (k : ℕ) → r.cases ≤ 1000000 → found.walked.failed ≡ Some k → k < min (length (cases_of c p r.depth)) (2 ^ 40)
  number_below k few e =
      let below = found_below 0 0 (take r.cases (verdicts_of c p r.depth r.fuel)) k (sym (ap (λ w. w.failed) is.walked) ∙ e) in
      omega (arith, below, few, how_many, length-take r.cases (verdicts_of c p r.depth r.fuel))

  pub failed : (old mid next : List ℕ) (k : ℕ) → found.walked.failed ≡ Some k → mid ≡ old ++ failed_line p.name k found.walked.discards → next ≡ mid ++ failure_lines r c p (case_at r c p k)
      → next ≡ old ++ block_of r c p
  failed old mid next k e first last =
      last ∙ ap (λ t. t ++ failure_lines r c p (case_at r c p k)) first ∙ append_assoc old (failed_line p.name k found.walked.discards) (failure_lines r c p (case_at r c p k))
      ∙ ap (λ t. old ++ t)
      (ap (λ w. failed_line p.name k w.discards ++ failure_lines r c p (case_at r c p k)) is.walked
      ∙ ap (block_from r c p (walk_of r c p).discards) (sym e ∙ ap (λ w. w.failed) is.walked))

-- what holds of the verdicts of equal parts
pub same_verdicts : (r : Reach) (c d : ProgramData) (p q : PropertyData) (kinds : List KindData) (depth fuel : ℕ) (found : Exhausted)
    → d ≡ c → q ≡ p → kinds ≡ c.kinds → depth ≡ r.depth → fuel ≡ r.fuel → IsExhausted r.cases (verdicts_over kinds d q depth fuel) found → IsExhausted r.cases (verdicts_of c p r.depth r.fuel) found
same_verdicts r c d p q kinds depth fuel found ed eq ek edepth efuel is =
    subst (λ vs. IsExhausted r.cases vs found) (λ i. verdicts_over (ek i) (ed i) (eq i) (edepth i) (efuel i)) is
