-- The due slots of a fold as the jobs of a scan.
use Rattle.std.proofs.Common.{◌≡◌, ℕ, zero, suc, ◌+◌, ◌<◌, ◌≤◌, true, false, List, [], ◌∷◌, length, map, All, slice_index_or, refl, sym, ◌∙◌, ap, arith, add-zero}
use Rattle.std.proofs.lemmas.List.Elements.{All-nil, All-head, All-tail, All-cons}
use Rattle.qk_base.specs.Judged.{Judged}
use Rattle.qk_scan.specs.Prefix.{prefix_to_hit, answers_from}
use Rattle.qk_rounds.specs.declared.folded.Folded.{Folded}
use Rattle.qk_rounds.specs.Trial.{Range, Includes}
use Rattle.qk_rounds.specs.Due.{due_at, due_outcome, Ready}
use Rattle.qk_rounds.specs.Windows.{fails, due_outcomes, answers_of}
use Rattle.qk_rounds.proofs.Steps.{due_outcomes-due, due_outcomes-kept}

-- the answers from 1 on are those of the next numbers
answers_from-next : {A : Type 0} (answer : ℕ → A) (from count : ℕ) → answers_from answer (suc from) count ≡ answers_from (λ i. answer (suc i)) from count
answers_from-next answer from zero = refl
answers_from-next answer from (suc count) = ap (λ l. answer (suc from) ∷ l) (answers_from-next answer (suc from) count)

-- the answers of a list of jobs
pub answers_from-list : {A B : Type 0} (f : A → B) (jobs : List A) (d : A) → answers_from (λ i. f (slice_index_or jobs i d)) 0 (length jobs) ≡ map f jobs
answers_from-list f [] d = refl
answers_from-list f (job ∷ jobs) d =
    ap (λ l. f job ∷ l) (answers_from-next (λ i. f (slice_index_or (job ∷ jobs) i d)) 0 (length jobs) ∙ answers_from-list f jobs d)

pub due_at-due : (i : ℕ) (f : Folded) (fs : List Folded) → f.due ≡ true → due_at i (f ∷ fs) ≡ record { index = i; size = f.size } ∷ due_at (i + 1) fs
due_at-due i f fs d = rw d refl

pub due_at-kept : (i : ℕ) (f : Folded) (fs : List Folded) → f.due ≡ false → due_at i (f ∷ fs) ≡ due_at (i + 1) fs
due_at-kept i f fs d = rw d refl

-- their outcomes are those of the due slots
outcomes_at : (outcome : ℕ → ℕ → Judged) (n i m : ℕ) (fs : List Folded) → m ≡ n + i
    → map (λ d. due_outcome outcome n d) (due_at i fs) ≡ due_outcomes outcome m fs
outcomes_at outcome n i m [] is = refl
outcomes_at outcome n i m (f ∷ fs) is =
    let next = outcomes_at outcome n (i + 1) (m + 1) fs (omega (arith, is)) in
    elim f.due as (λ b. f.due ≡ b → map (λ d. due_outcome outcome n d) (due_at i (f ∷ fs)) ≡ due_outcomes outcome m (f ∷ fs)) [
      | true ↦ λ d.
          ap (map (λ d. due_outcome outcome n d)) (due_at-due i f fs d)
          ∙ (ap (λ l. outcome (n + i) f.size ∷ l) next
          ∙ (ap (λ k. outcome k f.size ∷ due_outcomes outcome (m + 1) fs) (sym is)
          ∙ sym (due_outcomes-due outcome m f fs d)))
      | false ↦ λ d.
          ap (map (λ d. due_outcome outcome n d)) (due_at-kept i f fs d) ∙ (next ∙ sym (due_outcomes-kept outcome m f fs d))
    ] refl

pub answers_at : (outcome : ℕ → ℕ → Judged) (n : ℕ) (fs : List Folded) → prefix_to_hit fails (map (λ d. due_outcome outcome n d) (due_at 0 fs)) ≡ answers_of outcome n fs
answers_at outcome n fs = ap (prefix_to_hit fails) (outcomes_at outcome n 0 n fs (sym (add-zero n)))

-- the due slots are slots of the fold
places_at : (i most : ℕ) (fs : List Folded) → i + length fs ≤ most → All (λ d. (d.index < most)) (due_at i fs)
places_at i most [] h = All-nil _
places_at i most (f ∷ fs) h =
    let next = places_at (i + 1) most fs (omega (arith, h)) in
    elim f.due as (λ b. f.due ≡ b → All (λ d. d.index < most) (due_at i (f ∷ fs))) [
      | true ↦ λ d. rw (due_at-due i f fs d) (All-cons (λ d. d.index < most) (record { index = i; size = f.size }) (due_at (i + 1) fs) (omega (arith, h)) next)
      | false ↦ λ d. rw (due_at-kept i f fs d) next
    ] refl

pub due_within : (most : ℕ) (fs : List Folded) → length fs ≤ most → All (λ d. d.index < most) (due_at 0 fs)
due_within most fs h = places_at 0 most fs (omega (arith, h))

length-due_at : (i : ℕ) (fs : List Folded) → length (due_at i fs) ≤ length fs
length-due_at i [] = omega arith
length-due_at i (f ∷ fs) =
    let next = length-due_at (i + 1) fs in
    elim f.due as (λ b. f.due ≡ b → length (due_at i (f ∷ fs)) ≤ suc (length fs)) [
      | true ↦ λ d. rw (due_at-due i f fs d) (omega (arith, next))
      | false ↦ λ d. rw (due_at-kept i f fs d) (omega (arith, next))
    ] refl

pub few_due : (fs : List Folded) → length (due_at 0 fs) ≤ length fs
few_due fs = length-due_at 0 fs

small_at : (i : ℕ) (fs : List Folded) → All (λ f. f.size ≤ 1000) fs → All (λ d. d.size ≤ 1000) (due_at i fs)
small_at i [] h = All-nil _
small_at i (f ∷ fs) h =
    let next = small_at (i + 1) fs (All-tail (λ f. f.size ≤ 1000) f fs h) in
    elim f.due as (λ b. f.due ≡ b → All (λ d. d.size ≤ 1000) (due_at i (f ∷ fs))) [
      | true ↦ λ d. rw (due_at-due i f fs d) (All-cons (λ d. d.size ≤ 1000) (record { index = i; size = f.size }) (due_at (i + 1) fs) (All-head (λ f. f.size ≤ 1000) f fs h) next)
      | false ↦ λ d. rw (due_at-kept i f fs d) next
    ] refl

-- where the attempts of the window are prepared, those of the due slots may be performed
pub due_ready : (prepared : Range) (n count : ℕ) (fs : List Folded) → length fs ≤ count → ((i : ℕ) → i < count → Includes prepared (n + i)) → All (λ f. f.size ≤ 1000) fs
    → Ready prepared n (due_at 0 fs)
due_ready prepared n count fs within ready small = λ k d h.
    (ready _ (due_within count fs within k d h), small_at 0 fs small k d h)
