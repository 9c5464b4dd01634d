-- What the last state of a run counts.
use Rattle.std.proofs.Common.{◌≡◌, ◌∙◌, ℕ, zero, suc, ◌+◌, ◌<◌, ◌≤◌, Bool, true, false, Some, None, List, [], ◌∷◌, ◌++◌, length, filter, refl, sym, ap, subst, arith, length-append}
use Rattle.std.proofs.lemmas.List.Elements.{filter-append}
use Rattle.qk_base.specs.Judged.{Judged, cause_of, passes}
use Rattle.qk_schedule.specs.Counts.{Counts, raised}
use Rattle.qk_schedule.specs.LimitsData.{LimitsData}
use Rattle.qk_schedule.specs.Quick.{rules_of, IsProper}
use Rattle.qk_schedule.specs.QuickLaws.{start_proper, step_proper}
use Rattle.qk_schedule.specs.Schedule.{stop_at, step_at}
use Rattle.qk_schedule.specs.Sequential.{Run, from_by, sequential}
use Rattle.qk_schedule.proofs.SequentialRun.{from_by-stopped, from_by-failed, from_by-goes_on}

-- the successes are the outcomes that passed, the discards are the others, and the state is one that can come up
pub record IsCounted (limits : LimitsData) (s : Counts) (done : List Judged) : Type 0 where
  pub passed : length (filter passes done) ≡ s.successes
  pub all : length done ≡ s.successes + s.discards
  pub proper : IsProper limits s

length-one : (done : List Judged) (o : Judged) → length (done ++ o ∷ []) ≡ length done + 1
length-one done o = length-append done (o ∷ [])

abbrev one_if : Bool → ℕ
one_if true = 1
one_if false = 0

filtered-one : (o : Judged) (b : Bool) → passes o ≡ b → length (filter passes (o ∷ [])) ≡ one_if b
filtered-one o true e = rw e refl
filtered-one o false e = rw e refl

filtered : (done : List Judged) (o : Judged) (b : Bool) → passes o ≡ b → length (filter passes (done ++ o ∷ [])) ≡ length (filter passes done) + one_if b
filtered done o b e =
    let both : filter passes (done ++ o ∷ []) ≡ filter passes done ++ filter passes (o ∷ []) = filter-append passes done (o ∷ []) in
    let parts : length (filter passes done ++ filter passes (o ∷ [])) ≡ length (filter passes done) + length (filter passes (o ∷ [])) = length-append (filter passes done) (filter passes (o ∷ [])) in
    let one = filtered-one o b e in
    omega (arith, ap length both, parts, one)

module _ (limits : LimitsData) where
  counted_step : (s : Counts) (o : Judged) (done : List Judged) → IsCounted limits s done → stop_at limits s ≡ None → IsCounted limits (step_at s o) (done ++ o ∷ [])
  counted_step s o done counted running =
      let before = counted.passed in
      let both = counted.all in
      let longer = length-one done o in
      elim (passes o) as (λ b. passes o ≡ b → IsCounted limits (step_at s o) (done ++ o ∷ [])) [
        | true ↦ λ e.
            let next : step_at s o ≡ record { successes = s.successes + 1; discards = s.discards; recent = 0; covers = raised s.covers o.marks.covers } = rw e refl in
            let more = filtered done o true e in
            record {
              passed = omega (arith, more, before) ∙ sym (ap (λ (c : Counts). c.successes) next);
              all = omega (arith, longer, both) ∙ sym (ap (λ (c : Counts). c.successes + c.discards) next);
              proper = step_proper limits s o counted.proper running;
            }
        | false ↦ λ e.
            let next : step_at s o ≡ record { successes = s.successes; discards = s.discards + 1; recent = s.recent + 1; covers = s.covers } = rw e refl in
            let more = filtered done o false e in
            record {
              passed = omega (arith, more, before) ∙ sym (ap (λ (c : Counts). c.successes) next);
              all = omega (arith, longer, both) ∙ sym (ap (λ (c : Counts). c.successes + c.discards) next);
              proper = step_proper limits s o counted.proper running;
            }
      ] refl

  module _ (outcome : ℕ → ℕ → Judged) where
    abbrev Ends : Run Counts → Type 0
    Ends run = IsCounted limits run.state run.done

    counted_by : (f : ℕ) (s : Counts) (k : ℕ) (done : List Judged) → IsCounted limits s done → Ends (from_by (rules_of limits) outcome f s k done)
    counted_by zero s k done counted = counted
    counted_by (suc f) s k done counted =
        elim (stop_at limits s) as (λ w. stop_at limits s ≡ w → Ends (from_by (rules_of limits) outcome (suc f) s k done)) [
          | Some why ↦ λ e. subst Ends (sym (from_by-stopped (rules_of limits) outcome f s k done why e)) counted
          | None ↦ λ e. elim (cause_of (outcome k ((rules_of limits).size s)).verdict) as (λ c. cause_of (outcome k ((rules_of limits).size s)).verdict ≡ c → Ends (from_by (rules_of limits) outcome (suc f) s k done)) [
            | Some cause ↦ λ h. subst Ends (sym (from_by-failed (rules_of limits) outcome f s k done cause e h)) counted
            | None ↦ λ h.
                subst Ends (sym (from_by-goes_on (rules_of limits) outcome f s k done e h))
                (counted_by f (step_at s (outcome k ((rules_of limits).size s))) (k + 1) (done ++ outcome k ((rules_of limits).size s) ∷ []) (counted_step s (outcome k ((rules_of limits).size s)) done counted e))
          ] refl
        ] refl

    -- the last state of a whole run counts its committed outcomes
    pub counted : Ends (sequential (rules_of limits) outcome)
    counted = counted_by (suc ((rules_of limits).rest (rules_of limits).start)) (rules_of limits).start 0 [] (record { passed = refl; all = refl; proper = start_proper limits })
