-- What the parts of a round come to.
use Rattle.std.proofs.Common.{◌≡◌, ℕ, suc, ◌≤◌, true, List, [], ◌∷◌, ◌++◌, None, length, take, drop, map, refl, sym, ◌∙◌, ap, arith, append-nil}
use Rattle.std.proofs.lemmas.List.{drop_all}
use Rattle.std.proofs.Math.Seq.{take-length}
use Rattle.qk_base.specs.Judged.{Judged}
use Rattle.qk_schedule.specs.Course.{Rules, Plans}
use Rattle.qk_scan.specs.Prefix.{prefix_to_hit}
use Rattle.qk_rounds.specs.declared.folded.Folded.{Folded}
use Rattle.qk_rounds.specs.declared.due.Due.{Due}
use Rattle.qk_rounds.specs.Due.{due_at, due_outcome}
use Rattle.qk_rounds.specs.Placed.{placed}
use Rattle.qk_rounds.specs.Windows.{Slot, fold, fails, answers_of, stored, some_due, repair}
use Rattle.qk_rounds.specs.Round.{Knows, Repaired}
use Rattle.qk_rounds.proofs.Dues.{answers_at}
use Rattle.qk_rounds.proofs.Longer.{repair_longer}
use Rattle.qk_rounds.proofs.Placing.{placed_is_stored}
use Rattle.qk_rounds.proofs.Predicts.{Predicts}
use Rattle.qk_rounds.proofs.Stored.{length-prefix, some_answers}

-- the scan of the due slots gives what the round stores
pub found : (outcome : ℕ → ℕ → Judged) (n : ℕ) (folded : List Folded) (due : List Due) (answers : List Judged)
    → due ≡ due_at 0 folded → answers ≡ prefix_to_hit fails (map (λ d. due_outcome outcome n d) due) → answers ≡ answers_of outcome n folded
found outcome n folded due answers is are = are ∙ (ap (λ (l : List Due). prefix_to_hit fails (map (λ d. due_outcome outcome n d) l)) is ∙ answers_at outcome n folded)

length-outcomes : (outcome : ℕ → ℕ → Judged) (n : ℕ) (due : List Due) → length (map (λ d. due_outcome outcome n d) due) ≡ length due
length-outcomes outcome n [] = refl
length-outcomes outcome n (d ∷ due) = ap suc (length-outcomes outcome n due)

pub few_found : (outcome : ℕ → ℕ → Judged) (n : ℕ) (due : List Due) (answers : List Judged)
    → answers ≡ prefix_to_hit fails (map (λ d. due_outcome outcome n d) due) → length answers ≤ length due
few_found outcome n due answers are =
    omega (arith, ap length are, length-prefix (map (λ d. due_outcome outcome n d) due), length-outcomes outcome n due)

pub is_stored : (outcome : ℕ → ℕ → Judged) (n : ℕ) (folded : List Folded) (due : List Due) (answers : List Judged) (old new : List Slot)
    → due ≡ due_at 0 folded → answers ≡ answers_of outcome n folded → length folded ≤ length old → new ≡ placed due answers old
    → new ≡ stored folded (answers_of outcome n folded) old
is_stored outcome n folded due answers old new is are within is_placed =
    is_placed
    ∙ (ap (λ (l : List Due). placed l answers old) is
    ∙ (ap (λ (l : List Judged). placed (due_at 0 folded) l old) are
    ∙ placed_is_stored folded (answers_of outcome n folded) old within))

-- a loan that gives back as many items as it took
pub written-whole : (old new : List Slot) → length new ≡ length old → take (length old) (new ++ drop (length new) old) ≡ new
written-whole old new same =
    let none : drop (length new) old ≡ [] = drop_all (length new) old (omega (arith, same)) in
    rw (none, append-nil, ← same) (take-length new)

pub repaired : {S P : Type 0} (rules : Rules S) (plans : Plans S P) (outcome : ℕ → ℕ → Judged) (proper : S → Type 0) → Predicts rules plans outcome proper
    → (s : S) (n : ℕ) (old new : List Slot) (folded : List Folded) (count : ℕ)
    → proper s → rules.stop s ≡ None → Knows outcome n old
    → folded ≡ fold plans (plans.plan s) old → new ≡ stored folded (answers_of outcome n folded) old → count ≡ length (answers_of outcome n folded) → some_due folded ≡ true
    → Repaired rules plans outcome s n old new count
repaired rules plans outcome proper laws s n old new folded count ok e known is_fold are_stored is_count due =
    let due' : some_due (fold plans (plans.plan s) old) ≡ true = ap some_due (sym is_fold) ∙ due in
    let is_new : new ≡ repair plans outcome (plans.plan s) n old = are_stored ∙ ap (λ fs. stored fs (answers_of outcome n fs) old) is_fold in
    let counted : count ≡ length (answers_of outcome n (fold plans (plans.plan s) old)) = is_count ∙ ap (λ fs. length (answers_of outcome n fs)) is_fold in
    record {
      due = due';
      slots = is_new;
      count_is = counted;
      some = let some = some_answers outcome n (fold plans (plans.plan s) old) due' in omega (arith, some, counted);
      longer = let more = repair_longer rules plans outcome proper laws old s n ok e known due' in rw is_new more;
    }
