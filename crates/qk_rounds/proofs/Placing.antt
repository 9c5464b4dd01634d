-- Answers are put into their slots from the last on.
use Rattle.std.proofs.Common.{◌≡◌, ℕ, ◌+◌, ◌<◌, ◌≤◌, true, false, Some, List, [], ◌∷◌, ◌++◌, length, get_or, slice_index_or, slice_set, refl, sym, ◌∙◌, ap, arith, append_assoc, length-append}
use Rattle.std.proofs.Math.ListN.{set}
use Rattle.qk_base.specs.Judged.{Judged}
use Rattle.qk_rounds.specs.declared.due.Due.{Due}
use Rattle.qk_rounds.specs.declared.folded.Folded.{Folded}
use Rattle.qk_rounds.specs.Windows.{Slot, stored}
use Rattle.qk_rounds.specs.Due.{due_at}
use Rattle.qk_rounds.specs.Placed.{placed}
use Rattle.qk_rounds.proofs.Steps.{stored-one, stored-none}
use Rattle.qk_rounds.proofs.Stored.{stored-empty}
use Rattle.qk_rounds.proofs.Dues.{due_at-due, due_at-kept}

pub placed-none : (due : List Due) (slots : List Slot) → placed due [] slots ≡ slots
placed-none [] slots = refl
placed-none (d ∷ due) slots = refl

-- the last answer first
pub placed-last : (due : List Due) (answers : List Judged) (answer : Judged) (slots : List Slot) (d : Due) → length answers < length due
    → placed due (answers ++ answer ∷ []) slots
    ≡ placed due answers (set slots (get_or due (length answers) d).index (Some (record { size = (get_or due (length answers) d).size; outcome = answer })))
placed-last [] answers answer slots d h = absurd (omega (arith, h))
placed-last (first ∷ due) [] answer slots d h = ap (λ (l : List Slot). set l first.index (Some (record { size = first.size; outcome = answer }))) (placed-none due slots)
placed-last (first ∷ due) (a ∷ answers) answer slots d h =
    ap (λ (l : List Slot). set l first.index (Some (record { size = first.size; outcome = a }))) (placed-last due answers answer slots d (omega (arith, h)))

-- one more answer is put into its slot
pub placed_next : (due : List Due) (answers rest : List Judged) (answer : Judged) (slots whole : List Slot) (d : Due) (n : ℕ)
    → answers ≡ rest ++ answer ∷ [] → n ≡ length rest → length answers ≤ length due → placed due answers slots ≡ whole
    → placed due rest (slice_set slots (slice_index_or due n d).index (Some (record { size = (slice_index_or due n d).size; outcome = answer }))) ≡ whole
placed_next due answers rest answer slots whole d n is at few told =
    let shorter : length rest < length due = omega (arith, few, ap length is, length-append rest (answer ∷ [])) in
    rw at (sym (placed-last due rest answer slots d shorter) ∙ (ap (λ a. placed due a slots) (sym is) ∙ told))

set-middle : (before after : List Slot) (slot new : Slot) → set (before ++ slot ∷ after) (length before) new ≡ before ++ new ∷ after
set-middle [] after slot new = refl
set-middle (b ∷ before) after slot new = ap (λ (l : List Slot). b ∷ l) (set-middle before after slot new)

placed_at : (i : ℕ) (fs : List Folded) (answers : List Judged) (before slots : List Slot) → i ≡ length before → length fs ≤ length slots
    → placed (due_at i fs) answers (before ++ slots) ≡ before ++ stored fs answers slots
placed_at i [] answers before slots is h = refl
placed_at i (f ∷ fs) answers before [] is h = absurd (omega (arith, h))
placed_at i (f ∷ fs) [] before (slot ∷ slots) is h = placed-none (due_at i (f ∷ fs)) (before ++ slot ∷ slots) ∙ ap (λ (l : List Slot). before ++ l) (sym (stored-empty (f ∷ fs) (slot ∷ slots)))
placed_at i (f ∷ fs) (a ∷ answers) before (slot ∷ slots) is h =
    let longer : i + 1 ≡ length (before ++ slot ∷ []) = omega (arith, is, length-append before (slot ∷ [])) in
    let all : before ++ slot ∷ slots ≡ (before ++ slot ∷ []) ++ slots = sym (append_assoc before (slot ∷ []) slots) in
    elim f.due as (λ b. f.due ≡ b → placed (due_at i (f ∷ fs)) (a ∷ answers) (before ++ slot ∷ slots) ≡ before ++ stored (f ∷ fs) (a ∷ answers) (slot ∷ slots)) [
      | true ↦ λ d.
          let known : Slot = Some (record { size = f.size; outcome = a }) in
          let next = placed_at (i + 1) fs answers (before ++ slot ∷ []) slots longer (omega (arith, h)) in
          ap (λ (l : List Due). placed l (a ∷ answers) (before ++ slot ∷ slots)) (due_at-due i f fs d)
          ∙ (ap (λ (l : List Slot). set (placed (due_at (i + 1) fs) answers l) i known) all
          ∙ (ap (λ (l : List Slot). set l i known) (next ∙ append_assoc before (slot ∷ []) (stored fs answers slots))
          ∙ (ap (λ (k : ℕ). set (before ++ slot ∷ stored fs answers slots) k known) is
          ∙ (set-middle before (stored fs answers slots) slot known
          ∙ ap (λ (l : List Slot). before ++ l) (sym (stored-one f fs a answers slot slots d))))))
      | false ↦ λ d.
          let next = placed_at (i + 1) fs (a ∷ answers) (before ++ slot ∷ []) slots longer (omega (arith, h)) in
          ap (λ (l : List Due). placed l (a ∷ answers) (before ++ slot ∷ slots)) (due_at-kept i f fs d)
          ∙ (ap (λ (l : List Slot). placed (due_at (i + 1) fs) (a ∷ answers) l) all
          ∙ (next
          ∙ (append_assoc before (slot ∷ []) (stored fs (a ∷ answers) slots)
          ∙ ap (λ (l : List Slot). before ++ l) (sym (stored-none f fs (a ∷ answers) slot slots d)))))
    ] refl

pub placed_is_stored : (fs : List Folded) (answers : List Judged) (slots : List Slot) → length fs ≤ length slots → placed (due_at 0 fs) answers slots ≡ stored fs answers slots
placed_is_stored fs answers slots h = placed_at 0 fs answers [] slots refl h
