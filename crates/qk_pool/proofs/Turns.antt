-- Lists of jobs and then ends.
use Rattle.std.proofs.Common.{◌≡◌, ℕ, suc, ◌+◌, ◌<◌, ◌≤◌, List, [], ◌∷◌, ◌++◌, length, length-append, refl, ap, subst, arith}
use Rattle.qk_totals.specs.Totals.{times}
use Rattle.qk_totals.proofs.Totals.{total_append, times_append, one_other}
use Rattle.qk_pool.specs.declared.taken.Taken.{Taken}
use Rattle.qk_pool.specs.declared.taken.Taken.TheVariants.{Job, End}
use Rattle.qk_pool.specs.Numbers.{numbers_of, is_end, ends_of, Below}
use Rattle.qk_pool.specs.Rule.{InTurn}
use Rattle.qk_pool.specs.Steps.{Fits, IsNew}

pub ends_le : (xs : List Taken) → ends_of xs ≤ length xs
ends_le [] = omega arith
ends_le (Job n i ∷ xs) = let r = ends_le xs in omega arith
ends_le (End ∷ xs) = let r = ends_le xs in omega arith

pub numbers_append : (xs ys : List Taken) → numbers_of (xs ++ ys) ≡ numbers_of xs ++ numbers_of ys
numbers_append [] ys = refl
numbers_append (Job n i ∷ xs) ys = ap (λ l. n ∷ l) (numbers_append xs ys)
numbers_append (End ∷ xs) ys = numbers_append xs ys

turn_end : (k : ℕ) (s : List Taken) → InTurn k s → InTurn k (s ++ End ∷ [])
turn_end k [] h = refl
turn_end k (Job m j ∷ s) h = (h.0, h.1, turn_end (suc k) s h.2)
turn_end k (End ∷ s) h = let a = total_append is_end s (End ∷ []) in let b = length-append s (End ∷ []) in omega arith

turn_job : (x : Taken) (k : ℕ) (s : List Taken) → InTurn k s → ends_of s ≡ 0 → InTurn (k + length s) (x ∷ []) → InTurn k (s ++ x ∷ [])
turn_job x k [] h e t = subst (λ m. InTurn m (x ∷ [])) (omega arith) t
turn_job x k (Job m j ∷ s) h e t = (h.0, h.1, turn_job x (suc k) s h.2 (omega arith) (subst (λ m. InTurn m (x ∷ [])) (omega arith) t))
turn_job x k (End ∷ s) h e t = absurd (omega arith)

-- what fits joins at the back
pub turn_snoc : (s : List Taken) (x : Taken) → InTurn 0 s → Fits s x → InTurn 0 (s ++ x ∷ [])
turn_snoc s (Job n i) h f = let is : n ≡ 0 + length s = omega (arith, f.0) in turn_job (Job n i) 0 s h f.2 (is, f.1, tt)
turn_snoc s End h f = turn_end 0 s h

-- the number of a job is the count of what went before
at_job : (k n : ℕ) (x : Taken) (got items : List Taken) → ((l : ℕ) → InTurn l (x ∷ items) → (n ≡ l) × (n < 256)) → is_end x ≡ 0 → InTurn k (got ++ x ∷ items) → (n ≡ k + length got) × (n < 256)
at_job k n x [] items f z h = let r = f k h in (omega arith, r.1)
at_job k n x (Job m j ∷ got) items f z h = let r = at_job (suc k) n x got items f z h.2 in (omega arith, r.1)
at_job k n x (End ∷ got) items f z h = let a = total_append is_end got (x ∷ items) in let b = length-append got (x ∷ items) in let c = ends_le got in let d = ends_le items in absurd (omega arith)

-- after an end there are ends alone
pub after_end : (k : ℕ) (got items : List Taken) → InTurn k (got ++ items) → 0 < ends_of got → ends_of items ≡ length items
after_end k [] items h p = absurd (omega arith)
after_end k (Job m j ∷ got) items h p = after_end (suc k) got items h.2 (omega arith)
after_end k (End ∷ got) items h p = let a = total_append is_end got items in let b = length-append got items in let c = ends_le got in let d = ends_le items in omega arith

-- what is taken is new to a taker whose numbers are below the count
pub is_new : (got items xs : List Taken) (x : Taken) → InTurn 0 (got ++ x ∷ items) → Below (length got) (numbers_of xs) → IsNew xs x
is_new got items xs (Job n i) h b = let r = at_job 0 n (Job n i) got items (λ l t. (t.0, t.1)) refl h in (r.1, λ m low. b m (omega arith))
is_new got items xs End h b = tt

pub below_more : (g g' : ℕ) (ms : List ℕ) → g ≤ g' → Below g ms → Below g' ms
below_more g g' ms h b m low = b m (omega arith)

pub below_new : (got items xs : List Taken) (x : Taken) → InTurn 0 (got ++ x ∷ items) → Below (length got) (numbers_of xs) → Below (length (got ++ x ∷ [])) (numbers_of (xs ++ x ∷ []))
below_new got items xs (Job n i) h b m low =
    let r = at_job 0 n (Job n i) got items (λ l t. (t.0, t.1)) refl h in
    let s = length-append got (Job n i ∷ []) in
    let e = ap (times m) (numbers_append xs (Job n i ∷ [])) in
    let t = times_append m (numbers_of xs) (n ∷ []) in
    let one = one_other n m (λ is. omega arith) in
    let old = b m (omega arith) in omega arith
below_new got items xs End h b m low =
    let s = length-append got (End ∷ []) in
    let e = ap (times m) (numbers_append xs (End ∷ [])) in
    let t = times_append m (numbers_of xs) [] in
    let old = b m (omega arith) in omega arith
