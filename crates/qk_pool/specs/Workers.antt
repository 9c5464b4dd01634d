-- What a worker has before and after its work.
use Rattle.std.specs.Prelude.{◌≡◌, ℕ, ◌≤◌, List, [], ◌∷◌, Option, Some}
use Rattle.qk_base.specs.Growing.{Growing}
use Rattle.qk_totals.specs.Totals.{total}
use Rattle.qk_pool.specs.declared.taken.Taken.{Taken}
use Rattle.qk_pool.specs.declared.taken.Taken.TheVariants.{Job}
use Rattle.qk_pool.specs.declared.taker.Taker.{Taker}
use Rattle.qk_pool.specs.declared.relay.Relay.{Relay}
use Rattle.qk_pool.specs.declared.worker.Found.{Found}
use Rattle.qk_pool.specs.declared.worker.Worker.{Worker}
use Rattle.qk_pool.specs.Numbers.{numbers_of, ends_of}
use Rattle.qk_pool.specs.Each.{Each}
use Rattle.qk_pool.specs.Tokens.{taken_of, IsTakerOf}

module _ {A : Type 0} where
  -- the answer is one for the input of a job that the weights count
  abbrev pub IsBacked : (ℕ → List ℕ → A → Type 0) → ((Taken → ℕ) → ℕ) → Found A → Type 0
  IsBacked answers weight f = (i : Growing ℕ) × answers f.number i.items f.answer × ((h : Taken → ℕ) → h (Job f.number i) ≤ weight h)

  -- the numbers of the answers, in order
  abbrev pub found_numbers : List (Found A) → List ℕ
  found_numbers [] = []
  found_numbers (f ∷ fs) = f.number ∷ found_numbers fs

  abbrev pub IsReady : Relay → Worker A → Type 0
  IsReady relay w = IsTakerOf relay w.taker × (taken_of w.taker ≡ []) × (w.found.items ≡ [])

  -- it took its end, and has an answer to each job that it took
  abbrev pub IsDone : Relay → (ℕ → List ℕ → A → Type 0) → Worker A → Type 0
  IsDone relay answers w = IsTakerOf relay w.taker × (ends_of (taken_of w.taker) ≡ 1) × Each (IsBacked answers (λ h. total h (taken_of w.taker))) w.found.items × (found_numbers w.found.items ≡ numbers_of (taken_of w.taker))

  -- the answer is one for the input that is told of its number
  abbrev pub IsRight : (ℕ → Option (List ℕ)) → (ℕ → List ℕ → A → Type 0) → ℕ → A → Type 0
  IsRight inputs answers k a = (input : List ℕ) → inputs k ≡ Some input → answers k input a

abbrev pub weights_of : List Taker → (Taken → ℕ) → ℕ
weights_of ts h = total (λ t. total h (taken_of t)) ts
