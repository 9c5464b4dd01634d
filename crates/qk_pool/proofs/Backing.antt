-- What workers found.
use Rattle.std.proofs.Common.{◌≡◌, ℕ, zero, suc, ◌+◌, ◌≤◌, List, [], ◌∷◌, ◌++◌, length, replicate, sym, refl, ap, ◌∙◌, subst, cond, Bool, true, false, true≢false, Option, Some, None, Decides, bytes_eq, Result, Ok, Err, IfOk, arith}
use Rattle.std.proofs.lemmas.Slice.Eq.{bytes_eq-Decides}
use Rattle.qk_base.specs.Growing.{Growing}
use Rattle.qk_totals.specs.Totals.{total}
use Rattle.qk_totals.proofs.Totals.{total_append}
use Rattle.qk_pool.specs.declared.taken.Taken.{Taken}
use Rattle.qk_pool.specs.declared.taken.Taken.TheVariants.{Job, End}
use Rattle.qk_pool.specs.declared.worker.Found.{Found}
use Rattle.qk_pool.specs.Numbers.{is_end, ends_of}
use Rattle.qk_pool.specs.Each.{Each}
use Rattle.qk_pool.specs.Serving.{stray, strays}
use Rattle.qk_pool.specs.declared.taker.Taker.{Taker}
use Rattle.qk_pool.specs.Tokens.{taken_of}
use Rattle.qk_pool.specs.Slots.{InPlace}
use Rattle.qk_pool.specs.Workers.{IsBacked, IsRight, weights_of}
use Rattle.qk_pool.proofs.Eachs.{each_append, each_map}

one_not_zero : ◌≡◌ {A = ℕ} 1 0 → ⊥
one_not_zero e = omega arith

chain : (a b c : ℕ) → a ≤ b → b ≤ c → a ≤ c
chain a b c h k = omega arith

grown : (a d b : ℕ) → b ≡ a + d → a ≤ b
grown a d b e = omega arith

last : (a d b : ℕ) → b ≡ a + (d + 0) → d ≤ b
last a d b e = omega arith

below : (a b : ℕ) → a ≤ b → b ≡ 0 → a ≡ 0
below a b h e = omega arith

stray_same : (b : Bool) (l m : List ℕ) → Decides b (l ≡ m) → l ≡ m → ◌≡◌ {A = ℕ} (cond b 0 1) 0
stray_same true l m d e = refl
stray_same false l m d e = absurd (true≢false (sym (d.1 e)))

same_stray : (b : Bool) (l m : List ℕ) → Decides b (l ≡ m) → ◌≡◌ {A = ℕ} (cond b 0 1) 0 → l ≡ m
same_stray true l m d z = d.0 refl
same_stray false l m d z = absurd (one_not_zero z)

-- the input that was told is not a stray
pub no_stray : (told : Option (List ℕ)) (l : List ℕ) → ((input : List ℕ) → told ≡ Some input → l ≡ input) → stray told l ≡ 0
no_stray None l h = refl
no_stray (Some m) l h = stray_same (bytes_eq l m) l m (bytes_eq-Decides l m) (h m refl)

-- what is not a stray is the input that was told
pub not_stray : (told : Option (List ℕ)) (l : List ℕ) → stray told l ≡ 0 → (input : List ℕ) → told ≡ Some input → l ≡ input
not_stray told l h input e = same_stray (bytes_eq l input) l input (bytes_eq-Decides l input) (subst (λ t. stray t l ≡ 0) e h)

ends_alone : (h : Taken → ℕ) (k : ℕ) → h End ≡ 0 → total h (replicate k End) ≡ 0
ends_alone h zero e = refl
ends_alone h (suc k) e = let r = ends_alone h k e in omega arith

count_ends : (k : ℕ) → total is_end (replicate k End) ≡ k
count_ends zero = refl
count_ends (suc k) = let r = count_ends k in omega arith

pub strays_ended : (inputs : ℕ → Option (List ℕ)) (old new : List Taken) (k : ℕ) → new ≡ old ++ replicate k End → total (strays inputs) old ≡ 0 → total (strays inputs) new ≡ 0
strays_ended inputs old new k is none = let a = ap (total (strays inputs)) is ∙ total_append (strays inputs) old (replicate k End) in let b = ends_alone (strays inputs) k refl in omega arith

pub ends_ended : (old new : List Taken) (k : ℕ) → new ≡ old ++ replicate k End → ends_of old ≡ 0 → ends_of new ≡ k
ends_ended old new k is none = let a = ap ends_of is ∙ total_append is_end old (replicate k End) in let b = count_ends k in omega arith

pub one_more : (h : Taken → ℕ) (xs : List Taken) (x : Taken) → total h xs ≡ 0 → h x ≡ 0 → total h (xs ++ x ∷ []) ≡ 0
one_more h xs x a b = let s = total_append h xs (x ∷ []) in omega arith

module _ {A : Type 0} (answers : ℕ → List ℕ → A → Type 0) where
  pub backed_more : (f g : (Taken → ℕ) → ℕ) → ((h : Taken → ℕ) → f h ≤ g h) → (xs : List (Found A)) → Each (IsBacked answers f) xs → Each (IsBacked answers g) xs
  backed_more f g le xs = each_map (IsBacked answers f) (IsBacked answers g) (λ x b. (b.0, b.1, λ h. chain (h (Job x.number b.0)) (f h) (g h) (b.2 h) (le h))) xs

  -- a job was taken and performed
  pub backed_job : (old new : List Taken) (n : ℕ) (i : Growing ℕ) (a : A) (found : List (Found A)) → new ≡ old ++ Job n i ∷ [] → answers n i.items a
      → Each (IsBacked answers (λ h. total h old)) found → Each (IsBacked answers (λ h. total h new)) (found ++ record { number = n; answer = a } ∷ [])
  backed_job old new n i a found is good all =
      let more : (h : Taken → ℕ) → total h new ≡ total h old + (h (Job n i) + 0) = λ h. ap (total h) is ∙ total_append h old (Job n i ∷ []) in
      each_append (IsBacked answers (λ h. total h new)) found (record { number = n; answer = a } ∷ []) (backed_more (λ h. total h old) (λ h. total h new) (λ h. grown (total h old) (h (Job n i) + 0) (total h new) (more h)) found all)
      ((i, good, λ h. last (total h old) (h (Job n i)) (total h new) (more h)), tt)

  pub backed_same : (old new : List Taken) (x : Taken) (found : List (Found A)) → new ≡ old ++ x ∷ [] → Each (IsBacked answers (λ h. total h old)) found → Each (IsBacked answers (λ h. total h new)) found
  backed_same old new x found is all = backed_more (λ h. total h old) (λ h. total h new) (λ h. grown (total h old) (total h (x ∷ [])) (total h new) (ap (total h) is ∙ total_append h old (x ∷ []))) found all

  -- where no stray was put, what was found is right
  pub all_right : (inputs : ℕ → Option (List ℕ)) (weight : (Taken → ℕ) → ℕ) → weight (strays inputs) ≡ 0 → (found : List (Found A)) → Each (IsBacked answers weight) found → Each (λ f. IsRight inputs answers f.number f.answer) found
  all_right inputs weight none found = each_map (IsBacked answers weight) (λ f. IsRight inputs answers f.number f.answer)
      (λ f b input e. subst (λ l. answers f.number l f.answer) (not_stray (inputs f.number) b.0.items (below (stray (inputs f.number) b.0.items) (weight (strays inputs)) (b.2 (strays inputs)) none) input e) b.1) found

pub weights_grow : (ts us : List Taker) (t : Taker) → us ≡ ts ++ t ∷ [] → (h : Taken → ℕ) → weights_of ts h ≤ weights_of us h
weights_grow ts us t is h = grown (weights_of ts h) (weights_of (t ∷ []) h) (weights_of us h) (ap (λ l. weights_of l h) is ∙ total_append (λ u. total h (taken_of u)) ts (t ∷ []))

pub weight_last : (ts us : List Taker) (t : Taker) → us ≡ ts ++ t ∷ [] → (h : Taken → ℕ) → total h (taken_of t) ≤ weights_of us h
weight_last ts us t is h = last (weights_of ts h) (total h (taken_of t)) (weights_of us h) (ap (λ l. weights_of l h) is ∙ total_append (λ u. total h (taken_of u)) ts (t ∷ []))

pub strays_same : (f g : ℕ → Option (List ℕ)) → ((n : ℕ) → f n ≡ g n) → (xs : List Taken) → total (strays f) xs ≡ total (strays g) xs
strays_same f g e [] = refl
strays_same f g e (Job n i ∷ xs) = let one = ap (λ o. stray o i.items) (e n) in let r = strays_same f g e xs in omega arith
strays_same f g e (End ∷ xs) = let r = strays_same f g e xs in omega arith

module _ {A : Type 0} where
  right_same : (f g : ℕ → Option (List ℕ)) (answers : ℕ → List ℕ → A → Type 0) → ((n : ℕ) → f n ≡ g n) → (k : ℕ) (xs : List A) → InPlace (IsRight f answers) k xs → InPlace (IsRight g answers) k xs
  right_same f g answers e k [] h = tt
  right_same f g answers e k (x ∷ xs) h = ((λ input told. h.0 input (e k ∙ told)), right_same f g answers e (suc k) xs h.1)

  pub served_same : {S E : Type 0} (items : S → List A) (f g : ℕ → Option (List ℕ)) (answers : ℕ → List ℕ → A → Type 0) (count : ℕ) (r : Result S E) → ((n : ℕ) → f n ≡ g n)
      → IfOk r (λ v. (length (items v) ≡ count) × InPlace (IsRight f answers) 0 (items v)) → IfOk r (λ v. (length (items v) ≡ count) × InPlace (IsRight g answers) 0 (items v))
  served_same items f g answers count (Ok v) e h = (h.0, right_same f g answers e 0 (items v) h.1)
  served_same items f g answers count (Err x) e h = tt
