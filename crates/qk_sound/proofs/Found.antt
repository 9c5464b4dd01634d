-- What lists hold, and what is found in them.
use Rattle.std.specs.Prelude.{cond, find, option_map, unwrap_or, bytes_eq}
use Rattle.std.specs.List.{list_all}
use Rattle.std.proofs.Common.{◌≡◌, ℕ, zero, suc, ◌+◌, ◌<◌, Bool, true, false, ◌&&◌, if◌then◌else◌, List, [], ◌∷◌, ◌++◌, length, Option, Some, None, slice_get, refl, subst, arith}
use Rattle.qk_names.specs.Names.{Declared, named_by}
use Rattle.qk_names.specs.Reserved.{Word, entry_of}
use Rattle.qk_names.specs.declared.names.Named.{Named}
use Rattle.qk_typed.specs.WellTyped.{Each}

pub same_some : {A : Type 0} (a b : A) → Some a ≡ Some b → a ≡ b
same_some a b h = cc

-- what holds at each place holds of each
pub each_from : {X : Type 0} (P : X → Type 0) (xs : List X) → ((i : ℕ) (x : X) → slice_get xs i ≡ Some x → P x) → Each P xs
each_from P [] h = tt
each_from P (x ∷ xs) h = (h 0 x refl, each_from P xs (λ i y e. h (suc i) y e))

pub each_more : {X : Type 0} (P : X → Type 0) (xs : List X) (x : X) → Each P xs → P x → Each P (xs ++ x ∷ [])
each_more P [] x h k = (k, tt)
each_more P (y ∷ ys) x h k = (h.0, each_more P ys x h.1 k)

pub each_weaker : {X : Type 0} (P Q : X → Type 0) (xs : List X) → ((x : X) → P x → Q x) → Each P xs → Each Q xs
each_weaker P Q [] go h = tt
each_weaker P Q (x ∷ xs) go h = (go x h.0, each_weaker P Q xs go h.1)

-- what holds at each place, by its number
abbrev pub HoldsAt : {X : Type 0} → (ℕ → X → Type 0) → List X → Type 0
HoldsAt P xs = (i : ℕ) (x : _) → slice_get xs i ≡ Some x → P i x

entry_by : {A : Type 0} (P : A → Type 0) (b : Bool) (x : A) (o : Option A) (a : A) → P x → (o ≡ Some a → P a) → (if b then Some x else o) ≡ Some a → P a
entry_by P true x o a h k e = subst P (same_some x a e) h
entry_by P false x o a h k e = k e

-- what is found under a word is one of the entries
pub entry_holds : {A : Type 0} (P : A → Type 0) (entries : List (Word × A)) (w : Word) (a : A) → Each (λ (e : Word × A). P e.1) entries → entry_of entries w ≡ Some a → P a
entry_holds P [] w a h e = cc
entry_holds P (entry ∷ entries) w a h e = entry_by P (bytes_eq entry.0 w) entry.1 (entry_of entries w) a h.0 (λ k. entry_holds P entries w a h.1 k) e

find_by : {X : Type 0} (P : X → Type 0) (b : Bool) (x : X) (o : Option X) (a : X) → P x → (o ≡ Some a → P a) → cond b (Some x) o ≡ Some a → P a
find_by P true x o a h k e = subst P (same_some x a e) h
find_by P false x o a h k e = k e

-- .. and so is what passes a test first
pub find_holds : {X : Type 0} (P : X → Type 0) (test : X → Bool) (xs : List X) (a : X) → Each P xs → find test xs ≡ Some a → P a
find_holds P test [] a h e = cc
find_holds P test (x ∷ xs) a h e = find_by P (test x) x (find test xs) a h.0 (λ k. find_holds P test xs a h.1 k) e

both_true : (a b : Bool) → (a && b) ≡ true → (a ≡ true) × (b ≡ true)
both_true true b h = (refl, h)
both_true false b h = cc

pub all_pass : {X : Type 0} (test : X → Bool) (xs : List X) → list_all test xs ≡ true → Each (λ x. test x ≡ true) xs
all_pass test [] h = tt
all_pass test (x ∷ xs) h = let parts = both_true (test x) (list_all test xs) h in (parts.0, all_pass test xs parts.1)

named_of : (P : Named → Type 0) (o : Option Declared) (what : Named) → ((e : Declared) → o ≡ Some e → P e.named) → option_map (λ (e : Declared). e.named) o ≡ Some what → P what
named_of P None what k h = cc
named_of P (Some e) what k h = subst P (same_some e.named what h) (k e refl)

-- what holds of each declared name holds of the one that is found
pub named_holds : (P : Named → Type 0) (names : List Declared) (w : Word) (what : Named) → Each (λ (e : Declared). P e.named) names → named_by names w ≡ Some what → P what
named_holds P names w what h e = named_of P (find (λ d. bytes_eq w d.name) names) what (λ d k. find_holds (λ (x : Declared). P x.named) (λ d. bytes_eq w d.name) names d h k) e

pub at_within : {X : Type 0} (xs : List X) (i : ℕ) → i < length xs → (x : X) × (slice_get xs i ≡ Some x)
at_within [] i l = absurd (omega (arith, l))
at_within (x ∷ xs) zero l = (x, refl)
at_within (x ∷ xs) (suc i) l = at_within xs i (omega (arith, l))

-- what stands at a place stands there when more come
pub still_at : {X : Type 0} (xs ys : List X) (i : ℕ) (x : X) → slice_get xs i ≡ Some x → slice_get (xs ++ ys) i ≡ Some x
still_at [] ys i x e = cc
still_at (y ∷ xs) ys zero x e = e
still_at (y ∷ xs) ys (suc i) x e = still_at xs ys i x e

pub last_at : {X : Type 0} (xs : List X) (x : X) → slice_get (xs ++ x ∷ []) (length xs) ≡ Some x
last_at [] x = refl
last_at (y ∷ ys) x = last_at ys x

-- .. and what stands at one then stood there, or is the last
at_more : {X : Type 0} (P : ℕ → X → Type 0) (xs : List X) (x : X) (n i : ℕ) (y : X) → ((j : ℕ) (z : X) → slice_get xs j ≡ Some z → P (n + j) z) → P (n + length xs) x → slice_get (xs ++ x ∷ []) i ≡ Some y → P (n + i) y
at_more P [] x n zero y h k e = subst (λ (z : _). P (n + 0) z) (same_some x y e) k
at_more P [] x n (suc i) y h k e = cc
at_more P (z ∷ xs) x n zero y h k e = h 0 y e
at_more P (z ∷ xs) x n (suc i) y h k e =
    let next : (j : ℕ) → n + 1 + j ≡ n + suc j = λ j. omega arith in
    let end : n + suc (length xs) ≡ n + 1 + length xs = omega arith in
    subst (λ j. P j y) (next i) (at_more P xs x (n + 1) i y (λ j u f. let at : n + suc j ≡ n + 1 + j = omega arith in subst (λ l. P l u) at (h (suc j) u f)) (subst (λ l. P l x) end k) e)

pub held_more : {X : Type 0} (P : ℕ → X → Type 0) (xs : List X) (x : X) → HoldsAt P xs → P (length xs) x → HoldsAt P (xs ++ x ∷ [])
held_more P xs x h k i y e =
    let zero_more : (j : ℕ) → j ≡ 0 + j = λ j. omega arith in
    let back : 0 + i ≡ i = omega arith in
    subst (λ j. P j y) back (at_more P xs x 0 i y (λ j z f. subst (λ l. P l z) (zero_more j) (h j z f)) (subst (λ l. P l x) (zero_more (length xs)) k) e)

-- what holds of each and of a default holds of what is at a place
pub each_or : {X : Type 0} (P : X → Type 0) (xs : List X) (i : ℕ) (d : X) → Each P xs → P d → P (unwrap_or (slice_get xs i) d)
each_or P [] i d h k = k
each_or P (x ∷ xs) zero d h k = h.0
each_or P (x ∷ xs) (suc i) d h k = each_or P xs i d h.1 k
