-- Prefixes, marks and paths that lead.
use Rattle.std.proofs.Common.{◌≡◌, ℕ, zero, suc, ◌+◌, ◌-◌, ◌<◌, ◌≤◌, ◌≢◌, cond, Bool, true, eqb, eq-eqb, ne_eqb, List, [], ◌∷◌, ◌++◌, take, length, get_or, set, sym, refl, ap, ◌∙◌, subst, arith}
use mathlib.Core.Logic.{dite}
use native.Mathlib.Decide.{ℕ_discrete}
use Rattle.qk_path.specs.Paths.{IsPrefix, AllPrefixes, path_word}
use Rattle.qk_path.specs.Points.{reached, Leads, width, nth}
use Rattle.qk_path.specs.Views.{past}
use Rattle.qk_totals.specs.Totals.{drawn}

pub prefix_zero : (xs ys : List ℕ) → IsPrefix xs ys → path_word ys (length xs) ≡ 0 → xs ≡ ys
prefix_zero [] [] h e = refl
prefix_zero [] (y ∷ ys) h e = absurd (omega arith)
prefix_zero (x ∷ xs) [] h e = absurd h
prefix_zero (x ∷ xs) (y ∷ ys) h e = λ i. h.0 i ∷ prefix_zero xs ys h.1 e i

pub prefix_suc : (xs ys : List ℕ) (j : ℕ) → IsPrefix xs ys → path_word ys (length xs) ≡ suc j → IsPrefix (xs ++ j ∷ []) ys
prefix_suc [] [] j h e = absurd (omega arith)
prefix_suc [] (y ∷ ys) j h e = (omega arith, tt)
prefix_suc (x ∷ xs) [] j h e = absurd h
prefix_suc (x ∷ xs) (y ∷ ys) j h e = (h.0, prefix_suc xs ys j h.1 e)

pub word_suc : (ys : List ℕ) (e j : ℕ) → path_word ys e ≡ suc j → e < length ys
word_suc [] e j h = absurd (omega arith)
word_suc (y ∷ ys) zero j h = omega arith
word_suc (y ∷ ys) (suc e) j h = let r = word_suc ys e j h in omega arith

pub prefix_more : (xs ys zs : List ℕ) → IsPrefix xs ys → IsPrefix xs (ys ++ zs)
prefix_more [] ys zs h = tt
prefix_more (x ∷ xs) [] zs h = absurd h
prefix_more (x ∷ xs) (y ∷ ys) zs h = (h.0, prefix_more xs ys zs h.1)

pub prefixes_more : (xss : List (List ℕ)) (ys zs : List ℕ) → AllPrefixes xss ys → AllPrefixes xss (ys ++ zs)
prefixes_more [] ys zs h = tt
prefixes_more (xs ∷ xss) ys zs h = (prefix_more xs ys zs h.0, prefixes_more xss ys zs h.1)

pub prefixes_append : (xss yss : List (List ℕ)) (ys : List ℕ) → AllPrefixes xss ys → AllPrefixes yss ys → AllPrefixes (xss ++ yss) ys
prefixes_append [] yss ys h k = k
prefixes_append (xs ∷ xss) yss ys h k = (h.0, prefixes_append xss yss ys h.1 k)

pub prefix_self : (xs : List ℕ) → IsPrefix xs xs
prefix_self [] = tt
prefix_self (x ∷ xs) = (refl, prefix_self xs)

pub prefix_le : (xs ys : List ℕ) → IsPrefix xs ys → length xs ≤ length ys
prefix_le [] ys h = omega arith
prefix_le (x ∷ xs) [] h = absurd h
prefix_le (x ∷ xs) (y ∷ ys) h = let r = prefix_le xs ys h.1 in omega arith

pub prefix_all : (xs ys : List ℕ) → IsPrefix xs ys → length xs ≡ length ys → xs ≡ ys
prefix_all [] [] h e = refl
prefix_all [] (y ∷ ys) h e = absurd (omega arith)
prefix_all (x ∷ xs) [] h e = absurd h
prefix_all (x ∷ xs) (y ∷ ys) h e = λ i. h.0 i ∷ prefix_all xs ys h.1 (omega arith) i

pub prefix_take : (xs ys : List ℕ) → IsPrefix xs ys → take (length xs) ys ≡ xs
prefix_take [] ys h = refl
prefix_take (x ∷ xs) [] h = absurd h
prefix_take (x ∷ xs) (y ∷ ys) h = λ i. sym h.0 i ∷ prefix_take xs ys h.1 i

pub take_more : (e : ℕ) (ys zs : List ℕ) → e ≤ length ys → take e (ys ++ zs) ≡ take e ys
take_more zero ys zs h = refl
take_more (suc e) [] zs h = absurd (omega arith)
take_more (suc e) (y ∷ ys) zs h = ap (λ l. y ∷ l) (take_more e ys zs (omega arith))

pub word_last : (ys : List ℕ) (k e : ℕ) → e ≡ length ys → path_word (ys ++ k ∷ []) e ≡ suc k
word_last [] k zero e = refl
word_last [] k (suc n) e = absurd (omega arith)
word_last (y ∷ ys) k zero e = absurd (omega arith)
word_last (y ∷ ys) k (suc n) e = word_last ys k n (omega arith)

pub word_else : (ys : List ℕ) (k e : ℕ) → e ≢ length ys → path_word (ys ++ k ∷ []) e ≡ path_word ys e
word_else [] k zero e = absurd (e refl)
word_else [] k (suc n) e = refl
word_else (y ∷ ys) k zero e = refl
word_else (y ∷ ys) k (suc n) e = word_else ys k n (λ h. e (omega arith))

module _ {P : Type 0} (children : P → List P) (failing : P → Bool) where
  pub leads_prefix : (p : P) (xs ys : List ℕ) → IsPrefix xs ys → Leads children failing p ys → Leads children failing p xs
  leads_prefix p [] ys h l = tt
  leads_prefix p (x ∷ xs) [] h l = absurd h
  leads_prefix p (x ∷ xs) (y ∷ ys) h l =
      let Q : ℕ → Type 0 = λ n. (n < length (children p)) × (failing (nth p (children p) n) ≡ true) × Leads children failing (nth p (children p) n) ys in
      let m = subst Q (sym h.0) l in (m.0, m.1, leads_prefix (nth p (children p) x) xs ys h.1 m.2)

  pub leads_more : (p : P) (xs : List ℕ) (k : ℕ) → Leads children failing p xs → k < width children p xs → failing (nth (reached children p xs) (children (reached children p xs)) k) ≡ true → Leads children failing p (xs ++ k ∷ [])
  leads_more p [] k l h b = (h, b, tt)
  leads_more p (x ∷ xs) k l h b = (l.0, l.1, leads_more (nth p (children p) x) xs k l.2 h b)

pub past_append : (e n : ℕ) (xs ys : List (ℕ × ℕ)) → past e n (xs ++ ys) ≡ past e n xs + past e n ys
past_append e n [] ys = omega arith
past_append e n (x ∷ xs) ys = let r = past_append e n xs ys in omega arith

pub past_low : (e n x : ℕ) → x < n → past e n ((e, x) ∷ []) ≡ 0
past_low e n x h = let z : 1 - (n - x) ≡ 0 = omega arith in ap (λ b. cond b (1 - (n - x)) 0 + 0) (eq-eqb e e refl) ∙ ap (λ t. t + 0) z

pub past_high : (e n x : ℕ) → n ≤ x → past e n ((e, x) ∷ []) ≡ 1
past_high e n x h = let z : 1 - (n - x) ≡ 1 = omega arith in ap (λ b. cond b (1 - (n - x)) 0 + 0) (eq-eqb e e refl) ∙ ap (λ t. t + 0) z

pub past_else : (e q n x : ℕ) → q ≢ e → past e n ((q, x) ∷ []) ≡ 0
past_else e q n x ne = ap (λ b. cond b (1 - (n - x)) 0 + 0) (ne_eqb q e ne)

pub past_none : (e n : ℕ) (xs : List (ℕ × ℕ)) → ((x : ℕ) → drawn e x xs ≡ 0) → past e n xs ≡ 0
past_none e n [] h = refl
past_none e n ((q, y) ∷ xs) h = dite (ℕ_discrete q e)
    (λ is. let z = h y in let one = ap (λ b. cond b (cond (eqb y y) 1 0) 0 + drawn e y xs) (eq-eqb q e is) in let two = ap (λ b. cond b 1 0 + drawn e y xs) (eq-eqb y y refl) in absurd (omega arith))
    (λ ne. let t = ap (λ b. cond b (1 - (n - y)) 0 + past e n xs) (ne_eqb q e ne) in let r = past_none e n xs (λ x. let z = h x in let t = ap (λ b. cond b (cond (eqb y x) 1 0) 0 + drawn e x xs) (ne_eqb q e ne) in omega arith) in omega arith)

le_by : (x y a b : ℕ) → x ≡ a → y ≡ b → a ≤ b → x ≤ y
le_by x y a b e f h = omega arith

pub full_le : (a b n : ℕ) → a ≤ b → b ≤ n → cond (eqb a n) 1 0 ≤ cond (eqb b n) 1 0
full_le a b n h k = dite (ℕ_discrete a n)
    (λ e. let is : b ≡ n = omega arith in le_by (cond (eqb a n) 1 0) (cond (eqb b n) 1 0) 1 1 (ap (λ t. cond t 1 0) (eq-eqb a n e)) (ap (λ t. cond t 1 0) (eq-eqb b n is)) (omega arith))
    (λ e. le_by (cond (eqb a n) 1 0) (cond (eqb b n) 1 0) 0 (cond (eqb b n) 1 0) (ap (λ t. cond t 1 0) (ne_eqb a n e)) refl (omega arith))

pub full_yes : (a n : ℕ) → a ≡ n → ◌≡◌ {A = ℕ} (cond (eqb a n) 1 0) 1
full_yes a n e = ap (λ t. cond t 1 0) (eq-eqb a n e)

pub full_no : (a n : ℕ) → a ≢ n → ◌≡◌ {A = ℕ} (cond (eqb a n) 1 0) 0
full_no a n e = ap (λ t. cond t 1 0) (ne_eqb a n e)

pub set_id : (l : List ℕ) (i : ℕ) → set l i (get_or l i 0) ≡ l
set_id [] i = refl
set_id (x ∷ xs) zero = refl
set_id (x ∷ xs) (suc i) = ap (λ l. x ∷ l) (set_id xs i)
