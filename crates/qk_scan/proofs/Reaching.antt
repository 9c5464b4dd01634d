-- Every number up to the closed bound was performed, and the bound is the first hit.
use Rattle.std.proofs.Common.{◌≡◌, ℕ, eqb, leb, suc, ◌+◌, ◌-◌, min, ◌<◌, ◌≤◌, ◌⊎◌, Bool, true, false, cond, List, [], ◌∷◌, ◌++◌, length, get_or, sym, refl, ap, ◌∙◌, subst, inl, inr, ⊎_elim, eq-eqb, ne_eqb, append_assoc, arith}
use Rattle.std.proofs.lemmas.Bool.{le-leb, lt-leb}
use mathlib.Core.Logic.{dite}
use mathlib.Core.Option.{some}
use native.Mathlib.Decide.{ℕ_discrete, dec_le}
use lib.ListN.{get_elem?}
use Rattle.qk_totals.specs.Totals.{total, times, drawn, EachBelow}
use Rattle.qk_totals.proofs.Totals.{times_append, le_total}
use Rattle.qk_board.specs.declared.view.BoardView.{BoardView}
use Rattle.qk_board.specs.Views.{length_at, draws_of, dries_of, lowers_of, sights_of}
use Rattle.qk_board.specs.Rule.{IsLeast}
use Rattle.qk_board.specs.Layouts.{IsLayout}
use Rattle.qk_scan.specs.declared.found.Found.{Found}
use Rattle.qk_scan.specs.Each.{Each}
use Rattle.qk_scan.specs.Slots.{Done}
use Rattle.qk_scan.specs.Work.{answer_to, performed, hit_numbers, answered}
use Rattle.qk_scan.proofs.Filling.{not_true}

pos_sum : (a b : ℕ) → 0 < a + b → (0 < a) ⊎ (0 < b)
pos_sum a b h = dite (dec_le 1 a) (λ k. inl k) (λ k. inr (omega arith))

pos_left : (a b : ℕ) → 0 < a → 0 < a + b
pos_left a b h = omega arith

pos_right : (a b : ℕ) → 0 < b → 0 < a + b
pos_right a b h = omega arith

module _ {X : Type 0} where
  -- a sum above 0 has an item above 0
  pos_total : (P : X → Type 0) (f : X → ℕ) (l : List X) → Each P l → 0 < total f l → (x : X) × (i : ℕ) × P x × (0 < f x) × (get_elem? l i ≡ some x)
  pos_total P f [] h p = absurd (omega arith)
  pos_total P f (x ∷ xs) h p = ⊎_elim (λ (a : 0 < f x). (x, 0, h.0, a, refl)) (λ (a : 0 < total f xs). let t = pos_total P f xs h.1 a in (t.0, suc t.1, t.2, t.3, t.4)) (pos_sum (f x) (total f xs) p)

module _ {A : Type 0} (number : ℕ → ℕ → ℕ) (answer : ℕ → A) (hits : A → Bool) where
  abbrev one : ℕ → ℕ → List (Found A)
  one n t = cond (leb n t) (answer_to answer n ∷ []) []

  answered_append : (n : ℕ) (xs ys : List (Found A)) → answered n (xs ++ ys) ≡ answered n xs + answered n ys
  answered_append n [] ys = omega arith
  answered_append n (x ∷ xs) ys = let r = answered_append n xs ys in omega arith

  hits_append : (xs ys : List (Found A)) → hit_numbers hits (xs ++ ys) ≡ hit_numbers hits xs ++ hit_numbers hits ys
  hits_append [] ys = refl
  hits_append (x ∷ xs) ys = ap (λ l. cond (hits x.answer) (x.number ∷ []) [] ++ l) (hits_append xs ys) ∙ sym (append_assoc (cond (hits x.answer) (x.number ∷ []) []) (hit_numbers hits xs) (hit_numbers hits ys))

  times_self : (t : ℕ) (ts : List ℕ) → 0 < times t (t ∷ ts)
  times_self t ts = let e : ◌≡◌ {A = ℕ} (cond (eqb t t) 1 0) 1 = ap (λ b. cond b 1 0) (eq-eqb t t refl) in omega arith

  one_answered : (n t : ℕ) → n ≤ t → 0 < answered n (one n t)
  one_answered n t h = let e : one n t ≡ answer_to answer n ∷ [] = ap (λ b. cond b (answer_to answer n ∷ []) []) (le-leb n t h) in
      let c : answered n (answer_to answer n ∷ []) ≡ 1 = ap (λ b. cond b 1 0 + 0) (eq-eqb n n refl) in subst (λ l. 0 < answered n l) (sym e) (omega arith)

  same_draw : (r x : ℕ) (d : ℕ × ℕ) → 0 < cond (eqb d.0 r) (cond (eqb d.1 x) 1 0) 0 → (d.0 ≡ r) × (d.1 ≡ x)
  same_draw r x d p = dite (ℕ_discrete d.0 r)
      (λ e. dite (ℕ_discrete d.1 x) (λ f. (e, f)) (λ f. let z : ◌≡◌ {A = ℕ} (cond (eqb d.0 r) (cond (eqb d.1 x) 1 0) 0) 0 = ap (λ b. cond b (cond (eqb d.1 x) 1 0) 0) (eq-eqb d.0 r e) ∙ ap (λ b. cond b 1 0) (ne_eqb d.1 x f) in absurd (omega arith)))
      (λ e. let z : ◌≡◌ {A = ℕ} (cond (eqb d.0 r) (cond (eqb d.1 x) 1 0) 0) 0 = ap (λ b. cond b (cond (eqb d.1 x) 1 0) 0) (ne_eqb d.0 r e) in absurd (omega arith))

  -- what was drawn, and whose load is not below it, was performed
  reached : (r x n b : ℕ) (ds : List (ℕ × ℕ)) (ts : List ℕ) → number r x ≡ n → n ≤ b → ((t : ℕ) → 0 < times t ts → b ≤ t) → length ds ≡ length ts → 0 < drawn r x ds → 0 < answered n (performed number answer ds ts)
  reached r x n b [] ts e h low len p = absurd (omega arith)
  reached r x n b (d ∷ ds) [] e h low len p = absurd (omega arith)
  reached r x n b (d ∷ ds) (t ∷ ts) e h low len p =
      let m : ℕ = number d.0 d.1 in let rest : List (Found A) = performed number answer ds ts in
      subst (λ k. 0 < k) (sym (answered_append n (one m t) rest))
      (⊎_elim (λ (a : 0 < cond (eqb d.0 r) (cond (eqb d.1 x) 1 0) 0). pos_left (answered n (one m t)) (answered n rest)
      (let is = same_draw r x d a in let k : n ≡ m = sym e ∙ (ap (λ q. number q x) (sym is.0) ∙ ap (number d.0) (sym is.1)) in
      let le : b ≤ t = low t (times_self t ts) in subst (λ q. 0 < answered n (one q t)) k (one_answered n t (omega arith))))
      (λ (a : 0 < drawn r x ds). pos_right (answered n (one m t)) (answered n rest) (reached r x n b ds ts e h (λ u k. low u (pos_right (cond (eqb t u) 1 0) (times u ts) k)) (omega arith) a))
      (pos_sum (cond (eqb d.0 r) (cond (eqb d.1 x) 1 0) 0) (drawn r x ds) p))

  -- a number that was performed and whose answer hits was lowered
  abbrev AllTrue : List (Found A) → Type 0
  AllTrue l = Each (λ f. f.answer ≡ answer f.number) l

  truth_one : (m t : ℕ) (l : List (Found A)) → AllTrue l → AllTrue (one m t ++ l)
  truth_one m t l h = dite (dec_le m t) (λ k. subst (λ b. AllTrue (cond b (answer_to answer m ∷ []) [] ++ l)) (sym (le-leb m t k)) (refl, h))
      (λ k. subst (λ b. AllTrue (cond b (answer_to answer m ∷ []) [] ++ l)) (sym (lt-leb m t (omega arith))) h)

  pub truth : (ds : List (ℕ × ℕ)) (ts : List ℕ) → AllTrue (performed number answer ds ts)
  truth [] ts = tt
  truth (d ∷ ds) [] = tt
  truth (d ∷ ds) (t ∷ ts) = truth_one (number d.0 d.1) t (performed number answer ds ts) (truth ds ts)

  go : (n : ℕ) (l : List (Found A)) → AllTrue l → hits (answer n) ≡ true → 0 < answered n l → 0 < times n (hit_numbers hits l)
  go n [] u h p = absurd (omega arith)
  go n (f ∷ fs) u h p = subst (λ k. 0 < k) (sym (times_append n (cond (hits f.answer) (f.number ∷ []) []) (hit_numbers hits fs)))
      (dite (ℕ_discrete f.number n)
      (λ e. let hit : hits f.answer ≡ true = ap hits (u.0 ∙ ap answer e) ∙ h in pos_left (times n (cond (hits f.answer) (f.number ∷ []) [])) (times n (hit_numbers hits fs))
      (subst (λ b. 0 < times n (cond b (f.number ∷ []) [])) (sym hit) (subst (λ q. 0 < times n (q ∷ [])) (sym e) (times_self n []))))
      (λ e. pos_right (times n (cond (hits f.answer) (f.number ∷ []) [])) (times n (hit_numbers hits fs)) (go n fs u.1 h (let z : ◌≡◌ {A = ℕ} (cond (eqb f.number n) 1 0) 0 = ap (λ b. cond b 1 0) (ne_eqb f.number n e) in omega arith))))

  lowers : (n : ℕ) (ds : List (ℕ × ℕ)) (ts : List ℕ) → hits (answer n) ≡ true → 0 < answered n (performed number answer ds ts) → 0 < times n (hit_numbers hits (performed number answer ds ts))
  lowers n ds ts h p = go n (performed number answer ds ts) (truth ds ts) h p

  head_hit : (b : Bool) (q n : ℕ) → 0 < times n (cond b (q ∷ []) []) → (b ≡ true) × (q ≡ n)
  head_hit true q n p = (refl, dite (ℕ_discrete q n) (λ e. e) (λ e. let z : ◌≡◌ {A = ℕ} (cond (eqb q n) 1 0) 0 = ap (λ b. cond b 1 0) (ne_eqb q n e) in absurd (omega arith)))
  head_hit false q n p = absurd (omega arith)

  back : (n : ℕ) (l : List (Found A)) → AllTrue l → 0 < times n (hit_numbers hits l) → hits (answer n) ≡ true
  back n [] u p = absurd (omega arith)
  back n (f ∷ fs) u p = ⊎_elim (λ (a : 0 < times n (cond (hits f.answer) (f.number ∷ []) [])). let t = head_hit (hits f.answer) f.number n a in ap hits (ap answer (sym t.1) ∙ sym u.0) ∙ t.0) (λ (a : 0 < times n (hit_numbers hits fs)). back n fs u.1 a)
      (pos_sum (times n (cond (hits f.answer) (f.number ∷ []) [])) (times n (hit_numbers hits fs)) (subst (λ k. 0 < k) (times_append n (cond (hits f.answer) (f.number ∷ []) []) (hit_numbers hits fs)) p))

  -- a number that was lowered has an answer that hits
  hit_of : (n : ℕ) (ds : List (ℕ × ℕ)) (ts : List ℕ) → 0 < times n (hit_numbers hits (performed number answer ds ts)) → hits (answer n) ≡ true
  hit_of n ds ts p = back n (performed number answer ds ts) (truth ds ts) p

  module _ {X : Type 0} (view : X → BoardView) (limit : ℕ) (lengths words : List ℕ) (law : IsLayout limit lengths number) (ss : List X) (some_seat : 0 < length ss)
      (all : Each (λ s. Done lengths number answer hits (view s)) ss) (b : ℕ) (bound : IsLeast limit (λ n. total (λ s. lowers_of n (view s)) ss) b)
      (seen : (n : ℕ) → 0 < total (λ s. sights_of n (view s)) ss → b ≤ n)
      (draws : (r : ℕ) → EachBelow (min (get_or words (r + 1) 0) (length_at lengths r)) (λ x. total (λ s. draws_of r x (view s)) ss))
      (dries : (r : ℕ) → total (λ s. dries_of r (view s)) ss ≡ get_or words (r + 1) 0 - length_at lengths r) where
    first_dry : (ss : List X) → 0 < length ss → Each (λ s. Done lengths number answer hits (view s)) ss → (r : ℕ) → r < length lengths → 0 < total (λ s. dries_of r (view s)) ss
    first_dry [] h a r low = absurd (omega arith)
    first_dry (x ∷ xs) h a r low = pos_left (times r (view x).dry) (total (λ s. dries_of r (view s)) xs) (a.0.1 r low)

    reached_length : (t word len : ℕ) → 0 < t → t ≡ word - len → len ≤ word
    reached_length t word len h e = omega arith

    below_min : (x len word : ℕ) → x < len → len ≤ word → x < min word len
    below_min x len word h k = omega arith

    -- some seat performed the number
    pub reaches : (n : ℕ) → n < limit → n ≤ b → (x : X) × (i : ℕ) × Done lengths number answer hits (view x) × (0 < answered n (performed number answer (view x).draws (view x).seen)) × (get_elem? ss i ≡ some x)
    reaches n low le = let p = law.some n low in let r = p.0 in let i = p.1 in
        let full = reached_length (total (λ s. dries_of r (view s)) ss) (get_or words (r + 1) 0) (length_at lengths r) (first_dry ss some_seat all r p.2) (dries r) in
        let once = (draws r i).0 (below_min i (length_at lengths r) (get_or words (r + 1) 0) p.3 full) in
        let t = pos_total (λ s. Done lengths number answer hits (view s)) (λ s. draws_of r i (view s)) ss all (omega arith) in
        (t.0, t.1, t.2, reached r i n b (view t.0).draws (view t.0).seen p.4 le (λ u k. seen u (pos_of_some (λ s. sights_of u (view s)) t.1 t.0 t.4 k)) t.2.0 t.3, t.4)
      where
        pos_of_some : (f : X → ℕ) (i : ℕ) (x : X) → get_elem? ss i ≡ some x → 0 < f x → 0 < total f ss
        pos_of_some f i x at k = let l = le_total f ss i x at in omega arith

    -- below the bound nothing hits
    hits_late : (n : ℕ) → n < b → hits (answer n) ≡ true → ⊥
    hits_late n h is_hit = let t = reaches n (let u = bound.0 in omega arith) (omega arith) in
        let low = lowers n (view t.0).draws (view t.0).seen is_hit t.3 in
        let mine : 0 < lowers_of n (view t.0) = subst (λ l. 0 < times n l) (sym t.2.2) low in
        let l = le_total (λ s. lowers_of n (view s)) ss t.1 t.0 t.4 in
        let c = bound.1 n (omega arith) in omega arith

    pub misses : (n : ℕ) → n < b → hits (answer n) ≡ false
    misses n h = not_true (hits (answer n)) (hits_late n h)

    -- the bound is the limit, or it hits
    pub at_bound : (b ≡ limit) ⊎ (hits (answer b) ≡ true)
    at_bound = ⊎_elim (λ (e : b ≡ limit). inl e)
        (λ (p : 0 < total (λ s. lowers_of b (view s)) ss). let t = pos_total (λ s. Done lengths number answer hits (view s)) (λ s. lowers_of b (view s)) ss all p in
        inr (hit_of b (view t.0).draws (view t.0).seen (subst (λ l. 0 < times b l) t.2.2 t.3))) bound.2
