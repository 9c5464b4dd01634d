-- One more draw of a worker.
use Rattle.std.proofs.Common.{◌≡◌, ℕ, eqb, leb, ◌+◌, max, ◌<◌, ◌≤◌, Bool, true, false, cond, List, [], ◌∷◌, ◌++◌, length, length-append, append_assoc, append-nil, sym, refl, ap, ◌∙◌, subst, eq-eqb, ne_eqb, arith}
use Rattle.std.proofs.lemmas.Bool.{le-leb, lt-leb}
use mathlib.Core.Logic.{dite}
use native.Mathlib.Decide.{ℕ_discrete, dec_le}
use Rattle.qk_totals.specs.Totals.{drawn}
use Rattle.qk_totals.proofs.Totals.{drawn_append, draw_same}
use Rattle.qk_board.specs.declared.view.BoardView.{BoardView}
use Rattle.qk_board.specs.Views.{with_draw, with_lowered, with_seen}
use Rattle.qk_scan.specs.declared.found.Found.{Found}
use Rattle.qk_scan.specs.Work.{answer_to, performed, hit_numbers, Worked, Pending, AreDrawn, DrawsMore, top_of}
use Rattle.qk_scan.proofs.Eachs.{each_append, each_map}

module _ {A : Type 0} (number : ℕ → ℕ → ℕ) (answer : ℕ → A) (hits : A → Bool) where
  entry : ℕ × ℕ → ℕ → List (Found A)
  entry d s = cond (leb (number d.0 d.1) s) (answer_to answer (number d.0 d.1) ∷ []) []

  performed_snoc : (ds : List (ℕ × ℕ)) (ss : List ℕ) (d : ℕ × ℕ) (s : ℕ) → length ds ≡ length ss → performed number answer (ds ++ d ∷ []) (ss ++ s ∷ []) ≡ performed number answer ds ss ++ entry d s
  unfolding entry
  performed_snoc [] [] d s e = append-nil (entry d s)
  performed_snoc [] (t ∷ ss) d s e = absurd (omega arith)
  performed_snoc (c ∷ ds) [] d s e = absurd (omega arith)
  performed_snoc (c ∷ ds) (t ∷ ss) d s e =
      ap (λ l. cond (leb (number c.0 c.1) t) (answer_to answer (number c.0 c.1) ∷ []) [] ++ l) (performed_snoc ds ss d s (omega arith))
      ∙ sym (append_assoc (cond (leb (number c.0 c.1) t) (answer_to answer (number c.0 c.1) ∷ []) []) (performed number answer ds ss) (entry d s))

  hits_snoc : (fs : List (Found A)) (f : Found A) → hit_numbers hits (fs ++ f ∷ []) ≡ hit_numbers hits fs ++ cond (hits f.answer) (f.number ∷ []) []
  hits_snoc [] f = append-nil (cond (hits f.answer) (f.number ∷ []) [])
  hits_snoc (c ∷ fs) f = ap (λ l. cond (hits c.answer) (c.number ∷ []) [] ++ l) (hits_snoc fs f) ∙ sym (append_assoc (cond (hits c.answer) (c.number ∷ []) []) (hit_numbers hits fs) (cond (hits f.answer) (f.number ∷ []) []))

  module _ (n : ℕ) (v : BoardView) (found : List (Found A)) (p : Pending number answer hits n v found) (s : ℕ) where
    one_load : length v.draws ≡ length (v.seen ++ s ∷ [])
    one_load = let a = ap length p.3 in let b = length-append p.0 ((p.1, p.2) ∷ []) in let c = length-append v.seen (s ∷ []) in let l = p.5.loads in omega arith

    made : performed number answer v.draws (v.seen ++ s ∷ []) ≡ found ++ entry (p.1, p.2) s
    made = ap (λ l. performed number answer l (v.seen ++ s ∷ [])) p.3 ∙ (performed_snoc p.0 v.seen (p.1, p.2) s p.5.loads ∙ ap (λ l. l ++ entry (p.1, p.2) s) (sym p.5.found_is))

    enters : n ≤ s → entry (p.1, p.2) s ≡ answer_to answer n ∷ []
    unfolding entry
    enters h = ap (λ k. cond (leb k s) (answer_to answer k ∷ []) []) p.4 ∙ ap (λ b. cond b (answer_to answer n ∷ []) []) (le-leb n s h)

    skips : s < n → entry (p.1, p.2) s ≡ []
    unfolding entry
    skips h = ap (λ k. cond (leb k s) (answer_to answer k ∷ []) []) p.4 ∙ ap (λ b. cond b (answer_to answer n ∷ []) []) (lt-leb n s h)

    pub skipped : s < n → Worked number answer hits (with_seen v s) found
    skipped h = record {
      loads = one_load;
      found_is = sym (made ∙ (ap (λ l. found ++ l) (skips h) ∙ append-nil found));
      lowered_is = p.5.lowered_is;
    }

    pub missed : n ≤ s → hits (answer n) ≡ false → Worked number answer hits (with_seen v s) (found ++ answer_to answer n ∷ [])
    missed h miss = record {
      loads = one_load;
      found_is = sym (made ∙ ap (λ l. found ++ l) (enters h));
      lowered_is = p.5.lowered_is ∙ sym (hits_snoc found (answer_to answer n) ∙ (ap (λ b. hit_numbers hits found ++ cond b (n ∷ []) []) miss ∙ append-nil (hit_numbers hits found)));
    }

    pub hit : n ≤ s → hits (answer n) ≡ true → Worked number answer hits (with_lowered (with_seen v s) n) (found ++ answer_to answer n ∷ [])
    hit h is_hit = record {
      loads = one_load;
      found_is = sym (made ∙ ap (λ l. found ++ l) (enters h));
      lowered_is = ap (λ l. l ++ n ∷ []) p.5.lowered_is ∙ sym (hits_snoc found (answer_to answer n) ∙ ap (λ b. hit_numbers hits found ++ cond b (n ∷ []) []) is_hit);
    }

module _ {A : Type 0} (number : ℕ → ℕ → ℕ) (answer : ℕ → A) where
  pub drawn_mono : (ds more : List (ℕ × ℕ)) (found : List (Found A)) → AreDrawn number answer ds found → AreDrawn number answer (ds ++ more) found
  drawn_mono ds more found h = let P : List (ℕ × ℕ) → Found A → Type 0 = λ l f. (f.answer ≡ answer f.number) × ((r : ℕ) × (x : ℕ) × (number r x ≡ f.number) × (0 < drawn r x l)) in
      each_map (P ds) (P (ds ++ more)) (λ f t. (t.0, (t.1.0, t.1.1, t.1.2, (let a = drawn_append t.1.0 t.1.1 ds more in let p = t.1.3 in omega arith)))) found h

  from_front : (d : ℕ × ℕ) (ds : List (ℕ × ℕ)) (found : List (Found A)) → AreDrawn number answer ds found → AreDrawn number answer (d ∷ ds) found
  from_front d ds found h = let P : List (ℕ × ℕ) → Found A → Type 0 = λ l f. (f.answer ≡ answer f.number) × ((r : ℕ) × (x : ℕ) × (number r x ≡ f.number) × (0 < drawn r x l)) in
      each_map (P ds) (P (d ∷ ds)) (λ f t. (t.0, (t.1.0, t.1.1, t.1.2, (let p = t.1.3 in omega arith)))) found h

  head_drawn : (b : Bool) (d : ℕ × ℕ) (ds : List (ℕ × ℕ)) → AreDrawn number answer (d ∷ ds) (cond b (answer_to answer (number d.0 d.1) ∷ []) [])
  head_drawn false d ds = tt
  head_drawn true d ds = ((refl, (d.0, d.1, refl, (let e = draw_same d.0 d.1 d.0 d.1 refl refl in let a = drawn_append d.0 d.1 (d ∷ []) ds in omega arith))), tt)

  -- what was performed was drawn
  pub performed_drawn : (ds : List (ℕ × ℕ)) (ss : List ℕ) → AreDrawn number answer ds (performed number answer ds ss)
  performed_drawn [] ss = tt
  performed_drawn (d ∷ ds) [] = tt
  performed_drawn (d ∷ ds) (s ∷ ss) = let P : Found A → Type 0 = λ f. (f.answer ≡ answer f.number) × ((r : ℕ) × (x : ℕ) × (number r x ≡ f.number) × (0 < drawn r x (d ∷ ds))) in
      each_append P (cond (leb (number d.0 d.1) s) (answer_to answer (number d.0 d.1) ∷ []) []) (performed number answer ds ss) (head_drawn (leb (number d.0 d.1) s) d ds) (from_front d ds (performed number answer ds ss) (performed_drawn ds ss))

  -- what was found before a draw was drawn
  pub claimed_drawn : (hits : A → Bool) (r x : ℕ) (v w : BoardView) (found : List (Found A)) → Worked number answer hits v found → w ≡ with_draw v r x → AreDrawn number answer w.draws found
  claimed_drawn hits r x v w found k e = let is : w.draws ≡ v.draws ++ (r, x) ∷ [] = ap (λ u. u.draws) e in
      subst (λ l. AreDrawn number answer l found) (sym is) (drawn_mono v.draws ((r, x) ∷ []) found (subst (AreDrawn number answer v.draws) (sym k.found_is) (performed_drawn v.draws v.seen)))

pub draws_none : (r : ℕ) (before after : List (ℕ × ℕ)) → after ≡ before → DrawsMore r before after
draws_none r before after e = ([], e ∙ sym (append-nil before), tt)

pub draws_one : (r x : ℕ) (before after : List (ℕ × ℕ)) → after ≡ before ++ (r, x) ∷ [] → DrawsMore r before after
draws_one r x before after e = ((r, x) ∷ [], e, (refl, tt))

pub draws_both : (r : ℕ) (a b c : List (ℕ × ℕ)) → DrawsMore r a b → DrawsMore r b c → DrawsMore r a c
draws_both r a b c h k = (h.0 ++ k.0, k.1 ∙ (ap (λ l. l ++ k.0) h.1 ∙ append_assoc a h.0 k.0), each_append (λ d. d.0 ≡ r) h.0 k.0 h.2 k.2)

pub top_append : (r : ℕ) (xs ys : List (ℕ × ℕ)) → top_of r (xs ++ ys) ≡ max (top_of r xs) (top_of r ys)
top_append r [] ys = omega arith
top_append r (d ∷ ds) ys = let t = top_append r ds ys in omega arith

sum_zero : (a b : ℕ) → a + b ≡ 0 → (a ≡ 0) × (b ≡ 0)
sum_zero a b h = (omega arith, omega arith)

max_le : (a b x : ℕ) → a ≤ x → b ≤ x → max a b ≤ x
max_le a b x h k = omega arith

head_within : (r x : ℕ) (d : ℕ × ℕ) → ((y : ℕ) → x ≤ y → ◌≡◌ {A = ℕ} (cond (eqb d.0 r) (cond (eqb d.1 y) 1 0) 0) 0) → cond (eqb d.0 r) (d.1 + 1) 0 ≤ x
head_within r x d h = dite (ℕ_discrete d.0 r)
    (λ e. subst (λ b. cond b (d.1 + 1) 0 ≤ x) (sym (eq-eqb d.0 r e)) (dite (dec_le x d.1)
    (λ k. let one : ◌≡◌ {A = ℕ} (cond (eqb d.0 r) (cond (eqb d.1 d.1) 1 0) 0) 1 = ap (λ b. cond b (cond (eqb d.1 d.1) 1 0) 0) (eq-eqb d.0 r e) ∙ ap (λ b. cond b 1 0) (eq-eqb d.1 d.1 refl) in let z = h d.1 k in absurd (omega arith))
    (λ k. omega arith)))
    (λ ne. subst (λ b. cond b (d.1 + 1) 0 ≤ x) (sym (ne_eqb d.0 r ne)) (omega arith))

pub top_within : (r x : ℕ) (ds : List (ℕ × ℕ)) → ((y : ℕ) → x ≤ y → drawn r y ds ≡ 0) → top_of r ds ≤ x
top_within r x [] h = omega arith
top_within r x (d ∷ ds) h = max_le (cond (eqb d.0 r) (d.1 + 1) 0) (top_of r ds) x
    (head_within r x d (λ y k. (sum_zero (cond (eqb d.0 r) (cond (eqb d.1 y) 1 0) 0) (drawn r y ds) (h y k)).0))
    (top_within r x ds (λ y k. (sum_zero (cond (eqb d.0 r) (cond (eqb d.1 y) 1 0) 0) (drawn r y ds) (h y k)).1))

-- the top after one more draw of the range
pub top_grows : (r x : ℕ) (ds : List (ℕ × ℕ)) → ((y : ℕ) → x ≤ y → drawn r y ds ≡ 0) → (top_of r ds ≤ x) × (top_of r (ds ++ (r, x) ∷ []) ≡ x + 1)
top_grows r x ds h = let low = top_within r x ds h in let a = top_append r ds ((r, x) ∷ []) in let b : cond (eqb r r) (x + 1) 0 ≡ x + 1 = ap (λ b. cond b (x + 1) 0) (eq-eqb r r refl) in (low, omega arith)
