-- Each step keeps the rule of the board.
use Rattle.std.proofs.Common.{◌≡◌, ℕ, ◌+◌, ◌-◌, min, ◌<◌, ◌≤◌, ◌≢◌, ◌⊎◌, List, [], ◌∷◌, length, get_or, set, sym, refl, ap, ◌∙◌, subst, inl, inr, ⊎_elim, length-set, get_or-set_same, get_or-set_other, arith}
use mathlib.Core.Logic.{dite}
use mathlib.Core.Option.{some}
use native.Mathlib.Decide.{ℕ_discrete, dec_le}
use lib.ListN.{get_elem?}
use Rattle.qk_board.specs.declared.view.BoardView.{BoardView}
use Rattle.qk_totals.specs.Totals.{total, times, drawn, EachBelow}
use Rattle.qk_board.specs.Views.{length_at, draws_of, dries_of, lowers_of, sights_of, parts_of, IsEmptyView, with_draw, with_dry, with_lowered, with_seen}
use Rattle.qk_board.specs.Rule.{IsLeast, Kept}
use Rattle.qk_totals.proofs.Totals.{total_mono, moved, each_set, times_append, drawn_append, one_same, one_other, draw_same, draw_elsewhere, draw_other, times_one}

add_zero : (x : ℕ) → x + 0 ≡ x
add_zero x = omega arith

grow_same : (n len x T T' d : ℕ) → n < len → (x < min n len → T ≡ 1) × (min n len ≤ x → T ≡ 0) → T' ≡ T + d → (n ≡ x → d ≡ 1) → (n ≢ x → d ≡ 0)
    → (x < min (n + 1) len → T' ≡ 1) × (min (n + 1) len ≤ x → T' ≡ 0)
grow_same n len x T T' d low old t one none = dite (ℕ_discrete n x) (λ is. let o = one is in let z = old.1 in ((λ h. omega arith), (λ h. omega arith)))
    (λ isnt. let o = none isnt in let a = old.0 in let z = old.1 in ((λ h. omega arith), (λ h. omega arith)))

unmoved : (T T' d : ℕ) → T' ≡ T + d → d ≡ 0 → T' ≡ T
unmoved T T' d t e = omega arith

no_dries : (n len n' T : ℕ) → n < len → T ≡ n - len → n' ≡ n + 1 → T + 0 ≡ n' - len
no_dries n len n' T low k e = omega arith

still : (T n len n' : ℕ) → T ≡ n - len → n' ≡ n → T + 0 ≡ n' - len
still T n len n' k e = omega arith

least_same : (limit : ℕ) (f g : ℕ → ℕ) (b : ℕ) → ((m : ℕ) → g m ≡ f m) → IsLeast limit f b → IsLeast limit g b
least_same limit f g b e h = (h.0, (λ m p. h.1 m (subst (λ t. 0 < t) (e m) p)), subst (λ t. (b ≡ limit) ⊎ (0 < t)) (sym (e b)) h.2)

dry_same : (n len n' T T' d : ℕ) → len ≤ n → T ≡ n - len → n' ≡ n + 1 → T' ≡ T + d → d ≡ 1 → T' ≡ n' - len
dry_same n len n' T T' d high k e t one = omega arith

full : (n len x T : ℕ) → len ≤ n → (x < min n len → T ≡ 1) × (min n len ≤ x → T ≡ 0) → (x < min (n + 1) len → T ≡ 1) × (min (n + 1) len ≤ x → T ≡ 0)
full n len x T high old = let a = old.0 in let z = old.1 in ((λ h. omega arith), (λ h. omega arith))

dry_fits : (a b d c parts : ℕ) → c ≡ a + d → a ≡ 0 → d ≡ 1 → 0 < parts → c ≤ parts
dry_fits a b d c parts e z o p = omega arith

dry_old : (a d c parts : ℕ) → c ≡ a + d → d ≡ 0 → a ≤ parts → c ≤ parts
dry_old a d c parts e z h = omega arith

times_here : (m : ℕ) → times m (m ∷ []) ≡ 1
times_here m = one_same m m refl

min_left : (a b : ℕ) → min a b ≤ a
min_left a b = omega arith

min_right : (a b : ℕ) → min a b ≤ b
min_right a b = omega arith

min_is : (a b : ℕ) → (min a b ≡ a) ⊎ (min a b ≡ b)
min_is a b = dite (dec_le a b) (λ h. inl (omega arith)) (λ h. inr (omega arith))

le_same : (a : ℕ) → a ≤ a
le_same a = omega arith

le_chain : (a b c : ℕ) → a ≤ b → b ≤ c → a ≤ c
le_chain a b c h k = omega arith

pos_more : (T T' d : ℕ) → T' ≡ T + d → 0 < T → 0 < T'
pos_more T T' d e h = omega arith

pos_new : (T T' d : ℕ) → T' ≡ T + d → d ≡ 1 → 0 < T'
pos_new T T' d e h = omega arith

pos_split : (T T' d : ℕ) → T' ≡ T + d → 0 < T' → (0 < T) ⊎ (0 < d)
pos_split T T' d e h = dite (dec_le 1 T) (λ k. inl (omega arith)) (λ k. inr (omega arith))

module _ (limit seats : ℕ) (lengths : List ℕ) where
  abbrev K : List ℕ → List BoardView → Type 0
  K = Kept limit seats lengths

  module _ (ws : List ℕ) (vs : List BoardView) (kept : K ws vs) (id : ℕ) (v : BoardView) (at : get_elem? vs id ≡ some v) (alive : 0 < v.parts) where
    abbrev P : BoardView → Type 0
    P u = (r : ℕ) → dries_of r u ≤ u.parts

    abbrev Q : BoardView → Type 0
    Q u = u.parts ≡ 0 → IsEmptyView u

    abbrev E : BoardView → Type 0
    E u = 0 < u.parts → (u.limit ≡ limit) × (u.lengths ≡ lengths)

    -- a word of a range is not past its length by more than the seats
    pub fits : (r : ℕ) → get_or ws (r + 1) 0 ≤ length_at lengths r + seats
    fits r = let d = kept.dries r in let p = kept.parts in let m = total_mono (dries_of r) parts_of vs (λ i u e. kept.dries_within i u e r) in omega arith

    module _ (r : ℕ) (here : r < length lengths) where
      abbrev n : ℕ
      n = get_or ws (r + 1) 0

      abbrev ws' : List ℕ
      ws' = set ws (r + 1) (n + 1)

      inside : r + 1 < length ws
      inside = let e = kept.shape in omega arith

      low_there : get_or ws' 0 0 ≡ get_or ws 0 0
      low_there = get_or-set_other ws (r + 1) 0 (n + 1) 0 (λ h. omega arith)

      bound_keeps : (w : BoardView) → w.lowered ≡ v.lowered → IsLeast limit (λ m. total (lowers_of m) (set vs id w)) (get_or ws' 0 0)
      bound_keeps w e = subst (IsLeast limit (λ m. total (lowers_of m) (set vs id w))) (sym low_there) (least_same limit (λ m. total (lowers_of m) vs) (λ m. total (lowers_of m) (set vs id w)) (get_or ws 0 0)
          (λ m. moved (lowers_of m) vs id 0 v w at (ap (times m) e ∙ sym (add_zero (times m v.lowered))) ∙ add_zero (total (lowers_of m) vs)) kept.bound)

      seen_keeps : (w : BoardView) → w.lowered ≡ v.lowered → w.seen ≡ v.seen → (m : ℕ) → 0 < total (sights_of m) (set vs id w) → (get_or ws' 0 0 ≤ m) × ((m ≡ limit) ⊎ (0 < total (lowers_of m) (set vs id w)))
      seen_keeps w e f m h =
          let a = moved (lowers_of m) vs id 0 v w at (ap (times m) e ∙ sym (add_zero (times m v.lowered))) ∙ add_zero (total (lowers_of m) vs) in
          let b = moved (sights_of m) vs id 0 v w at (ap (times m) f ∙ sym (add_zero (times m v.seen))) ∙ add_zero (total (sights_of m) vs) in
          let o = kept.seen m (subst (λ t. 0 < t) b h) in
          (subst (λ t. t ≤ m) (sym low_there) o.0, subst (λ t. (m ≡ limit) ⊎ (0 < t)) (sym a) o.1)

      word_here : get_or ws' (r + 1) 0 ≡ n + 1
      word_here = get_or-set_same ws (r + 1) (n + 1) 0 inside

      word_there : (j : ℕ) → j ≢ r + 1 → get_or ws' j 0 ≡ get_or ws j 0
      word_there j e = get_or-set_other ws (r + 1) j (n + 1) 0 e

      module _ (low : n < length_at lengths r) where
        abbrev w : BoardView
        w = with_draw v r n

        drew : (q x : ℕ) → total (draws_of q x) (set vs id w) ≡ total (draws_of q x) vs + drawn q x ((r, n) ∷ [])
        drew q x = moved (draws_of q x) vs id (drawn q x ((r, n) ∷ [])) v w at (drawn_append q x v.draws ((r, n) ∷ []))

        abbrev Goal : ℕ → Type 0
        Goal q = EachBelow (min (get_or ws' (q + 1) 0) (length_at lengths q)) (λ x. total (draws_of q x) (set vs id w))

        draws_keep : (q : ℕ) → Goal q
        draws_keep q = dite (ℕ_discrete r q)
            (λ e. subst Goal e (subst (λ m. EachBelow (min m (length_at lengths r)) (λ x. total (draws_of r x) (set vs id w))) (sym word_here) (λ x.
            grow_same n (length_at lengths r) x (total (draws_of r x) vs) (total (draws_of r x) (set vs id w)) (drawn r x ((r, n) ∷ [])) low (kept.draws r x) (drew r x) (λ is. draw_same r x r n refl is) (λ isnt. draw_other r x r n refl isnt))))
            (λ ne. subst (λ m. EachBelow (min m (length_at lengths q)) (λ x. total (draws_of q x) (set vs id w))) (sym (word_there (q + 1) (λ h. ne (omega arith)))) (λ x.
            let t = drew q x in let d = draw_elsewhere q x r n ne in
            subst (λ m. (x < min (get_or ws (q + 1) 0) (length_at lengths q) → m ≡ 1) × (min (get_or ws (q + 1) 0) (length_at lengths q) ≤ x → m ≡ 0)) (sym (unmoved (total (draws_of q x) vs) (total (draws_of q x) (set vs id w)) (drawn q x ((r, n) ∷ [])) t d)) (kept.draws q x)))

        dries_keep : (q : ℕ) → total (dries_of q) (set vs id w) ≡ get_or ws' (q + 1) 0 - length_at lengths q
        dries_keep q = let t = moved (dries_of q) vs id 0 v w at (omega arith) in let k = kept.dries q in dite (ℕ_discrete r q)
            (λ e. let G : ℕ → Type 0 = λ j. total (dries_of q) (set vs id w) ≡ get_or ws' (j + 1) 0 - length_at lengths j in subst G e (
            let k' : total (dries_of q) vs ≡ n - length_at lengths r = subst (λ j. total (dries_of q) vs ≡ get_or ws (j + 1) 0 - length_at lengths j) (sym e) k in
            t ∙ no_dries n (length_at lengths r) (get_or ws' (r + 1) 0) (total (dries_of q) vs) low k' word_here))
            (λ ne. let word = word_there (q + 1) (λ h. ne (omega arith)) in t ∙ still (total (dries_of q) vs) (get_or ws (q + 1) 0) (length_at lengths q) (get_or ws' (q + 1) 0) k word)

        pub claim_draw : K ws' (set vs id w)
        claim_draw = record {
          shape = length-set ws (r + 1) (n + 1) ∙ kept.shape;
          draws = draws_keep;
          dries = dries_keep;
          dries_within = each_set P vs id w kept.dries_within (kept.dries_within id v at);
          bound = bound_keeps w refl;
          seen = seen_keeps w refl refl;
          parts = moved parts_of vs id 0 v w at (omega arith) ∙ (add_zero (total parts_of vs) ∙ kept.parts);
          idle = each_set Q vs id w kept.idle (λ z. absurd (omega arith));
          same = each_set E vs id w kept.same (kept.same id v at);
        }

      module _ (high : length_at lengths r ≤ n) (new : dries_of r v ≡ 0) where
        abbrev w₂ : BoardView
        w₂ = with_dry v r

        abbrev Goal₂ : ℕ → Type 0
        Goal₂ q = EachBelow (min (get_or ws' (q + 1) 0) (length_at lengths q)) (λ x. total (draws_of q x) (set vs id w₂))

        drew₂ : (q x : ℕ) → total (draws_of q x) (set vs id w₂) ≡ total (draws_of q x) vs
        drew₂ q x = moved (draws_of q x) vs id 0 v w₂ at (omega arith) ∙ add_zero (total (draws_of q x) vs)

        dried : (q : ℕ) → total (dries_of q) (set vs id w₂) ≡ total (dries_of q) vs + times q (r ∷ [])
        dried q = moved (dries_of q) vs id (times q (r ∷ [])) v w₂ at (times_append q v.dry (r ∷ []))

        draws_dry : (q : ℕ) → Goal₂ q
        draws_dry q = dite (ℕ_discrete r q)
            (λ e. subst Goal₂ e (subst (λ m. EachBelow (min m (length_at lengths r)) (λ x. total (draws_of r x) (set vs id w₂))) (sym word_here) (λ x.
            subst (λ m. (x < min (n + 1) (length_at lengths r) → m ≡ 1) × (min (n + 1) (length_at lengths r) ≤ x → m ≡ 0)) (sym (drew₂ r x)) (full n (length_at lengths r) x (total (draws_of r x) vs) high (kept.draws r x)))))
            (λ ne. subst (λ m. EachBelow (min m (length_at lengths q)) (λ x. total (draws_of q x) (set vs id w₂))) (sym (word_there (q + 1) (λ h. ne (omega arith)))) (λ x.
            subst (λ m. (x < min (get_or ws (q + 1) 0) (length_at lengths q) → m ≡ 1) × (min (get_or ws (q + 1) 0) (length_at lengths q) ≤ x → m ≡ 0)) (sym (drew₂ q x)) (kept.draws q x)))

        dries_dry : (q : ℕ) → total (dries_of q) (set vs id w₂) ≡ get_or ws' (q + 1) 0 - length_at lengths q
        dries_dry q = let t = dried q in dite (ℕ_discrete r q)
            (λ e. subst (λ j. total (dries_of j) (set vs id w₂) ≡ get_or ws' (j + 1) 0 - length_at lengths j) e
            (dry_same n (length_at lengths r) (get_or ws' (r + 1) 0) (total (dries_of r) vs) (total (dries_of r) (set vs id w₂)) (times r (r ∷ [])) high (kept.dries r) word_here (dried r) (times_here r)))
            (λ ne. let word = word_there (q + 1) (λ h. ne (omega arith)) in
            unmoved (total (dries_of q) vs) (total (dries_of q) (set vs id w₂)) (times q (r ∷ [])) t (one_other r q ne) ∙ (sym (add_zero (total (dries_of q) vs)) ∙ still (total (dries_of q) vs) (get_or ws (q + 1) 0) (length_at lengths q) (get_or ws' (q + 1) 0) (kept.dries q) word))

        within_dry : P w₂
        within_dry q = dite (ℕ_discrete r q)
            (λ e. subst (λ j. dries_of j w₂ ≤ v.parts) e (dry_fits (times r v.dry) 0 (times r (r ∷ [])) (dries_of r w₂) v.parts (times_append r v.dry (r ∷ [])) new (times_here r) alive))
            (λ ne. dry_old (times q v.dry) (times q (r ∷ [])) (dries_of q w₂) v.parts (times_append q v.dry (r ∷ [])) (one_other r q ne) (kept.dries_within id v at q))

        pub claim_dry : K ws' (set vs id w₂)
        claim_dry = record {
          shape = length-set ws (r + 1) (n + 1) ∙ kept.shape;
          draws = draws_dry;
          dries = dries_dry;
          dries_within = each_set P vs id w₂ kept.dries_within within_dry;
          bound = bound_keeps w₂ refl;
          seen = seen_keeps w₂ refl refl;
          parts = moved parts_of vs id 0 v w₂ at (omega arith) ∙ (add_zero (total parts_of vs) ∙ kept.parts);
          idle = each_set Q vs id w₂ kept.idle (λ z. absurd (omega arith));
          same = each_set E vs id w₂ kept.same (kept.same id v at);
        }

    -- steps on the bound word
    module _ (b : ℕ) where
      abbrev ws₃ : List ℕ
      ws₃ = set ws 0 b

      word₃ : (q : ℕ) → get_or ws₃ (q + 1) 0 ≡ get_or ws (q + 1) 0
      word₃ q = get_or-set_other ws 0 (q + 1) b 0 (λ h. omega arith)

      bound₃ : get_or ws₃ 0 0 ≡ b
      bound₃ = let e = kept.shape in get_or-set_same ws 0 b 0 (omega arith)

      draws₃ : (w : BoardView) → w.draws ≡ v.draws → (q : ℕ) → EachBelow (min (get_or ws₃ (q + 1) 0) (length_at lengths q)) (λ x. total (draws_of q x) (set vs id w))
      draws₃ w e q = subst (λ m. EachBelow (min m (length_at lengths q)) (λ x. total (draws_of q x) (set vs id w))) (sym (word₃ q)) (λ x.
          subst (λ m. (x < min (get_or ws (q + 1) 0) (length_at lengths q) → m ≡ 1) × (min (get_or ws (q + 1) 0) (length_at lengths q) ≤ x → m ≡ 0))
          (sym (moved (draws_of q x) vs id 0 v w at (ap (drawn q x) e ∙ sym (add_zero (drawn q x v.draws))) ∙ add_zero (total (draws_of q x) vs))) (kept.draws q x))

      dries₃ : (w : BoardView) → w.dry ≡ v.dry → (q : ℕ) → total (dries_of q) (set vs id w) ≡ get_or ws₃ (q + 1) 0 - length_at lengths q
      dries₃ w e q = moved (dries_of q) vs id 0 v w at (ap (times q) e ∙ sym (add_zero (times q v.dry))) ∙ still (total (dries_of q) vs) (get_or ws (q + 1) 0) (length_at lengths q) (get_or ws₃ (q + 1) 0) (kept.dries q) (word₃ q)

    module _ (m : ℕ) where
      abbrev w₄ : BoardView
      w₄ = with_lowered v m

      abbrev b : ℕ
      b = get_or ws 0 0

      gains : (x : ℕ) → total (lowers_of x) (set vs id w₄) ≡ total (lowers_of x) vs + times x (m ∷ [])
      gains x = moved (lowers_of x) vs id (times x (m ∷ [])) v w₄ at (times_append x v.lowered (m ∷ []))

      least₄ : IsLeast limit (λ x. total (lowers_of x) (set vs id w₄)) (min b m)
      least₄ = (
        le_chain (min b m) b limit (min_left b m) kept.bound.0,
        (λ x p. ⊎_elim (λ (h : 0 < total (lowers_of x) vs). le_chain (min b m) b x (min_left b m) (kept.bound.1 x h))
            (λ (h : 0 < times x (m ∷ [])). subst (λ y. min b m ≤ y) (times_one x m h) (min_right b m)) (pos_split (total (lowers_of x) vs) (total (lowers_of x) (set vs id w₄)) (times x (m ∷ [])) (gains x) p)),
        ⊎_elim (λ (e : min b m ≡ b). subst (λ y. (y ≡ limit) ⊎ (0 < total (lowers_of y) (set vs id w₄))) (sym e)
            (⊎_elim (λ (h : b ≡ limit). inl h) (λ (h : 0 < total (lowers_of b) vs). inr (pos_more (total (lowers_of b) vs) (total (lowers_of b) (set vs id w₄)) (times b (m ∷ [])) (gains b) h)) kept.bound.2))
            (λ (e : min b m ≡ m). subst (λ y. (y ≡ limit) ⊎ (0 < total (lowers_of y) (set vs id w₄))) (sym e)
            (inr (pos_new (total (lowers_of m) vs) (total (lowers_of m) (set vs id w₄)) (times m (m ∷ [])) (gains m) (times_here m)))) (min_is b m),
      )

      pub lower_keeps : K (set ws 0 (min b m)) (set vs id w₄)
      lower_keeps = record {
        shape = length-set ws 0 (min b m) ∙ kept.shape;
        draws = draws₃ (min b m) w₄ refl;
        dries = dries₃ (min b m) w₄ refl;
        dries_within = each_set P vs id w₄ kept.dries_within (kept.dries_within id v at);
        bound = subst (IsLeast limit (λ x. total (lowers_of x) (set vs id w₄))) (sym (bound₃ (min b m))) least₄;
        seen = λ x p. (let a = moved (sights_of x) vs id 0 v w₄ at (omega arith) ∙ add_zero (total (sights_of x) vs) in let o = kept.seen x (subst (λ t. 0 < t) a p) in (
          subst (λ t. t ≤ x) (sym (bound₃ (min b m))) (le_chain (min b m) b x (min_left b m) o.0),
          ⊎_elim (λ (h : x ≡ limit). inl h) (λ (h : 0 < total (lowers_of x) vs). inr (pos_more (total (lowers_of x) vs) (total (lowers_of x) (set vs id w₄)) (times x (m ∷ [])) (gains x) h)) o.1,
        ));
        parts = moved parts_of vs id 0 v w₄ at (omega arith) ∙ (add_zero (total parts_of vs) ∙ kept.parts);
        idle = each_set Q vs id w₄ kept.idle (λ z. absurd (omega arith));
        same = each_set E vs id w₄ kept.same (kept.same id v at);
      }

    abbrev b₅ : ℕ
    b₅ = get_or ws 0 0

    abbrev w₅ : BoardView
    w₅ = with_seen v b₅

    lowers₅ : (x : ℕ) → total (lowers_of x) (set vs id w₅) ≡ total (lowers_of x) vs
    lowers₅ x = moved (lowers_of x) vs id 0 v w₅ at (omega arith) ∙ add_zero (total (lowers_of x) vs)

    pub load_keeps : K (set ws 0 b₅) (set vs id w₅)
    load_keeps = record {
      shape = length-set ws 0 b₅ ∙ kept.shape;
      draws = draws₃ b₅ w₅ refl;
      dries = dries₃ b₅ w₅ refl;
      dries_within = each_set P vs id w₅ kept.dries_within (kept.dries_within id v at);
      bound = subst (IsLeast limit (λ x. total (lowers_of x) (set vs id w₅))) (sym (bound₃ b₅)) (least_same limit (λ x. total (lowers_of x) vs) (λ x. total (lowers_of x) (set vs id w₅)) b₅ lowers₅ kept.bound);
      seen = λ x p. (let a = moved (sights_of x) vs id (times x (b₅ ∷ [])) v w₅ at (times_append x v.seen (b₅ ∷ [])) in
          let o : (b₅ ≤ x) × ((x ≡ limit) ⊎ (0 < total (lowers_of x) vs)) = ⊎_elim (λ (h : 0 < total (sights_of x) vs). kept.seen x h)
          (λ (h : 0 < times x (b₅ ∷ [])). subst (λ y. (b₅ ≤ y) × ((y ≡ limit) ⊎ (0 < total (lowers_of y) vs))) (times_one x b₅ h) (le_same b₅, kept.bound.2)) (pos_split (total (sights_of x) vs) (total (sights_of x) (set vs id w₅)) (times x (b₅ ∷ [])) a p) in
          (subst (λ t. t ≤ x) (sym (bound₃ b₅)) o.0, subst (λ t. (x ≡ limit) ⊎ (0 < t)) (sym (lowers₅ x)) o.1));
      parts = moved parts_of vs id 0 v w₅ at (omega arith) ∙ (add_zero (total parts_of vs) ∙ kept.parts);
      idle = each_set Q vs id w₅ kept.idle (λ z. absurd (omega arith));
      same = each_set E vs id w₅ kept.same (kept.same id v at);
    }
