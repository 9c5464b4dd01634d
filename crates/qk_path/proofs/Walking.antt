-- What a walker's step does to what it keeps beside its seat.
use Rattle.std.proofs.Common.{◌≡◌, ℕ, ◌+◌, ◌-◌, ◌<◌, ◌≤◌, cond, eq-eqb, ne_eqb, Bool, true, false, List, [], ◌∷◌, ◌++◌, take, length, length-append, sym, refl, ap, ◌∙◌, subst, arith}
use Rattle.std.specs.Prelude.{Option, Some}
use Rattle.qk_path.specs.declared.view.PathView.{PathView}
use Rattle.qk_path.specs.Points.{Leads, width}
use Rattle.qk_path.specs.Walkers.{IsDoneWhere}
use Rattle.qk_path.specs.Views.{Tidy, Marked, StartLeads, Ended, IsEmptyView, past, width_of, start_width, with_draw, with_done, with_step}
use Rattle.qk_totals.specs.Totals.{times, drawn}
use mathlib.Core.Logic.{dite}
use native.Mathlib.Decide.{ℕ_discrete, dec_le}
use Rattle.qk_path.proofs.Paths.{past_append, past_low, past_high, past_else, past_none, take_more, prefix_take, prefix_self}
use Rattle.qk_totals.proofs.Totals.{times_append, drawn_append, one_same, one_other, draw_same, draw_other, draw_elsewhere}

no_true : true ≡ false → ◌≡◌ {A = ℕ} 0 1
no_true e = sym (ap (λ (b : Bool). cond b 1 0) e)

module _ {F P : Type 0} where
  drawn_tidy : (v : PathView F P) (n q : ℕ) → Tidy v → length v.path < q → (x : ℕ) → drawn q x (v.draws ++ (length v.path, n) ∷ []) ≡ 0
  drawn_tidy v n q t h x = let a = drawn_append q x v.draws ((length v.path, n) ∷ []) in let b = draw_elsewhere q x (length v.path) n (λ e. omega arith) in let c = (t q h).0 x in omega arith

  pub tidy_draw : (v : PathView F P) (n : ℕ) → Tidy v → Tidy (with_draw v n)
  tidy_draw v n t q h = (drawn_tidy v n q t h, (t q h).1)

  pub tidy_done : (v : PathView F P) (n : ℕ) → Tidy v → Tidy (with_done v n)
  tidy_done v n t q h = (drawn_tidy v n q t h, (let a = times_append q v.done (length v.path ∷ []) in let b = one_other (length v.path) q (λ e. omega arith) in let c = (t q h).1 in omega arith))

  pub tidy_step : (v : PathView F P) (j : ℕ) → Tidy v → Tidy (with_step v j)
  tidy_step v j t q h = let l = length-append v.path (j ∷ []) in t q (omega arith)

  pub short_step : (v : PathView F P) (j limit : ℕ) → length v.path < limit → limit ≤ 1024 → length (v.path ++ j ∷ []) ≤ 1024
  short_step v j limit h k = let l = length-append v.path (j ∷ []) in omega arith

  pub marked_done : (v : PathView F P) (n : ℕ) → Marked true (with_done v n)
  marked_done v n = ((λ _. let a = times_append (length v.path) v.done (length v.path ∷ []) in let b = one_same (length v.path) (length v.path) refl in omega arith), (λ e. let z = no_true e in absurd (omega arith)))

  pub marked_step : (v : PathView F P) (j : ℕ) → Tidy v → Marked false (with_step v j)
  marked_step v j t = ((λ e. let z = no_true (sym e) in absurd (omega arith)), (λ _. let l = length-append v.path (j ∷ []) in (t (length (v.path ++ j ∷ [])) (omega arith)).1))

  pub known_width : (children : F → P → List P) (v : PathView F P) (f : F) (p : P) → v.start ≡ Some (f, p) → width_of children v ≡ width (children f) p v.path
  known_width children v f p e = ap (λ (t : Option (F × P)). start_width children t v.path) e

  pub known_leads : (children : F → P → List P) (failing : F → P → Bool) (v : PathView F P) (f : F) (p : P) (path : List ℕ) → v.start ≡ Some (f, p) → StartLeads children failing v.start path → Leads (children f) (failing f) p path
  known_leads children failing v f p path e h = subst (λ (t : Option (F × P)). StartLeads children failing t path) e h

add_up : (a b c d x y : ℕ) → x ≡ a + b → y ≡ c + d → a ≡ c → b ≡ d → x ≡ y
add_up a b c d x y h k e f = omega arith

add_none : (a c d y : ℕ) → y ≡ c + d → a ≡ c → d ≡ 0 → a ≡ y
add_none a c d y k e f = omega arith

module _ {F P : Type 0} (children : F → P → List P) where
  -- the width at a level up to the walker's own
  abbrev at_level : PathView F P → ℕ → ℕ
  at_level v q = start_width children v.start (take q v.path)

  own_level : (v : PathView F P) → at_level v (length v.path) ≡ width_of children v
  own_level v = ap (start_width children v.start) (prefix_take v.path v.path (prefix_self v.path))

  pub ended_draw : (v : PathView F P) (n : ℕ) → n < width_of children v → Ended children v → Ended children (with_draw v n)
  ended_draw v n low t q h = let e : ℕ = length v.path in let m : ℕ = at_level v q in
      add_none (times q v.done) (past q m v.draws) (past q m ((e, n) ∷ [])) (past q m (v.draws ++ (e, n) ∷ [])) (past_append q m v.draws ((e, n) ∷ [])) (t q h)
      (dite (ℕ_discrete e q)
      (λ is. subst (λ (j : ℕ). past j (at_level v j) ((e, n) ∷ []) ≡ 0) is (past_low e (at_level v e) n (subst (λ (w : ℕ). n < w) (sym (own_level v)) low)))
      (λ ne. past_else q e m n ne))

  pub ended_done : (v : PathView F P) (n : ℕ) → width_of children v ≤ n → Ended children v → Ended children (with_done v n)
  ended_done v n high t q h = let e : ℕ = length v.path in let m : ℕ = at_level v q in
      add_up (times q v.done) (times q (e ∷ [])) (past q m v.draws) (past q m ((e, n) ∷ [])) (times q (v.done ++ e ∷ [])) (past q m (v.draws ++ (e, n) ∷ []))
      (times_append q v.done (e ∷ [])) (past_append q m v.draws ((e, n) ∷ [])) (t q h)
      (dite (ℕ_discrete e q)
      (λ is. subst (λ (j : ℕ). times j (e ∷ []) ≡ past j (at_level v j) ((e, n) ∷ [])) is (one_same e e refl ∙ sym (past_high e (at_level v e) n (subst (λ (w : ℕ). w ≤ n) (sym (own_level v)) high))))
      (λ ne. one_other e q ne ∙ sym (past_else q e m n ne)))

  pub ended_step : (v : PathView F P) (j : ℕ) → Tidy v → Ended children v → Ended children (with_step v j)
  ended_step v j tidy t q h = let l = length-append v.path (j ∷ []) in dite (dec_le q (length v.path))
      (λ le. t q le ∙ ap (λ (p : List ℕ). past q (start_width children v.start p) v.draws) (sym (take_more q v.path (j ∷ []) le)))
      (λ gt. let none = tidy q (omega arith) in none.1 ∙ sym (past_none q (start_width children v.start (take q (v.path ++ j ∷ []))) v.draws none.0))

  pub ended_empty : (v : PathView F P) → IsEmptyView v → Ended children v
  ended_empty v bare q h = ap (times q) bare.2 ∙ sym (ap (past q (at_level v q)) bare.1)

-- the draws at or above n are none exactly where no number is one
past_some : (e n : ℕ) (ds : List (ℕ × ℕ)) → 0 < past e n ds → (x : ℕ) × (n ≤ x) × (0 < drawn e x ds)
past_some e n [] h = absurd (omega arith)
past_some e n ((q, y) ∷ ds) h = dite (ℕ_discrete q e)
    (λ is. dite (dec_le n y)
    (λ le. let a = draw_same e y q y is refl in (y, le, omega arith))
    (λ gt. let z = ap (λ b. cond b (1 - (n - y)) 0 + past e n ds) (eq-eqb q e is) in let r = past_some e n ds (omega arith) in (r.0, r.1, more r.0 r.2)))
    (λ ne. let z = ap (λ b. cond b (1 - (n - y)) 0 + past e n ds) (ne_eqb q e ne) in let r = past_some e n ds (omega arith) in (r.0, r.1, more r.0 r.2))
  where
    more : (x : ℕ) → 0 < drawn e x ds → 0 < drawn e x ((q, y) ∷ ds)
    more x h = omega arith

past_there : (e n x : ℕ) (ds : List (ℕ × ℕ)) → n ≤ x → 0 < drawn e x ds → 0 < past e n ds
past_there e n x [] le h = absurd (omega arith)
past_there e n x ((q, y) ∷ ds) le h = dite (ℕ_discrete q e)
    (λ is. dite (ℕ_discrete y x)
    (λ same. let o = past_high e n x le in let Q : ℕ → ℕ → Type 0 = λ i j. 0 < past e n ((i, j) ∷ ds) in let here : Q e x = omega arith in subst (λ i. Q i y) (sym is) (subst (λ j. Q e j) (sym same) here))
    (λ other. let z = draw_other e x q y is other in let r = past_there e n x ds le (omega arith) in omega arith))
    (λ ne. let z = draw_elsewhere e x q y ne in let r = past_there e n x ds le (omega arith) in omega arith)

module _ {F P : Type 0} (children : F → P → List P) where
  -- a walker of a known start is done exactly where a draw of its is no candidate's
  pub done_where : (v : PathView F P) (f : F) (p : P) → v.start ≡ Some (f, p) → Tidy v → Ended children v → IsDoneWhere (children f) p v
  done_where v f p is tidy ended e = dite (dec_le e (length v.path))
      (λ low. let w : ℕ = width (children f) p (take e v.path) in
      let same : times e v.done ≡ past e w v.draws = ended e low ∙ ap (λ (t : Option (F × P)). past e (start_width children t (take e v.path)) v.draws) is in
      ((λ h. past_some e w v.draws (omega arith)), (λ x le d. let there = past_there e w x v.draws le d in omega arith)))
      (λ high. let none = tidy e (omega arith) in ((λ h. let z = none.1 in absurd (omega arith)), (λ x le d. let z = none.0 x in absurd (omega arith))))
