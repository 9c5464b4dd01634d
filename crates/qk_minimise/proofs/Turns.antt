-- Points on a path, and the turns of a walker.
use Rattle.std.proofs.Common.{◌≡◌, ℕ, zero, suc, ◌+◌, ◌<◌, ◌≤◌, Bool, true, false, Some, List, [], ◌∷◌, ◌++◌, length, length-append, slice_get, get_or, drop, add-one, All, sym, refl, ap, ◌∙◌, subst, arith}
use Rattle.std.proofs.Math.Seq.{drop-cons}
use Rattle.std.proofs.lemmas.List.Elements.{All-tail}
use mathlib.Core.Logic.{dite}
use native.Mathlib.Decide.{ℕ_discrete}
use Rattle.qk_totals.specs.Totals.{times, drawn}
use Rattle.qk_totals.proofs.Totals.{times_append, drawn_append, one_same, draw_same, draw_other}
use Rattle.qk_path.specs.declared.view.PathView.{PathView}
use Rattle.qk_path.specs.Points.{nth, reached, Leads, width, candidate}
use Rattle.qk_path.specs.Views.{Tidy, with_draw, with_done, with_miss, with_step}
use Rattle.qk_scan.proofs.Draws.{top_grows}
use Rattle.qk_minimise.specs.Walk.{Walks, Tried, Turned}
use Rattle.qk_minimise.specs.declared.walking.Turn.TheVariants.{Claimed, Moved}

module _ {P : Type 0} where
  pub nth_of : (d : P) (xs : List P) (k : ℕ) (q : P) → slice_get xs k ≡ Some q → nth d xs k ≡ q
  nth_of d [] k q e = cc
  nth_of d (x ∷ xs) zero q e = cc
  nth_of d (x ∷ xs) (suc k) q e = nth_of d xs k q e

  pub nth_all : (Q : P → Type 0) (d : P) (xs : List P) (k : ℕ) → k < length xs → All Q xs → Q (nth d xs k)
  nth_all Q d [] k low h = absurd (omega (arith, low))
  nth_all Q d (x ∷ xs) zero low h = h 0 x (omega arith)
  nth_all Q d (x ∷ xs) (suc k) low h = nth_all Q d xs k (omega (arith, low)) (All-tail Q x xs h)

  -- one more step leads to its candidate
  pub reached_next : (children : P → List P) (p : P) (path : List ℕ) (k : ℕ) → reached children p (path ++ k ∷ []) ≡ candidate children p path k
  reached_next children p [] k = refl
  reached_next children p (x ∷ xs) k = reached_next children (nth p (children p) x) xs k

  pub last_within : (children : P → List P) (failing : P → Bool) (p : P) (path : List ℕ) (k : ℕ) → Leads children failing p (path ++ k ∷ []) → k < width children p path
  last_within children failing p [] k h = h.0
  last_within children failing p (x ∷ xs) k h = last_within children failing (nth p (children p) x) xs k h.2

  pub leads_before : (children : P → List P) (failing : P → Bool) (p : P) (path : List ℕ) (k : ℕ) → Leads children failing p (path ++ k ∷ []) → Leads children failing p path
  leads_before children failing p [] k h = tt
  leads_before children failing p (x ∷ xs) k h = (h.0, h.1, leads_before children failing (nth p (children p) x) xs k h.2)

  -- the candidate that is got by its number
  pub is_candidate : (children : P → List P) (p : P) (path : List ℕ) (listed : List P) (k : ℕ) (q : P) → listed ≡ children (reached children p path) → slice_get listed k ≡ Some q → candidate children p path k ≡ q
  is_candidate children p path listed k q e h = nth_of (reached children p path) (children (reached children p path)) k q (subst (λ (l : List P). slice_get l k ≡ Some q) e h)

  -- every point on a path is one of the family
  pub reached_owned : (children : P → List P) (failing : P → Bool) (Q : P → Type 0) → ((q : P) → Q q → All Q (children q)) → (p : P) (path : List ℕ) → Q p → Leads children failing p path → Q (reached children p path)
  reached_owned children failing Q law p [] own leads = own
  reached_owned children failing Q law p (n ∷ ns) own leads = reached_owned children failing Q law (nth p (children p) n) ns (nth_all Q p (children p) n leads.0 (law p own)) leads.2

  pub candidate_owned : (children : P → List P) (failing : P → Bool) (Q : P → Type 0) → ((q : P) → Q q → All Q (children q)) → (p : P) (path : List ℕ) (k : ℕ) → Q p → Leads children failing p path → k < width children p path → Q (candidate children p path k)
  candidate_owned children failing Q law p path k own leads low =
      nth_all Q (reached children p path) (children (reached children p path)) k low (law (reached children p path) (reached_owned children failing Q law p path own leads))

module _ {F P : Type 0} (children : P → List P) (failing : P → Bool) (p : P) where
  -- one more step
  pub stepped : (v w : PathView F P) (step : ℕ) → v.missed ≡ length v.draws → Tidy v → w ≡ with_step v step → Leads children failing p (v.path ++ step ∷ []) → Turned children failing p v w (Moved step)
  stepped v w step looks tidy is leads = subst (λ u. (u.path ≡ v.path ++ step ∷ []) × Walks children failing p u) (sym is) (
    refl,
    record {
      leads = leads;
      looks = looks;
      none_fails = λ k d low. (let longer = length-append v.path (step ∷ []) in let z = (tidy (length (v.path ++ step ∷ [])) (omega arith)).0 k in absurd (omega arith));
    },
  )

  module _ (v : PathView F P) (n : ℕ) (walks : Walks children failing p v) (greater : (y : ℕ) → n ≤ y → drawn (length v.path) y v.draws ≡ 0) where
    abbrev e : ℕ
    e = length v.path

    abbrev w : ℕ
    w = width children p v.path

    one_more : v.missed + 1 ≡ length (v.draws ++ (e, n) ∷ [])
    one_more = let a = length-append v.draws ((e, n) ∷ []) in let g = walks.looks in omega arith

    none_fail : (n < w → failing (candidate children p v.path n) ≡ false) → (x : ℕ) → 0 < drawn e x (v.draws ++ (e, n) ∷ []) → x < w → failing (candidate children p v.path x) ≡ false
    none_fail h x d low = dite (ℕ_discrete n x)
        (λ is. subst (λ m. failing (candidate children p v.path m) ≡ false) is (h (omega arith)))
        (λ ne. let a = drawn_append e x v.draws ((e, n) ∷ []) in let b = draw_other e x e n refl ne in walks.none_fails x (omega arith) low)

    -- a claim that gives no candidate's number
    pub done_turn : (u : PathView F P) → u ≡ with_done (with_miss v) n → w ≤ n → times e v.done ≡ 0 → Turned children failing p v u Claimed
    done_turn u is high ready = let t = top_grows e n v.draws greater in let a = times_append e v.done (e ∷ []) in let b : times e (e ∷ []) ≡ 1 = one_same e e refl in
        subst (λ x. Turned children failing p v x Claimed) (sym is) (refl, record { leads = walks.leads; looks = one_more; none_fails = none_fail (λ h. absurd (omega arith)) }, omega arith)

    -- a claim whose candidate does not fail
    pub draw_turn : (u : PathView F P) → u ≡ with_draw (with_miss v) n → n < w → failing (candidate children p v.path n) ≡ false → Turned children failing p v u Claimed
    draw_turn u is low passes = let t = top_grows e n v.draws greater in
        subst (λ x. Turned children failing p v x Claimed) (sym is) (refl, record { leads = walks.leads; looks = one_more; none_fails = none_fail (λ _. passes) }, omega arith)

    pub fresh_draw : 0 < drawn e n (v.draws ++ (e, n) ∷ [])
    fresh_draw = let a = drawn_append e n v.draws ((e, n) ∷ []) in let b = draw_same e n e n refl refl in omega arith

    -- a claim whose candidate was offered
    pub moved_turn : (u x : PathView F P) (step : ℕ) → u ≡ with_draw (with_miss v) n → Tidy u → Tried children failing p n u x (Some step) → Turned children failing p v x (Moved step)
    moved_turn u x step is tidy t =
        let looks : u.missed ≡ length u.draws = ap (λ a. a.missed) is ∙ (one_more ∙ sym (ap (λ a. length a.draws) is)) in
        let moved = stepped u x step looks tidy t.0 t.1 in
        (moved.0 ∙ ap (λ a. a.path ++ step ∷ []) is, moved.1)

    -- after a look and a claim
    pub claimed_looks : (u : PathView F P) → u ≡ with_draw (with_miss v) n → u.missed ≡ length u.draws
    claimed_looks u is = ap (λ a. a.missed) is ∙ (one_more ∙ sym (ap (λ a. length a.draws) is))

-- one step along a path
module _ {P : Type 0} (children : P → List P) (failing : P → Bool) (Q : P → Type 0) (law : (q : P) → Q q → All Q (children q)) (point next : P) (listed : List P) (path : List ℕ) (i : ℕ) (within : i < length path)
    (owned : Q point) (leads : Leads children failing point (drop i path)) (same : listed ≡ children point) (got : slice_get listed (get_or path i 0) ≡ Some next) where
  first : drop i path ≡ get_or path i 0 ∷ drop (i + 1) path
  first = rw add-one (drop-cons path i 0 within)

  here : Leads children failing point (get_or path i 0 ∷ drop (i + 1) path)
  here = subst (Leads children failing point) first leads

  next_is : nth point (children point) (get_or path i 0) ≡ next
  next_is = nth_of point (children point) (get_or path i 0) next (subst (λ (l : List P). slice_get l (get_or path i 0) ≡ Some next) same got)

  pub step_owned : Q next
  step_owned = subst Q next_is (nth_all Q point (children point) (get_or path i 0) here.0 (law point owned))

  pub step_fails : failing next ≡ true
  step_fails = subst (λ q. failing q ≡ true) next_is here.1

  pub step_leads : Leads children failing next (drop (i + 1) path)
  step_leads = subst (λ q. Leads children failing q (drop (i + 1) path)) next_is here.2

  pub step_reached : reached children next (drop (i + 1) path) ≡ reached children point (drop i path)
  step_reached = sym (ap (λ q. reached children q (drop (i + 1) path)) next_is) ∙ sym (ap (reached children point) first)
