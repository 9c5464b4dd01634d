-- What the steps of a table ask, from the lemmas of `Keeps`.
use Rattle.std.proofs.Common.{◌≡◌, ℕ, suc, ◌+◌, ◌-◌, ◌%◌, ◌^◌, min, ◌<◌, ◌≤◌, ◌≢◌, ◌⊎◌, List, [], ◌∷◌, ◌++◌, length, get_or, set, sym, refl, ap, ◌∙◌, subst, ⊎_elim, arith}
use mathlib.Core.Logic.{dite}
use mathlib.Core.Option.{none, some}
use native.Mathlib.Decide.{dec_le}
use lib.ListN.{get_elem?}
use Rattle.atomic_table.specs.Table.{State, Me, step, keeps, stepped, Allows, Splits, Joins}
use Rattle.atomic_table.proofs.Lists.{at_set}
use Rattle.qk_board.specs.declared.view.BoardView.{BoardView}
use Rattle.qk_totals.specs.Totals.{total, times, drawn}
use Rattle.qk_board.specs.Views.{length_at, draws_of, dries_of, lowers_of, sights_of, parts_of, IsEmptyView, with_draw, with_dry, with_lowered, with_seen}
use Rattle.qk_board.specs.Rule.{Kept}
use Rattle.qk_board.specs.Steps.{Claimed, Lowered, Looked, one_less, handed, joined, spent_view}
use Rattle.qk_totals.proofs.Totals.{total_set, total_append, le_total, each_set, each_snoc, times_append, drawn_append}
use Rattle.qk_board.proofs.Keeps.{fits, claim_draw, claim_dry, lower_keeps, load_keeps}

past_none : (n y f T : ℕ) → n ≤ y → (n ≤ y → T ≡ 0) → f ≤ T → f ≡ 0
past_none n y f T h k le = let z = k h in omega arith

wraps : (n len seats : ℕ) → n ≤ len + seats → len + seats < 2 ^ 63 → n + 1 ≡ (n + 1) % 2 ^ 64
wraps n len seats h k = omega arith

back_one : (r : ℕ) → r ≡ r + 1 - 1
back_one r = omega arith

min_below : (n len y : ℕ) → n < len → n ≤ y → min n len ≤ y
min_below n len y h k = omega arith

le_zero : (f T : ℕ) → T ≡ 0 → f ≤ T → f ≡ 0
le_zero f T e h = omega arith

pos_of : (f T : ℕ) → 0 < f → f ≤ T → 0 < T
pos_of f T h k = omega arith

module _ (limit seats : ℕ) (lengths : List ℕ) where
  abbrev Rule : State (Unit {0}) BoardView → Type 0
  Rule s = Kept limit seats lengths s.words s.views

  pub claims : (slots id r : ℕ) (me : Me (Unit {0}) BoardView) → 0 < me.0.parts → r < length lengths → length_at lengths r + seats < 2 ^ 63 → dries_of r me.0 ≡ 0
      → Allows Rule slots id me (r + 1) (λ n. (n + 1) % 2 ^ 64) (Claimed (step slots (r + 1) 1 0 none) me)
  claims slots id r me alive here small new s k _ at _ =
      let n : ℕ = get_or s.words (r + 1) 0 in
      let grown : n + 1 ≡ (n + 1) % 2 ^ 64 = wraps n (length_at lengths r) seats (fits limit seats lengths s.words s.views k id me.0 at alive r) small in
      let known = (k.same id me.0 at alive).1 in
      let len : length_at me.0.lengths r ≡ length_at lengths r = ap (λ l. length_at l r) known in
      dite (dec_le (suc n) (length_at lengths r))
      (λ low. (
        with_draw me.0 r n,
        keeps,
        tt,
        subst (λ (z : ℕ). Rule (stepped s (r + 1) z id me.1 (with_draw me.0 r n) keeps)) grown (claim_draw limit seats lengths s.words s.views k id me.0 at alive r here low),
        subst (λ (q : ℕ). (me.1 ≡ me.1) × (n < length_at me.0.lengths q → (with_draw me.0 r n ≡ with_draw me.0 q n) × ((y : ℕ) → n ≤ y → drawn q y me.0.draws ≡ 0)) × (length_at me.0.lengths q ≤ n → with_draw me.0 r n ≡ with_dry me.0 q)) (back_one r) (
          refl,
          (λ _. (refl, (λ y h. le_zero (drawn r y me.0.draws) (total (draws_of r y) s.views) ((k.draws r y).1 (min_below n (length_at lengths r) y low h)) (le_total (draws_of r y) s.views id me.0 at)))),
          (λ h. absurd (omega arith)),
        ),
      ))
      (λ high. (
        with_dry me.0 r,
        keeps,
        tt,
        subst (λ (z : ℕ). Rule (stepped s (r + 1) z id me.1 (with_dry me.0 r) keeps)) grown (claim_dry limit seats lengths s.words s.views k id me.0 at alive r here (omega arith) new),
        subst (λ (q : ℕ). (me.1 ≡ me.1) × (n < length_at me.0.lengths q → (with_dry me.0 r ≡ with_draw me.0 q n) × ((y : ℕ) → n ≤ y → drawn q y me.0.draws ≡ 0)) × (length_at me.0.lengths q ≤ n → with_dry me.0 r ≡ with_dry me.0 q)) (back_one r)
            (refl, (λ h. absurd (omega arith)), (λ _. refl)),
      ))

  pub lowers : (slots id m : ℕ) (me : Me (Unit {0}) BoardView) → 0 < me.0.parts → Allows Rule slots id me 0 (λ n. min n m) (Lowered (step slots 0 m 0 none) me)
  lowers slots id m me alive s k _ at _ = (with_lowered me.0 m, keeps, tt, lower_keeps limit seats lengths s.words s.views k id me.0 at alive m, (refl, refl))

  pub looks : (slots id : ℕ) (me : Me (Unit {0}) BoardView) → 0 < me.0.parts → Allows Rule slots id me 0 (λ n. n) (Looked (step slots 0 0 0 none) me)
  looks slots id me alive s k _ at _ =
      let b : ℕ = get_or s.words 0 0 in let known = (k.same id me.0 at alive).0 in (
        with_seen me.0 b,
        keeps,
        tt,
        load_keeps limit seats lengths s.words s.views k id me.0 at alive,
        (
          refl,
          refl,
          subst (λ l. b ≤ l) (sym known) k.bound.0,
          (λ n h. k.bound.1 n (pos_of (times n me.0.lowered) (total (lowers_of n) s.views) h (le_total (lowers_of n) s.views id me.0 at))),
          (λ n h. (k.seen n (pos_of (times n me.0.seen) (total (sights_of n) s.views) h (le_total (sights_of n) s.views id me.0 at))).0),
        ),
      )

  -- the same words, and views that add up to the same
  regrouped : (ws : List ℕ) (vs us : List BoardView) → Kept limit seats lengths ws vs
      → ((r x : ℕ) → total (draws_of r x) us ≡ total (draws_of r x) vs) → ((r : ℕ) → total (dries_of r) us ≡ total (dries_of r) vs)
      → ((n : ℕ) → total (lowers_of n) us ≡ total (lowers_of n) vs) → ((n : ℕ) → total (sights_of n) us ≡ total (sights_of n) vs) → total parts_of us ≡ total parts_of vs
      → ((id : ℕ) (v : BoardView) → get_elem? us id ≡ some v → (r : ℕ) → dries_of r v ≤ v.parts)
      → ((id : ℕ) (v : BoardView) → get_elem? us id ≡ some v → v.parts ≡ 0 → IsEmptyView v)
      → ((id : ℕ) (v : BoardView) → get_elem? us id ≡ some v → 0 < v.parts → (v.limit ≡ limit) × (v.lengths ≡ lengths))
      → Kept limit seats lengths ws us
  regrouped ws vs us k dr dy lo si pa within idle same = record {
    shape = k.shape;
    draws = λ r x. subst (λ m. (x < min (get_or ws (r + 1) 0) (length_at lengths r) → m ≡ 1) × (min (get_or ws (r + 1) 0) (length_at lengths r) ≤ x → m ≡ 0)) (sym (dr r x)) (k.draws r x);
    dries = λ r. dy r ∙ k.dries r;
    dries_within = within;
    bound = (k.bound.0, (λ n h. k.bound.1 n (subst (λ t. 0 < t) (lo n) h)), subst (λ t. (get_or ws 0 0 ≡ limit) ⊎ (0 < t)) (sym (lo (get_or ws 0 0))) k.bound.2);
    seen = λ n h. (let o = k.seen n (subst (λ t. 0 < t) (si n) h) in (o.0, subst (λ t. (n ≡ limit) ⊎ (0 < t)) (sym (lo n)) o.1));
    parts = pa ∙ k.parts;
    idle = idle;
    same = same;
  }

  split_total : (f : BoardView → ℕ) (vs : List BoardView) (id : ℕ) (v l r : BoardView) → get_elem? vs id ≡ some v → f l + f r ≡ f v → total f (set vs id l ++ r ∷ []) ≡ total f vs
  split_total f vs id v l r at e = let a = total_append f (set vs id l) (r ∷ []) in let b = total_set f vs id v l at in omega arith

  no_times : (r : ℕ) (l : List ℕ) → l ≡ [] → times r l ≤ 0
  no_times r l e = subst (λ (m : List ℕ). times r m ≤ 0) (sym e) (omega arith)

  le_any : (a b : ℕ) → a ≤ 0 → a ≤ b
  le_any a b h = omega arith

  plus_zero : (x : ℕ) → x + 0 ≡ x
  plus_zero x = omega arith

  one_back : (p : ℕ) → 0 < p → p - 1 + 1 ≡ p
  one_back p h = omega arith

  pub splits : (id : ℕ) (v : BoardView) → IsEmptyView v → 0 < v.parts → Splits Rule id v (one_less v) (handed v)
  splits id v bare alive s k at = let us : List BoardView = set s.views id (one_less v) ++ handed v ∷ [] in
      regrouped s.words s.views us k
      (λ r x. split_total (draws_of r x) s.views id v (one_less v) (handed v) at (plus_zero (drawn r x v.draws)))
      (λ r. split_total (dries_of r) s.views id v (one_less v) (handed v) at (plus_zero (times r v.dry)))
      (λ n. split_total (lowers_of n) s.views id v (one_less v) (handed v) at (plus_zero (times n v.lowered)))
      (λ n. split_total (sights_of n) s.views id v (one_less v) (handed v) at (plus_zero (times n v.seen)))
      (split_total parts_of s.views id v (one_less v) (handed v) at (one_back v.parts alive))
      (let P : BoardView → Type 0 = λ u. (r : ℕ) → dries_of r u ≤ u.parts in
      each_snoc P (set s.views id (one_less v)) (handed v) (each_set P s.views id (one_less v) k.dries_within (λ r. le_any (times r v.dry) (v.parts - 1) (no_times r v.dry bare.1))) (λ r. omega arith))
      (let P : BoardView → Type 0 = λ u. u.parts ≡ 0 → IsEmptyView u in
      each_snoc P (set s.views id (one_less v)) (handed v) (each_set P s.views id (one_less v) k.idle (λ _. bare)) (λ e. absurd (omega arith)))
      (let P : BoardView → Type 0 = λ u. 0 < u.parts → (u.limit ≡ limit) × (u.lengths ≡ lengths) in
      each_snoc P (set s.views id (one_less v)) (handed v) (each_set P s.views id (one_less v) k.same (λ _. k.same id v at alive)) (λ _. k.same id v at alive))

  join_total : (f : BoardView → ℕ) (vs : List BoardView) (id other : ℕ) (v w : BoardView) → get_elem? vs id ≡ some v → get_elem? (set vs id (joined v w)) other ≡ some w → f (joined v w) ≡ f v + f w → f spent_view ≡ 0
      → total f (set (set vs id (joined v w)) other spent_view) ≡ total f vs
  join_total f vs id other v w at too e z = let a = total_set f vs id v (joined v w) at in let b = total_set f (set vs id (joined v w)) other w spent_view too in omega arith

  sum_le : (c a b p q : ℕ) → c ≡ a + b → a ≤ p → b ≤ q → c ≤ p + q
  sum_le c a b p q e h k = omega arith

  pub joins : (id other : ℕ) (v w : BoardView) → 0 < v.parts → Joins Rule id v other w (joined v w) spent_view
  joins id other v w alive s k at apart too =
      let both : BoardView = joined v w in
      let us : List BoardView = set (set s.views id both) other spent_view in
      let there : get_elem? s.views other ≡ some w = ⊎_elim (λ (t : (other ≡ id) × (both ≡ w)). absurd (apart t.0)) (λ (t : (other ≢ id) × (get_elem? s.views other ≡ some w)). t.1) (at_set s.views id other both w too) in
      regrouped s.words s.views us k
      (λ r x. join_total (draws_of r x) s.views id other v w at too (drawn_append r x v.draws w.draws) refl)
      (λ r. join_total (dries_of r) s.views id other v w at too (times_append r v.dry w.dry) refl)
      (λ n. join_total (lowers_of n) s.views id other v w at too (times_append n v.lowered w.lowered) refl)
      (λ n. join_total (sights_of n) s.views id other v w at too (times_append n v.seen w.seen) refl)
      (join_total parts_of s.views id other v w at too refl refl)
      (let P : BoardView → Type 0 = λ u. (r : ℕ) → dries_of r u ≤ u.parts in
      each_set P (set s.views id both) other spent_view (each_set P s.views id both k.dries_within (λ r. sum_le (times r (v.dry ++ w.dry)) (times r v.dry) (times r w.dry) v.parts w.parts (times_append r v.dry w.dry) (k.dries_within id v at r) (k.dries_within other w there r))) (λ r. omega arith))
      (let P : BoardView → Type 0 = λ u. u.parts ≡ 0 → IsEmptyView u in
      each_set P (set s.views id both) other spent_view (each_set P s.views id both k.idle (λ e. absurd (omega arith))) (λ _. (refl, refl, refl, refl)))
      (let P : BoardView → Type 0 = λ u. 0 < u.parts → (u.limit ≡ limit) × (u.lengths ≡ lengths) in
      each_set P (set s.views id both) other spent_view (each_set P s.views id both k.same (λ _. k.same id v at alive)) (λ h. absurd (omega arith)))
