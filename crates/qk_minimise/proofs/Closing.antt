-- What a closed path and the walks along it come to.
use Rattle.std.proofs.Common.{◌≡◌, ℕ, zero, suc, ◌<◌, ◌≤◌, ◌↔◌, ⊎_elim, Bool, true, false, List, [], ◌∷◌, length, All, get_or, sym, refl, ap, ◌∙◌, subst, arith}
use Rattle.std.proofs.lemmas.List.{take_all}
use Rattle.std.proofs.lemmas.List.Elements.{All-tail}
use mathlib.Core.Logic.{dite}
use native.Mathlib.Decide.{ℕ_discrete, dec_le}
use Rattle.atomic_table.specs.Seated.{TableId}
use Rattle.qk_base.specs.declared.family.Family.{Ghosts}
use Rattle.qk_totals.specs.Totals.{total, times, drawn, EachBelow}
use Rattle.qk_path.specs.declared.walker.Walker.{Walker}
use Rattle.qk_path.specs.Paths.{IsPrefix}
use Rattle.qk_path.specs.Points.{nth, reached, Leads, candidate, width}
use Rattle.qk_path.specs.Views.{draws_of, Tidy}
use Rattle.qk_path.specs.Walkers.{view_of, HasPath, IsDoneWhere}
use Rattle.qk_path.proofs.Paths.{prefix_le, prefix_all}
use Rattle.qk_minimise.specs.Crew.{IsDone}
use Rattle.qk_minimise.specs.Greedy.{IsMinimum}
use Rattle.qk_minimise.specs.Walk.{Walked}

module _ {X : Type 0} (R : X → Type 0) where
  -- a sum above 0 has an item above 0
  some_of : (g : X → ℕ) (xs : List X) → All R xs → 0 < total g xs → (x : X) × R x × (0 < g x)
  some_of g [] h p = absurd (omega (arith, p))
  some_of g (x ∷ xs) h p = dite (dec_le 1 (g x))
      (λ here. (x, h 0 x (omega arith), here))
      (λ there. some_of g xs (All-tail R x xs h) (omega arith))

nth_get : {P : Type 0} (p d : P) (xs : List P) (k : ℕ) → k < length xs → nth p xs k ≡ get_or xs k d
nth_get p d [] k low = absurd (omega (arith, low))
nth_get p d (x ∷ xs) zero low = refl
nth_get p d (x ∷ xs) (suc k) low = nth_get p d xs k (omega (arith, low))

-- a number that was drawn is below the claim word
below_claims : (claims total x : ℕ) → (claims ≤ x → total ≡ 0) → 0 < total → x < claims
below_claims claims total x none some = dite (dec_le (suc x) claims) (λ h. h) (λ h. let z = none (omega arith) in absurd (omega arith))

module _ {F P Q : Type 0} {met : Ghosts F P Q} where
  -- the walker whose path is the whole path
  has_one : (R : Walker F P Q met → Type 0) (path : List ℕ) (ws : List (Walker F P Q met)) → All R ws → HasPath path ws
      → (w : Walker F P Q met) × R w × ((view_of w).path ≡ path) × ((g : Walker F P Q met → ℕ) → g w ≤ total g ws)
  has_one R path [] all h = absurd h
  has_one R path (w ∷ ws) all h = ⊎_elim
      (λ (is : (view_of w).path ≡ path). (w, all 0 w (omega arith), is, (λ g. omega arith)))
      (λ (later : HasPath path ws). let r = has_one R path ws (All-tail R w ws all) later in (r.0, r.1, r.2, (λ g. let le = r.3 g in omega arith)))
      h

  module _ (id : TableId) (children : P → List P) (failing : P → Bool) (f : F) (p : P) (limit : ℕ) (ws : List (Walker F P Q met)) (path : List ℕ) (claims : ℕ → ℕ)
      (done : All (IsDone id children failing f p limit) ws) (prefixes : All (λ w. IsPrefix (view_of w).path path) ws) (whole : HasPath path ws)
      (draws : (e : ℕ) → EachBelow (claims e) (λ x. total (λ w. draws_of e x (view_of w)) ws))
      (levels : All (λ w. Tidy (view_of w)) ws) (ended : All (λ w. IsDoneWhere children p (view_of w)) ws) where
    abbrev Home : Walker F P Q met → Type 0
    Home w = Walked children failing p limit (view_of w) × (IsPrefix (view_of w).path path × (Tidy (view_of w) × IsDoneWhere children p (view_of w)))

    home : All Home ws
    home = λ k d low. ((done k d low).1, (prefixes k d low, (levels k d low, ended k d low)))

    -- where the limit is not met, more numbers were claimed at the end than there are candidates
    all_claimed : length path < limit → width children p path ≤ claims (length path)
    all_claimed short =
        let w = has_one Home path ws home whole in
        let v = view_of w.0 in
        let same : length v.path ≡ length path = ap length w.2 in
        let left : 0 < times (length v.path) v.done = w.1.0.done (omega arith) in
        let past = (w.1.1.1.1 (length v.path)).0 left in
        let wide : width children p path ≤ past.0 = subst (λ l. width children p l ≤ past.0) (take_all (length v.path) v.path (omega arith) ∙ w.2) past.1 in
        let drew : 0 < drawn (length path) past.0 v.draws = subst (λ e. 0 < drawn e past.0 v.draws) same past.2 in
        let among = w.3 (λ u. draws_of (length path) past.0 (view_of u)) in
        let below = below_claims (claims (length path)) (total (λ u. draws_of (length path) past.0 (view_of u)) ws) past.0 (draws (length path) past.0).1 (omega arith) in
        omega arith

    -- a number that was claimed there is that of a candidate that does not fail
    claimed_passes : (k : ℕ) → k < claims (length path) → k < width children p path → failing (candidate children p path k) ≡ false
    claimed_passes k claimed low =
        let one = (draws (length path) k).0 claimed in
        let u = some_of Home (λ w. draws_of (length path) k (view_of w)) ws home (omega arith) in
        let v = view_of u.0 in
        let within = prefix_le v.path path u.1.1.0 in
        let level : length v.path ≡ length path = dite (ℕ_discrete (length v.path) (length path)) (λ e. e) (λ ne. let z = (u.1.1.1.0 (length path) (omega arith)).0 k in let d = u.2 in absurd (omega arith)) in
        let is : v.path ≡ path = prefix_all v.path path u.1.1.0 level in
        let drew : 0 < drawn (length v.path) k v.draws = subst (λ e. 0 < drawn e k v.draws) (sym level) u.2 in
        let low' : k < width children p v.path = subst (λ l. k < width children p l) (sym is) low in
        subst (λ l. failing (candidate children p l k) ≡ false) is (u.1.0.none_fails k drew low')

    pub least_at_close : length path < limit → All (λ q. failing q ≡ false) (children (reached children p path))
    least_at_close short = λ k d low.
        (let all = all_claimed short in
        let passes = claimed_passes k (omega arith) low in
        subst (λ q. failing q ≡ false) (nth_get (reached children p path) d (children (reached children p path)) k low) passes)

    -- the path is one to a minimum
    pub minimum_at_close : (limit_met : Bool) → Leads children failing p path → length path ≤ limit → ((limit_met ≡ true) ↔ (length path ≡ limit))
        → IsMinimum children failing p limit (reached children p path) path limit_met
    minimum_at_close limit_met leads short exact = record {
      leads = leads;
      ends = refl;
      short = short;
      met = exact;
      least = λ unmet. dite (ℕ_discrete (length path) limit) (λ full. let met = exact.1 full in cc) (λ ne. least_at_close (omega arith));
    }
