-- One step of a descent, and where a descent ends.
use Rattle.std.proofs.Common.{◌≡◌, ℕ, zero, suc, ◌+◌, ◌-◌, ◌<◌, ◌≤◌, ◌↔◌, Bool, true, false, cond, Some, None, List, [], ◌∷◌, ◌++◌, length, All, position, slice_get, slice_index_or, refl, sym, ◌∙◌, ap, subst, arith, append-nil, append_assoc}
use Rattle.std.proofs.lemmas.Option.{get_or_from_slice_get}
use Rattle.std.proofs.lemmas.List.Elements.{All-nil, All-cons}
use Rattle.std.proofs.lemmas.List.Quantifiers.{position-Some}
use Rattle.std.proofs.lemmas.Iterator.Adapters.{position_from-zero}
use Rattle.std.specs.List.{position_from}
use Rattle.qk_minimise.specs.Descent.{Descended, descent}

module _ {P : Type 0} (children : P → List P) (failing : P → Bool) where
  descent-none : (left : ℕ) (p : P) → position failing (children p) ≡ None
      → descent children failing (suc left) p ≡ record { point = p; path = []; tried = length (children p); limit_met = false }
  descent-none left p none = rw (none, descent) refl

  descent-some : (left : ℕ) (p : P) (place : ℕ) (q : P) → position failing (children p) ≡ Some place → slice_index_or (children p) place p ≡ q
      → descent children failing (suc left) p
      ≡ record {
        point = (descent children failing left q).point;
        path = place ∷ (descent children failing left q).path;
        tried = place + 1 + (descent children failing left q).tried;
        limit_met = (descent children failing left q).limit_met;
      }
  descent-some left p place q first is = rw (first, is, descent) refl

-- a descent, after the steps that led to its beginning
abbrev pub after : {P : Type 0} → List ℕ → ℕ → Descended P → Descended P
after path tried d = record { point = d.point; path = path ++ d.path; tried = tried + d.tried; limit_met = d.limit_met }

-- one step of the loop, from a point whose candidates are ps
module _ {P : Type 0} (children : P → List P) (failing : P → Bool) (path : List ℕ) (tried limit step : ℕ) (point : P) (whole : Descended P) (ps : List P)
    (low : step < limit) (listed : ps ≡ children point) (so_far : after path tried (descent children failing (limit - step) point) ≡ whole) where
  opened : after path tried (descent children failing (suc (limit - (step + 1))) point) ≡ whole
  opened = let e : suc (limit - (step + 1)) ≡ limit - step = omega arith in ap (λ n. after path tried (descent children failing n point)) e ∙ so_far

  pub ends : position failing ps ≡ None → record { point = point; path = path; tried = tried + length ps; limit_met = false } ≡ whole
  ends none =
      ap (λ n. record { point = point; path = path; tried = tried + length n; limit_met = false }) listed
      ∙ (ap (λ l. record { point = point; path = l; tried = tried + length (children point); limit_met = false }) (sym (append-nil path))
      ∙ (ap (after path tried) (sym (descent-none children failing (limit - (step + 1)) point (ap (position failing) (sym listed) ∙ none))) ∙ opened))

  pub goes_on : (place : ℕ) (next : P) → position failing ps ≡ Some place → slice_get ps place ≡ Some next
      → after (path ++ place ∷ []) (tried + (place + 1)) (descent children failing (limit - (step + 1)) next) ≡ whole
  goes_on place next first is =
      let left = limit - (step + 1) in
      let more = descent children failing left next in
      let sum : tried + (place + 1) + more.tried ≡ tried + (place + 1 + more.tried) = omega arith in
      let there : slice_get (children point) place ≡ Some next = ap (λ l. slice_get l place) (sym listed) ∙ is in
      ap (λ l. record { point = more.point; path = l; tried = tried + (place + 1) + more.tried; limit_met = more.limit_met }) (append_assoc path (place ∷ []) more.path)
      ∙ (ap (λ n. record { point = more.point; path = path ++ place ∷ more.path; tried = n; limit_met = more.limit_met }) sum
      ∙ (ap (after path tried) (sym (descent-some children failing left point place next (ap (position failing) (sym listed) ∙ first) (get_or_from_slice_get (children point) place next point there))) ∙ opened))

-- a failing candidate is one of the list, and is owned where all of them are
pub place_within : {P : Type 0} (failing : P → Bool) (ps : List P) (place : ℕ) (d : P) → position failing ps ≡ Some place → place < length ps
place_within failing ps place d first = (position-Some failing ps place d first).0

pub one_of_all : {P : Type 0} (Q : P → Type 0) (ps : List P) (place : ℕ) (p : P) → place < length ps → slice_get ps place ≡ Some p → All Q ps → Q p
one_of_all Q ps place p within is all = subst Q (get_or_from_slice_get ps place p p is) (all place p within)

none_from : {P : Type 0} (failing : P → Bool) (k : ℕ) (ps : List P) → position_from failing k ps ≡ None → All (λ p. failing p ≡ false) ps
none_from failing k [] none = All-nil _
none_from failing k (p ∷ ps) none =
    elim (failing p) as (λ b. failing p ≡ b → cond b (Some k) (position_from failing (k + 1) ps) ≡ None → All (λ p. failing p ≡ false) (p ∷ ps)) [
      | true ↦ λ fails found. cc
      | false ↦ λ passes none. All-cons (λ p. failing p ≡ false) p ps passes (none_from failing (k + 1) ps none)
    ] refl none

none_fails : {P : Type 0} (failing : P → Bool) (ps : List P) → position failing ps ≡ None → All (λ p. failing p ≡ false) ps
none_fails failing ps none = none_from failing 0 ps (sym (position_from-zero failing ps) ∙ none)

-- what a descent of at most so many steps ends with
module _ {P : Type 0} (children : P → List P) (failing : P → Bool) where
  abbrev pub Fails : Descended P → Type 0
  Fails d = failing d.point ≡ true

  abbrev pub Steps : ℕ → Descended P → Type 0
  Steps limit d = (length d.path ≤ limit) × ((d.limit_met ≡ true) ↔ (length d.path ≡ limit))

  abbrev pub IsLeast : Descended P → Type 0
  IsLeast d = d.limit_met ≡ false → All (λ p. failing p ≡ false) (children d.point)

  pub fails_at_end : (left : ℕ) (p : P) → failing p ≡ true → Fails (descent children failing left p)
  fails_at_end zero p h = h
  fails_at_end (suc left) p h =
      elim (position failing (children p)) as (λ o. position failing (children p) ≡ o → Fails (descent children failing (suc left) p)) [
        | None ↦ λ e. subst Fails (sym (descent-none children failing left p e)) h
        | Some place ↦ λ e.
            let next = slice_index_or (children p) place p in
            subst Fails (sym (descent-some children failing left p place next e refl)) (fails_at_end left next (position-Some failing (children p) place p e).1)
      ] refl

  pub steps_at_end : (left : ℕ) (p : P) → Steps left (descent children failing left p)
  steps_at_end zero p = (omega arith, (λ met. refl, λ all. refl))
  steps_at_end (suc left) p =
      elim (position failing (children p)) as (λ o. position failing (children p) ≡ o → Steps (suc left) (descent children failing (suc left) p)) [
        | None ↦ λ e. subst (Steps (suc left)) (sym (descent-none children failing left p e)) (omega arith, (λ met. cc, λ all. absurd (omega (arith, all))))
        | Some place ↦ λ e.
            let next = slice_index_or (children p) place p in
            let more = steps_at_end left next in
            subst (Steps (suc left)) (sym (descent-some children failing left p place next e refl))
            (omega (arith, more.0), (λ met. ap suc (more.1.0 met), λ all. more.1.1 (omega (arith, all))))
      ] refl

  pub least_at_end : (left : ℕ) (p : P) → IsLeast (descent children failing left p)
  least_at_end zero p = λ unmet. cc
  least_at_end (suc left) p =
      elim (position failing (children p)) as (λ o. position failing (children p) ≡ o → IsLeast (descent children failing (suc left) p)) [
        | None ↦ λ e. subst IsLeast (sym (descent-none children failing left p e)) (λ unmet. none_fails failing (children p) e)
        | Some place ↦ λ e.
            let next = slice_index_or (children p) place p in
            subst IsLeast (sym (descent-some children failing left p place next e refl)) (least_at_end left next)
      ] refl
