-- Ranges in cyclic order.
use Rattle.std.proofs.Common.{◌≡◌, ℕ, ◌+◌, ◌-◌, ◌<◌, ◌≤◌, ◌≢◌, cond, List, [], ◌∷◌, ◌++◌, sym, ap, ◌∙◌, subst, arith}
use Rattle.std.proofs.lemmas.Bool.{le-leb, lt-leb}
use mathlib.Core.Logic.{dite}
use native.Mathlib.Decide.{ℕ_discrete, dec_le}
use Rattle.qk_totals.specs.Totals.{times}
use Rattle.qk_totals.proofs.Totals.{times_append, one_same, one_other}
use Rattle.qk_scan.specs.Each.{Each}
use Rattle.qk_scan.specs.Work.{place, DryUpTo, InCyclicOrder, DrawsMore}
use Rattle.qk_scan.proofs.Eachs.{each_append, each_map}

module _ (first ranges : ℕ) (in_range : first < ranges) where
  after : (r : ℕ) → first ≤ r → place first ranges r ≡ r - first
  after r h = ap (λ b. cond b (r - first) (r + ranges - first)) (le-leb first r h)

  before : (r : ℕ) → r < first → place first ranges r ≡ r + ranges - first
  before r h = ap (λ b. cond b (r - first) (r + ranges - first)) (lt-leb first r h)

  pub place_first : place first ranges first ≡ 0
  place_first = let e = after first (omega arith) in omega arith

  pub place_below : (r : ℕ) → r < ranges → place first ranges r < ranges
  place_below r h = dite (dec_le first r) (λ k. let e = after r k in omega arith) (λ k. let e = before r (omega arith) in omega arith)

  place_one : (r q : ℕ) → r < ranges → q < ranges → place first ranges r ≡ place first ranges q → r ≡ q
  place_one r q h k e = dite (dec_le first r)
      (λ a. let u = after r a in dite (dec_le first q) (λ b. let w = after q b in omega arith) (λ b. let w = before q (omega arith) in omega arith))
      (λ a. let u = before r (omega arith) in dite (dec_le first q) (λ b. let w = after q b in omega arith) (λ b. let w = before q (omega arith) in omega arith))

  pub place_next : (r k : ℕ) → r < ranges → place first ranges r ≡ k → k + 1 < ranges → r + 1 ≢ ranges → place first ranges (r + 1) ≡ k + 1
  place_next r k h e low ne = dite (dec_le first r)
      (λ a. let u = after r a in let w = after (r + 1) (omega arith) in omega arith)
      (λ a. let u = before r (omega arith) in dite (dec_le first (r + 1)) (λ b. let w = after (r + 1) b in omega arith) (λ b. let w = before (r + 1) (omega arith) in omega arith))

  pub place_round : (r k : ℕ) → r < ranges → place first ranges r ≡ k → k + 1 < ranges → r + 1 ≡ ranges → place first ranges 0 ≡ k + 1
  place_round r k h e low is = dite (dec_le first r)
      (λ a. let u = after r a in dite (dec_le first 0) (λ b. let w = after 0 b in omega arith) (λ b. let w = before 0 (omega arith) in omega arith))
      (λ a. omega arith)

  pub none_dry : (dry : List ℕ) → dry ≡ [] → DryUpTo first ranges 0 dry
  none_dry dry e r h = ((λ k. absurd (omega arith)), (λ _. ap (times r) e))

  pub one_more : (r k : ℕ) (dry new : List ℕ) → r < ranges → place first ranges r ≡ k → new ≡ dry ++ r ∷ [] → DryUpTo first ranges k dry → DryUpTo first ranges (k + 1) new
  one_more r k dry new h at e d q low = let t = ap (times q) e ∙ times_append q dry (r ∷ []) in let o = d q low in dite (ℕ_discrete r q)
      (λ is. let s = one_same r q is in let p : place first ranges q ≡ k = ap (place first ranges) (sym is) ∙ at in ((λ _. omega arith), (λ z. absurd (omega arith))))
      (λ ne. let s = one_other r q ne in let a = o.0 in let b = o.1 in
      dite (ℕ_discrete (place first ranges q) k) (λ p. absurd (ne (place_one r q h low (at ∙ sym p)))) (λ p. ((λ z. let m = a (omega arith) in omega arith), (λ z. let m = b (omega arith) in omega arith))))

  abbrev Before : ℕ → ℕ × ℕ → Type 0
  Before k d = place first ranges d.0 < k

  in_order : (k : ℕ) (ds more : List (ℕ × ℕ)) → InCyclicOrder first ranges ds → Each (Before k) ds → InCyclicOrder first ranges more → Each (λ d. place first ranges d.0 ≡ k) more → InCyclicOrder first ranges (ds ++ more)
  in_order k [] more o b p e = p
  in_order k (d ∷ ds) more o b p e = (
    each_append (λ (later : ℕ × ℕ). place first ranges d.0 ≤ place first ranges later.0) ds more o.0
        (each_map (λ (later : ℕ × ℕ). place first ranges later.0 ≡ k) (λ (later : ℕ × ℕ). place first ranges d.0 ≤ place first ranges later.0) (λ later is. let low = b.0 in omega arith) more e),
    in_order k ds more o.1 b.1 p e,
  )

  one_place : (k : ℕ) (more : List (ℕ × ℕ)) → Each (λ d. place first ranges d.0 ≡ k) more → InCyclicOrder first ranges more
  one_place k [] e = tt
  one_place k (d ∷ ds) e = (each_map (λ (later : ℕ × ℕ). place first ranges later.0 ≡ k) (λ (later : ℕ × ℕ). place first ranges d.0 ≤ place first ranges later.0) (λ later is. let mine = e.0 in omega arith) ds e.1, one_place k ds e.1)

  -- the draws after the range at place k was drained
  pub drained : (r k : ℕ) (before after : List (ℕ × ℕ)) → place first ranges r ≡ k → DrawsMore r before after → InCyclicOrder first ranges before → Each (λ d. place first ranges d.0 < k) before
      → InCyclicOrder first ranges after × Each (λ d. place first ranges d.0 < k + 1) after
  drained r k before after at m o b =
      let here : Each (λ (d : ℕ × ℕ). place first ranges d.0 ≡ k) m.0 = each_map (λ (d : ℕ × ℕ). d.0 ≡ r) (λ (d : ℕ × ℕ). place first ranges d.0 ≡ k) (λ d is. ap (place first ranges) is ∙ at) m.0 m.2 in (
        subst (InCyclicOrder first ranges) (sym m.1) (in_order k before m.0 o b (one_place k m.0 here) here),
        subst (Each (λ (d : ℕ × ℕ). place first ranges d.0 < k + 1)) (sym m.1) (each_append (λ (d : ℕ × ℕ). place first ranges d.0 < k + 1) before m.0
            (each_map (λ (d : ℕ × ℕ). place first ranges d.0 < k) (λ (d : ℕ × ℕ). place first ranges d.0 < k + 1) (λ d low. omega arith) before b)
            (each_map (λ (d : ℕ × ℕ). place first ranges d.0 ≡ k) (λ (d : ℕ × ℕ). place first ranges d.0 < k + 1) (λ d is. omega arith) m.0 here)),
      )
