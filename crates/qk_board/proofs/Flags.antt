-- The flags of the ranges that a seat has met dry.
use Rattle.std.proofs.Common.{◌≡◌, ℕ, ◌+◌, ◌<◌, ◌≤◌, Bool, true, false, List, [], ◌∷◌, ◌++◌, length, get_or, zero, suc, replicate, set, sym, refl, ap, ◌∙◌, subst, get_or-set_same, get_or-set_other, arith}
use mathlib.Core.Logic.{dite}
use native.Mathlib.Decide.{ℕ_discrete}
use Rattle.qk_totals.specs.Totals.{times}
use Rattle.qk_totals.proofs.Totals.{times_append, one_same, one_other}
use Rattle.qk_board.specs.Flags.{Flagged}

more_now : (a b c : ℕ) → c ≡ a + b → b ≡ 1 → 0 < c
more_now a b c e h = omega arith

same_now : (a b c : ℕ) → c ≡ a + b → b ≡ 0 → c ≡ a
same_now a b c e h = omega arith

clash : (b : Bool) → b ≡ true → b ≡ false → ⊥
clash b h k = cc

pub flagged : (flags : List Bool) (dry : List ℕ) (r : ℕ) → r < length flags → Flagged flags dry → Flagged (set flags r true) (dry ++ r ∷ [])
flagged flags dry r there m q = let more = times_append q dry (r ∷ []) in dite (ℕ_discrete r q)
    (λ e. let now : get_or (set flags r true) q false ≡ true = ap (λ j. get_or (set flags r true) j false) (sym e) ∙ get_or-set_same flags r true false there in
    ((λ _. more_now (times q dry) (times q (r ∷ [])) (times q (dry ++ r ∷ [])) more (one_same r q e)), (λ h. absurd (clash (get_or (set flags r true) q false) now h))))
    (λ ne. let now : get_or (set flags r true) q false ≡ get_or flags q false = get_or-set_other flags r q true false (λ h. ne (sym h)) in
    let t : times q (dry ++ r ∷ []) ≡ times q dry = same_now (times q dry) (times q (r ∷ [])) (times q (dry ++ r ∷ [])) more (one_other r q ne) in
    ((λ h. subst (λ k. 0 < k) (sym t) ((m q).0 (sym now ∙ h))), (λ h. t ∙ (m q).1 (sym now ∙ h))))

none_set : (n r : ℕ) → get_or (replicate n false) r false ≡ false
none_set zero r = refl
none_set (suc n) zero = refl
none_set (suc n) (suc r) = none_set n r

pub unflagged : (dry : List ℕ) → dry ≡ [] → Flagged (replicate 64 false) dry
unflagged dry e r = ((λ h. absurd (clash (get_or (replicate 64 false) r false) h (none_set 64 r))), (λ _. ap (times r) e))

past_none : (flags : List Bool) (r : ℕ) → length flags ≤ r → get_or flags r false ≡ false
past_none [] r h = refl
past_none (b ∷ bs) zero h = absurd (omega arith)
past_none (b ∷ bs) (suc r) h = past_none bs r (omega arith)

-- no range past the flags is among the dry ones
pub past_dry : (flags : List Bool) (dry : List ℕ) (r : ℕ) → length flags ≤ r → Flagged flags dry → times r dry ≡ 0
past_dry flags dry r h m = (m r).1 (past_none flags r h)
