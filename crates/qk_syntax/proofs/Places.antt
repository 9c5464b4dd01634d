-- The tokens of a text stand in order.
use Rattle.std.proofs.Common.{◌≡◌, ℕ, ◌+◌, ◌≤◌, Bool, true, false, cond, ◌||◌, List, [], ◌∷◌, ◌++◌, eqb, refl, sym, arith, subst, ◌⊎◌, inl, inr}
use Rattle.qk_base.specs.declared.place.Place.{Place}
use Rattle.qk_syntax.specs.Reader.{Mode, free, in_word, in_comment, next_mode, next_place, token_of, scan}
use Rattle.qk_syntax.specs.Tokens.{Token, opening, closing, word, bad}
use Rattle.qk_syntax.specs.Words.{is_blank, is_word_byte, word_of}

abbrev pub at : Token → Place
at (opening p) = p
at (closing p) = p
at (word p w) = p
at (bad p) = p

-- the first place is the second or stands before it
pub record Until (p q : Place) : Type 0 where
  pub line : p.line ≤ q.line
  pub column : q.line ≤ p.line → p.column ≤ q.column

abbrev pub past : Place → Place
past p = record { line = p.line; column = p.column + 1 }

pub until_same : (p : Place) → Until p p
until_same p = record { line = omega arith; column = λ h. omega arith }

pub until_until : (p q r : Place) → Until p q → Until q r → Until p r
until_until p q r a b = record { line = omega (arith, a.line, b.line); column = λ h. omega (arith, h, a.line, b.line, a.column (omega (arith, a.line, b.line)), b.column (omega (arith, a.line, b.line))) }

pub until_past : (p : Place) → Until p (past p)
until_past p = record { line = omega arith; column = λ h. omega arith }

past_by : (f : Bool) (p : Place) → Until (past p) (cond f (record { line = p.line + 1; column = 1 }) (record { line = p.line; column = p.column + 1 }))
past_by true p = record { line = omega arith; column = λ h. absurd (omega (arith, h)) }
past_by false p = record { line = omega arith; column = λ h. omega arith }

past_next : (p : Place) (b : ℕ) → Until (past p) (next_place p b)
past_next p b = past_by (eqb b 10) p

-- each token stands after the one before it, and none before p
abbrev pub Ordered : Place → List Token → Type 0
Ordered p [] = Unit {0}
Ordered p (t ∷ ts) = Until p (at t) × Ordered (past (at t)) ts

pub ordered_from : (ts : List Token) (p q : Place) → Until p q → Ordered q ts → Ordered p ts
ordered_from [] p q u o = tt
ordered_from (t ∷ ts) p q u o = (until_until p q (at t) u o.0, o.1)

-- no token, or one that stands there
OneAt : Place → List Token → Type 0
OneAt p ts = (ts ≡ []) ⊎ ((t : Token) × (at t ≡ p) × (ts ≡ t ∷ []))

pick : (s o c w : Bool) (p : Place) (run : List Token) → OneAt p run → OneAt p (cond s [] (cond o (opening p ∷ []) (cond c (closing p ∷ []) (cond w run (bad p ∷ [])))))
unfolding OneAt
pick true o c w p run h = inl refl
pick false true c w p run h = inr (opening p, refl, refl)
pick false false true w p run h = inr (closing p, refl, refl)
pick false false false true p run h = h
pick false false false false p run h = inr (bad p, refl, refl)

one_at : (m : Mode) (p : Place) (b : ℕ) (bytes : List ℕ) → OneAt p (token_of m p b bytes)
unfolding OneAt
one_at in_comment p b bytes = inl refl
one_at free p b bytes = pick (is_blank b || eqb b 59) (eqb b 40) (eqb b 41) (is_word_byte b) p (word p (word_of (b ∷ bytes)) ∷ []) (inr (word p (word_of (b ∷ bytes)), refl, refl))
one_at in_word p b bytes = pick (is_blank b || eqb b 59) (eqb b 40) (eqb b 41) (is_word_byte b) p [] (inl refl)

put_first : (p q : Place) (first rest : List Token) → OneAt p first → Until (past p) q → Ordered q rest → Ordered p (first ++ rest)
unfolding OneAt
put_first p q first rest (inl e) u o = subst (λ (ts : List Token). Ordered p (ts ++ rest)) (sym e) (ordered_from rest p q (until_until p (past p) q (until_past p) u) o)
put_first p q first rest (inr h) u o =
    subst (λ (ts : List Token). Ordered p (ts ++ rest)) (sym h.2) (
      subst (λ (r : Place). Until p r) (sym h.1) (until_same p),
      ordered_from rest (past (at h.0)) q (subst (λ (r : Place). Until (past r) q) (sym h.1) u) o,
    )

pub scan_ordered : (bytes : List ℕ) (m : Mode) (p : Place) → Ordered p (scan bytes m p)
scan_ordered [] m p = tt
scan_ordered (b ∷ bytes) m p = put_first p (next_place p b) (token_of m p b bytes) (scan bytes (next_mode m b) (next_place p b)) (one_at m p b bytes) (past_next p b) (scan_ordered bytes (next_mode m b) (next_place p b))
