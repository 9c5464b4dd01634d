-- Trees that a text spells are readable.
use Rattle.std.proofs.Common.{◌≡◌, ℕ, ◌+◌, ◌-◌, ◌^◌, ◌≤◌, ◌<◌, ℤ, pos, neg_ℤ, ◌≤ℤ◌, ◌<ℤ◌, Bool, true, false, cond, ◌&&◌, ◌||◌, List, [], ◌∷◌, ◌++◌, length, eqb, refl, sym, ap, ◌∙◌, arith, subst, Option, Some, None}
use Rattle.std.specs.List.{list_all}
use Rattle.std.proofs.lemmas.Bool.Decides.{nat_tests}
use Rattle.std.proofs.lemmas.Int.{ints}
use Rattle.qk_base.specs.declared.place.Place.{Place}
use Rattle.qk_syntax.specs.Canonical.{canonical, ReadableTree, ReadableTrees, Readable}
use Rattle.qk_syntax.specs.Places.{start}
use Rattle.qk_syntax.specs.PlainTrees.{PlainTree, number, name, list, PlainTrees, end, more}
use Rattle.qk_syntax.specs.Reader.{Mode, free, in_word, in_comment, next_mode, next_place, token_of, scan}
use Rattle.qk_syntax.specs.Spelling.{IsNumber, SpellsTree, SpellsTrees, Spells}
use Rattle.qk_syntax.specs.Tokens.{Token, opening, closing, word, bad, tokens}
use Rattle.qk_syntax.specs.Words.{is_blank, is_word_byte, word_of, is_digit, is_number_word, begins_with_minus, without_minus, magnitude, signed_number, fits_signed, is_narrow}
use Rattle.qk_syntax.proofs.PrintedNumbers.{IsRun}
use Rattle.qk_syntax.proofs.TokensScanned.{tokens_scanned}

-- each word among the tokens can stand in a text
abbrev pub RunToken : Token → Type 0
RunToken (word p w) = IsRun w
RunToken t = Unit {0}

abbrev pub Runs : List Token → Type 0
Runs [] = Unit {0}
Runs (t ∷ ts) = RunToken t × Runs ts

runs_append : (ts us : List Token) → Runs ts → Runs us → Runs (ts ++ us)
runs_append [] us a b = b
runs_append (t ∷ ts) us a b = (a.0, runs_append ts us a.1 b)

runs_front : (ts us : List Token) → Runs (ts ++ us) → Runs ts
runs_front [] us a = tt
runs_front (t ∷ ts) us a = (a.0, runs_front ts us a.1)

runs_back : (ts us : List Token) → Runs (ts ++ us) → Runs us
runs_back [] us a = a
runs_back (t ∷ ts) us a = runs_back ts us a.1

word_by : (t : Bool) (b : ℕ) (run : List ℕ) → t ≡ is_word_byte b → list_all is_word_byte run ≡ true → list_all is_word_byte (cond t (b ∷ run) []) ≡ true
word_by true b run e h = ap (λ x. x && list_all is_word_byte run) (sym e) ∙ h
word_by false b run e h = refl

word_bytes : (bytes : List ℕ) → list_all is_word_byte (word_of bytes) ≡ true
word_bytes [] = refl
word_bytes (b ∷ bytes) = word_by (is_word_byte b) b (word_of bytes) refl (word_bytes bytes)

word_some : (t : Bool) (b : ℕ) (run : List ℕ) → t ≡ true → 0 < length (cond t (b ∷ run) [])
word_some true b run e = omega arith
word_some false b run e = absurd (cc)

pick : (s o c w : Bool) (p : Place) (found : List Token) → (w ≡ true → Runs found) → Runs (cond s [] (cond o (opening p ∷ []) (cond c (closing p ∷ []) (cond w found (bad p ∷ [])))))
pick true o c w p found h = tt
pick false true c w p found h = (tt, tt)
pick false false true w p found h = (tt, tt)
pick false false false true p found h = h refl
pick false false false false p found h = (tt, tt)

token_runs : (m : Mode) (p : Place) (b : ℕ) (bytes : List ℕ) → Runs (token_of m p b bytes)
token_runs in_comment p b bytes = tt
token_runs in_word p b bytes = pick (is_blank b || eqb b 59) (eqb b 40) (eqb b 41) (is_word_byte b) p [] (λ e. tt)
token_runs free p b bytes = pick (is_blank b || eqb b 59) (eqb b 40) (eqb b 41) (is_word_byte b) p (word p (word_of (b ∷ bytes)) ∷ []) (λ e. (record { bytes = word_bytes (b ∷ bytes); some = word_some (is_word_byte b) b (word_of bytes) e }, tt))

scan_runs : (bytes : List ℕ) (m : Mode) (p : Place) → Runs (scan bytes m p)
scan_runs [] m p = tt
scan_runs (b ∷ bytes) m p = runs_append (token_of m p b bytes) (scan bytes (next_mode m b) (next_place p b)) (token_runs m p b bytes) (scan_runs bytes (next_mode m b) (next_place p b))

fits_bits : (n d f : Bool) (o : Option ℕ) → n ≡ true → cond n (cond d (cond f None (Some 6)) (Some 5)) o ≡ None → f ≡ true
fits_bits true true true o e h = refl
fits_bits true true false o e h = absurd (cc)
fits_bits true false f o e h = absurd (cc)
fits_bits false d f o e h = absurd (cc)

InRange : ℤ → Type 0
InRange z = (neg_ℤ (pos (2 ^ 63)) ≤ℤ z) × (z <ℤ pos (2 ^ 63))

signed_range : (m : Bool) (n : ℕ) → fits_signed m n ≡ true → InRange (signed_number m n)
unfolding InRange
signed_range true n h = let k : n < 2 ^ 63 + 1 = grind (arith, nat_tests) in (omega (arith, ints), omega (arith, ints))
signed_range false n h = let k : n < 2 ^ 63 = grind (arith, nat_tests) in (omega (arith, ints), omega (arith, ints))

number_range : (w : List ℕ) (z : ℤ) → IsNumber w z → InRange z
number_range w z k = subst InRange k.value (signed_range (begins_with_minus w) (magnitude (without_minus w)) (fits_bits (is_number_word w) (list_all is_digit (without_minus w)) (is_narrow w) _ k.kind k.good))

mutual
  unfolding InRange

  tree_readable : (u : PlainTree) (n : ℕ) (ts : List Token) → Runs ts → SpellsTree n ts u → ReadableTree n u
  tree_readable (number p z) n ts r (w, e, k) = number_range w z k
  tree_readable (name p w) n ts r (e, k) = let run = subst Runs e r in (run.0.some, run.0.bytes, k)
  tree_readable (list p us) n ts r (inner, q, e, h, k) =
      let run : Runs (opening p ∷ inner ++ closing q ∷ []) = subst Runs e r in
      (h, trees_readable us (n - 1) inner (runs_front inner (closing q ∷ []) run.1) k)

  trees_readable : (us : PlainTrees) (n : ℕ) (ts : List Token) → Runs ts → SpellsTrees n ts us → ReadableTrees n us
  trees_readable end n ts r e = tt
  trees_readable (more u us) n ts r (first, rest, e, k, ks) =
      let run : Runs (first ++ rest) = subst Runs e r in
      (tree_readable u n first (runs_front first rest run) k, trees_readable us n rest (runs_back first rest run) ks)

pub spelled_is_readable : (bytes : List ℕ) (trees : PlainTrees) → Spells bytes trees → length (canonical trees) ≤ 1048576 → Readable trees
spelled_is_readable bytes trees s h = record {
  each = trees_readable trees 200 (tokens bytes) (subst Runs (sym (tokens_scanned bytes)) (scan_runs bytes free start)) s.spelled;
  few = s.few;
  short = h;
}
