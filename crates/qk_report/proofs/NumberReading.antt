-- Which bytes a number in front is read from.
use Rattle.std.proofs.Common.{◌≡◌, ◌∙◌, ℕ, suc, zero, ◌^◌, ◌<◌, ◌==◌, Bool, true, false, not, List, [], ◌∷◌, ◌++◌, length, Some, None, option_map, unwrap_or, decimal, nat_lt, refl, sym, ap, subst, true≢false, arith, get_or, if◌then◌else◌}
use Rattle.std.proofs.lemmas.Bool.{lt-ltb, ltb-true, and_from, and_parts, not-true, eq-eqb, ne_eqb}
use Rattle.std.proofs.lemmas.Fmt.{digits_decimal, digits_value-decimal, decimal-digits_value, first_decimal, decimal_digit}
use Rattle.std.proofs.lemmas.Str.Parse.{IsNumeralModel, numerals_by_value, tells_all_ascii_digits}
use Rattle.std.specs.Char.{is_ascii_digit}
use Rattle.std.specs.Str.{all_ascii_digits}
use Rattle.std.specs.Str.Parse.{digits_value}
use Rattle.qk_report.specs.TokenReader.{digits_front, digits_back, is_shortest, number_in}

pub digits : IsNumeralModel (λ ds. all_ascii_digits ds ≡ true) (digits_value 10)
digits = numerals_by_value (λ ds. all_ascii_digits ds ≡ true) tells_all_ascii_digits

pub front_digits : (bytes : List ℕ) → all_ascii_digits (digits_front bytes) ≡ true
front_digits [] = refl
front_digits (c ∷ cs) = by (is_ascii_digit c) refl (front_digits cs)
  where
    by : (b : Bool) → is_ascii_digit c ≡ b → all_ascii_digits (digits_front cs) ≡ true → all_ascii_digits (if b then c ∷ digits_front cs else []) ≡ true
    by true e rest = and_from _ _ e rest
    by false e rest = refl

pub front_back : (bytes : List ℕ) → digits_front bytes ++ digits_back bytes ≡ bytes
front_back [] = refl
front_back (c ∷ cs) = by (is_ascii_digit c) (front_back cs)
  where
    by : (b : Bool) → digits_front cs ++ digits_back cs ≡ cs → (if b then c ∷ digits_front cs else []) ++ (if b then digits_back cs else c ∷ cs) ≡ c ∷ cs
    by true rest = ap (λ t. c ∷ t) rest
    by false rest = refl

-- what follows a number begins with no digit
abbrev pub ends_digits : List ℕ → Bool
ends_digits [] = true
ends_digits (c ∷ cs) = not (is_ascii_digit c)

front_of : (ds rest : List ℕ) → all_ascii_digits ds ≡ true → ends_digits rest ≡ true → digits_front (ds ++ rest) ≡ ds
front_of [] [] h k = refl
front_of [] (c ∷ cs) h k = let no : is_ascii_digit c ≡ false = not-true _ k in rw no refl
front_of (d ∷ ds) rest h k = let parts = and_parts _ _ h in let first : is_ascii_digit d ≡ true = parts.0 in rw first (ap (λ t. d ∷ t) (front_of ds rest parts.1 k))

back_of : (ds rest : List ℕ) → all_ascii_digits ds ≡ true → ends_digits rest ≡ true → digits_back (ds ++ rest) ≡ rest
back_of [] [] h k = refl
back_of [] (c ∷ cs) h k = let no : is_ascii_digit c ≡ false = not-true _ k in rw no refl
back_of (d ∷ ds) rest h k = let parts = and_parts _ _ h in let first : is_ascii_digit d ≡ true = parts.0 in rw first (back_of ds rest parts.1 k)

shortest_from : (ds : List ℕ) → 48 < get_or ds 0 0 → is_shortest ds ≡ true
shortest_from [] h = absurd (omega arith)
shortest_from (c ∷ []) h = refl
shortest_from (c ∷ d ∷ ds) h = let other : (c == 48) ≡ false = ne_eqb c 48 (λ e. omega arith) in rw other refl

shortest_decimal : (n : ℕ) → n < 2 ^ 64 → is_shortest (decimal n) ≡ true
shortest_decimal zero h = ap is_shortest (decimal_digit 0 (omega arith))
shortest_decimal (suc n) h = shortest_from (decimal (suc n)) (first_decimal (suc n) (omega arith) h)

shortest_some : (ds : List ℕ) → is_shortest ds ≡ true → 0 < length ds
shortest_some [] h = absurd (true≢false (sym h))
shortest_some (c ∷ ds) h = omega arith

shortest_zero : (ds : List ℕ) → is_shortest ds ≡ true → get_or ds 0 0 ≡ 48 → length ds ≡ 1
shortest_zero [] h e = absurd (true≢false (sym h))
shortest_zero (c ∷ []) h e = refl
shortest_zero (c ∷ d ∷ ds) h e = absurd (true≢false (sym h ∙ ap not (eq-eqb c 48 e)))

pub some_eq : {X : Type 0} (a b : X) → Some a ≡ Some b → a ≡ b
some_eq a b e = ap (λ o. unwrap_or o a) e

pub none_some : {X : Type 0} (a : X) → None ≡ Some a → ⊥
none_some a e = cc

pub number_whole : (n : ℕ) (rest : List ℕ) → n < 2 ^ 64 → ends_digits rest ≡ true → number_in (decimal n ++ rest) ≡ Some (n, rest)
number_whole n rest h k =
    let all = digits_decimal digits n h in
    let front = front_of (decimal n) rest all k in
    let back = back_of (decimal n) rest all k in
    let short = shortest_decimal n h in
    let value = digits_value-decimal digits n h in
    let small = lt-ltb n (2 ^ 64) h in
    rw (front, back, short, value, small) refl

abbrev with_rest : List ℕ → ℕ → ℕ × List ℕ
with_rest rest n = (n, rest)

pub number_sound : (bytes : List ℕ) (n : ℕ) (rest : List ℕ) → number_in bytes ≡ Some (n, rest) → (bytes ≡ decimal n ++ rest) × (n < 2 ^ 64)
number_sound bytes n rest e = by (is_shortest (digits_front bytes)) refl (nat_lt (digits_value 10 (digits_front bytes)) (2 ^ 64)) refl e
  where
    by : (a : Bool) → is_shortest (digits_front bytes) ≡ a → (b : Bool) → nat_lt (digits_value 10 (digits_front bytes)) (2 ^ 64) ≡ b
        → (if a then option_map (with_rest (digits_back bytes)) (if b then Some (digits_value 10 (digits_front bytes)) else None) else None) ≡ Some (n, rest)
        → (bytes ≡ decimal n ++ rest) × (n < 2 ^ 64)
    by true short true small k =
        let fits = ltb-true _ _ small in
        let text = decimal-digits_value digits (digits_front bytes) (front_digits bytes) (shortest_some _ short) (shortest_zero _ short) fits in
        let whole : bytes ≡ decimal (digits_value 10 (digits_front bytes)) ++ digits_back bytes = sym (ap (λ t. t ++ digits_back bytes) text ∙ front_back bytes) in
        let same = some_eq (digits_value 10 (digits_front bytes), digits_back bytes) (n, rest) k in
        subst (λ (p : ℕ × List ℕ). (bytes ≡ decimal p.0 ++ p.1) × (p.0 < 2 ^ 64)) same (whole, fits)
    by true short false small k = absurd (none_some _ k)
    by false short b small k = absurd (none_some _ k)
