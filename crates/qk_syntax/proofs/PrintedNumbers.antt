-- What is printed of a number is a word that is that number.
use Rattle.std.proofs.Common.{◌≡◌, ℕ, ◌+◌, ◌-◌, ◌*◌, ◌/◌, ◌%◌, ◌^◌, ◌≤◌, ◌<◌, suc, ℤ, pos, negsuc, neg_ℤ, ◌≤ℤ◌, ◌<ℤ◌, Bool, true, false, cond, ◌&&◌, List, [], ◌∷◌, ◌++◌, length, eqb, refl, ap, ◌∙◌, arith, Option, Some, None}
use Rattle.std.specs.Fmt.{decimal, signed_decimal}
use Rattle.std.specs.List.{list_all}
use Rattle.std.proofs.lemmas.Bool.Decides.{nat_tests}
use Rattle.std.proofs.lemmas.Fmt.{decimal_by_steps}
use Rattle.std.proofs.lemmas.Int.{ints}
use Rattle.std.proofs.lemmas.List.{length_push}
use Rattle.std.proofs.lemmas.List.Folds.{list_all-append}
use Rattle.std.proofs.lemmas.List.Sums.{fold_push}
use Rattle.qk_syntax.specs.Spelling.{IsNumber}
use Rattle.qk_syntax.specs.Words.{is_word_byte, is_digit, begins_with_digit, begins_with_minus, without_minus, is_number_word, magnitude, signed_number, fits_signed}

record Digits (n : ℕ) (ds : List ℕ) : Type 0 where
  digits : list_all is_digit ds ≡ true
  value : magnitude ds ≡ n
  some : 0 < length ds

one_digit : (n : ℕ) → n < 10 → Digits n ((48 + n) ∷ [])
one_digit n h = record { digits = grind (arith, nat_tests); value = omega arith; some = omega arith }

is_digit_of : (d : ℕ) → d < 10 → (is_digit (48 + d) && true) ≡ true
is_digit_of d h = grind (arith, nat_tests)

both : (a b : Bool) → a ≡ true → b ≡ true → (a && b) ≡ true
both a b e f = rw (e, f)

more_digits : (n : ℕ) (ds : List ℕ) → 10 ≤ n → Digits (n / 10) ds → Digits n (ds ++ ((48 + n % 10) ∷ []))
more_digits n ds h k = record {
  digits = list_all-append is_digit ds ((48 + n % 10) ∷ []) ∙ both (list_all is_digit ds) _ k.digits (is_digit_of (n % 10) (omega arith));
  value = fold_push (λ m d. 10 * m + (d - 48)) 0 ds (48 + n % 10) ∙ ap (λ m. 10 * m + (48 + n % 10 - 48)) k.value ∙ omega arith;
  some = omega (arith, length_push ds (48 + n % 10));
}

digits_of_number : (n : ℕ) → n < 2 ^ 64 → Digits n (decimal n)
digits_of_number n h = decimal_by_steps Digits one_digit more_digits n h

pub first_true : (a b : Bool) → (a && b) ≡ true → a ≡ true
first_true true b e = refl
first_true false b e = e

pub second_true : (a b : Bool) → (a && b) ≡ true → b ≡ true
second_true true b e = e
second_true false b e = cc

digit_is_no_minus : (d : ℕ) → is_digit d ≡ true → eqb d 45 ≡ false
digit_is_no_minus d h = grind (arith, nat_tests)

digit_is_word_byte : (d : ℕ) → is_digit d ≡ true → is_word_byte d ≡ true
digit_is_word_byte d h = grind (arith, nat_tests)

pub digits_are_words : (ds : List ℕ) → list_all is_digit ds ≡ true → list_all is_word_byte ds ≡ true
digits_are_words [] e = refl
digits_are_words (d ∷ ds) e = both (is_word_byte d) (list_all is_word_byte ds) (digit_is_word_byte d (first_true (is_digit d) (list_all is_digit ds) e)) (digits_are_words ds (second_true (is_digit d) (list_all is_digit ds) e))

begins_so : (ds : List ℕ) → list_all is_digit ds ≡ true → 0 < length ds → begins_with_digit ds ≡ true
begins_so [] e h = absurd (omega (arith, h))
begins_so (d ∷ ds) e h = first_true (is_digit d) (list_all is_digit ds) e

no_minus : (ds : List ℕ) → list_all is_digit ds ≡ true → begins_with_minus ds ≡ false
no_minus [] e = refl
no_minus (d ∷ ds) e = digit_is_no_minus d (first_true (is_digit d) (list_all is_digit ds) e)

all_is_left : (ds : List ℕ) → list_all is_digit ds ≡ true → without_minus ds ≡ ds
all_is_left [] e = refl
all_is_left (d ∷ ds) e = ap (λ t. cond t ds (d ∷ ds)) (digit_is_no_minus d (first_true (is_digit d) (list_all is_digit ds) e))

no_fault : (n d f : Bool) (o : Option ℕ) → n ≡ true → d ≡ true → f ≡ true → cond n (cond d (cond f None (Some 6)) (Some 5)) o ≡ None
no_fault n d f o e1 e2 e3 = rw (e1, e2, e3)

-- a word of digits, with a minus or not
spelled_number : (w ds : List ℕ) (m : Bool) (n : ℕ) → begins_with_minus w ≡ m → without_minus w ≡ ds → Digits n ds → fits_signed m n ≡ true → IsNumber w (signed_number m n)
spelled_number w ds m n a b k f =
    let kind : is_number_word w ≡ true = ap begins_with_digit b ∙ begins_so ds k.digits k.some in
    let size : magnitude (without_minus w) ≡ n = ap magnitude b ∙ k.value in
    record {
      kind = kind;
      good = no_fault (is_number_word w) (list_all is_digit (without_minus w)) (fits_signed (begins_with_minus w) (magnitude (without_minus w))) _ kind (ap (list_all is_digit) b ∙ k.digits)
          (ap (λ t. fits_signed t (magnitude (without_minus w))) a ∙ ap (fits_signed m) size ∙ f);
      value = ap (λ t. signed_number t (magnitude (without_minus w))) a ∙ ap (signed_number m) size;
    }

-- a word that can stand in a text
pub record IsRun (w : List ℕ) : Type 0 where
  pub bytes : list_all is_word_byte w ≡ true
  pub some : 0 < length w

fits_above : (n : ℕ) → n < 2 ^ 63 → fits_signed false n ≡ true
fits_above n h = grind (arith, nat_tests)

fits_below : (n : ℕ) → n < 2 ^ 63 → fits_signed true (suc n) ≡ true
fits_below n h = grind (arith, nat_tests)

pub printed_number : (z : ℤ) → neg_ℤ (pos (2 ^ 63)) ≤ℤ z → z <ℤ pos (2 ^ 63) → IsRun (signed_decimal z) × IsNumber (signed_decimal z) z
printed_number (pos n) low high =
    let small : n < 2 ^ 63 = omega (arith, ints) in
    let k = digits_of_number n (omega arith) in (
      record { bytes = digits_are_words (decimal n) k.digits; some = k.some },
      spelled_number (decimal n) (decimal n) false n (no_minus (decimal n) k.digits) (all_is_left (decimal n) k.digits) k (fits_above n small),
    )
printed_number (negsuc n) low high =
    let small : n < 2 ^ 63 = omega (arith, ints) in
    let k = digits_of_number (suc n) (omega arith) in (
      record { bytes = digits_are_words (decimal (suc n)) k.digits; some = omega arith },
      spelled_number (45 ∷ decimal (suc n)) (decimal (suc n)) true (suc n) refl refl k (fits_below n small),
    )
