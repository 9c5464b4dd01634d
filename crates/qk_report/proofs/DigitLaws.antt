-- What digits write, digit by digit.
use Rattle.std.proofs.Common.{◌≡◌, ℕ, ◌+◌, ◌*◌, ◌-◌, ◌^◌, ◌<◌, ◌≤◌, List, [], ◌∷◌, length, drop, get_or, Some, None, nat_lt, true, false, refl, sym, ap, subst, arith}
use Rattle.std.proofs.lemmas.Bool.{le-ltb, lt-ltb}
use Rattle.std.proofs.lemmas.List.{drop_more}
use Rattle.std.proofs.lemmas.Str.{digit_value_digit}
use Rattle.std.proofs.lemmas.Str.Parse.{tells_all_ascii_digits}
use Rattle.std.specs.Char.{digit_value}
use Rattle.std.specs.Str.{all_ascii_digits}
use Rattle.std.specs.Str.Parse.{digits_value, digits_value_after}
use Rattle.qk_report.specs.Numerals.{number_of}

after_grows : (n : ℕ) (ds : List ℕ) → n ≤ digits_value_after 10 n ds
after_grows n [] = omega arith
after_grows n (d ∷ ds) = let rest = after_grows (n * 10 + digit_value d) ds in omega (arith, rest)

too_great : (ds : List ℕ) → 2 ^ 64 ≤ digits_value 10 ds → None ≡ number_of ds
too_great ds h = let few : nat_lt (digits_value 10 ds) (2 ^ 64) ≡ false = le-ltb _ _ h in rw few refl

pub fits_whole : (n : ℕ) (ds : List ℕ) → n < 2 ^ 64 → n ≡ digits_value 10 ds → Some n ≡ number_of ds
fits_whole n ds h e = let few : nat_lt (digits_value 10 ds) (2 ^ 64) ≡ true = lt-ltb _ _ (subst (λ x. x < 2 ^ 64) e h) in rw few (ap (λ x. Some x) e)

wide_front : (n c : ℕ) (cs : List ℕ) → all_ascii_digits (c ∷ cs) ≡ true → 2 ^ 64 ≤ n * 10 + (c - 48) → 2 ^ 64 ≤ digits_value_after 10 n (c ∷ cs)
wide_front n c cs digits wide =
    let value = digit_value_digit c (tells_all_ascii_digits.parts c cs digits).0 in
    let rest = after_grows (n * 10 + digit_value c) cs in
    omega (arith, value, rest, wide)

-- a number that does not fit makes the whole not fit
pub wide_is_none : (n : ℕ) (ds : List ℕ) (i : ℕ) → i < length ds → all_ascii_digits (drop i ds) ≡ true → 2 ^ 64 ≤ n * 10 + (get_or ds i 0 - 48)
    → digits_value_after 10 n (drop i ds) ≡ digits_value 10 ds → None ≡ number_of ds
wide_is_none n ds i within digits wide same =
    let split = drop_more ds i 0 within in
    let front = wide_front n (get_or ds i 0) (drop (i + 1) ds) (subst (λ t. all_ascii_digits t ≡ true) split digits) wide in
    too_great ds (subst (λ x. 2 ^ 64 ≤ x) same (subst (λ t. 2 ^ 64 ≤ digits_value_after 10 n t) (sym split) front))
