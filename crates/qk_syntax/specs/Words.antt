-- Bytes and words.
use Rattle.std.specs.Prelude.{ℕ, ◌+◌, ◌-◌, ◌*◌, ◌^◌, ℤ, pos, neg_ℤ, Bool, false, not, ◌&&◌, ◌||◌, List, [], ◌∷◌, length, ◌==◌, nat_lt, nat_le, if◌then◌else◌, Option, Some, None}
use Rattle.std.specs.List.{fold, list_all}
use Rattle.qk_base.specs.declared.place.Place.{Place}
use Rattle.qk_syntax.specs.PlainTrees.{PlainTree, number, name}

-- tab, line feed, carriage return and space
abbrev pub is_blank : ℕ → Bool
is_blank b = b == 9 || b == 10 || b == 13 || b == 32

-- the bytes 33 to 126 without the quotation mark, the two parentheses and the semicolon
abbrev pub is_word_byte : ℕ → Bool
is_word_byte b = nat_le 33 b && nat_le b 126 && not (b == 34 || b == 40 || b == 41 || b == 59)

-- the longest run of such bytes with which a text begins
abbrev pub word_of : List ℕ → List ℕ
word_of [] = []
word_of (b ∷ bytes) = if is_word_byte b then b ∷ word_of bytes else []

abbrev pub is_digit : ℕ → Bool
is_digit b = nat_le 48 b && nat_le b 57

abbrev pub begins_with_digit : List ℕ → Bool
begins_with_digit [] = false
begins_with_digit (b ∷ bytes) = is_digit b

abbrev pub begins_with_minus : List ℕ → Bool
begins_with_minus [] = false
begins_with_minus (b ∷ bytes) = b == 45

-- a word without the `-` that may stand before it
abbrev pub without_minus : List ℕ → List ℕ
without_minus [] = []
without_minus (b ∷ bytes) = if b == 45 then bytes else b ∷ bytes

-- a number word begins with a digit, or with `-` and a digit; every other word is a name
abbrev pub is_number_word : List ℕ → Bool
is_number_word word = begins_with_digit (without_minus word)

-- the number that digits spell, leading zeros or not
abbrev pub magnitude : List ℕ → ℕ
magnitude digits = fold (λ n d. 10 * n + (d - 48)) 0 digits

abbrev pub signed_number : Bool → ℕ → ℤ
signed_number minus size = if minus then neg_ℤ (pos size) else pos size

-- the number lies between the least and the greatest of 64 bits
abbrev pub fits_signed : Bool → ℕ → Bool
fits_signed minus size = nat_lt size (if minus then 2 ^ 63 + 1 else 2 ^ 63)

abbrev pub number_of : List ℕ → ℤ
number_of word = signed_number (begins_with_minus word) (magnitude (without_minus word))

abbrev pub is_narrow : List ℕ → Bool
is_narrow word = fits_signed (begins_with_minus word) (magnitude (without_minus word))

-- the fault of a word, if it has one: 5, a number word that is no number; 6, a number outside 64 bits; 7, a name of more than 64 bytes
abbrev pub word_fault : List ℕ → Option ℕ
word_fault word = if is_number_word word then (if list_all is_digit (without_minus word) then (if is_narrow word then None else Some 6) else Some 5) else (if nat_lt 64 (length word) then Some 7 else None)

-- what a word without a fault stands for
abbrev pub word_tree : Place → List ℕ → PlainTree
word_tree place word = if is_number_word word then number place (number_of word) else name place word
