-- Reading a token, field by field.
use Rattle.std.specs.Prelude.{ℕ, suc, zero, ◌-◌, ◌^◌, ◌==◌, Bool, true, false, not, List, [], ◌∷◌, Option, Some, None, option_map, option_and_then, codes, take, drop, nat_le, nat_lt, if◌then◌else◌}
use Rattle.std.specs.Char.{is_ascii_digit}
use Rattle.std.specs.Str.{bytes_eq}
use Rattle.qk_report.specs.Numerals.{number_of}
use Rattle.qk_report.specs.Token.{TokenData}
use Rattle.qk_report.specs.declared.token_parsing.Fields.{Fields}

-- the digits in front, and what follows them
abbrev pub digits_front : List ℕ → List ℕ
digits_front [] = []
digits_front (c ∷ cs) = if is_ascii_digit c then c ∷ digits_front cs else []

abbrev pub digits_back : List ℕ → List ℕ
digits_back [] = []
digits_back (c ∷ cs) = if is_ascii_digit c then digits_back cs else c ∷ cs

-- the digits are some, with no leading zero
abbrev pub is_shortest : List ℕ → Bool
is_shortest [] = false
is_shortest (c ∷ []) = true
is_shortest (c ∷ d ∷ ds) = not (c == 48)

-- the number in front, and what follows it
abbrev pub number_in : List ℕ → Option (ℕ × List ℕ)
number_in bytes = if is_shortest (digits_front bytes) then option_map (λ n. (n, digits_back bytes)) (number_of (digits_front bytes)) else None

-- what follows a byte in front
abbrev pub past : ℕ → List ℕ → Option (List ℕ)
past b [] = None
past b (c ∷ cs) = if c == b then Some cs else None

-- a number of at most so much and a colon, and what follows them
abbrev pub field_in : ℕ → List ℕ → Option (ℕ × List ℕ)
field_in most bytes = option_and_then (λ p. if nat_le p.0 most then option_map (λ rest. (p.0, rest)) (past 58 p.1) else None) (number_in bytes)

-- a dot and a number, and what follows them
abbrev pub dotted_number_in : List ℕ → Option (ℕ × List ℕ)
dotted_number_in bytes = option_and_then number_in (past 46 bytes)

-- at most so many numbers, each behind a dot, up to the end
unfoldable pub dotted_in : ℕ → List ℕ → Option (List ℕ)
dotted_in k [] = Some []
dotted_in zero (c ∷ cs) = None
dotted_in (suc k) (c ∷ cs) = option_and_then (λ p. option_map (λ ns. p.0 ∷ ns) (dotted_in k p.1)) (dotted_number_in (c ∷ cs))

abbrev pub numbers_in : List ℕ → Option (List ℕ)
numbers_in bytes = option_and_then (λ p. option_map (λ ns. p.0 ∷ ns) (dotted_in 1023 p.1)) (number_in bytes)

abbrev pub path_in : List ℕ → Option (List ℕ)
path_in bytes = if bytes_eq bytes (codes "-") then Some [] else numbers_in bytes

-- the fields of a token before its path
abbrev pub fuel_in : ℕ → ℕ → ℕ → ℕ → List ℕ → Option (Fields × List ℕ)
fuel_in property seed attempt size bytes =
    option_and_then (λ p. if nat_lt 0 p.0 then Some (record { property = property; seed = seed; attempt = attempt; size = size; fuel = p.0 }, p.1) else None) (field_in 1000000 bytes)

abbrev pub attempt_in : ℕ → ℕ → List ℕ → Option (Fields × List ℕ)
attempt_in property seed bytes = option_and_then (λ p. option_and_then (λ q. fuel_in property seed p.0 q.0 q.1) (field_in 1000 p.1)) (field_in 100999999 bytes)

abbrev pub fields_in : List ℕ → Option (Fields × List ℕ)
fields_in bytes = option_and_then (λ p. option_and_then (λ q. attempt_in p.0 q.0 q.1) (field_in (2 ^ 64 - 1) p.1)) (field_in 999 bytes)

abbrev pub with_path : Fields → List ℕ → TokenData
with_path f path = record { property = f.property; seed = f.seed; attempt = f.attempt; size = f.size; fuel = f.fuel; path = path }

-- what follows the token's mark
abbrev pub unmarked : List ℕ → Option (List ℕ)
unmarked word = if bytes_eq (take 3 word) (codes "q1:") then Some (drop 3 word) else None

abbrev pub token_in : List ℕ → Option TokenData
token_in word = option_and_then (λ p. option_map (with_path p.0) (path_in p.1)) (option_and_then fields_in (unmarked word))
