-- The trees of a generated file can be spelled.
use Rattle.std.proofs.Common.{◌≡◌, ℕ, zero, suc, ◌+◌, ◌-◌, ◌*◌, ◌%◌, ◌^◌, ◌<◌, ◌≤◌, pos, Bool, true, false, List, [], ◌∷◌, ◌++◌, length, length-append, codes, decimal, None, refl, ap, ◌∙◌, arith}
use Rattle.std.specs.List.{list_all}
use Rattle.std.proofs.lemmas.Bool.Decides.{nat_tests}
use Rattle.std.proofs.lemmas.Bool.{ltb-true}
use Rattle.std.proofs.lemmas.Fmt.{length-decimal-le}
use Rattle.std.proofs.lemmas.Int.{ints}
use Rattle.std.specs.Prelude.{nat_lt, Option, Some, if◌then◌else◌}
use Rattle.qk_syntax.specs.Canonical.{ReadableTree, ReadableTrees, Readable}
use Rattle.qk_syntax.specs.PlainTrees.{Bare, bare_name, count}
use Rattle.qk_syntax.specs.Words.{is_word_byte, is_number_word, word_fault}
use Rattle.qk_syntax.proofs.PrintedNumbers.{printed_number}
use Rattle.qk_engine.specs.Generated.{property_line, lines_from, asked, number_asked, list_asked}
use Rattle.qk_engine.proofs.GeneratedTrees.{parts, of, called, numeral, name_of, bound, asked_parts, property_of, properties_from}
use Rattle.qk_engine.proofs.PlacedTrees.{Spots, at, all_at, inner, others}
use Rattle.qk_engine.proofs.GeneratedText.{generated_text}

-- a tree can be spelled with so many levels, wherever it stands
Reads : ℕ → Bare → Type 0
Reads n b = (s : Spots) → ReadableTree n (at s b)

AllRead : ℕ → List Bare → Type 0
AllRead n bs = (s : Spots) → ReadableTrees n (all_at s (parts bs))

no_more : (n : ℕ) → AllRead n []
unfolding AllRead
no_more n s = tt

and_more : (n : ℕ) (b : Bare) (bs : List Bare) → Reads n b → AllRead n bs → AllRead n (b ∷ bs)
unfolding Reads AllRead
and_more n b bs first rest s = (first (inner s), rest (others s))

reads_list : (n : ℕ) (bs : List Bare) → 0 < n → AllRead (n - 1) bs → Reads n (of bs)
unfolding Reads AllRead
reads_list n bs some each s = (some, each (inner s))

reads_word : (n : ℕ) (w : List ℕ) → nat_lt 0 (length w) ≡ true → list_all is_word_byte w ≡ true → is_number_word w ≡ false → word_fault w ≡ None → Reads n (bare_name w)
unfolding Reads
reads_word n w some bytes kind good s = (ltb-true 0 (length w) some, bytes, record { kind = kind; good = good })

reads_numeral : (n k : ℕ) → k < 2 ^ 63 → Reads n (numeral k)
unfolding Reads
reads_numeral n k small s = (omega (arith, ints), omega (arith, ints))

reads_called : (n : ℕ) (w : List ℕ) (bs : List Bare) → 0 < n → nat_lt 0 (length w) ≡ true → list_all is_word_byte w ≡ true → is_number_word w ≡ false → word_fault w ≡ None → AllRead (n - 1) bs → Reads n (called w bs)
reads_called n w bs levels some bytes kind good each = reads_list n (bare_name w ∷ bs) levels (and_more (n - 1) (bare_name w) bs (reads_word (n - 1) w some bytes kind good) each)

reads_one : (n : ℕ) (b : Bare) → Reads n b → AllRead n (b ∷ [])
reads_one n b k = and_more n b [] k (no_more n)

reads_two : (n : ℕ) (b c : Bare) → Reads n b → Reads n c → AllRead n (b ∷ c ∷ [])
reads_two n b c k l = and_more n b (c ∷ []) k (reads_one n c l)

reads_x : (n : ℕ) → Reads n (bare_name (codes "x"))
reads_x n = reads_word n (codes "x") refl refl refl refl

reads_bound : (n : ℕ) (x : List ℕ) (g : Bare) → 1 < n → Reads (n - 1 - 1) (bare_name x) → Reads (n - 1 - 1) g → Reads n (bound x g)
reads_bound n x g levels name_reads k = reads_list n (of (bare_name x ∷ g ∷ []) ∷ []) (omega (arith, levels)) (reads_one (n - 1) (of (bare_name x ∷ g ∷ [])) (reads_list (n - 1) (bare_name x ∷ g ∷ []) (omega (arith, levels)) (reads_two (n - 1 - 1) (bare_name x) g name_reads k)))

small_rest : (i : ℕ) → 2 + i % 50 < 2 ^ 63
small_rest i = omega arith

asked_read : (rest i : ℕ) → i < 1000 → AllRead 198 (asked_parts rest i)
asked_read zero i few =
    reads_two 198 _ _ (reads_bound 198 (codes "x") (bare_name (codes "int")) (omega arith) (reads_x 196) (reads_word 196 (codes "int") refl refl refl refl))
    (reads_called 198 (codes "check") _ (omega arith) refl refl refl refl (reads_one 197 _ (reads_called 197 (codes "=") _ (omega arith) refl refl refl refl (reads_two 196 _ _ (reads_x 196) (reads_x 196)))))
asked_read (suc zero) i few =
    and_more 198 _ _ (reads_bound 198 (codes "x") (bare_name (codes "size")) (omega arith) (reads_x 196) (reads_word 196 (codes "size") refl refl refl refl))
    (reads_two 198 _ _
    (reads_called 198 (codes "given") _ (omega arith) refl refl refl refl (reads_one 197 _ (reads_called 197 (codes "=") _ (omega arith) refl refl refl refl
    (reads_two 196 _ _ (reads_called 196 (codes "mod") _ (omega arith) refl refl refl refl (reads_two 195 _ _ (reads_x 195) (reads_numeral 195 2 (omega arith)))) (reads_numeral 196 0 (omega arith))))))
    (reads_called 198 (codes "check") _ (omega arith) refl refl refl refl (reads_one 197 _ (reads_called 197 (codes "<=") _ (omega arith) refl refl refl refl (reads_two 196 _ _ (reads_numeral 196 0 (omega arith)) (reads_x 196))))))
asked_read (suc (suc zero)) i few =
    reads_two 198 _ _
    (reads_bound 198 (codes "x") (called (codes "choose") (numeral (8 + i) ∷ numeral (8 + i) ∷ [])) (omega arith) (reads_x 196)
    (reads_called 196 (codes "choose") _ (omega arith) refl refl refl refl (reads_two 195 _ _ (reads_numeral 195 (8 + i) (omega (arith, few))) (reads_numeral 195 (8 + i) (omega (arith, few))))))
    (reads_called 198 (codes "check") _ (omega arith) refl refl refl refl (reads_one 197 _ (reads_called 197 (codes "<") _ (omega arith) refl refl refl refl (reads_two 196 _ _ (reads_x 196) (reads_numeral 196 5 (omega arith))))))
asked_read (suc (suc (suc n))) i few =
    reads_two 198 _ _
    (reads_bound 198 (codes "xs") (called (codes "vector") (numeral (2 + i % 50) ∷ called (codes "choose") (numeral 3 ∷ numeral 3 ∷ []) ∷ [])) (omega arith) (reads_word 196 (codes "xs") refl refl refl refl)
    (reads_called 196 (codes "vector") _ (omega arith) refl refl refl refl
    (reads_two 195 _ _ (reads_numeral 195 (2 + i % 50) (small_rest i)) (reads_called 195 (codes "choose") _ (omega arith) refl refl refl refl (reads_two 194 _ _ (reads_numeral 194 3 (omega arith)) (reads_numeral 194 3 (omega arith)))))))
    (reads_called 198 (codes "check") _ (omega arith) refl refl refl refl (reads_one 197 _ (reads_called 197 (codes "<") _ (omega arith) refl refl refl refl
    (reads_two 196 _ _ (reads_called 196 (codes "length") _ (omega arith) refl refl refl refl (reads_one 195 _ (reads_word 195 (codes "xs") refl refl refl refl))) (reads_numeral 196 2 (omega arith))))))

few_digits : (i : ℕ) → i < 10000 → length (decimal i) ≤ 4
few_digits i few = length-decimal-le 4 i (omega arith) (omega (arith, few)) (omega (arith, few))

-- a number is printed by bytes of a word
digits_are_bytes : (i : ℕ) → i < 10000 → list_all is_word_byte (decimal i) ≡ true
digits_are_bytes i few = (printed_number (pos i) (omega (arith, ints)) (omega (arith, ints))).0.bytes

fault_free : (b : Bool) (o : Option ℕ) → b ≡ false → (if b then o else None) ≡ None
fault_free b o e = rw e refl

reads_name : (n i : ℕ) → i < 1000 → Reads n (bare_name (name_of i))
unfolding Reads
reads_name n i few s =
    let short = few_digits i (omega (arith, few)) in
    let long : nat_lt 64 (length (name_of i)) ≡ false = grind (arith, nat_tests, short) in
    (omega arith, digits_are_bytes i (omega (arith, few)), record { kind = refl; good = fault_free (nat_lt 64 (length (name_of i))) (Some 7) long })

property_reads : (rest i : ℕ) → i < 1000 → Reads 200 (property_of rest i)
property_reads rest i few =
    reads_called 200 (codes "prop") _ (omega arith) refl refl refl refl
    (reads_two 199 _ _ (reads_name 199 i few) (reads_called 199 (codes "forall") _ (omega arith) refl refl refl refl (asked_read rest i few)))

properties_read : (n i : ℕ) (s : Spots) → i + n ≤ 1000 → ReadableTrees 200 (all_at s (properties_from i n))
unfolding Reads
properties_read zero i s few = tt
properties_read (suc n) i s few = (property_reads (i % 4) i (omega (arith, few)) (inner s), properties_read n (i + 1) (others s) (omega (arith, few)))

pub how_many : (n i : ℕ) (s : Spots) → count (all_at s (properties_from i n)) ≡ n
how_many zero i s = refl
how_many (suc n) i s = ap (λ k. k + 1) (how_many n (i + 1) (others s)) ∙ omega arith

-- no line is long
number_length : (a b c ds : List ℕ) → length (((a ++ ds) ++ (b ++ ds)) ++ c) ≡ ((length a + length ds) + (length b + length ds)) + length c
number_length a b c ds = simp length-append

list_length : (a b ds : List ℕ) → length ((a ++ ds) ++ b) ≡ (length a + length ds) + length b
list_length a b ds = simp length-append

line_length : (a b c d xs ds : List ℕ) → length (((((a ++ ds) ++ b) ++ xs) ++ c) ++ d) ≡ ((((length a + length ds) + length b) + length xs) + length c) + length d
line_length a b c d xs ds = simp length-append

number_short : (n : ℕ) → n < 10000 → length (number_asked n) ≤ 100
number_short n few = let k = few_digits n few in let l = number_length (codes "((x (choose ") (codes " ") (codes "))) (check (< x 5))") (decimal n) in omega (arith, k, l)

list_short : (n : ℕ) → n < 10000 → length (list_asked n) ≤ 100
list_short n few = let k = few_digits n few in let l = list_length (codes "((xs (vector ") (codes " (choose 3 3)))) (check (< (length xs) 2))") (decimal n) in omega (arith, k, l)

asked_short : (rest i : ℕ) → i < 1000 → length (asked rest i) ≤ 100
asked_short zero i few = omega arith
asked_short (suc zero) i few = omega arith
asked_short (suc (suc zero)) i few = number_short (8 + i) (omega (arith, few))
asked_short (suc (suc (suc n))) i few = list_short (2 + i % 50) (omega arith)

line_short : (i : ℕ) → i < 1000 → length (property_line i) ≤ 200
line_short i few =
    let k = few_digits i (omega (arith, few)) in
    let l = asked_short (i % 4) i few in
    let m = line_length (codes "(prop p") (codes " (forall ") (codes "))") (10 ∷ []) (asked (i % 4) i) (decimal i) in
    omega (arith, k, l, m)

lines_short : (n i : ℕ) → i + n ≤ 1000 → length (lines_from i n) ≤ n * 200
lines_short zero i few = omega arith
lines_short (suc n) i few = let k = line_short i (omega (arith, few)) in let ks = lines_short n (i + 1) (omega (arith, few)) in omega (arith, length-append (property_line i) (lines_from (i + 1) n), k, ks)

pub generated_readable : (n : ℕ) (s : Spots) → n ≤ 1000 → Readable (all_at s (properties_from 0 n))
generated_readable n s few = let short = lines_short n 0 (omega (arith, few)) in record {
  each = properties_read n 0 s (omega (arith, few));
  few = omega (arith, few, how_many n 0 s);
  short = omega (arith, few, short, ap length (generated_text n 0 s));
}
