-- The canonical text of the trees is the generated file.
use Rattle.std.proofs.Common.{◌≡◌, ℕ, zero, suc, ◌+◌, ◌%◌, List, [], ◌∷◌, ◌++◌, codes, decimal, refl, ap, ◌∙◌, append_assoc, append-nil, arith}
use Rattle.std.proofs.lemmas.Fmt.{decimal_digit}
use Rattle.qk_syntax.specs.Canonical.{canonical, canonical_tree, canonical_others}
use Rattle.qk_engine.specs.Generated.{asked, property_line, lines_from}
use Rattle.qk_engine.proofs.GeneratedTrees.{parts, asked_parts, property_of, properties_from}
use Rattle.qk_engine.proofs.PlacedTrees.{Spots, at, all_at, inner, others}

-- texts one after another, with a space before each
abbrev after_spaces : List (List ℕ) → List ℕ
after_spaces [] = []
after_spaces (t ∷ ts) = (32 ∷ t) ++ after_spaces ts

abbrev in_spaces : List (List ℕ) → List ℕ
in_spaces [] = []
in_spaces (t ∷ ts) = t ++ after_spaces ts

abbrev text : List (List ℕ) → List ℕ
text ts = (40 ∷ in_spaces ts) ++ 41 ∷ []

abbrev x : List ℕ
x = codes "x"

abbrev check : List (List ℕ) → List ℕ
check ts = text (codes "check" ∷ text ts ∷ [])

even_text : (two none : List ℕ) → two ≡ codes "2" → none ≡ codes "0"
    → after_spaces (text (text (x ∷ codes "size" ∷ []) ∷ []) ∷ text (codes "given" ∷ text (codes "=" ∷ text (codes "mod" ∷ x ∷ two ∷ []) ∷ none ∷ []) ∷ []) ∷ check (codes "<=" ∷ none ∷ x ∷ []) ∷ []) ≡ 32 ∷ asked 1 0
even_text two none e f = rw (e, f) refl

closed : (ds : List ℕ) → (((ds ++ 41 ∷ []) ++ 41 ∷ []) ++ (41 ∷ codes " (check (< x 5))")) ≡ (ds ++ codes "))) (check (< x 5))")
closed [] = refl
closed (d ∷ ds) = ap (λ t. d ∷ t) (closed ds)

mid_number : (ds : List ℕ) → (((((((ds ++ (32 ∷ (ds ++ []))) ++ 41 ∷ []) ++ []) ++ 41 ∷ []) ++ []) ++ 41 ∷ []) ++ codes " (check (< x 5))") ≡ ((ds ++ (32 ∷ ds)) ++ codes "))) (check (< x 5))")
mid_number ds = simp (append_assoc, append-nil) (ap (λ t. ds ++ (32 ∷ t)) (closed ds))

number_text : (ds five : List ℕ) → five ≡ codes "5"
    → after_spaces (text (text (x ∷ text (codes "choose" ∷ ds ∷ ds ∷ []) ∷ []) ∷ []) ∷ check (codes "<" ∷ x ∷ five ∷ []) ∷ []) ≡ 32 ∷ ((codes "((x (choose " ++ ds) ++ (codes " " ++ ds)) ++ codes "))) (check (< x 5))"
number_text ds five e = rw e (ap (λ t. codes " ((x (choose " ++ t) (mid_number ds))

mid_list : (ds : List ℕ) → (((((((ds ++ codes " (choose 3 3)") ++ 41 ∷ []) ++ []) ++ 41 ∷ []) ++ []) ++ 41 ∷ []) ++ codes " (check (< (length xs) 2))") ≡ (ds ++ codes " (choose 3 3)))) (check (< (length xs) 2))")
mid_list ds = simp (append_assoc, append-nil)

list_text : (ds three two : List ℕ) → three ≡ codes "3" → two ≡ codes "2"
    → after_spaces (text (text (codes "xs" ∷ text (codes "vector" ∷ ds ∷ text (codes "choose" ∷ three ∷ three ∷ []) ∷ []) ∷ []) ∷ []) ∷ check (codes "<" ∷ text (codes "length" ∷ codes "xs" ∷ []) ∷ two ∷ []) ∷ [])
    ≡ 32 ∷ (codes "((xs (vector " ++ ds) ++ codes " (choose 3 3)))) (check (< (length xs) 2))"
list_text ds three two e f = rw (e, f) (ap (λ t. codes " ((xs (vector " ++ t) (mid_list ds))

asked_text : (s : Spots) (rest i : ℕ) → canonical_others (all_at s (parts (asked_parts rest i))) ≡ 32 ∷ asked rest i
asked_text s zero i = refl
asked_text s (suc zero) i = even_text (decimal 2) (decimal 0) (decimal_digit 2 (omega arith)) (decimal_digit 0 (omega arith))
asked_text s (suc (suc zero)) i = number_text (decimal (8 + i)) (decimal 5) (decimal_digit 5 (omega arith))
asked_text s (suc (suc (suc n))) i = list_text (decimal (2 + i % 50)) (decimal 3) (decimal 2) (decimal_digit 3 (omega arith)) (decimal_digit 2 (omega arith))

mid_property : (ds xs after : List ℕ) → ((ds ++ (codes " (forall " ++ ((xs ++ 41 ∷ []) ++ []))) ++ 41 ∷ []) ++ 10 ∷ after ≡ ((((ds ++ codes " (forall ") ++ xs) ++ 41 ∷ 41 ∷ []) ++ 10 ∷ []) ++ after
mid_property ds xs after = simp (append_assoc, append-nil)

property_text : (s : Spots) (i : ℕ) (after : List ℕ) → canonical_tree (at s (property_of (i % 4) i)) ++ 10 ∷ after ≡ property_line i ++ after
property_text s i after =
    ap (λ t. text (codes "prop" ∷ (codes "p" ++ decimal i) ∷ ((40 ∷ (codes "forall" ++ t)) ++ 41 ∷ []) ∷ []) ++ 10 ∷ after) (asked_text (others (inner (inner (others (others (inner s)))))) (i % 4) i)
    ∙ ap (λ t. codes "(prop p" ++ t) (mid_property (decimal i) (asked (i % 4) i) after)

pub generated_text : (n i : ℕ) (s : Spots) → canonical (all_at s (properties_from i n)) ≡ lines_from i n
generated_text zero i s = refl
generated_text (suc n) i s = property_text (inner s) i (canonical (all_at (others s) (properties_from (i + 1) n))) ∙ ap (λ t. property_line i ++ t) (generated_text n (i + 1) (others s))
