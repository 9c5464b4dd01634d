-- The walk of the command over the words of parts.
use Rattle.std.proofs.Common.{◌≡◌, ◌∙◌, ◌==◌, ℕ, Bool, true, false, not, List, [], ◌∷◌, ◌++◌, ◌||◌, refl, sym, ap, subst, Option, None, Some, map, append_assoc, fold, codes, true≢false}
use Rattle.std.proofs.lemmas.List.{append-nil}
use Rattle.std.specs.List.{list_all}
use Rattle.clap.specs.Walk.{Row, Text, Walk, has_row, settled, settled_rows, walked}
use Rattle.clap.specs.Takes.{settle_passes, turn_passes, walk_passes}
use Rattle.qk_enum_words.specs.Options.{option_text}
use Rattle.qk_enum_words.specs.Parts.{Part, split, joined, file, words_of, key_of, spelled, is_part, is_new, are_once}
use Rattle.qk_words.specs.Parts.{is_plain}
use Rattle.qk_words.proofs.Rows.{has_row-push, both, not_true, or_false}
use Rattle.qk_enum_words.proofs.Steps.{shape, held, at, mid, row, joined_passes, joined_walks, split_passes, split_walks, value_passes, value_walks, split_used, split_settles, file_passes, file_walks, file_used, file_settles}

-- a walk over words passes, and has these rows at its end
pub record Walks (w : Walk) (words : List Text) (rows : List Row) : Type 0 where
  pub passes : walk_passes shape [] w words ≡ true
  pub settles : settle_passes shape.rules false (fold (walked shape.rules []) w words).held ≡ true
  pub rows_are : (settled shape.rules (fold (walked shape.rules []) w words).held).rows ≡ rows
  pub stops : (fold (walked shape.rules []) w words).stopped ≡ None

one_more : (w : Walk) (word : Text) (rest : List Text) (rows : List Row) → turn_passes shape [] w word ≡ true → Walks (walked shape.rules [] w word) rest rows → Walks w (word ∷ rest) rows
unfolding walk_passes
one_more w word rest rows turn h = record { passes = rw turn h.passes; settles = h.settles; rows_are = h.rows_are; stops = h.stops }

pub more : (w after : Walk) (word : Text) (rest : List Text) (rows : List Row) → turn_passes shape [] w word ≡ true → walked shape.rules [] w word ≡ after → Walks after rest rows → Walks w (word ∷ rest) rows
more w after word rest rows turn e h = one_more w word rest rows turn (subst (λ a. Walks a rest rows) (sym e) h)

-- the parts that are left are new to the rows
abbrev pub are_new : List Row → List Part → Bool
are_new rows ps = list_all (λ p. not (has_row (key_of p) rows)) ps

new_with : (a b : Bool) → not a ≡ true → not b ≡ true → not (a || b) ≡ true
new_with true b p q = p
new_with false b p q = q

still_new : (rows : List Row) (p : Part) (ps : List Part) → are_new rows ps ≡ true → is_new p ps ≡ true → are_new (rows ++ row p ∷ []) ps ≡ true
still_new rows p [] h k = refl
still_new rows p (q ∷ ps) h k =
    let a = both _ _ h in
    let b = both _ _ k in
    let one : not (has_row (key_of q) (rows ++ row p ∷ [])) ≡ true = ap not (has_row-push (key_of q) rows (row p)) ∙ new_with _ _ a.0 b.0 in
    rw one (still_new rows p ps a.1 b.1)

abbrev Position : List Row → ℕ → Type 0
Position rows n = has_row (codes "file") rows ≡ false → n ≡ 1

-- a part other than FILE leaves the position
same_position : (rows : List Row) (r : Row) (n : ℕ) → Position rows n → Position (rows ++ r ∷ []) n
same_position rows r n h none = h (or_false _ _ (sym (has_row-push (codes "file") rows r) ∙ none)).0

file_there : (b : Bool) → (b || true) ≡ false → ⊥
file_there true e = true≢false e
file_there false e = true≢false e

past_file : (rows : List Row) (v : Text) (n : ℕ) → Position (rows ++ row (file v) ∷ []) n
past_file rows v n none = absurd (file_there _ (sym (has_row-push (codes "file") rows (row (file v))) ∙ none))

abbrev Plain : Text → (Text → Type 0) → Type 0
Plain v P = (x : ℕ) (xs : List ℕ) → (x == 45) ≡ false → P (x ∷ xs)

plain : (P : Text → Type 0) (v : Text) → is_plain v ≡ true → Plain v P → P v
plain P [] h f = absurd (true≢false (sym h))
plain P (x ∷ xs) h f = f x xs (not_true _ h)

no_words : (w : Walk) → walk_passes shape [] w [] ≡ true
unfolding walk_passes
no_words w = refl

pub walk_parts : (ps : List Part) (R : List Row) (P : Option (Text × List Text)) (n : ℕ) (rows : List Row)
    → settled_rows shape.rules P R ≡ rows → settle_passes shape.rules false (held R P) ≡ true
    → list_all is_part ps ≡ true → are_once ps ≡ true → are_new rows ps ≡ true → Position rows n
    → Walks (at R P n) (spelled ps) (rows ++ map row ps)
walk_parts [] R P n rows e ok parts once new pos = record { passes = no_words (at R P n); settles = ok; rows_are = e ∙ sym (append-nil rows); stops = refl }
walk_parts (p ∷ ps) R P n rows e ok parts once new pos =
    let good = both _ _ parts in
    let first = both _ _ once in
    let fresh = both _ _ new in
    let unused : has_row (key_of p) (settled_rows shape.rules P R) ≡ false = ap (has_row (key_of p)) e ∙ not_true _ fresh.0 in
    let left = still_new rows p ps fresh.1 first.0 in
    let joins : (rows ++ row p ∷ []) ++ map row ps ≡ rows ++ map row (p ∷ ps) = append_assoc rows (row p ∷ []) (map row ps) in
    let next = λ (R2 : List Row) (P2 : Option (Text × List Text)) (n2 : ℕ) (e2 : settled_rows shape.rules P2 R2 ≡ rows ++ row p ∷ []) (ok2 : settle_passes shape.rules false (held R2 P2) ≡ true) (pos2 : Position (rows ++ row p ∷ []) n2).
    subst (λ all. Walks (at R2 P2 n2) (spelled ps) all) joins (walk_parts ps R2 P2 n2 (rows ++ row p ∷ []) e2 ok2 good.1 first.1 left pos2) in
    by p good.0 unused next
  where
    by : (q : Part) → is_part q ≡ true → has_row (key_of q) (settled_rows shape.rules P R) ≡ false
        → ((R2 : List Row) (P2 : Option (Text × List Text)) (n2 : ℕ) → settled_rows shape.rules P2 R2 ≡ rows ++ row q ∷ []
        → settle_passes shape.rules false (held R2 P2) ≡ true → Position (rows ++ row q ∷ []) n2 → Walks (at R2 P2 n2) (spelled ps) (rows ++ map row (q ∷ ps)))
        → Walks (at R P n) (words_of q ++ spelled ps) (rows ++ map row (q ∷ ps))
    by (joined m v) part unused next = more _ _ _ _ _ (joined_passes R P n ok m v unused) (joined_walks R P n m v unused)
        (next (settled_rows shape.rules P R ++ row (joined m v) ∷ []) None n (ap (λ t. t ++ row (joined m v) ∷ []) e) refl (same_position rows (row (joined m v)) n pos))
    by (split m v) part unused next = more _ _ _ _ _ (split_passes R P n ok m) (split_walks R P n m)
        (plain (λ u. ((R2 : List Row) (P2 : Option (Text × List Text)) (n2 : ℕ) → settled_rows shape.rules P2 R2 ≡ rows ++ row (split m u) ∷ []
        → settle_passes shape.rules false (held R2 P2) ≡ true → Position (rows ++ row (split m u) ∷ []) n2 → Walks (at R2 P2 n2) (spelled ps) (rows ++ map row (split m u ∷ ps)))
        → Walks (mid (settled_rows shape.rules P R) (option_text m) n) (u ∷ spelled ps) (rows ++ map row (split m u ∷ ps))) v (both _ _ part).0
        (λ x xs no after. more _ _ _ _ _ (value_passes (settled_rows shape.rules P R) n m x xs no) (value_walks (settled_rows shape.rules P R) n m x xs no)
        (after (settled_rows shape.rules P R) (Some (option_text m, (x ∷ xs) ∷ [])) n (split_used (settled_rows shape.rules P R) m (x ∷ xs) unused ∙ ap (λ t. t ++ row (split m (x ∷ xs)) ∷ []) e)
        (split_settles (settled_rows shape.rules P R) m (x ∷ xs) unused) (same_position rows (row (split m (x ∷ xs))) n pos))) next)
    by (file v) part unused next =
        let one : n ≡ 1 = pos (sym (ap (has_row (codes "file")) e) ∙ unused) in
        plain (λ u. ((R2 : List Row) (P2 : Option (Text × List Text)) (n2 : ℕ) → settled_rows shape.rules P2 R2 ≡ rows ++ row (file u) ∷ []
        → settle_passes shape.rules false (held R2 P2) ≡ true → Position (rows ++ row (file u) ∷ []) n2 → Walks (at R2 P2 n2) (spelled ps) (rows ++ map row (file u ∷ ps)))
        → Walks (at R P n) (u ∷ spelled ps) (rows ++ map row (file u ∷ ps))) v part
        (λ x xs no after. subst (λ k. Walks (at R P k) ((x ∷ xs) ∷ spelled ps) (rows ++ map row (file (x ∷ xs) ∷ ps))) (sym one)
        (more _ _ _ _ _ (file_passes R P x xs no ok) (file_walks R P x xs no)
        (after (settled_rows shape.rules P R) (Some (codes "file", (x ∷ xs) ∷ [])) 2 (file_used (settled_rows shape.rules P R) (x ∷ xs) unused ∙ ap (λ t. t ++ row (file (x ∷ xs)) ∷ []) e)
        (file_settles (settled_rows shape.rules P R) (x ∷ xs) unused) (past_file rows (x ∷ xs) 2)))) next
