-- What the reader gives is spelled by the tokens.
use Rattle.std.proofs.Common.{◌≡◌, ℕ, ◌+◌, ◌-◌, ◌≤◌, ◌<◌, Bool, true, false, cond, List, [], ◌∷◌, ◌++◌, length, leb, refl, sym, ap, ◌∙◌, arith, subst, Option, Some, None, Result, Ok, Err}
use Rattle.std.proofs.lemmas.Bool.Decides.{nat_tests}
use Rattle.std.proofs.lemmas.List.{append_assoc, append-nil, length_push}
use Rattle.qk_base.specs.declared.place.Place.{Place}
use Rattle.qk_base.specs.declared.place.Refusal.{Refusal}
use Rattle.qk_syntax.specs.PlainTrees.{PlainTree, number, name, list, PlainTrees, trees_of, count}
use Rattle.qk_syntax.specs.Reader.{Level, Stack, is_full, is_deep, put, put_word, finish, go, reading}
use Rattle.qk_syntax.specs.Spelling.{SpellsTree, SpellsTrees}
use Rattle.qk_syntax.specs.TextFault.{fault}
use Rattle.qk_syntax.specs.Tokens.{Token, opening, closing, word, bad}
use Rattle.qk_syntax.specs.Words.{word_fault, word_tree, is_number_word, number_of}
use Rattle.qk_syntax.proofs.FaultsRead.{begun_of}

-- one more tree at the end
spells_put : (n : ℕ) (items : List PlainTree) (ts us : List Token) (u : PlainTree) → SpellsTrees n ts (trees_of items) → SpellsTree n us u → SpellsTrees n (ts ++ us) (trees_of (items ++ u ∷ []))
spells_put n [] ts us u h k = (us, [], ap (λ x. x ++ us) h ∙ sym (append-nil us), k, refl)
spells_put n (i ∷ items) ts us u (first, rest, e, h, hs) k = (first, rest ++ us, ap (λ x. x ++ us) e ∙ append_assoc first rest us, h, spells_put n items rest us u hs k)

-- the tokens before are those of the trees so far, of each open list in its place
abbrev pub Stands : List Token → List PlainTree → List Level → Type 0
Stands before items [] = SpellsTrees 200 before (trees_of items)
Stands before items (l ∷ ls) = (around : List Token) × (inner : List Token) × (before ≡ around ++ opening l.place ∷ inner) × (length ls < 200) × SpellsTrees (200 - length ls - 1) inner (trees_of items) × Stands around l.items ls

levels_left : List Level → ℕ
levels_left [] = 200
levels_left (l ∷ ls) = 200 - length ls - 1

stands_put : (before : List Token) (items : List PlainTree) (outer : List Level) (us : List Token) (u : PlainTree) → Stands before items outer → SpellsTree (levels_left outer) us u → Stands (before ++ us) (items ++ u ∷ []) outer
unfolding levels_left
stands_put before items [] us u h k = spells_put 200 items before us u h k
stands_put before items (l ∷ ls) us u (around, inner, e, n, s, st) k =
    (around, inner ++ us, ap (λ x. x ++ us) e ∙ append_assoc around (opening l.place ∷ inner) us, n, spells_put (200 - length ls - 1) items inner us u s k, st)

left_is : (outer : List Level) → levels_left outer ≡ 200 - length outer
unfolding levels_left
left_is [] = refl
left_is (l ∷ ls) = omega arith

stands_opening : (before : List Token) (p : Place) (items : List PlainTree) (outer : List Level) → length outer < 200 → Stands before items outer → Stands (before ++ opening p ∷ []) [] (record { place = p; items = items } ∷ outer)
stands_opening before p items outer n h = (before, [], refl, n, refl, h)

stands_closing : (before : List Token) (q : Place) (items : List PlainTree) (l : Level) (ls : List Level) → Stands before items (l ∷ ls) → Stands (before ++ closing q ∷ []) (l.items ++ list l.place (trees_of items) ∷ []) ls
stands_closing before q items l ls (around, inner, e, n, s, st) =
    let us : List Token = opening l.place ∷ inner ++ closing q ∷ [] in
    let same : before ++ closing q ∷ [] ≡ around ++ us = ap (λ x. x ++ closing q ∷ []) e ∙ append_assoc around (opening l.place ∷ inner) (closing q ∷ []) in
    let m : levels_left ls ≡ 200 - length ls = left_is ls in
    let k : SpellsTree (levels_left ls) us (list l.place (trees_of items)) = (inner, q, refl, omega arith, subst (λ (j : ℕ). SpellsTrees j inner (trees_of items)) (ap (λ j. j - 1) (sym m)) s) in
    subst (λ (x : List Token). Stands x (l.items ++ list l.place (trees_of items) ∷ []) ls) (sym same) (stands_put around l.items ls us (list l.place (trees_of items)) st k)

word_spelled : (n : ℕ) (p : Place) (w : List ℕ) (t : Bool) → is_number_word w ≡ t → word_fault w ≡ None → SpellsTree n (word p w ∷ []) (cond t (number p (number_of w)) (name p w))
word_spelled n p w true e g = (w, refl, record { kind = e; good = g; value = refl })
word_spelled n p w false e g = (refl, record { kind = e; good = g })

stands_word : (before : List Token) (p : Place) (w : List ℕ) (items : List PlainTree) (outer : List Level) → word_fault w ≡ None → Stands before items outer → Stands (before ++ word p w ∷ []) (items ++ word_tree p w ∷ []) outer
stands_word before p w items outer g h = stands_put before items outer (word p w ∷ []) (word_tree p w) h (word_spelled (levels_left outer) p w (is_number_word w) refl g)

count_trees : (items : List PlainTree) → count (trees_of items) ≡ length items
count_trees [] = refl
count_trees (t ∷ items) = omega (arith, count_trees items)

-- the trees are spelled by the tokens, and not too many
abbrev pub Spelled : List Token → PlainTrees → Type 0
Spelled ts trees = SpellsTrees 200 ts trees × (count trees ≤ 1000)

finished : (before : List Token) (items : List PlainTree) (outer : List Level) (trees : PlainTrees) → Stands before items outer → begun_of items outer ≤ 1000 → finish outer items ≡ Ok trees → Spelled (before ++ []) trees
finished before items [] trees h few e =
    let same : trees_of items ≡ trees = cc in
    subst (λ (us : PlainTrees). Spelled (before ++ []) us) same (subst (λ (x : List Token). SpellsTrees 200 x (trees_of items)) (sym (append-nil before)) h, omega (arith, count_trees items))
finished before items (l ∷ ls) trees h few e = cc

few_word : (f : Bool) (items : List PlainTree) (t : PlainTree) (outer : List Level) → is_full (record { items = items; outer = outer }) ≡ f → f ≡ false → begun_of items outer ≤ 1000 → begun_of (items ++ t ∷ []) outer ≤ 1000
few_word f items t [] e n few = let h : leb 1000 (length items) ≡ false = e ∙ n in let m : length (items ++ t ∷ []) ≡ length items + 1 = length_push items t in grind (arith, nat_tests)
few_word f items t (l ∷ []) e n few = few
few_word f items t (l ∷ k ∷ ls) e n few = few

few_opening : (items : List PlainTree) (p : Place) (outer : List Level) → is_full (record { items = items; outer = outer }) ≡ false → begun_of items outer ≤ 1000 → begun_of [] (record { place = p; items = items } ∷ outer) ≤ 1000
few_opening items p [] e few = let h : leb 1000 (length items) ≡ false = e in grind (arith, nat_tests)
few_opening items p (l ∷ ls) e few = few

few_closing : (items : List PlainTree) (t : PlainTree) (l : Level) (ls : List Level) → begun_of items (l ∷ ls) ≤ 1000 → begun_of (l.items ++ t ∷ []) ls ≤ 1000
few_closing items t l [] few = omega (arith, length_push l.items t)
few_closing items t l (k ∷ []) few = few
few_closing items t l (k ∷ j ∷ ls) few = few

opening_by : (d f : Bool) (p : Place) (s : Stack) (next : Stack → Result PlainTrees Refusal) (trees : PlainTrees) (Goal : Type 0) → (d ≡ false → f ≡ false → next s ≡ Ok trees → Goal) → go (cond d (Err (fault 8 p)) (cond f (Err (fault 9 p)) (Ok s))) next ≡ Ok trees → Goal
opening_by true f p s next trees Goal k e = absurd (cc)
opening_by false true p s next trees Goal k e = absurd (cc)
opening_by false false p s next trees Goal k e = k refl refl e

unless_full_by : (f : Bool) (p : Place) (s : Stack) (next : Stack → Result PlainTrees Refusal) (trees : PlainTrees) (Goal : Type 0) → (f ≡ false → next s ≡ Ok trees → Goal) → go (cond f (Err (fault 9 p)) (Ok s)) next ≡ Ok trees → Goal
unless_full_by true p s next trees Goal k e = absurd (cc)
unless_full_by false p s next trees Goal k e = k refl e

word_by : (c : Option ℕ) (p : Place) (w : List ℕ) (s : Stack) (next : Stack → Result PlainTrees Refusal) (trees : PlainTrees) (Goal : Type 0) → (c ≡ None → is_full s ≡ false → next (put s (word_tree p w)) ≡ Ok trees → Goal) → go (put_word s p w c) next ≡ Ok trees → Goal
word_by (Some code) p w s next trees Goal k e = absurd (cc)
word_by None p w s next trees Goal k e = unless_full_by (is_full s) p (put s (word_tree p w)) next trees Goal (k refl) e

not_deep : (outer : List Level) → leb 200 (length outer) ≡ false → length outer < 200
not_deep outer e = grind (arith, nat_tests)

again : (before ts : List Token) (t : Token) (trees : PlainTrees) → Spelled ((before ++ t ∷ []) ++ ts) trees → Spelled (before ++ t ∷ ts) trees
again before ts t trees h = subst (λ (x : List Token). Spelled x trees) (append_assoc before (t ∷ []) ts) h

pub read_is_spelled : (ts before : List Token) (items : List PlainTree) (outer : List Level) (trees : PlainTrees) → Stands before items outer → begun_of items outer ≤ 1000 → reading ts (record { items = items; outer = outer }) ≡ Ok trees → Spelled (before ++ ts) trees
read_is_spelled [] before items outer trees h few e = finished before items outer trees h few e
read_is_spelled (bad q ∷ ts) before items outer trees h few e = absurd (cc)
read_is_spelled (closing q ∷ ts) before items [] trees h few e = absurd (cc)
read_is_spelled (closing q ∷ ts) before items (l ∷ ls) trees h few e =
    again before ts (closing q) trees (read_is_spelled ts (before ++ closing q ∷ []) (l.items ++ list l.place (trees_of items) ∷ []) ls trees (stands_closing before q items l ls h) (few_closing items (list l.place (trees_of items)) l ls few) e)
read_is_spelled (opening q ∷ ts) before items outer trees h few e =
    opening_by (is_deep (record { items = items; outer = outer })) (is_full (record { items = items; outer = outer })) q (record { items = []; outer = record { place = q; items = items } ∷ outer }) (reading ts) trees (Spelled (before ++ opening q ∷ ts) trees)
    (λ d f k. again before ts (opening q) trees (read_is_spelled ts (before ++ opening q ∷ []) [] (record { place = q; items = items } ∷ outer) trees (stands_opening before q items outer (not_deep outer d) h) (few_opening items q outer f few) k))
    e
read_is_spelled (word q w ∷ ts) before items outer trees h few e =
    word_by (word_fault w) q w (record { items = items; outer = outer }) (reading ts) trees (Spelled (before ++ word q w ∷ ts) trees)
    (λ g f k. again before ts (word q w) trees (read_is_spelled ts (before ++ word q w ∷ []) (items ++ word_tree q w ∷ []) outer trees (stands_word before q w items outer g h) (few_word (is_full (record { items = items; outer = outer })) items (word_tree q w) outer refl f few) k))
    e
