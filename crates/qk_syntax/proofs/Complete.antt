-- What the tokens spell is what the reader gives.
use Rattle.std.proofs.Common.{◌≡◌, ℕ, ◌+◌, ◌-◌, ◌≤◌, ◌<◌, Bool, true, false, cond, List, [], ◌∷◌, ◌++◌, length, leb, refl, sym, ap, ◌∙◌, arith, subst, None, Result, Ok, Err}
use Rattle.std.proofs.lemmas.Bool.Decides.{nat_tests}
use Rattle.std.proofs.lemmas.List.{append_assoc, append-nil, length_push}
use Rattle.qk_base.specs.declared.place.Place.{Place}
use Rattle.qk_base.specs.declared.place.Refusal.{Refusal}
use Rattle.qk_syntax.specs.PlainTrees.{PlainTree, number, name, list, PlainTrees, end, more, trees_of, count}
use Rattle.qk_syntax.specs.Reader.{Level, is_top, is_full, put_unless_full, put_word, go, reading}
use Rattle.qk_syntax.specs.Spelling.{SpellsTree, SpellsTrees}
use Rattle.qk_syntax.specs.TextFault.{fault}
use Rattle.qk_syntax.specs.Tokens.{Token, opening, closing, word}
use Rattle.qk_syntax.specs.Words.{word_fault, word_tree, is_number_word, number_of}

list_of : PlainTrees → List PlainTree
list_of end = []
list_of (more t ts) = t ∷ list_of ts

trees_list : (us : PlainTrees) → trees_of (list_of us) ≡ us
unfolding list_of
trees_list end = refl
trees_list (more t ts) = ap (more t) (trees_list ts)

-- there is room for so many trees
Room : List Level → ℕ → Type 0
Room outer n = is_top outer ≡ true → n ≤ 1000

not_full : (items : List PlainTree) (outer : List Level) → Room outer (length items + 1) → is_full (record { items = items; outer = outer }) ≡ false
unfolding Room
not_full items [] r = let h : length items + 1 ≤ 1000 = r refl in grind (arith, nat_tests)
not_full items (l ∷ ls) r = refl

room_less : (outer : List Level) (m n : ℕ) → m ≤ n → Room outer n → Room outer m
unfolding Room
room_less outer m n h r e = let k : n ≤ 1000 = r e in omega arith

room_inside : (l : Level) (ls : List Level) (n : ℕ) → Room (l ∷ ls) n
unfolding Room
room_inside l ls n e = absurd (cc)

Reads : List Token → List Token → List PlainTree → List PlainTree → List Level → Type 0
Reads ts rest items found outer = reading (ts ++ rest) (record { items = items; outer = outer }) ≡ reading rest (record { items = items ++ found; outer = outer })

word_reads : (p : Place) (w : List ℕ) (rest : List Token) (items : List PlainTree) (outer : List Level) → word_fault w ≡ None → is_full (record { items = items; outer = outer }) ≡ false → Reads (word p w ∷ []) rest items (word_tree p w ∷ []) outer
unfolding Reads
word_reads p w rest items outer g f =
    ap (λ c. go (put_word (record { items = items; outer = outer }) p w c) (reading rest)) g
    ∙ ap (λ (b : Bool). go (cond b (Err (fault 9 p)) (Ok (record { items = items ++ word_tree p w ∷ []; outer = outer }))) (reading rest)) f

number_tree : (p : Place) (w : List ℕ) → is_number_word w ≡ true → word_tree p w ≡ number p (number_of w)
number_tree p w e = ap (λ t. cond t (number p (number_of w)) (name p w)) e

name_tree : (p : Place) (w : List ℕ) → is_number_word w ≡ false → word_tree p w ≡ name p w
name_tree p w e = ap (λ t. cond t (number p (number_of w)) (name p w)) e

opening_reads : (p : Place) (ts : List Token) (items : List PlainTree) (outer : List Level) → leb 200 (length outer) ≡ false → is_full (record { items = items; outer = outer }) ≡ false → reading (opening p ∷ ts) (record { items = items; outer = outer }) ≡ reading ts (record { items = []; outer = record { place = p; items = items } ∷ outer })
opening_reads p ts items outer d f =
    ap (λ (b : Bool). go (cond b (Err (fault 8 p)) (put_unless_full (record { items = items; outer = outer }) p (record { items = []; outer = record { place = p; items = items } ∷ outer }))) (reading ts)) d
    ∙ ap (λ (b : Bool). go (cond b (Err (fault 9 p)) (Ok (record { items = []; outer = record { place = p; items = items } ∷ outer }))) (reading ts)) f

shallow : (n : ℕ) (outer : List Level) → length outer + n ≡ 200 → 0 < n → leb 200 (length outer) ≡ false
shallow n outer e h = grind (arith, nat_tests)

list_reads : (n : ℕ) (p q : Place) (inner rest : List Token) (us : PlainTrees) (items : List PlainTree) (outer : List Level) → length outer + n ≡ 200 → 0 < n → is_full (record { items = items; outer = outer }) ≡ false
    → Reads inner (closing q ∷ rest) [] (list_of us) (record { place = p; items = items } ∷ outer) → Reads (opening p ∷ inner ++ closing q ∷ []) rest items (list p us ∷ []) outer
unfolding Reads
list_reads n p q inner rest us items outer e h f k =
    ap (λ ts. reading (opening p ∷ ts) (record { items = items; outer = outer })) (append_assoc inner (closing q ∷ []) rest)
    ∙ opening_reads p (inner ++ closing q ∷ rest) items outer (shallow n outer e h) f
    ∙ k
    ∙ ap (λ vs. reading rest (record { items = items ++ list p vs ∷ []; outer = outer })) (trees_list us)

subst_reads : (ts us rest : List Token) (items found : List PlainTree) (outer : List Level) → ts ≡ us → Reads us rest items found outer → Reads ts rest items found outer
subst_reads ts us rest items found outer e k = subst (λ (x : List Token). Reads x rest items found outer) (sym e) k

subst_tree : (ts rest : List Token) (items : List PlainTree) (t u : PlainTree) (outer : List Level) → t ≡ u → Reads ts rest items (t ∷ []) outer → Reads ts rest items (u ∷ []) outer
subst_tree ts rest items t u outer e k = subst (λ (x : PlainTree). Reads ts rest items (x ∷ []) outer) e k

none_read : (rest : List Token) (items : List PlainTree) (outer : List Level) → Reads [] rest items [] outer
unfolding Reads
none_read rest items outer = ap (λ is. reading rest (record { items = is; outer = outer })) (sym (append-nil items))

both_read : (first after rest : List Token) (items : List PlainTree) (u : PlainTree) (us : List PlainTree) (outer : List Level) → Reads first (after ++ rest) items (u ∷ []) outer → Reads after rest (items ++ u ∷ []) us outer → Reads (first ++ after) rest items (u ∷ us) outer
unfolding Reads
both_read first after rest items u us outer a b =
    ap (λ ts. reading ts (record { items = items; outer = outer })) (append_assoc first after rest) ∙ a ∙ b
    ∙ ap (λ is. reading rest (record { items = is; outer = outer })) (append_assoc items (u ∷ []) us)

mutual
  unfolding list_of

  tree_reads : (u : PlainTree) (n : ℕ) (ts rest : List Token) (items : List PlainTree) (outer : List Level) → length outer + n ≡ 200 → Room outer (length items + 1) → SpellsTree n ts u → Reads ts rest items (u ∷ []) outer
  tree_reads (number p v) n ts rest items outer e r (w, is, k) = subst_reads ts (word p w ∷ []) rest items (number p v ∷ []) outer is (subst_tree (word p w ∷ []) rest items (word_tree p w) (number p v) outer (number_tree p w k.kind ∙ ap (number p) k.value) (word_reads p w rest items outer k.good (not_full items outer r)))
  tree_reads (name p w) n ts rest items outer e r (is, k) = subst_reads ts (word p w ∷ []) rest items (name p w ∷ []) outer is (subst_tree (word p w ∷ []) rest items (word_tree p w) (name p w) outer (name_tree p w k.kind) (word_reads p w rest items outer k.good (not_full items outer r)))
  tree_reads (list p us) n ts rest items outer e r (inner, q, is, h, k) =
      subst_reads ts (opening p ∷ inner ++ closing q ∷ []) rest items (list p us ∷ []) outer is
      (list_reads n p q inner rest us items outer e h (not_full items outer r)
      (trees_read us (n - 1) inner (closing q ∷ rest) [] (record { place = p; items = items } ∷ outer) (omega arith) (room_inside (record { place = p; items = items }) outer (0 + count us)) k))

  trees_read : (us : PlainTrees) (n : ℕ) (ts rest : List Token) (items : List PlainTree) (outer : List Level) → length outer + n ≡ 200 → Room outer (length items + count us) → SpellsTrees n ts us → Reads ts rest items (list_of us) outer
  trees_read end n ts rest items outer e r is = subst_reads ts [] rest items [] outer is (none_read rest items outer)
  trees_read (more u us) n ts rest items outer e r (first, after, is, k, ks) =
      subst_reads ts (first ++ after) rest items (u ∷ list_of us) outer is
      (both_read first after rest items u (list_of us) outer
      (tree_reads u n first (after ++ rest) items outer e (room_less outer (length items + 1) (length items + (count us + 1)) (omega arith) r) k)
      (trees_read us n after rest (items ++ u ∷ []) outer e (room_less outer (length (items ++ u ∷ []) + count us) (length items + (count us + 1)) (omega (arith, length_push items u)) r) ks))

top_room : (n : ℕ) → n ≤ 1000 → Room [] n
unfolding Room
top_room n h e = h

pub spelled_is_read : (us : PlainTrees) (ts : List Token) → count us ≤ 1000 → SpellsTrees 200 ts us → reading ts (record { items = []; outer = [] }) ≡ Ok us
unfolding Reads
spelled_is_read us ts few h =
    ap (λ xs. reading xs (record { items = []; outer = [] })) (sym (append-nil ts))
    ∙ trees_read us 200 ts [] [] [] refl (top_room (0 + count us) (omega (arith, few))) h
    ∙ ap (λ (vs : PlainTrees). let r : Result PlainTrees Refusal = Ok vs in r) (trees_list us)
