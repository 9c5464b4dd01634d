-- The fault of a list of tokens is the one that the reader meets.
use Rattle.std.proofs.Common.{◌≡◌, ℕ, ◌+◌, ◌-◌, ◌≤◌, Bool, true, false, cond, ◌&&◌, List, [], ◌∷◌, ◌++◌, length, map, eqb, ltb, leb, refl, sym, ap, ◌∙◌, arith, add-zero, Option, Some, None, Result, Ok, Err, count_by, option_map, option_to_list}
use Rattle.std.specs.List.{list_all}
use Rattle.std.specs.Option.{option_or}
use Rattle.std.specs.Result.{result_err}
use Rattle.std.proofs.lemmas.Bool.Decides.{nat_tests}
use Rattle.std.proofs.lemmas.List.{append_assoc, append-nil, length_push}
use Rattle.std.proofs.lemmas.List.Sums.{sum_by_push}
use Rattle.qk_base.specs.declared.place.Place.{Place}
use Rattle.qk_base.specs.declared.place.Refusal.{Refusal}
use Rattle.qk_syntax.specs.PlainTrees.{PlainTree, list, PlainTrees, trees_of}
use Rattle.qk_syntax.specs.Reader.{Level, Stack, is_top, is_full, is_deep, put, put_word, finish, go, reading}
use Rattle.qk_syntax.specs.TextFault.{fault, is_opening, is_closing, depth, begins_tree, begun_after, begun, where_holds, excess, faults_at, faults_after, least, is_ended, unless_ended, last_open, fault_of_tokens}
use Rattle.qk_syntax.specs.Tokens.{Token, opening, closing, word, bad}
use Rattle.qk_syntax.specs.Words.{word_fault, word_tree, is_number_word, is_narrow, is_digit, without_minus}
use Rattle.qk_syntax.proofs.Least.{AllFrom, first_is_least, first_of_two, all_append, all_where}
use Rattle.qk_syntax.proofs.Places.{Until, past, until_same, until_until, until_past, at, Ordered}

-- how many trees are begun outside of all lists, by the trees and the open lists
abbrev pub begun_of : List PlainTree → List Level → ℕ
begun_of items [] = length items
begun_of items (l ∷ []) = length l.items + 1
begun_of items (l ∷ k ∷ ls) = begun_of l.items (k ∷ ls)

-- the stack is that of the tokens before
pub record Tracks (before : List Token) (items : List PlainTree) (outer : List Level) : Type 0 where
  pub deep : count_by is_opening before ≡ count_by is_closing before + length outer
  pub first : begun before ≡ begun_of items outer

one_more : List Token → Token → ℕ
one_more before t = cond (begins_tree t && eqb (depth before) 0) 1 0

begun_push_after : (ts before : List Token) (t : Token) → begun_after before (ts ++ t ∷ []) ≡ begun_after before ts + one_more (before ++ ts) t
unfolding one_more
begun_push_after [] before t = ap (λ bs. cond (begins_tree t && eqb (depth bs) 0) 1 0 + 0) (sym (append-nil before)) ∙ omega arith
begun_push_after (u ∷ ts) before t =
    ap (λ n. cond (begins_tree u && eqb (depth before) 0) 1 0 + n) (begun_push_after ts (before ++ u ∷ []) t ∙ ap (λ bs. begun_after (before ++ u ∷ []) ts + cond (begins_tree t && eqb (depth bs) 0) 1 0) (append_assoc before (u ∷ []) ts))
    ∙ omega arith

begun_push : (before : List Token) (t : Token) → begun (before ++ t ∷ []) ≡ begun before + one_more before t
begun_push before t = begun_push_after before [] t

depth_is : (before : List Token) (items : List PlainTree) (outer : List Level) → Tracks before items outer → depth before ≡ length outer
depth_is before items outer h = omega (arith, h.deep)

more_none : (before : List Token) (t : Token) → begins_tree t ≡ false → one_more before t ≡ 0
unfolding one_more
more_none before t e = ap (λ b. cond (b && eqb (depth before) 0) 1 0) e

more_top : (before : List Token) (t : Token) → begins_tree t ≡ true → depth before ≡ 0 → one_more before t ≡ 1
unfolding one_more
more_top before t e d = ap (λ b. cond (b && eqb (depth before) 0) 1 0) e ∙ ap (λ n. cond (eqb n 0) 1 0) d

deep_is_not_top : (n m : ℕ) → n ≡ m + 1 → eqb n 0 ≡ false
deep_is_not_top n m h = grind (arith, nat_tests)

deep_bits : (b c : Bool) → c ≡ false → cond {A = ℕ} (b && c) 1 0 ≡ 0
deep_bits true c e = ap (λ d. cond {A = ℕ} d 1 0) e
deep_bits false c e = refl

more_deep : (before : List Token) (t : Token) (m : ℕ) → depth before ≡ m + 1 → one_more before t ≡ 0
unfolding one_more
more_deep before t m d = deep_bits (begins_tree t) (eqb (depth before) 0) (deep_is_not_top (depth before) m d)

opens_push : (before : List Token) (t : Token) → count_by is_opening (before ++ t ∷ []) ≡ count_by is_opening before + cond (is_opening t) 1 0
opens_push before t = sum_by_push (λ u. cond (is_opening u) 1 0) before t

closes_push : (before : List Token) (t : Token) → count_by is_closing (before ++ t ∷ []) ≡ count_by is_closing before + cond (is_closing t) 1 0
closes_push before t = sum_by_push (λ u. cond (is_closing u) 1 0) before t

pub tracks_start : Tracks [] [] []
tracks_start = record { deep = refl; first = refl }

opening_begun : (before : List Token) (p : Place) (items : List PlainTree) (outer : List Level) → Tracks before items outer → begun before + one_more before (opening p) ≡ begun_of [] (record { place = p; items = items } ∷ outer)
opening_begun before p items [] h = omega (arith, h.first, more_top before (opening p) refl (depth_is before items [] h))
opening_begun before p items (l ∷ ls) h = omega (arith, h.first, more_deep before (opening p) (length ls) (depth_is before items (l ∷ ls) h ∙ omega arith))

pub tracks_opening : (before : List Token) (p : Place) (items : List PlainTree) (outer : List Level) → Tracks before items outer → Tracks (before ++ opening p ∷ []) [] (record { place = p; items = items } ∷ outer)
tracks_opening before p items outer h = record {
  deep = omega (arith, h.deep, opens_push before (opening p), closes_push before (opening p));
  first = begun_push before (opening p) ∙ opening_begun before p items outer h;
}

begun_same : (items more : List PlainTree) (l : Level) (ls : List Level) → begun_of items (l ∷ ls) ≡ begun_of more (l ∷ ls)
begun_same items more l [] = refl
begun_same items more l (k ∷ ls) = refl

word_begun : (before : List Token) (p : Place) (w : List ℕ) (items : List PlainTree) (t : PlainTree) (outer : List Level) → Tracks before items outer → begun before + one_more before (word p w) ≡ begun_of (items ++ t ∷ []) outer
word_begun before p w items t [] h = omega (arith, h.first, more_top before (word p w) refl (depth_is before items [] h), length_push items t)
word_begun before p w items t (l ∷ ls) h = omega (arith, h.first, more_deep before (word p w) (length ls) (depth_is before items (l ∷ ls) h ∙ omega arith), begun_same items (items ++ t ∷ []) l ls)

pub tracks_word : (before : List Token) (p : Place) (w : List ℕ) (items : List PlainTree) (t : PlainTree) (outer : List Level) → Tracks before items outer → Tracks (before ++ word p w ∷ []) (items ++ t ∷ []) outer
tracks_word before p w items t outer h = record {
  deep = omega (arith, h.deep, opens_push before (word p w), closes_push before (word p w));
  first = begun_push before (word p w) ∙ word_begun before p w items t outer h;
}

closing_begun : (items : List PlainTree) (t : PlainTree) (l : Level) (ls : List Level) → begun_of items (l ∷ ls) ≡ begun_of (l.items ++ t ∷ []) ls
closing_begun items t l [] = sym (length_push l.items t)
closing_begun items t l (k ∷ ls) = begun_same l.items (l.items ++ t ∷ []) k ls

pub tracks_closing : (before : List Token) (p : Place) (items : List PlainTree) (t : PlainTree) (l : Level) (ls : List Level) → Tracks before items (l ∷ ls) → Tracks (before ++ closing p ∷ []) (l.items ++ t ∷ []) ls
tracks_closing before p items t l ls h = record {
  deep = let n : length (l ∷ ls) ≡ length ls + 1 = omega arith in omega (arith, h.deep, n, opens_push before (closing p), closes_push before (closing p));
  first = begun_push before (closing p) ∙ ap (λ n. begun before + n) (more_none before (closing p) refl) ∙ add-zero (begun before) ∙ h.first ∙ closing_begun items t l ls;
}

-- the tests of the definition are those of the reader
deep_test : (before : List Token) (items : List PlainTree) (outer : List Level) → Tracks before items outer → leb 200 (depth before) ≡ is_deep (record { items = items; outer = outer })
deep_test before items outer h = ap (λ n. leb 200 n) (depth_is before items outer h)

full_test : (before : List Token) (items : List PlainTree) (outer : List Level) → Tracks before items outer → (eqb (depth before) 0 && leb 1000 (begun before)) ≡ is_full (record { items = items; outer = outer })
full_test before items [] h = ap (λ n. eqb n 0 && leb 1000 (begun before)) (depth_is before items [] h) ∙ ap (λ n. leb 1000 n) h.first
full_test before items (l ∷ ls) h = ap (λ t. t && leb 1000 (begun before)) (deep_is_not_top (depth before) (length ls) (depth_is before items (l ∷ ls) h ∙ omega arith))

stray_test : (before : List Token) (items : List PlainTree) (outer : List Level) → Tracks before items outer → eqb (depth before) 0 ≡ is_top outer
stray_test before items [] h = ap (λ n. eqb n 0) (depth_is before items [] h)
stray_test before items (l ∷ ls) h = deep_is_not_top (depth before) (length ls) (depth_is before items (l ∷ ls) h ∙ omega arith)

-- where all faults of a token stand
code_from : (p : Place) (o : Option ℕ) → AllFrom p (map (λ code. fault code p) (option_to_list o))
code_from p None = tt
code_from p (Some code) = (until_same p, tt)

at_token : (before : List Token) (t : Token) → AllFrom (at t) (faults_at before t)
at_token before (bad p) = (until_same p, tt)
at_token before (closing p) = all_where p (eqb (depth before) 0) (fault 3 p) (until_same p)
at_token before (opening p) = all_append p (where_holds (leb 200 (depth before)) (fault 8 p)) (excess before p) (all_where p (leb 200 (depth before)) (fault 8 p) (until_same p)) (all_where p (eqb (depth before) 0 && leb 1000 (begun before)) (fault 9 p) (until_same p))
at_token before (word p w) = all_append p (map (λ code. fault code p) (option_to_list (word_fault w))) (excess before p) (code_from p (word_fault w)) (all_where p (eqb (depth before) 0 && leb 1000 (begun before)) (fault 9 p) (until_same p))

all_weaker : (p q : Place) (rs : List Refusal) → Until p q → AllFrom q rs → AllFrom p rs
all_weaker p q [] u a = tt
all_weaker p q (r ∷ rs) u a = (until_until p q r.place u a.0, all_weaker p q rs u a.1)

faults_from : (ts before : List Token) (p : Place) → Ordered p ts → AllFrom p (faults_after before ts)
faults_from [] before p o = tt
faults_from (t ∷ ts) before p o =
    all_append p (faults_at before t) (faults_after (before ++ t ∷ []) ts)
    (all_weaker p (at t) (faults_at before t) o.0 (at_token before t))
    (all_weaker p (past (at t)) (faults_after (before ++ t ∷ []) ts) (until_until p (at t) (past (at t)) o.0 (until_past (at t))) (faults_from ts (before ++ t ∷ []) (past (at t)) o.1))

-- the innermost open list that no later `)` ends, where so many are nested in them
unended : ℕ → List Level → List Token → Option Place
unended inside [] ts = None
unended inside (l ∷ ls) ts = cond (is_ended inside ts) (unended (inside + 1) ls ts) (Some l.place)

open_from : List Level → List Token → Option Place
open_from outer ts = option_or (last_open ts) (unended 0 outer ts)

or_assoc_option : {A : Type 0} (a b c : Option A) → option_or (option_or a b) c ≡ option_or a (option_or b c)
or_assoc_option None b c = refl
or_assoc_option (Some x) b c = refl

unended_opening : (ls : List Level) (inside : ℕ) (p : Place) (ts : List Token) → unended inside ls (opening p ∷ ts) ≡ unended (inside + 1) ls ts
unfolding unended
unended_opening [] inside p ts = refl
unended_opening (l ∷ ls) inside p ts = ap (λ o. cond (is_ended (inside + 1) ts) o (Some l.place)) (unended_opening ls (inside + 1) p ts)

unended_word : (ls : List Level) (inside : ℕ) (p : Place) (w : List ℕ) (ts : List Token) → unended inside ls (word p w ∷ ts) ≡ unended inside ls ts
unfolding unended
unended_word [] inside p w ts = refl
unended_word (l ∷ ls) inside p w ts = ap (λ o. cond (is_ended inside ts) o (Some l.place)) (unended_word ls (inside + 1) p w ts)

ended_closing : (inside : ℕ) (p : Place) (ts : List Token) → is_ended (inside + 1) (closing p ∷ ts) ≡ is_ended inside ts
ended_closing inside p ts = ap (λ t. cond t true (is_ended (inside + 1 - 1) ts)) (deep_is_not_top (inside + 1) inside refl) ∙ ap (λ n. is_ended n ts) (omega arith)

unended_closing : (ls : List Level) (inside : ℕ) (p : Place) (ts : List Token) → unended (inside + 1) ls (closing p ∷ ts) ≡ unended inside ls ts
unfolding unended
unended_closing [] inside p ts = refl
unended_closing (l ∷ ls) inside p ts =
    ap (λ t. cond t (unended (inside + 1 + 1) ls (closing p ∷ ts)) (Some l.place)) (ended_closing inside p ts)
    ∙ ap (λ o. cond (is_ended inside ts) o (Some l.place)) (unended_closing ls (inside + 1) p ts)

unless_or : (t : Bool) (p : Place) (o : Option Place) → option_or (cond t None (Some p)) o ≡ cond t o (Some p)
unless_or true p o = refl
unless_or false p o = refl

open_opening : (p : Place) (items : List PlainTree) (outer : List Level) (ts : List Token) → open_from outer (opening p ∷ ts) ≡ open_from (record { place = p; items = items } ∷ outer) ts
unfolding open_from unended
open_opening p items outer ts =
    or_assoc_option (last_open ts) (unless_ended p ts) (unended 0 outer (opening p ∷ ts))
    ∙ ap (λ o. option_or (last_open ts) o) (ap (λ o. option_or (unless_ended p ts) o) (unended_opening outer 0 p ts) ∙ unless_or (is_ended 0 ts) p (unended 1 outer ts))

open_word : (p : Place) (w : List ℕ) (outer : List Level) (ts : List Token) → open_from outer (word p w ∷ ts) ≡ open_from outer ts
unfolding open_from
open_word p w outer ts = ap (λ o. option_or (last_open ts) o) (unended_word outer 0 p w ts)

open_closing : (p : Place) (l : Level) (ls : List Level) (ts : List Token) → open_from (l ∷ ls) (closing p ∷ ts) ≡ open_from ls ts
unfolding open_from unended
open_closing p l ls ts = ap (λ o. option_or (last_open ts) o) (unended_closing ls 0 p ts)

-- the fault of the tokens that are left
left_fault : List Token → List Level → List Token → Option Refusal
left_fault before outer ts = option_or (least (faults_after before ts)) (option_map (fault 4) (open_from outer ts))

end_fault : (before : List Token) (items : List PlainTree) (outer : List Level) → left_fault before outer [] ≡ result_err (finish outer items)
unfolding left_fault open_from unended
end_fault before items [] = refl
end_fault before items (l ∷ ls) = refl

found_first : (r : Refusal) (gs : List Refusal) (o : Option Refusal) → AllFrom (past r.place) gs → option_or (least (r ∷ gs)) o ≡ Some r
found_first r gs o a = ap (λ q. option_or q o) (first_is_least r gs a)

opening_cases : (d f : Bool) (p : Place) (gs : List Refusal) (o : Option Refusal) (s : Stack) (next : Stack → Result PlainTrees Refusal) → AllFrom (past p) gs → option_or (least gs) o ≡ result_err (next s)
    → option_or (least ((where_holds d (fault 8 p) ++ where_holds f (fault 9 p)) ++ gs)) o ≡ result_err (go (cond d (Err (fault 8 p)) (cond f (Err (fault 9 p)) (Ok s))) next)
opening_cases true true p gs o s next a e = ap (λ q. option_or q o) (first_of_two p 8 9 gs (omega arith) a)
opening_cases true false p gs o s next a e = found_first (fault 8 p) gs o a
opening_cases false true p gs o s next a e = found_first (fault 9 p) gs o a
opening_cases false false p gs o s next a e = e

small_bits : (n d f l : Bool) (code : ℕ) → cond n (cond d (cond f None (Some 6)) (Some 5)) (cond l (Some 7) None) ≡ Some code → code ≤ 9
small_bits true true true l code e = cc
small_bits true true false l code e = let h : 6 ≡ code = cc in omega arith
small_bits true false f l code e = let h : 5 ≡ code = cc in omega arith
small_bits false d f true code e = let h : 7 ≡ code = cc in omega arith
small_bits false d f false code e = cc

code_small : (w : List ℕ) (code : ℕ) → word_fault w ≡ Some code → code ≤ 9
code_small w code e = small_bits (is_number_word w) (list_all is_digit (without_minus w)) (is_narrow w) (ltb 64 (length w)) code e

word_cases : (c : Option ℕ) (f : Bool) (p : Place) (w : List ℕ) (gs : List Refusal) (o : Option Refusal) (s : Stack) (next : Stack → Result PlainTrees Refusal) → ((code : ℕ) → c ≡ Some code → code ≤ 9) → is_full s ≡ f → AllFrom (past p) gs → option_or (least gs) o ≡ result_err (next (put s (word_tree p w)))
    → option_or (least ((map (λ code. fault code p) (option_to_list c) ++ where_holds f (fault 9 p)) ++ gs)) o ≡ result_err (go (put_word s p w c) next)
word_cases (Some code) true p w gs o s next small e a h = ap (λ q. option_or q o) (first_of_two p code 9 gs (small code refl) a)
word_cases (Some code) false p w gs o s next small e a h = found_first (fault code p) gs o a
word_cases None true p w gs o s next small e a h = found_first (fault 9 p) gs o a ∙ sym (ap (λ (b : Bool). result_err (go (cond b (Err (fault 9 p)) (Ok (put s (word_tree p w)))) next)) e)
word_cases None false p w gs o s next small e a h = h ∙ sym (ap (λ (b : Bool). result_err (go (cond b (Err (fault 9 p)) (Ok (put s (word_tree p w)))) next)) e)

fault_left : (ts before : List Token) (items : List PlainTree) (outer : List Level) (p : Place) → Tracks before items outer → Ordered p ts → left_fault before outer ts ≡ result_err (reading ts (record { items = items; outer = outer }))
unfolding left_fault
fault_left [] before items outer p h o = end_fault before items outer
fault_left (bad q ∷ ts) before items outer p h o = found_first (fault 2 q) (faults_after (before ++ bad q ∷ []) ts) (option_map (fault 4) (open_from outer (bad q ∷ ts))) (faults_from ts (before ++ bad q ∷ []) (past q) o.1)
fault_left (closing q ∷ ts) before items [] p h o =
    ap (λ t. option_or (least (where_holds t (fault 3 q) ++ faults_after (before ++ closing q ∷ []) ts)) (option_map (fault 4) (open_from [] (closing q ∷ ts)))) (stray_test before items [] h)
    ∙ found_first (fault 3 q) (faults_after (before ++ closing q ∷ []) ts) (option_map (fault 4) (open_from [] (closing q ∷ ts))) (faults_from ts (before ++ closing q ∷ []) (past q) o.1)
fault_left (closing q ∷ ts) before items (l ∷ ls) p h o =
    ap (λ t. option_or (least (where_holds t (fault 3 q) ++ faults_after (before ++ closing q ∷ []) ts)) (option_map (fault 4) (open_from (l ∷ ls) (closing q ∷ ts)))) (stray_test before items (l ∷ ls) h)
    ∙ ap (λ e. option_or (least (faults_after (before ++ closing q ∷ []) ts)) (option_map (fault 4) e)) (open_closing q l ls ts)
    ∙ fault_left ts (before ++ closing q ∷ []) (l.items ++ list l.place (trees_of items) ∷ []) ls (past q) (tracks_closing before q items (list l.place (trees_of items)) l ls h) o.1
fault_left (opening q ∷ ts) before items outer p h o =
    ap (λ d. option_or (least ((where_holds d (fault 8 q) ++ excess before q) ++ faults_after (before ++ opening q ∷ []) ts)) (option_map (fault 4) (open_from outer (opening q ∷ ts)))) (deep_test before items outer h)
    ∙ ap (λ f. option_or (least ((where_holds (is_deep (record { items = items; outer = outer })) (fault 8 q) ++ where_holds f (fault 9 q)) ++ faults_after (before ++ opening q ∷ []) ts)) (option_map (fault 4) (open_from outer (opening q ∷ ts)))) (full_test before items outer h)
    ∙ ap (λ e. option_or (least ((where_holds (is_deep (record { items = items; outer = outer })) (fault 8 q) ++ where_holds (is_full (record { items = items; outer = outer })) (fault 9 q)) ++ faults_after (before ++ opening q ∷ []) ts)) (option_map (fault 4) e)) (open_opening q items outer ts)
    ∙ opening_cases (is_deep (record { items = items; outer = outer })) (is_full (record { items = items; outer = outer })) q (faults_after (before ++ opening q ∷ []) ts) _ (record { items = []; outer = record { place = q; items = items } ∷ outer }) (reading ts)
    (faults_from ts (before ++ opening q ∷ []) (past q) o.1)
    (fault_left ts (before ++ opening q ∷ []) [] (record { place = q; items = items } ∷ outer) (past q) (tracks_opening before q items outer h) o.1)
fault_left (word q w ∷ ts) before items outer p h o =
    ap (λ f. option_or (least ((map (λ code. fault code q) (option_to_list (word_fault w)) ++ where_holds f (fault 9 q)) ++ faults_after (before ++ word q w ∷ []) ts)) (option_map (fault 4) (open_from outer (word q w ∷ ts)))) (full_test before items outer h)
    ∙ ap (λ e. option_or (least ((map (λ code. fault code q) (option_to_list (word_fault w)) ++ where_holds (is_full (record { items = items; outer = outer })) (fault 9 q)) ++ faults_after (before ++ word q w ∷ []) ts)) (option_map (fault 4) e)) (open_word q w outer ts)
    ∙ word_cases (word_fault w) (is_full (record { items = items; outer = outer })) q w (faults_after (before ++ word q w ∷ []) ts) _ (record { items = items; outer = outer }) (reading ts) (code_small w) refl
    (faults_from ts (before ++ word q w ∷ []) (past q) o.1)
    (fault_left ts (before ++ word q w ∷ []) (items ++ word_tree q w ∷ []) outer (past q) (tracks_word before q w items (word_tree q w) outer h) o.1)

or_none_place : (o : Option Place) → option_or o None ≡ o
or_none_place None = refl
or_none_place (Some p) = refl

pub fault_read : (ts : List Token) (p : Place) → Ordered p ts → fault_of_tokens ts ≡ result_err (reading ts (record { items = []; outer = [] }))
unfolding left_fault open_from unended
fault_read ts p o = ap (λ e. option_or (least (faults_after [] ts)) (option_map (fault 4) e)) (sym (or_none_place (last_open ts))) ∙ fault_left ts [] [] [] p tracks_start o
