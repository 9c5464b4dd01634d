-- The fault of a text.
use Rattle.std.specs.Prelude.{ℕ, ◌+◌, ◌-◌, Bool, true, false, ◌&&◌, ◌||◌, List, [], ◌∷◌, ◌++◌, length, map, ◌==◌, nat_lt, nat_le, if◌then◌else◌, Option, Some, None}
use Rattle.std.specs.List.{count_by}
use Rattle.std.specs.Option.{option_map, option_or, option_to_list}
use Rattle.qk_base.specs.declared.place.Place.{Place}
use Rattle.qk_base.specs.declared.place.Refusal.{Refusal}
use Rattle.qk_syntax.specs.Places.{start}
use Rattle.qk_syntax.specs.Tokens.{Token, opening, closing, word, bad, tokens}
use Rattle.qk_syntax.specs.Words.{word_fault}

abbrev pub fault : ℕ → Place → Refusal
fault code place = record { code = code; place = place }

abbrev pub is_opening : Token → Bool
is_opening (opening p) = true
is_opening t = false

abbrev pub is_closing : Token → Bool
is_closing (closing p) = true
is_closing t = false

-- how many lists these tokens begin and do not end. Where a `)` among them has no list to end this is nothing, and that `)` is a fault before all that follows
abbrev pub depth : List Token → ℕ
depth ts = count_by is_opening ts - count_by is_closing ts

-- a list or a word begins a tree
abbrev pub begins_tree : Token → Bool
begins_tree (opening p) = true
begins_tree (word p w) = true
begins_tree t = false

-- how many of the tokens, after those before, begin a tree outside of all lists
abbrev pub begun_after : List Token → List Token → ℕ
begun_after before [] = 0
begun_after before (t ∷ ts) = (if begins_tree t && depth before == 0 then 1 else 0) + begun_after (before ++ t ∷ []) ts

abbrev pub begun : List Token → ℕ
begun ts = begun_after [] ts

abbrev pub where_holds : Bool → Refusal → List Refusal
where_holds test r = if test then r ∷ [] else []

-- a 1,001st tree outside of all lists
abbrev pub excess : List Token → Place → List Refusal
excess before p = where_holds (depth before == 0 && nat_le 1000 (begun before)) (fault 9 p)

-- the faults of a token after those before it
abbrev pub faults_at : List Token → Token → List Refusal
faults_at before (bad p) = fault 2 p ∷ []
faults_at before (closing p) = where_holds (depth before == 0) (fault 3 p)
faults_at before (opening p) = where_holds (nat_le 200 (depth before)) (fault 8 p) ++ excess before p
faults_at before (word p w) = map (λ code. fault code p) (option_to_list (word_fault w)) ++ excess before p

-- all faults of the tokens, after those before
abbrev pub faults_after : List Token → List Token → List Refusal
faults_after before [] = []
faults_after before (t ∷ ts) = faults_at before t ++ faults_after (before ++ t ∷ []) ts

-- the first is at a lesser place than the second, or at the same place and has no greater code
abbrev pub precedes : Refusal → Refusal → Bool
precedes a b = nat_lt a.place.line b.place.line || (a.place.line == b.place.line && (nat_lt a.place.column b.place.column || (a.place.column == b.place.column && nat_le a.code b.code)))

abbrev pub lesser : Refusal → Option Refusal → Refusal
lesser a None = a
lesser a (Some b) = if precedes a b then a else b

-- the one with the least place, and of those the one with the least code
abbrev pub least : List Refusal → Option Refusal
least [] = None
least (r ∷ rs) = Some (lesser r (least rs))

-- some `)` among the tokens ends the list in which this many others are nested open
abbrev pub is_ended : ℕ → List Token → Bool
is_ended inside [] = false
is_ended inside (opening p ∷ ts) = is_ended (inside + 1) ts
is_ended inside (closing p ∷ ts) = if inside == 0 then true else is_ended (inside - 1) ts
is_ended inside (t ∷ ts) = is_ended inside ts

abbrev pub unless_ended : Place → List Token → Option Place
unless_ended p ts = if is_ended 0 ts then None else Some p

-- the last `(` that no `)` ends
abbrev pub last_open : List Token → Option Place
last_open [] = None
last_open (opening p ∷ ts) = option_or (last_open ts) (unless_ended p ts)
last_open (t ∷ ts) = last_open ts

abbrev pub fault_of_tokens : List Token → Option Refusal
fault_of_tokens ts = option_or (least (faults_after [] ts)) (option_map (fault 4) (last_open ts))

-- the fault of the text, if it has one
abbrev pub text_fault : List ℕ → Option Refusal
text_fault bytes = if nat_lt 1048576 (length bytes) then Some (fault 1 start) else fault_of_tokens (tokens bytes)
