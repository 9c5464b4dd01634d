-- How the reader goes: token by token, with the lists that are open. No clause of a public call speaks of it.
use Rattle.std.specs.Prelude.{ℕ, ◌+◌, Bool, true, false, ◌&&◌, ◌||◌, List, [], ◌∷◌, ◌++◌, length, ◌==◌, nat_le, if◌then◌else◌, Option, Some, None, Result, Ok, Err}
use Rattle.qk_base.specs.declared.place.Place.{Place}
use Rattle.qk_base.specs.declared.place.Refusal.{Refusal}
use Rattle.qk_syntax.specs.PlainTrees.{PlainTree, list, PlainTrees, trees_of}
use Rattle.qk_syntax.specs.TextFault.{fault}
use Rattle.qk_syntax.specs.Tokens.{Token, opening, closing, word, bad}
use Rattle.qk_syntax.specs.Words.{is_blank, is_word_byte, word_of, word_fault, word_tree}

-- what the bytes read so far leave: nothing, a word or a comment that may go on
pub data Mode : Type 0 where
  free : Mode
  in_word : Mode
  in_comment : Mode

-- after a byte that ends a line, begins a comment, or stands in words
abbrev pub mode_by : Bool → Bool → Bool → Mode → Mode
mode_by feeds comments words in_comment = if feeds then free else in_comment
mode_by feeds comments words m = if comments then in_comment else (if words then in_word else free)

abbrev pub next_mode : Mode → ℕ → Mode
next_mode m b = mode_by (b == 10) (b == 59) (is_word_byte b) m

abbrev pub next_place : Place → ℕ → Place
next_place p b = if b == 10 then record { line = p.line + 1; column = 1 } else record { line = p.line; column = p.column + 1 }

abbrev pub begun_word : Mode → Place → List ℕ → List Token
begun_word free p bytes = word p (word_of bytes) ∷ []
begun_word m p bytes = []

abbrev pub token_of : Mode → Place → ℕ → List ℕ → List Token
token_of in_comment p b bytes = []
token_of m p b bytes =
    if is_blank b || b == 59 then []
    else (if b == 40 then opening p ∷ []
    else (if b == 41 then closing p ∷ []
    else (if is_word_byte b then begun_word m p (b ∷ bytes)
    else bad p ∷ [])))

abbrev pub scan : List ℕ → Mode → Place → List Token
scan [] m p = []
scan (b ∷ bytes) m p = token_of m p b bytes ++ scan bytes (next_mode m b) (next_place p b)

-- a list that is open: its place, and the trees before it in the list around it
pub record Level : Type 0 where
  pub place : Place
  pub items : List PlainTree

-- the trees of the innermost list so far, and the open lists, the innermost first
pub record Stack : Type 0 where
  pub items : List PlainTree
  pub outer : List Level

abbrev pub is_top : List Level → Bool
is_top [] = true
is_top (l ∷ ls) = false

abbrev pub is_full : Stack → Bool
is_full s = is_top s.outer && nat_le 1000 (length s.items)

abbrev pub is_deep : Stack → Bool
is_deep s = nat_le 200 (length s.outer)

abbrev pub put : Stack → PlainTree → Stack
put s t = record { items = s.items ++ t ∷ []; outer = s.outer }

abbrev pub opened : Stack → Place → Stack
opened s p = record { items = []; outer = record { place = p; items = s.items } ∷ s.outer }

abbrev pub put_unless_full : Stack → Place → Stack → Result Stack Refusal
put_unless_full s p t = if is_full s then Err (fault 9 p) else Ok t

abbrev pub close_list : List Level → List PlainTree → Place → Result Stack Refusal
close_list [] items p = Err (fault 3 p)
close_list (l ∷ ls) items p = Ok record { items = l.items ++ list l.place (trees_of items) ∷ []; outer = ls }

abbrev pub put_word : Stack → Place → List ℕ → Option ℕ → Result Stack Refusal
put_word s p w (Some code) = Err (fault code p)
put_word s p w None = put_unless_full s p (put s (word_tree p w))

abbrev pub step : Stack → Token → Result Stack Refusal
step s (bad p) = Err (fault 2 p)
step s (closing p) = close_list s.outer s.items p
step s (opening p) = if is_deep s then Err (fault 8 p) else put_unless_full s p (opened s p)
step s (word p w) = put_word s p w (word_fault w)

abbrev pub finish : List Level → List PlainTree → Result PlainTrees Refusal
finish [] items = Ok (trees_of items)
finish (l ∷ ls) items = Err (fault 4 l.place)

abbrev pub go : Result Stack Refusal → (Stack → Result PlainTrees Refusal) → Result PlainTrees Refusal
go (Ok s) next = next s
go (Err r) next = Err r

-- what is read of the tokens from the stack on
abbrev pub reading : List Token → Stack → Result PlainTrees Refusal
reading [] s = finish s.outer s.items
reading (t ∷ ts) s = go (step s t) (reading ts)
