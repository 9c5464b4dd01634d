-- Texts, their trees and their faults.
use Rattle.std.proofs.Common.{◌≡◌, ℕ, ◌≤◌, Bool, true, false, cond, List, [], length, ltb, refl, sym, ap, ◌∙◌, arith, Some, None, Result, Ok, Err}
use Rattle.std.specs.Result.{result_err}
use Rattle.std.proofs.lemmas.Bool.Decides.{nat_tests}
use Rattle.qk_base.specs.declared.place.Refusal.{Refusal}
use Rattle.qk_syntax.specs.Places.{start}
use Rattle.qk_syntax.specs.PlainTrees.{PlainTrees}
use Rattle.qk_syntax.specs.Reader.{free, scan, reading}
use Rattle.qk_syntax.specs.Spelling.{Spells}
use Rattle.qk_syntax.specs.Stacks.{bottom}
use Rattle.qk_syntax.specs.TextFault.{fault, text_fault, fault_of_tokens}
use Rattle.qk_syntax.specs.Tokens.{tokens}
use Rattle.qk_syntax.proofs.Complete.{spelled_is_read}
use Rattle.qk_syntax.proofs.FaultsRead.{fault_read}
use Rattle.qk_syntax.proofs.Places.{scan_ordered}
use Rattle.qk_syntax.proofs.Sound.{read_is_spelled}
use Rattle.qk_syntax.proofs.TokensScanned.{tokens_scanned}

-- what is read of the text
abbrev pub read_of : List ℕ → Result PlainTrees Refusal
read_of bytes = reading (scan bytes free start) bottom

tokens_read : (bytes : List ℕ) → reading (tokens bytes) bottom ≡ read_of bytes
tokens_read bytes = ap (λ ts. reading ts bottom) (tokens_scanned bytes)

fault_of_scan : (bytes : List ℕ) → fault_of_tokens (tokens bytes) ≡ result_err (read_of bytes)
fault_of_scan bytes = ap fault_of_tokens (tokens_scanned bytes) ∙ fault_read (scan bytes free start) start (scan_ordered bytes free start)

not_long : (bytes : List ℕ) → length bytes ≤ 1048576 → ltb 1048576 (length bytes) ≡ false
not_long bytes h = grind (arith, nat_tests)

short_fault : (bytes : List ℕ) → length bytes ≤ 1048576 → text_fault bytes ≡ result_err (read_of bytes)
short_fault bytes h = ap (λ t. cond t (Some (fault 1 start)) (fault_of_tokens (tokens bytes))) (not_long bytes h) ∙ fault_of_scan bytes

pub refused_fault : (bytes : List ℕ) (r : Refusal) → length bytes ≤ 1048576 → read_of bytes ≡ Err r → text_fault bytes ≡ Some r
refused_fault bytes r h e = short_fault bytes h ∙ ap result_err e

pub read_no_fault : (bytes : List ℕ) (trees : PlainTrees) → length bytes ≤ 1048576 → read_of bytes ≡ Ok trees → text_fault bytes ≡ None
read_no_fault bytes trees h e = short_fault bytes h ∙ ap result_err e

pub read_spells : (bytes : List ℕ) (trees : PlainTrees) → length bytes ≤ 1048576 → read_of bytes ≡ Ok trees → Spells bytes trees
read_spells bytes trees h e =
    let s = read_is_spelled (tokens bytes) [] [] [] trees refl (omega arith) (tokens_read bytes ∙ e) in
    record { short = h; few = s.1; spelled = s.0 }

pub spells_reads : (bytes : List ℕ) (trees : PlainTrees) → Spells bytes trees → read_of bytes ≡ Ok trees
spells_reads bytes trees s = sym (tokens_read bytes) ∙ spelled_is_read trees (tokens bytes) s.few s.spelled

-- no text with trees has a fault
pub spelled_has_no_fault : (bytes : List ℕ) (trees : PlainTrees) → Spells bytes trees → text_fault bytes ≡ None
spelled_has_no_fault bytes trees s = read_no_fault bytes trees s.short (spells_reads bytes trees s)

-- and each text without a fault has trees
long_fault : (bytes : List ℕ) → text_fault bytes ≡ None → length bytes ≤ 1048576
long_fault bytes e = by (ltb 1048576 (length bytes)) refl e
  where
    by : (t : Bool) → t ≡ ltb 1048576 (length bytes) → cond t (Some (fault 1 start)) (fault_of_tokens (tokens bytes)) ≡ None → length bytes ≤ 1048576
    by true h e = absurd (cc)
    by false h e = grind (arith, nat_tests)

has_trees : (bytes : List ℕ) (r : Result PlainTrees Refusal) → length bytes ≤ 1048576 → read_of bytes ≡ r → result_err r ≡ None → (trees : PlainTrees) × Spells bytes trees
has_trees bytes (Ok trees) h e k = (trees, read_spells bytes trees h e)
has_trees bytes (Err r) h e k = absurd (cc)

pub faultless_is_spelled : (bytes : List ℕ) → text_fault bytes ≡ None → (trees : PlainTrees) × Spells bytes trees
faultless_is_spelled bytes e =
    let h = long_fault bytes e in
    has_trees bytes (read_of bytes) h refl (sym (short_fault bytes h) ∙ e)

-- a text has one list of trees
pub one_spelling : (bytes : List ℕ) (t u : PlainTrees) → Spells bytes t → Spells bytes u → t ≡ u
one_spelling bytes t u a b =
    let e : read_of bytes ≡ Ok t = spells_reads bytes t a in
    let f : read_of bytes ≡ Ok u = spells_reads bytes u b in
    cc
