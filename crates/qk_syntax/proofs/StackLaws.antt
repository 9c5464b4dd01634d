-- The lists that are open, as the code and the definitions keep them.
use Rattle.std.proofs.Common.{◌≡◌, ◌+◌, List, [], ◌∷◌, length, refl, ap, ◌∙◌, arith, fold, eqb, leb, ◌&&◌}
use Rattle.std.proofs.lemmas.Bool.Decides.{nat_tests}
use Rattle.std.proofs.lemmas.List.{length-map}
use Rattle.qk_syntax.specs.Reader.{Level, is_top, is_full, is_deep}
use Rattle.qk_syntax.specs.Stacks.{level_of, levels_of, stack_of}
use Rattle.qk_syntax.specs.declared.open_lists.OpenList.{OpenList}
use Rattle.qk_syntax.specs.declared.open_lists.OpenLists.{OpenLists}

onto : (ls : List OpenList) (levels : List Level) → length (fold (λ ks l. level_of l ∷ ks) levels ls) ≡ length ls + length levels
onto [] levels = omega arith
onto (l ∷ ls) levels = onto ls (level_of l ∷ levels) ∙ omega arith

pub length_levels : (ls : List OpenList) → length (levels_of ls) ≡ length ls
length_levels ls = onto ls [] ∙ omega arith

pub top_is : (levels : List Level) → is_top levels ≡ eqb (length levels) 0
top_is [] = refl
top_is (l ∷ ls) = grind (arith, nat_tests)

pub top_levels : (ls : List OpenList) → is_top (levels_of ls) ≡ eqb (length ls) 0
top_levels ls = top_is (levels_of ls) ∙ ap (λ n. eqb n 0) (length_levels ls)

pub full_is : (s : OpenLists) → is_full (stack_of s) ≡ (eqb (length s.outer.items) 0 && leb 1000 (length s.items.items))
full_is s = simp (top_levels, length-map)

pub deep_is : (s : OpenLists) → is_deep (stack_of s) ≡ leb 200 (length s.outer.items)
deep_is s = ap (λ n. leb 200 n) (length_levels s.outer.items)
