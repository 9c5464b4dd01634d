-- New variables, one and many.
use Rattle.std.proofs.Common.{◌≡◌, ◌∙◌, Bool, true, false, not, ◌||◌, List, [], ◌∷◌, ◌++◌, refl, sym, ap, Ok}
use Rattle.std.proofs.lemmas.List.{append_assoc, append-nil}
use Rattle.qk_base.specs.declared.place.Place.{Place}
use Rattle.qk_syntax.specs.PlainTrees.{PlainTree, number, name, list, PlainTrees, end, more}
use Rattle.qk_expressions.specs.Patterns.{is_among, pattern_variables}
use Rattle.qk_names.specs.Reserved.{Word}
use Rattle.qk_headers.specs.Scopes.{is_truth_word, new_variable, variable_at}
use Rattle.qk_wellformed.specs.IsVariable.{IsVariable, AreVariables, MayBeBound}
use Rattle.qk_wellformed.proofs.Inversion.{ok_is, bound, held, after, passing}

neither : (a b : Bool) → not (a || b) ≡ true → (a ≡ false) × (b ≡ false)
neither true b h = absurd (cc)
neither false true h = absurd (cc)
neither false false h = (refl, refl)

none : (a b : Bool) → a ≡ false → b ≡ false → not (a || b) ≡ true
none a b h k = ap (λ x. not (x || b)) h ∙ ap not k

pub new_stands : (before : List Word) (p : Place) (v w : Word) → new_variable before p v ≡ Ok w → (v ≡ w) × MayBeBound before v
new_stands before p v w h =
    held (not (is_truth_word v || is_among before v)) 21 p (Ok v) w _ (λ test same. let parts : (is_truth_word v ≡ false) × (is_among before v ≡ false) = neither _ _ test in (ok_is _ _ _ refl same, record { no_truth = parts.0; new = parts.1 })) h

pub new_given : (before : List Word) (p : Place) (v w : Word) → v ≡ w → MayBeBound before v → new_variable before p v ≡ Ok w
new_given before p v w same h = passing (not (is_truth_word v || is_among before v)) 21 p (Ok v) _ (none _ _ h.no_truth h.new) (ap Ok same)

pub variable_stands : (before : List Word) (t : PlainTree) (w : Word) → variable_at before t ≡ Ok w → IsVariable before t w
variable_stands before (number p n) w h = absurd (cc)
variable_stands before (list p ts) w h = absurd (cc)
variable_stands before (name p v) w h = new_stands before p v w h

pub variable_given : (before : List Word) (t : PlainTree) (w : Word) → IsVariable before t w → variable_at before t ≡ Ok w
variable_given before (number p n) w h = absurd h
variable_given before (list p ts) w h = absurd h
variable_given before (name p v) w (same, h) = new_given before p v w same h

pub variables_stand : (ts : PlainTrees) (before ws : List Word) → pattern_variables before ts ≡ Ok ws → (new : List Word) × (ws ≡ before ++ new) × AreVariables before ts new
variables_stand end before ws h = ([], ok_is _ _ _ refl (sym h) ∙ sym (append-nil before), tt)
variables_stand (more t ts) before ws h =
    bound (variable_at before t) (λ w. pattern_variables (before ++ w ∷ []) ts) ws _
    (λ w e r. let rest : (new : List Word) × (ws ≡ before ++ w ∷ [] ++ new) × AreVariables (before ++ w ∷ []) ts new = variables_stand ts (before ++ w ∷ []) ws r in
    (w ∷ rest.0, rest.1 ∙ append_assoc before (w ∷ []) rest.0, (variable_stands before t w e, rest.2)))
    h

pub variables_given : (ts : PlainTrees) (before ws : List Word) → AreVariables before ts ws → pattern_variables before ts ≡ Ok (before ++ ws)
variables_given end before [] h = ap Ok (sym (append-nil before))
variables_given end before (w ∷ ws) h = absurd h
variables_given (more t ts) before [] h = absurd h
variables_given (more t ts) before (w ∷ ws) (h, hs) =
    after (variable_at before t) (λ w. pattern_variables (before ++ w ∷ []) ts) w _ (variable_given before t w h) (variables_given ts (before ++ w ∷ []) ws hs ∙ ap Ok (append_assoc before (w ∷ []) ws))
