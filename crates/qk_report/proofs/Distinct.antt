-- The distinct texts of a list and of one text more.
use Rattle.std.proofs.Common.{◌≡◌, ◌∙◌, ◌+◌, ◌<◌, ℕ, Bool, true, false, cond, not, ◌||◌, List, [], ◌∷◌, ◌++◌, filter, get_or, length, map, refl, sym, take, ap}
use Rattle.std.proofs.lemmas.List.{append-nil, map-append, take_more}
use Rattle.std.specs.List.{list_any}
use Rattle.std.specs.Str.{bytes_eq}
use Rattle.std.specs.Cmp.Lexicographic.{nat_list_eq_equiv}
use Rattle.qk_report.specs.Tables.{Text, distinct}

abbrev without : Text → List Text → List Text
without x ts = filter (λ other. not (bytes_eq x other)) ts

-- taking another text out does not matter
any_without : (x t : Text) → bytes_eq x t ≡ false → (ts : List Text) → list_any (bytes_eq t) (without x ts) ≡ list_any (bytes_eq t) ts
any_without x t apart [] = refl
any_without x t apart (d ∷ ds) = by (bytes_eq x d) refl (any_without x t apart ds)
  where
    by : (b : Bool) → bytes_eq x d ≡ b → list_any (bytes_eq t) (without x ds) ≡ list_any (bytes_eq t) ds
        → list_any (bytes_eq t) (cond (not b) (d ∷ without x ds) (without x ds)) ≡ (bytes_eq t d || list_any (bytes_eq t) ds)
    by true e h =
        let no : bytes_eq t d ≡ false = nat_list_eq_equiv.symm t d ∙ sym (nat_list_eq_equiv.congr x d t e) ∙ apart in
        h ∙ ap (λ b. b || list_any (bytes_eq t) ds) (sym no)
    by false e h = ap (λ b. bytes_eq t d || b) h

without_end : (x t : Text) (ts : List Text) → without x (ts ++ t ∷ []) ≡ without x ts ++ without x (t ∷ [])
without_end x t [] = refl
without_end x t (d ∷ ds) = by (bytes_eq x d) (without_end x t ds)
  where
    by : (b : Bool) → without x (ds ++ t ∷ []) ≡ without x ds ++ without x (t ∷ [])
        → cond (not b) (d ∷ without x (ds ++ t ∷ [])) (without x (ds ++ t ∷ [])) ≡ cond (not b) (d ∷ without x ds) (without x ds) ++ without x (t ∷ [])
    by true h = h
    by false h = ap (λ us. d ∷ us) h

module _ (t x : Text) (ds : List Text) where
  abbrev ending : Bool → List Text
  ending b = cond b (x ∷ without x ds) (x ∷ without x ds ++ t ∷ [])

  here : bytes_eq x t ≡ true → ending true ≡ ending (bytes_eq t x || list_any (bytes_eq t) (without x ds))
  here e = ap (λ b. ending (b || list_any (bytes_eq t) (without x ds))) (sym (nat_list_eq_equiv.symm t x ∙ e))

  absent : bytes_eq x t ≡ false → (a : Bool) → list_any (bytes_eq t) ds ≡ a → ending a ≡ ending (bytes_eq t x || list_any (bytes_eq t) (without x ds))
  absent e a h = ap ending (sym (ap (λ b. b || list_any (bytes_eq t) (without x ds)) (nat_list_eq_equiv.symm t x ∙ e) ∙ any_without x t e ds ∙ h))

  last : (b : Bool) → bytes_eq x t ≡ b → x ∷ without x (ds ++ t ∷ []) ≡ x ∷ (without x ds ++ cond (not b) (t ∷ []) [])
  last b e = ap (λ us. x ∷ us) (without_end x t ds ∙ ap (λ b. without x ds ++ cond (not b) (t ∷ []) []) e)

  ended : (b : Bool) → bytes_eq x t ≡ b → (a : Bool) → list_any (bytes_eq t) ds ≡ a → x ∷ without x (cond a ds (ds ++ t ∷ [])) ≡ ending (bytes_eq t x || list_any (bytes_eq t) (without x ds))
  ended true e true h = here e
  ended true e false h = last true e ∙ ap (λ us. x ∷ us) (append-nil (without x ds)) ∙ here e
  ended false e true h = absent e true h
  ended false e false h = last false e ∙ absent e false h

pub distinct_end : (t : Text) (ts : List Text) → distinct (ts ++ t ∷ []) ≡ cond (list_any (bytes_eq t) (distinct ts)) (distinct ts) (distinct ts ++ t ∷ [])
distinct_end t [] = refl
distinct_end t (x ∷ xs) = ap (λ us. x ∷ without x us) (distinct_end t xs) ∙ ended t x (distinct xs) (bytes_eq x t) refl (list_any (bytes_eq t) (distinct xs)) refl

-- what is kept of a list, where one more text comes
pub kept_same : (kept ts : List Text) (t : Text) → kept ≡ distinct ts → list_any (bytes_eq t) kept ≡ true → kept ≡ distinct (ts ++ t ∷ [])
kept_same kept ts t e there = e ∙ sym (distinct_end t ts ∙ ap (λ b. cond b (distinct ts) (distinct ts ++ t ∷ [])) (ap (list_any (bytes_eq t)) (sym e) ∙ there))

pub kept_more : (kept ts : List Text) (t : Text) → kept ≡ distinct ts → list_any (bytes_eq t) kept ≡ false → kept ++ t ∷ [] ≡ distinct (ts ++ t ∷ [])
kept_more kept ts t e absent = ap (λ us. us ++ t ∷ []) e ∙ sym (distinct_end t ts ∙ ap (λ b. cond b (distinct ts) (distinct ts ++ t ∷ [])) (ap (list_any (bytes_eq t)) (sym e) ∙ absent))

-- one more item of a list that is read as texts
module _ {X : Type 0} (f : X → Text) (xs : List X) (i : ℕ) (d : X) (kept : List Text) where
  one_more : i < length xs → map f (take (i + 1) xs) ≡ map f (take i xs) ++ f (get_or xs i d) ∷ []
  one_more within = ap (map f) (take_more xs i d within) ∙ map-append f (take i xs) (get_or xs i d ∷ [])

  pub step_same : i < length xs → kept ≡ distinct (map f (take i xs)) → list_any (bytes_eq (f (get_or xs i d))) kept ≡ true → kept ≡ distinct (map f (take (i + 1) xs))
  step_same within e there = kept_same kept (map f (take i xs)) (f (get_or xs i d)) e there ∙ ap distinct (sym (one_more within))

  pub step_more : i < length xs → kept ≡ distinct (map f (take i xs)) → list_any (bytes_eq (f (get_or xs i d))) kept ≡ false → kept ++ f (get_or xs i d) ∷ [] ≡ distinct (map f (take (i + 1) xs))
  step_more within e absent = kept_more kept (map f (take i xs)) (f (get_or xs i d)) e absent ∙ ap distinct (sym (one_more within))
