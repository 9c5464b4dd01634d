-- The innermost variable, and variables that are added.
use Rattle.std.proofs.Common.{◌≡◌, ◌∙◌, ℕ, ◌+◌, ◌≤◌, ◌<◌, Bool, true, false, cond, List, [], ◌∷◌, map, refl, sym, ap, subst, min, length, length-append, take, drop, get_or, arith, ◌⊎◌, inl, inr, Option, Some, None}
use Rattle.std.specs.Prelude.{slice_get, IfSome}
use Rattle.std.specs.Option.{option_map, option_or}
use Rattle.std.specs.Str.{bytes_eq}
use Rattle.std.proofs.lemmas.List.{take_all, take-append-le, drop_all, at_drop_more}
use Rattle.std.proofs.lemmas.Option.{slice_get-get_or}
use Rattle.qk_value.specs.Types.{TypeData}
use Rattle.qk_typing.specs.PartsView.{found_at}
use Rattle.qk_names.specs.Reserved.{Word}
use Rattle.qk_headers.specs.Scopes.{VariableData, Scope, Found, variable_after, bind, bind_all}
use Rattle.qk_names.proofs.ListParts.{either}

or-assoc : {A : Type 0} (a b c : Option A) → option_or (option_or a b) c ≡ option_or a (option_or b c)
or-assoc None b c = refl
or-assoc (Some x) b c = refl

abbrev numbered : ℕ → VariableData → Found
numbered i v = record { index = i; ty = v.ty }

-- the variable at an index, where it has the name, comes before those found so far
here : (b : Bool) (s : Scope) (i : ℕ) (v : VariableData) (f : Option ℕ) → slice_get s i ≡ Some v → option_or (cond b (Some (numbered i v)) None) (found_at s f) ≡ found_at s (cond b (Some i) f)
here true s i v f same = sym (ap (option_map (numbered i)) same)
here false s i v f same = refl

module _ (s : Scope) (w : Word) (i : ℕ) (f g : Option ℕ) (v : VariableData) (lt : i < length s) (is : v ≡ get_or s i v) (next : g ≡ cond (bytes_eq v.name w) (Some i) f) where
  -- one variable more is looked at
  pub later_found : (all : Option Found) → all ≡ option_or (variable_after i (drop i s) w) (found_at s f) → all ≡ option_or (variable_after (i + 1) (drop (i + 1) s) w) (found_at s g)
  later_found all so =
      let rest = variable_after (i + 1) (drop (i + 1) s) w in
      let there : slice_get s i ≡ Some v = slice_get-get_or s i v lt ∙ ap Some (sym is) in
      so ∙ at_drop_more (λ x. option_or (variable_after i x w) (found_at s f)) s i v lt
      ∙ ap (λ x. option_or (variable_after i (x ∷ drop (i + 1) s) w) (found_at s f)) (sym is)
      ∙ or-assoc rest (cond (bytes_eq v.name w) (Some (numbered i v)) None) (found_at s f)
      ∙ ap (option_or rest) (here (bytes_eq v.name w) s i v f there ∙ ap (found_at s) (sym next))

within : (b : Bool) (i n : ℕ) (f : Option ℕ) → i < n → IfSome f (λ k. k < n) → IfSome (cond b (Some i) f) (λ k. k < n)
within true i n f lt h = lt
within false i n f lt h = h

pub later_within : (b : Bool) (i n : ℕ) (f g : Option ℕ) → g ≡ cond b (Some i) f → i < n → IfSome f (λ k. k < n) → IfSome g (λ k. k < n)
later_within b i n f g next lt h = subst (λ o. IfSome o (λ k. k < n)) (sym next) (within b i n f lt h)

no_types : (s : Scope) (ws : List Word) → bind_all s ws [] ≡ s
no_types s [] = refl
no_types s (w ∷ ws) = refl

module _ {A B : Type 0} (f : A → Word) (g : B → TypeData) (s : Scope) (ws : List A) (ts : List B) (i : ℕ) where
  ended : (length ws ≤ i) ⊎ (length ts ≤ i) → bind_all s (map f (drop i ws)) (map g (drop i ts)) ≡ s
  ended (inl h) = ap (λ x. bind_all s (map f x) (map g (drop i ts))) (drop_all i ws h)
  ended (inr h) = ap (λ x. bind_all s (map f (drop i ws)) (map g x)) (drop_all i ts h) ∙ no_types s (map f (drop i ws))

  -- no variable is left to add where the names or the types end
  pub none_left : min (length ws) (length ts) ≤ i → bind_all s (map f (drop i ws)) (map g (drop i ts)) ≡ s
  none_left h = ended (either (length ws) (length ts) i h)

-- added variables stand behind those before
pub kept : (n : ℕ) (s : Scope) (ws : List Word) (ts : List TypeData) → n ≤ length s → take n (bind_all s ws ts) ≡ take n s
kept n s [] ts h = refl
kept n s (w ∷ ws) [] h = refl
kept n s (w ∷ ws) (t ∷ ts) h =
    let added : VariableData = record { name = w; ty = t } in
    let long = length-append s (added ∷ []) in
    kept n (bind s w t) ws ts (omega arith) ∙ take-append-le n s (added ∷ []) h

-- without the variables that were added
pub unbound : (s after : Scope) (ws : List Word) (ts : List TypeData) → after ≡ take (length s) (bind_all s ws ts) → after ≡ s
unbound s after ws ts h = h ∙ kept (length s) s ws ts (omega arith) ∙ take_all (length s) s (omega arith)
