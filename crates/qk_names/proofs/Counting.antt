-- How declarations change how many items of each sort there are.
use Rattle.std.proofs.Common.{◌≡◌, ◌∙◌, ◌⊎◌, inl, inr, ℕ, ◌+◌, Bool, true, false, cond, List, [], ◌∷◌, ◌++◌, not, Ok, refl, sym, ap, subst, add-zero, arith}
use Rattle.std.proofs.lemmas.List.Sums.{sum_by_push}
use Rattle.qk_names.specs.NameTable.{count_in, Counted, KeepsCounts, Declares}
use Rattle.std.specs.Result.{result_unwrap_or}
use Rattle.qk_base.specs.declared.place.Place.{Place}
use Rattle.qk_names.specs.Checks.{check, ◌>>◌}
use Rattle.qk_names.specs.Names.{Declared, declare, is_known, is_of, number_of, numbered}
use Rattle.qk_names.specs.Reserved.{Word}
use Rattle.qk_names.specs.declared.names.Counts.{Counts}
use Rattle.qk_names.specs.declared.names.Item.{Item}
use Rattle.qk_names.specs.declared.names.Item.TheVariants as items
use Rattle.qk_names.specs.declared.names.Named.{Named}
use Rattle.qk_names.specs.declared.names.Named.TheVariants as named

-- one more at the end
pub counted_last : (names : List Declared) (d : Declared) (item : Item) → number_of (names ++ d ∷ []) item ≡ number_of names item + cond (is_of item d.named) 1 0
counted_last names d item = sum_by_push (λ x. cond (is_of item x.named) 1 0) names d

-- the sort of an item is its own alone
sorts : (item other : Item) (n : ℕ) → ((other ≡ item) × (is_of other (numbered item n) ≡ true)) ⊎ ((other ≡ item → ⊥) × (is_of other (numbered item n) ≡ false))
sorts items.Kind items.Kind n = inl (refl, refl)
sorts items.Function items.Function n = inl (refl, refl)
sorts items.Generator items.Generator n = inl (refl, refl)
sorts items.Model items.Model n = inl (refl, refl)
sorts items.Property items.Property n = inl (refl, refl)
sorts item other n = inr ((λ e. cc), refl)

pub counted_item : (item : Item) (before after : Counts) (n : ℕ) (w : Word) (names : List Declared) → Counted before names → count_in after item ≡ count_in before item + 1
    → ((other : Item) → (other ≡ item → ⊥) → count_in after other ≡ count_in before other) → Counted after (names ++ record { name = w; named = numbered item n } ∷ [])
counted_item item before after n w names was same others other = by (sorts item other n)
  where
    last : number_of (names ++ record { name = w; named = numbered item n } ∷ []) other ≡ number_of names other + cond (is_of other (numbered item n)) 1 0
    last = counted_last names (record { name = w; named = numbered item n }) other

    by : ((other ≡ item) × (is_of other (numbered item n) ≡ true)) ⊎ ((other ≡ item → ⊥) × (is_of other (numbered item n) ≡ false)) → count_in after other ≡ number_of (names ++ record { name = w; named = numbered item n } ∷ []) other
    by (inl h) =
        let one : count_in after other ≡ count_in before other + 1 = subst (λ i. count_in after i ≡ count_in before i + 1) (sym h.0) same in
        one ∙ ap (λ k. k + 1) (was other) ∙ sym (last ∙ ap (λ b. number_of names other + cond b 1 0) h.1)
    by (inr h) = others other h.0 ∙ was other ∙ sym (last ∙ ap (λ b. number_of names other + cond b 1 0) h.1 ∙ add-zero (number_of names other))

maker_is_no_item : (item : Item) (k m : ℕ) → is_of item (named.Maker k m) ≡ false
maker_is_no_item items.Kind k m = refl
maker_is_no_item items.Function k m = refl
maker_is_no_item items.Generator k m = refl
maker_is_no_item items.Model k m = refl
maker_is_no_item items.Property k m = refl

pub maker_keeps : (names after : List Declared) (w : Word) (k m : ℕ) → Declares names w (named.Maker k m) after → KeepsCounts names after
maker_keeps names after w k m e c was item =
    let d : Declared = record { name = w; named = named.Maker k m } in
    was item ∙ sym (ap (λ ds. number_of ds item) e ∙ counted_last names d item ∙ ap (λ b. number_of names item + cond b 1 0) (maker_is_no_item item k m) ∙ add-zero (number_of names item))

pub declare_adds : (names after : List Declared) (p : Place) (w : Word) (what : Named) → declare names p w what ≡ Ok after → Declares names w what after
declare_adds names after p w what = by (is_known names w)
  where
    with_it : List Declared
    with_it = names ++ record { name = w; named = what } ∷ []

    by : (b : Bool) → (check (not b) 21 p >> Ok with_it) ≡ Ok after → after ≡ with_it
    by true e = cc
    by false e = sym (ap (λ r. result_unwrap_or r with_it) e)
