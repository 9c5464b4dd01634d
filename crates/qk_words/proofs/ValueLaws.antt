-- The values that fit their options.
use Rattle.std.proofs.Common.{◌≡◌, ◌∙◌, ℕ, ◌^◌, ◌-◌, lit<, ◌<◌, ◌≤◌, ◌&&◌, true, List, Option, Some, None, nat_le, refl, sym, ap, subst, arith, unwrap_or}
use Rattle.std.proofs.lemmas.Bool.{and_parts, leb-true}
use Rattle.std.specs.Option.{option_map_or}
use Rattle.std.specs.Str.{all_ascii_digits}
use Rattle.qk_words.specs.declared.options.OptionName.{OptionName}
use Rattle.qk_words.specs.declared.options.OptionName.TheVariants.{Seed, Success, Ratio, MaxSize, Fuel, Workers, Window, Shrinks, Replay, Generate}
use Rattle.qk_words.specs.Options.{range_of, IsBetween, IsTaken}
use Rattle.qk_words.specs.Parts.{is_number, is_number_within, number, fits}

pub none_some : {X : Type 0} (x : X) → None ≡ Some x → ⊥
none_some x e = cc

pub some_eq : {X : Type 0} (x y : X) → Some x ≡ Some y → x ≡ y
some_eq x y e = ap (λ o. unwrap_or o x) e

pub number_is_digits : (text : List ℕ) → is_number text ≡ true → all_ascii_digits text ≡ true
number_is_digits text h = (and_parts _ _ (and_parts _ _ h).1).1

pub within_parts : (least greatest : ℕ) (v : List ℕ) → is_number_within least greatest v ≡ true → (is_number v ≡ true) × ((least ≤ number v) × (number v ≤ greatest))
within_parts least greatest v h =
    let parts = and_parts (is_number v) (nat_le least (number v) && nat_le (number v) greatest) h in
    let sides = and_parts (nat_le least (number v)) (nat_le (number v) greatest) parts.1 in
    (parts.0, (leb-true _ _ sides.0, leb-true _ _ sides.1))

-- a value that fits its option is a number that the option takes
pub record IsNumberOf (n : OptionName) (v : List ℕ) : Type 0 where
  pub digits : is_number v ≡ true
  pub taken : IsTaken n (number v)
  pub wide : number v < 2 ^ 64

number_of_range : (n : OptionName) (v : List ℕ) (least greatest : ℕ) → range_of n ≡ Some (least, greatest) → greatest < 2 ^ 64 → fits n v ≡ true → IsNumberOf n v
number_of_range n v least greatest range small h =
    let parts = within_parts least greatest v (sym (ap (λ (r : Option (ℕ × ℕ)). option_map_or (λ s. is_number_within s.0 s.1 v) r true) range) ∙ h) in
    record { digits = parts.0; taken = subst (λ r. IsBetween r (number v)) (sym range) parts.1; wide = omega (arith, parts.1.1, small) }

pub fitting : (n : OptionName) (v : List ℕ) (d : ℕ) → IsTaken n d → fits n v ≡ true → IsNumberOf n v
fitting Seed v d taken h = number_of_range Seed v 0 (2 ^ 64 - 1) refl (lit< tt) h
fitting Success v d taken h = number_of_range Success v 1 1000000 refl (lit< tt) h
fitting Ratio v d taken h = number_of_range Ratio v 1 100 refl (lit< tt) h
fitting MaxSize v d taken h = number_of_range MaxSize v 1 1000 refl (lit< tt) h
fitting Fuel v d taken h = number_of_range Fuel v 1 1000000 refl (lit< tt) h
fitting Workers v d taken h = number_of_range Workers v 1 64 refl (lit< tt) h
fitting Window v d taken h = number_of_range Window v 1 4096 refl (lit< tt) h
fitting Shrinks v d taken h = number_of_range Shrinks v 0 1024 refl (lit< tt) h
fitting Replay v d taken h = absurd taken
fitting Generate v d taken h = number_of_range Generate v 1 1000 refl (lit< tt) h
