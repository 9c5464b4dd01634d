-- The values that parts give.
use Rattle.std.proofs.Common.{◌≡◌, ◌∙◌, Bool, true, false, List, [], ◌∷◌, Some, None, option_map, cond, codes, refl, ap, subst}
use Rattle.std.specs.Cmp.Lexicographic.{bytes_decides}
use Rattle.std.specs.List.{find, list_all}
use Rattle.std.specs.Str.{bytes_eq}
use Rattle.qk_enum_words.specs.declared.options.OptionName.{OptionName}
use Rattle.qk_enum_words.specs.Options.{Text, option_text}
use Rattle.qk_enum_words.specs.Parts.{Part, split, joined, file, key_of, value_of, given, is_part, fits}
use Rattle.qk_enum_words.specs.Walk.{option_of}
use Rattle.qk_enum_words.proofs.KeyLaws.{option_one, split_read}
use Rattle.qk_words.proofs.Rows.{both}
use Rattle.qk_words.proofs.ValueLaws.{none_some, some_eq}
use Rattle.qk_enum_words.proofs.ValueLaws.{fitting, IsNumberOf}

key_fits : (p : Part) (n : OptionName) → is_part p ≡ true → bytes_eq (key_of p) (option_text n) ≡ true → fits n (value_of p) ≡ true
key_fits (split m v) n part e = subst (λ k. fits k v ≡ true) (option_one m n e) (both _ _ part).1
key_fits (joined m v) n part e = subst (λ k. fits k v ≡ true) (option_one m n e) (both _ _ part).1
key_fits (file t) n part e =
    let same : codes "file" ≡ option_text n = (bytes_decides (codes "file") (option_text n)).0 e in
    absurd (none_some (n, None) (ap option_of same ∙ split_read n))

pub given_fits : (n : OptionName) (ps : List Part) (v : Text) → list_all is_part ps ≡ true → given (option_text n) ps ≡ Some v → fits n v ≡ true
given_fits n [] v parts e = absurd (none_some v e)
given_fits n (p ∷ ps) v parts e =
    let good = both _ _ parts in
    by (bytes_eq (key_of p) (option_text n)) refl e good.0 (given_fits n ps v good.1)
  where
    by : (b : Bool) → bytes_eq (key_of p) (option_text n) ≡ b → option_map value_of (cond b (Some p) (find (λ q. bytes_eq (key_of q) (option_text n)) ps)) ≡ Some v
        → is_part p ≡ true → (given (option_text n) ps ≡ Some v → fits n v ≡ true) → fits n v ≡ true
    by true q k part rest = subst (λ t. fits n t ≡ true) (some_eq (value_of p) v k) (key_fits p n part q)
    by false q k part rest = rest k

-- a number that is given is one that its option takes
pub given_number : (n : OptionName) (ps : List Part) (v : Text) → list_all is_part ps ≡ true → given (option_text n) ps ≡ Some v → IsNumberOf n v
given_number n ps v parts e = fitting n v (given_fits n ps v parts e)
