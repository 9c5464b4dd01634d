-- Accepted words give settings, and one alone.
use Rattle.std.proofs.Common.{◌≡◌, ◌∙◌, ℕ, true, List, Option, Some, None, is_some, codes, refl, sym, ap, true≢false}
use Rattle.std.specs.Option.{option_map_or}
use Rattle.qk_words.specs.Parts.{number}
use Rattle.qk_words.proofs.ValueLaws.{some_eq}
use Rattle.qk_enum_words.specs.declared.options.OptionName.{OptionName}
use Rattle.qk_enum_words.specs.declared.options.OptionName.TheVariants.{Depth, Cases, Fuel, Workers}
use Rattle.qk_enum_words.specs.Accepted.{IsAccepted, IsSpelling}
use Rattle.qk_enum_words.specs.Given.{number_given, Gives, AreSettings}
use Rattle.qk_enum_words.specs.Options.{Text, option_text}
use Rattle.qk_enum_words.specs.Parts.{Part, given}
use Rattle.qk_enum_words.specs.SettingsData.{SettingsData}
use Rattle.qk_enum_words.proofs.Matched.{matched}

-- two lists of parts that give the same
record GiveSame (ps qs : List Part) : Type 0 where
  values : (n : OptionName) → given (option_text n) ps ≡ given (option_text n) qs
  file : given (codes "file") ps ≡ given (codes "file") qs

give_same : (words : List Text) (ps qs : List Part) → IsSpelling words ps → IsSpelling words qs → GiveSame ps qs
give_same words ps qs h k =
    let a = matched words ps h in
    let b = matched words qs k in
    record { values = λ n. sym (a.values n) ∙ b.values n; file = sym a.file ∙ b.file }

module _ (ps qs : List Part) (same : GiveSame ps qs) where
  number_same : (n : OptionName) (d : ℕ) → number_given n d qs ≡ number_given n d ps
  number_same n d = ap (λ o. option_map_or number o d) (sym (same.values n))

one_gives : (ps qs : List Part) (s t : SettingsData) → GiveSame ps qs → Gives ps s → Gives qs t → s ≡ t
one_gives ps qs s t same g h = λ i. record {
  depth = (g.depth ∙ sym (h.depth ∙ number_same ps qs same Depth 3)) i;
  cases = (g.cases ∙ sym (h.cases ∙ number_same ps qs same Cases 100000)) i;
  fuel = (g.fuel ∙ sym (h.fuel ∙ number_same ps qs same Fuel 100000)) i;
  workers = (g.workers ∙ sym (h.workers ∙ number_same ps qs same Workers 4)) i;
  file = some_eq s.file t.file (sym g.file ∙ same.file ∙ h.file) i;
}

pub one_settings : (words : List Text) (s t : SettingsData) → AreSettings words s → AreSettings words t → s ≡ t
one_settings words s t h k = one_gives h.0 k.0 s t (give_same words h.0 k.0 h.1.0 k.1.0) h.1.1 k.1.1

settings_of : (words : List Text) (ps : List Part) (o : Option Text) → IsSpelling words ps → given (codes "file") ps ≡ o → is_some o ≡ true → (s : SettingsData) × AreSettings words s
settings_of words ps None h e k = absurd (true≢false (sym k))
settings_of words ps (Some f) h e k = (
  record { depth = number_given Depth 3 ps; cases = number_given Cases 100000 ps; fuel = number_given Fuel 100000 ps; workers = number_given Workers 4 ps; file = f },
  (ps, (h, record { depth = refl; cases = refl; fuel = refl; workers = refl; file = e })),
)

pub some_settings : (words : List Text) → IsAccepted words → (s : SettingsData) × AreSettings words s
some_settings words h = settings_of words h.0 (given (codes "file") h.0) h.1 refl h.1.file
