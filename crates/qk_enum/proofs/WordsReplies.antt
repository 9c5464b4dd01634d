-- What words name is what their settings name.
use Rattle.std.proofs.Common.{◌≡◌, ◌∙◌, ℕ, List, Option, Some, refl, sym, ap}
use Rattle.qk_enum.specs.Reply.{Names, Tells}
use Rattle.qk_enum_words.specs.Given.{AreSettings}
use Rattle.qk_enum_words.specs.SettingsData.{SettingsData}
use Rattle.qk_enum_words.proofs.OneAnswer.{one_settings}

module _ (words : List (List ℕ)) (d : SettingsData) (are : AreSettings words d) where
  pub names_own : Names words d.file
  names_own = (d, are, refl)

  pub named_is : (file : List ℕ) → Names words file → d.file ≡ file
  named_is file named = sym (ap (λ e. e.file) (one_settings words named.0 d named.1 are)) ∙ named.2

  pub tells_own : (holds : List ℕ → Option (List ℕ)) (bytes : List ℕ) → Tells holds words bytes → holds d.file ≡ Some bytes
  tells_own holds bytes told = told d.file names_own

  pub held_own : (holds : List ℕ → Option (List ℕ)) (file bytes : List ℕ) → Names words file → holds file ≡ Some bytes → holds d.file ≡ Some bytes
  held_own holds file bytes named held = ap holds (named_is file named) ∙ held
