-- The matches of accepted words are what their parts give.
use Rattle.std.proofs.Common.{◌≡◌, List, true, refl, codes}
use Rattle.std.specs.List.{list_all}
use Rattle.clap.specs.Walk.{Text}
use Rattle.clap.specs.Simple.{matches_of}
use Rattle.qk_enum_words.specs.declared.options.OptionName.{OptionName}
use Rattle.qk_enum_words.specs.declared.options.OptionName.TheVariants.{Depth, Cases, Fuel, Workers}
use Rattle.qk_enum_words.specs.Accepted.{IsSpelling}
use Rattle.qk_enum_words.specs.Matches.{AreMatches}
use Rattle.qk_enum_words.specs.Options.{option_text}
use Rattle.qk_enum_words.specs.Parts.{Part}
use Rattle.qk_enum_words.specs.EnumCommand.{quicker_enum}
use Rattle.qk_enum_words.proofs.Steps.{shape}
use Rattle.qk_enum_words.proofs.Taken.{given_of, leaves}

no_default : (n : OptionName) → list_all (leaves (option_text n)) shape.rules ≡ true
no_default Depth = refl
no_default Cases = refl
no_default Fuel = refl
no_default Workers = refl

pub matched : (words : List Text) (ps : List Part) → IsSpelling words ps → AreMatches ps (matches_of quicker_enum words)
matched words ps h = record {
  values = λ n. given_of words ps h (option_text n) (no_default n);
  file = given_of words ps h (codes "file") refl;
  parts = h.parts;
  named = h.file;
}
