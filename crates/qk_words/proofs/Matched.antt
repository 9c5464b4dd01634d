-- The matches of accepted words are what their parts give.
use Rattle.std.proofs.Common.{◌≡◌, List, true, refl, codes}
use Rattle.std.specs.List.{list_all}
use Rattle.clap.specs.Walk.{Text}
use Rattle.clap.specs.Simple.{matches_of}
use Rattle.qk_words.specs.declared.options.OptionName.{OptionName}
use Rattle.qk_words.specs.declared.options.OptionName.TheVariants.{Seed, Success, Ratio, MaxSize, Fuel, Workers, Window, Shrinks, Replay, Generate}
use Rattle.qk_words.specs.Accepted.{IsSpelling}
use Rattle.qk_words.specs.Matches.{AreMatches}
use Rattle.qk_words.specs.Options.{option_text}
use Rattle.qk_words.specs.Parts.{Part}
use Rattle.qk_words.specs.QuickerCommand.{quicker}
use Rattle.qk_words.proofs.FlagTexts.{flag_told}
use Rattle.qk_words.proofs.Steps.{shape}
use Rattle.qk_words.proofs.Taken.{given_of, leaves}

no_default : (n : OptionName) → list_all (leaves (option_text n)) shape.rules ≡ true
no_default Seed = refl
no_default Success = refl
no_default Ratio = refl
no_default MaxSize = refl
no_default Fuel = refl
no_default Workers = refl
no_default Window = refl
no_default Shrinks = refl
no_default Replay = refl
no_default Generate = refl

pub matched : (words : List Text) (ps : List Part) → IsSpelling words ps → AreMatches ps (matches_of quicker words)
matched words ps h = record {
  values = λ n. given_of words ps h (option_text n) (no_default n);
  file = given_of words ps h (codes "file") refl;
  flags = flag_told words ps h;
  parts = h.parts;
  aim = h.aim;
  replay = h.replay;
}
