-- How much of a file is loaded.
use Rattle.std.specs.Prelude.{◌≡◌, ℕ, List, take}
use Rattle.qk_words.specs.SettingsData.{AimData, whole, replayed, generated}
use Rattle.qk_engine.specs.Generated.{generated_file}

-- what is loaded of a file with those bytes: at most one byte more than a file may have
abbrev pub IsLoaded : AimData → List ℕ → List ℕ → Type 0
IsLoaded (whole name) bytes loaded = loaded ≡ take 1048577 bytes
IsLoaded (replayed token name) bytes loaded = loaded ≡ take 1048577 bytes
IsLoaded (generated n) bytes loaded = loaded ≡ generated_file n
