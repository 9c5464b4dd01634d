-- The command that reads accepted words.
use Rattle.std.specs.Prelude.{Some, codes, true, []}
use Rattle.clap.specs.Words.{App, Rule, Text, new_app, new_rule, with_rule}
use Rattle.clap.specs.declared.builder.ArgAction.TheVariants.{Set}

abbrev pub valued : Text → Rule
valued id = record (new_rule id) { long = Some id; action = Some Set }

abbrev pub unnamed : Text → Rule
unnamed id = record (new_rule id) { action = Some Set }

abbrev pub bare_app : App
bare_app = record { top = record (new_app (codes "quicker_enum")).top { no_binary_name = true; disable_help_flag = true }; subs = [] }

-- with its options
abbrev pub with_options : App → App
with_options app = with_rule (with_rule (with_rule (with_rule app (valued (codes "depth"))) (valued (codes "cases"))) (valued (codes "fuel"))) (valued (codes "workers"))

abbrev pub quicker_enum : App
quicker_enum = with_rule (with_options bare_app) (unnamed (codes "file"))
