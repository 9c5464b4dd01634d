use Rattle.std.proofs.Common.{◌≡◌, ◌∙◌, sym}
use Rattle.qk_names.proofs.NameTables.{named_of}
use Rattle.qk_names.proofs.names.Names.get.Goals as goal

pub returns : goal.returns
returns c = c.copied.ensures ∙ c.get.ensures.value ∙ sym (named_of (λ k. k.items) c.args.name.now c.args.self.now.table.entries)
