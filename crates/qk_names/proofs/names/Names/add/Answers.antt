use Rattle.qk_names.proofs.NameTables.{inserted}
use Rattle.qk_names.proofs.names.Names.add.Goals as goal

pub returns : goal.returns
returns c =
    inserted (λ k. k.items) c.args.self.now.table c.in_ok-key.key c.args.named c.args.name.now c.insert.new.self.entries c.in_ok-insert.ensures.entries c.in_ok-key.ensures.items c.requires
