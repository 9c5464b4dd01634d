use Rattle.std.proofs.Common.{◌≡◌, ◌∙◌, ap, is_some, sym, Some, true, rules}
use Rattle.qk_report.specs.Counted.{entry_in, key_in}
use Rattle.qk_report.proofs.Keys.{looks_up, updates_key, zero_row, kept_row}
use Rattle.qk_report.proofs.tables.Tables.take_row.Goals as goal

pub returns-clause-counts : goal.returns-clause-counts
returns-clause-counts c = λ other.
    let h = updates_key c.in_ok-own.own c.args.self.now.counts c.insert.new.self (Some 0) c.in_ok-insert.ensures.updates other in
    zero_row (entry_in c.args.self.now) (key_in c.args.key.now) other (key_in c.in_ok-own.own) _ h c.in_ok-own.ensures
    (ap is_some (sym (looks_up c.args.key.now c.args.self.now.counts)) ∙ sym c.contains_key.ensures ∙ c.if-contains_key.false)

pub returns-clause-rows : goal.returns-clause-rows
returns-clause-rows c = λ other there.
    let h = updates_key c.in_ok-own.own c.args.self.now.counts c.insert.new.self (Some 0) c.in_ok-insert.ensures.updates other in
    kept_row (entry_in c.args.self.now) other (key_in c.in_ok-own.own) _ 0 h there
