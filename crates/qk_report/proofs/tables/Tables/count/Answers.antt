use Rattle.std.proofs.Common.{◌≡◌, ◌∙◌, sym, Some, refl, rules}
use Rattle.qk_report.specs.Counted.{entry_in, key_in}
use Rattle.qk_report.proofs.Keys.{counted_row, looks_up, same_rows, updates_key}
use Rattle.qk_report.proofs.tables.Tables.count.Goals as goal

pub returns-in-Some-clause-counts : goal.returns-in-Some-clause-counts
returns-in-Some-clause-counts c = λ other n count.
    let w = c.saturating_add.result in
    let was : entry_in c.args.self.now (key_in c.args.key.now) ≡ Some c.in-Some.count.now = sym (looks_up c.args.key.now c.args.self.now.counts) ∙ search rules in
    let h = updates_key c.args.key.now c.args.self.now.counts (c.get_mut.follows.lender w) (Some w) ((c.get_mut.follows.holds w).3 (search rules)) other in
    counted_row (entry_in c.args.self.now) (key_in c.args.key.now) other _ c.in-Some.count.now w n h was c.saturating_add.ensures count

pub returns-in-Some-clause-rows : goal.returns-in-Some-clause-rows
returns-in-Some-clause-rows c = λ other.
    let w = c.saturating_add.result in
    let was : entry_in c.args.self.now (key_in c.args.key.now) ≡ Some c.in-Some.count.now = sym (looks_up c.args.key.now c.args.self.now.counts) ∙ search rules in
    let h = updates_key c.args.key.now c.args.self.now.counts (c.get_mut.follows.lender w) (Some w) ((c.get_mut.follows.holds w).3 (search rules)) other in
    same_rows (entry_in c.args.self.now) other (key_in c.args.key.now) _ w c.in-Some.count.now h was
