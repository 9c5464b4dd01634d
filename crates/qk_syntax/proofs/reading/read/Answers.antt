use Rattle.std.proofs.Common.{◌≡◌, ℕ, ◌≤◌, List, length, Some, None, Result, Ok, Err, IfOk, IfErr, OnOk}
use Rattle.qk_base.specs.Growing.{Growing}
use Rattle.qk_base.specs.declared.fault.Fault.{Fault}
use Rattle.qk_base.specs.declared.fault.Fault.TheVariants as faults
use Rattle.qk_syntax.specs.Refusals.{IfRefusal}
use Rattle.qk_syntax.specs.Spelling.{Spells}
use Rattle.qk_syntax.specs.TextFault.{text_fault}
use Rattle.qk_syntax.specs.View.{views}
use Rattle.qk_syntax.specs.declared.tree.Tree.{Tree}
use Rattle.qk_syntax.proofs.TextRead.{read_of, refused_fault, read_no_fault, read_spells}
use Rattle.qk_syntax.proofs.reading.read.Goals as goal

spelled : (r : Result (Growing Tree) Fault) (bytes : List ℕ) → length bytes ≤ 1048576 → IfOk r (λ trees. read_of bytes ≡ Ok (views trees.items)) → IfOk r (λ trees. Spells bytes (views trees.items))
spelled (Ok trees) bytes h e = read_spells bytes (views trees.items) h e
spelled (Err f) bytes h e = e

faultless : (r : Result (Growing Tree) Fault) (bytes : List ℕ) → length bytes ≤ 1048576 → IfOk r (λ trees. read_of bytes ≡ Ok (views trees.items)) → OnOk r (text_fault bytes ≡ None)
faultless (Ok trees) bytes h e = read_no_fault bytes (views trees.items) h e
faultless (Err f) bytes h e = e

faulty : (r : Result (Growing Tree) Fault) (bytes : List ℕ) → length bytes ≤ 1048576 → IfErr r (λ f. IfRefusal f (λ r. read_of bytes ≡ Err r)) → IfErr r (λ f. IfRefusal f (λ r. text_fault bytes ≡ Some r))
faulty (Ok trees) bytes h e = e
faulty (Err faults.Memory) bytes h e = e
faulty (Err (faults.Refused r)) bytes h e = refused_fault bytes r h e

pub returns-clause-trees : goal.returns-clause-trees
returns-clause-trees c = spelled c.read_short.result c.args.bytes.now c.if-bytes-gt-MOST_BYTES.false c.read_short.ensures.ok

pub returns-clause-whole : goal.returns-clause-whole
returns-clause-whole c = faultless c.read_short.result c.args.bytes.now c.if-bytes-gt-MOST_BYTES.false c.read_short.ensures.ok

pub returns-clause-refused : goal.returns-clause-refused
returns-clause-refused c = faulty c.read_short.result c.args.bytes.now c.if-bytes-gt-MOST_BYTES.false c.read_short.ensures.refused
