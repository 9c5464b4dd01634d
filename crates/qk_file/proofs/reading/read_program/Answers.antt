use Rattle.std.proofs.Common.{◌≤◌, ℕ, subst}
use Rattle.qk_names.proofs.Sequencing.{count_views}
use Rattle.qk_file.proofs.reading.read_program.Goals as goal

pub checked-requires : goal.checked-requires
checked-requires c = subst (λ (n : ℕ). n ≤ 1000) (count_views c.in-Ok.trees.items) c.in-Ok.ensures.trees.few
