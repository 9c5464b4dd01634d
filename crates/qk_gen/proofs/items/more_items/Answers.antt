use Rattle.std.proofs.Common.{refl}
use Rattle.std.proofs.lemmas.List.Sums.{fold_push}
use Rattle.qk_core.specs.GenView.{view_gen}
use Rattle.qk_gen.specs.Drawing.{Draws, drawing}
use Rattle.qk_gen.proofs.PendingLaws.{and_then_again, listed_more}
use Rattle.qk_value.specs.Data.{Data}
use Rattle.qk_gen.proofs.items.more_items.Goals as goal

pub returns : goal.returns
returns c = λ functions generators env u.
    let draw : Draws Data = λ h v. drawing functions generators (view_gen c.args.item.now) env c.args.size h v in
    let more = listed_more draw c.args.more c.args.weight c.args.done.items c.args.g u c.if-more-eq0.false in
    rw (more, c.in_ok-next.ensures.next, c.in_ok-next.ensures.frames, c.split-left.ensures.left, c.split-left.ensures.right, fold_push, and_then_again) refl
