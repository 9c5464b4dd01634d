use Rattle.std.proofs.Common.{rules}
use Rattle.qk_pool.specs.Workers.{IsRight}
use Rattle.qk_pool.proofs.Filling.{right_set, filled_here, filled_stays}
use Rattle.qk_pool.proofs.slots.put_one.Goals as goal

pub returns : goal.returns
returns g c = record {
  length = search rules;
  here = filled_here c.args.slots.now.items c.args.number c.args.answer c.requires.number;
  stays = λ n h. filled_stays c.args.slots.now.items c.args.number n c.args.answer c.requires.number h;
  right = right_set (IsRight (g.F.Feed.inputs c.args.feed.now) (g.T.Task.answers c.args.task.now)) c.args.slots.now.items c.args.number c.args.answer c.requires.number c.requires.right c.requires.slots;
}
