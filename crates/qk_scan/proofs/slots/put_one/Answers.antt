use Rattle.std.proofs.Common.{rules, ◌<◌, length}
use Rattle.qk_scan.proofs.Filling.{right_set, filled_here, filled_stays}
use Rattle.qk_scan.proofs.slots.put_one.Goals as goal

pub returns : goal.returns
returns g c =
    let room : c.args.number < length c.args.slots.now.items = search rules in
    record {
      right = right_set (g.J.Jobs.answer_at c.args.jobs.now) c.args.slots.now.items c.args.number c.args.answer room c.requires.truth c.requires.right;
      len = search rules;
      stays = λ n h. filled_stays c.args.slots.now.items c.args.number n c.args.answer room h;
      here = λ _. filled_here c.args.slots.now.items c.args.number c.args.answer room;
    }
