use Rattle.std.proofs.Common.{rules, ℕ, ◌<◌, ◌^◌, ◌+◌, length, ◌∙◌, arith, ap, slice_index_or}
use Rattle.qk_schedule.proofs.Raising.{raised_next, room_next, byte_of}
use Rattle.qk_schedule.proofs.covers.raise.Goals as goal

pub loop-i-preserved : goal.loop-i-preserved
loop-i-preserved c =
    let inv = c.loop-i.invariant in
    let below : c.loop-i.i < length c.loop-i.counts = omega arith in
    let within : c.loop-i.i < length c.args.covers.now = omega arith in
    record {
      same_length = search rules;
      room = room_next (λ (count : ℕ). count < 2 ^ 32) c.loop-i.counts c.loop-i.i _ below inv.room;
      counted = raised_next c.loop-i.counts c.args.covers.now c.loop-i.i _ below within (ap (λ n. slice_index_or c.loop-i.counts c.loop-i.i 0 + n) (c.from.ensures ∙ byte_of _)) ∙ inv.counted;
    }
