use Rattle.std.proofs.Common.{◌++◌}
use Rattle.qk_generators.specs.DrawingView.{gen_form_in}
use Rattle.qk_generators.specs.GenHeads.{range_and_list, vector_and_pair, one_among, weighed, resized_and_bound, pure_value}
use Rattle.qk_typing.proofs.Forms.{joined}
use Rattle.qk_generators.proofs.gen_heads.reserved_gen_form.Goals as goal

pub returns : goal.returns
returns c =
    let w = c.args.word.now in
    let vectors = joined gen_form_in w range_and_list vector_and_pair _ _ _ c.range_or_list.ensures c.vector_or_pair.ensures c.or.ensures in
    let among = joined gen_form_in w (range_and_list ++ vector_and_pair) one_among _ _ _ vectors c.one_of_some.ensures c.or-2.ensures in
    let weighty = joined gen_form_in w (range_and_list ++ vector_and_pair ++ one_among) weighed _ _ _ among c.weighed_form.ensures c.or-3.ensures in
    let bound = joined gen_form_in w (range_and_list ++ vector_and_pair ++ one_among ++ weighed) resized_and_bound _ _ _ weighty c.resized_or_bound.ensures c.or-4.ensures in
    joined gen_form_in w (range_and_list ++ vector_and_pair ++ one_among ++ weighed ++ resized_and_bound) pure_value _ _ _ bound c.pure_form.ensures c.or-5.ensures
