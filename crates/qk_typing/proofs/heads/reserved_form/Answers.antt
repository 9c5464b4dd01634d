use Rattle.std.proofs.Common.{◌++◌}
use Rattle.qk_typing.specs.HeadForms.{choice_forms, number_forms, truth_forms, list_forms, whole_list_forms, part_forms}
use Rattle.qk_typing.specs.PartsView.{form_in}
use Rattle.qk_typing.proofs.Forms.{joined}
use Rattle.qk_typing.proofs.heads.reserved_form.Goals as goal

pub returns : goal.returns
returns c =
    let w = c.args.word.now in
    let numbers = joined form_in w choice_forms number_forms _ _ _ c.choice_form.ensures c.number_form.ensures c.or.ensures in
    let truths = joined form_in w (choice_forms ++ number_forms) truth_forms _ _ _ numbers c.truth_form.ensures c.or-2.ensures in
    let lists = joined form_in w (choice_forms ++ number_forms ++ truth_forms) list_forms _ _ _ truths c.list_form.ensures c.or-3.ensures in
    let whole = joined form_in w (choice_forms ++ number_forms ++ truth_forms ++ list_forms) whole_list_forms _ _ _ lists c.whole_list_form.ensures c.or-4.ensures in
    joined form_in w (choice_forms ++ number_forms ++ truth_forms ++ list_forms ++ whole_list_forms) part_forms _ _ _ whole c.part_form.ensures c.or-5.ensures
