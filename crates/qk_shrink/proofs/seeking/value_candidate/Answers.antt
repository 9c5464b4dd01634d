use Rattle.std.proofs.Common.{◌∙◌, ap, sym}
use Rattle.qk_value.specs.View.{view_type, view_value}
use Rattle.qk_shrink.specs.Candidates.{value_candidates}
use Rattle.qk_shrink.specs.Sought.{sought}
use Rattle.qk_shrink.specs.declared.sought.Sought.TheVariants.{Here}
use Rattle.qk_shrink.proofs.SoughtLaws.{found, not_past}
use Rattle.qk_shrink.proofs.seeking.value_candidate.Goals as goal

pub unreachable-requires : goal.unreachable-requires
unreachable-requires c =
    let kinds = c.args.kinds.now in
    let ty = view_type c.args.ty.now in
    let same = c.in_ok-candidate.ensures ∙ ap (λ d. sought (value_candidates kinds ty d) c.args.k) c.in_ok-shared.ensures in
    not_past (value_candidates kinds ty (view_value c.args.value.now)) c.args.k c.in-Past.field-0 c.requires.number (sym same ∙ c.in-Past.is)

pub returns-clause-candidate : goal.returns-clause-candidate
returns-clause-candidate c =
    let kinds = c.args.kinds.now in
    let ty = view_type c.args.ty.now in
    let same = c.in_ok-candidate.ensures ∙ ap (λ d. sought (value_candidates kinds ty d) c.args.k) c.in_ok-shared.ensures in
    found (value_candidates kinds ty (view_value c.args.value.now)) c.args.k (view_value c.in_ok-plain-in-Here.plain)
    (sym same ∙ c.in-Here.is ∙ ap Here (sym c.in_ok-plain-in-Here.ensures))
