use Rattle.std.proofs.Common.{◌≡◌, ◌∙◌, ◌++◌, ap}
use Rattle.std.proofs.Crossing.{crosses}
use denote.Param.Send.{sendable}
use Rattle.qk_core.proofs.Sends.{core_sync, property_sync}
use Rattle.qk_enum_report.specs.Lines.{failed_line}
use Rattle.qk_enum_report.specs.Reach.{reach_of}
use Rattle.qk_enum_report.proofs.Sends.{counts_sync}
use Rattle.qk_enum_report.proofs.WalkLaws.{failed, number_below, same_verdicts}
use Rattle.qk_enum_report.proofs.blocks.put_block.Goals as goal

pub exhaust-requires-sync-C : goal.exhaust-requires-sync-C
exhaust-requires-sync-C g c κs within = search (core_sync, property_sync, counts_sync, crosses, sendable) depth 60 fits 20000

pub put_failure-requires-clause-number : goal.put_failure-requires-clause-number
put_failure-requires-clause-number g c =
    let core = c.args.core.now in
    let p = c.args.property.now in
    let r = reach_of c.args.settings.now in
    let made = c.make-property_cases.ensures in
    let cases = c.make-property_cases.result in
    let is = same_verdicts r core cases.core.now p cases.property.now cases.counts.now.kinds.now cases.depth cases.fuel c.in_ok-found.found
    made.core made.property (ap (λ n. n.kinds.now) made.counts ∙ c.requires.of_core) made.depth made.fuel c.in_ok-found.ensures in
    number_below r core p c.in_ok-found.found is c.in-Some.number c.requires.in_range.cases c.in-Some.is

pub returns-in_ok-put_failure-in-Some-clause-text : goal.returns-in_ok-put_failure-in-Some-clause-text
returns-in_ok-put_failure-in-Some-clause-text g c =
    let core = c.args.core.now in
    let p = c.args.property.now in
    let r = reach_of c.args.settings.now in
    let made = c.make-property_cases.ensures in
    let cases = c.make-property_cases.result in
    let is = same_verdicts r core cases.core.now p cases.property.now cases.counts.now.kinds.now cases.depth cases.fuel c.in_ok-found.found
    made.core made.property (ap (λ n. n.kinds.now) made.counts ∙ c.requires.of_core) made.depth made.fuel c.in_ok-found.ensures in
    let name : c.as_slice-name.result.now ≡ p.name = c.as_slice-name.ensures ∙ ap (λ q. q.name) c.property.view_is in
    let first = c.in_ok-put_failed_line-in-Some.ensures ∙ ap (λ n. c.args.text.now.items ++ failed_line n c.in-Some.number c.in_ok-found.found.walked.discards) name in
    failed r core p c.in_ok-found.found is c.args.text.now.items _ _ c.in-Some.number c.in-Some.is first c.in_ok-put_failure-in-Some.ensures
