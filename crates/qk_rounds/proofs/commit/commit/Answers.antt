use Rattle.std.proofs.Common.{rules, ◌≡◌, ◌+◌, ◌<◌, ◌≤◌, None, List, [], ◌∷◌, ◌++◌, length, drop, refl, sym, ◌∙◌, arith, add-zero}
use Rattle.qk_base.specs.Judged.{Judged, DoesNotFail}
use Rattle.qk_rounds.specs.declared.known.Known.{Known}
use Rattle.qk_rounds.specs.Work.{committed}
use Rattle.qk_rounds.specs.Commit.{StandsForPrefix}
use Rattle.qk_rounds.proofs.CommitStep.{At, known_at, committed_to, committed-end, prefix_so_far, on_err-always}
use Rattle.qk_rounds.proofs.commit.commit.Goals as goal

pub loop-i-init : goal.loop-i-init
loop-i-init g c =
    rw add-zero (record {
      ready = c.requires.ready;
      taking = λ other. ((λ h. h), λ h. h);
      same_made = refl;
      told = λ done. (done, (λ h. h), refl);
    })

pub returns-in-Some-failure-clause-ok : goal.returns-in-Some-failure-clause-ok
returns-in-Some-failure-clause-ok g c =
    let course = c.args.course.now in
    let run_rules = g.C.Course.rules course in
    let takes : Judged → Type 0 = λ o. g.C.Course.takes course o × g.K.Tally.takes c.args.tally.now o in
    let inv = c.loop-i.invariant in
    let below : c.loop-i.i < length c.args.slots.now = omega arith in
    let k : Known = c.in-Some.known in
    let at : At run_rules (g.C.Course.proper course) takes c.args.slots.now c.loop-i.i c.loop-i.state k
    = known_at run_rules (g.C.Course.proper course) takes c.args.slots.now c.loop-i.i c.loop-i.state k c.index-slots-i.result below (sym c.index-slots-i.is ∙ c.in-Some.is) inv.ready in
    λ done.
    let told = inv.told done in
    committed_to (g.K.Tally.stands_for c.args.tally.now) (g.K.Tally.stands_for c.loop-i.tally) done told.0 _ c.loop-i.state (c.args.from + c.loop-i.i) _ told.1
    (sym told.2 ∙ at.fails_at (c.args.from + c.loop-i.i) told.0 c.in-Some-failure.cause (sym c.failure.ensures ∙ c.in-Some-failure.is))

pub returns-in_err-add-in-Some-clause-err : goal.returns-in_err-add-in-Some-clause-err
returns-in_err-add-in-Some-clause-err g c =
    let run_rules = g.C.Course.rules c.args.course.now in
    let ens = c.in_err-add-in-Some.ensures in
    let prefix : (done : List Judged) → g.K.Tally.stands_for c.args.tally.now done → StandsForPrefix (g.K.Tally.stands_for c.add.new.self) (committed run_rules c.args.slots.now c.args.state.now c.args.from done).done = λ done stood.
    let told = c.loop-i.invariant.told done in
    prefix_so_far run_rules (drop c.loop-i.i c.args.slots.now) c.loop-i.state (c.args.from + c.loop-i.i) (g.K.Tally.stands_for c.add.new.self) told.0
    (committed run_rules c.args.slots.now c.args.state.now c.args.from done) (ens.err told.0 (told.1 stood)) told.2
    in on_err-always _ _ prefix

pub loop-i-preserved : goal.loop-i-preserved
loop-i-preserved g c =
    let course = c.args.course.now in
    let run_rules = g.C.Course.rules course in
    let takes : Judged → Type 0 = λ o. g.C.Course.takes course o × g.K.Tally.takes c.args.tally.now o in
    let inv = c.loop-i.invariant in
    let below : c.loop-i.i < length c.args.slots.now = omega arith in
    let k : Known = c.in-Some.known in
    let at : At run_rules (g.C.Course.proper course) takes c.args.slots.now c.loop-i.i c.loop-i.state k
    = known_at run_rules (g.C.Course.proper course) takes c.args.slots.now c.loop-i.i c.loop-i.state k c.index-slots-i.result below (sym c.index-slots-i.is ∙ c.in-Some.is) inv.ready in
    let passed : DoesNotFail k.outcome = search rules in
    let ens = c.in_ok-add-in-Some.ensures in
    let next : (c.args.from + c.loop-i.i) + 1 ≡ c.args.from + (c.loop-i.i + 1) = omega arith in
    rw (c.step.ensures, ← next) (record {
      ready = at.next passed;
      taking = λ o. ((λ h. (inv.taking o).0 ((ens.taking o).0 h)), λ h. (ens.taking o).1 ((inv.taking o).1 h));
      same_made = ens.same_made ∙ inv.same_made;
      told = λ done. let told = inv.told done in
          (told.0 ++ k.outcome ∷ [], (λ stood. ens.ok told.0 (told.1 stood)), sym (at.goes_on (c.args.from + c.loop-i.i) told.0 passed) ∙ told.2);
    })

pub returns-clause-ok : goal.returns-clause-ok
returns-clause-ok g c =
    let run_rules = g.C.Course.rules c.args.course.now in
    let inv = c.loop-i.invariant in
    let all : length c.args.slots.now ≤ c.loop-i.i = omega arith in
    let at_end : c.args.from + c.loop-i.i ≡ c.args.from + length c.args.slots.now = omega arith in
    λ done.
    let told = inv.told done in
    rw (← at_end) (committed_to (g.K.Tally.stands_for c.args.tally.now) (g.K.Tally.stands_for c.loop-i.tally) done told.0 _ c.loop-i.state (c.args.from + c.loop-i.i) None told.1
    (sym told.2 ∙ committed-end run_rules c.args.slots.now c.loop-i.state (c.args.from + c.loop-i.i) c.loop-i.i told.0 all))
