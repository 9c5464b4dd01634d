use Rattle.std.proofs.Common.{◌≡◌, ◌∙◌, ◌+◌, ◌/◌, ◌%◌, ◌<◌, ◌++◌, ◌∷◌, [], Ok, Err, map, drop, get_or, length, subst, sym, ap, arith}
use Rattle.std.proofs.lemmas.List.{map-append}
use Rattle.qk_value.specs.Types.{TypeData}
use Rattle.qk_value.specs.View.{view_type, view_value}
use Rattle.qk_series.specs.Cases.{cases, case_from, case_of, after_value}
use Rattle.qk_series.specs.Members.{saturated, member, enumerated_in}
use Rattle.qk_series.specs.Series.{series}
use Rattle.qk_series.specs.Small.{small}
use Rattle.qk_series.proofs.MemberLaws.{case_step}
use Rattle.qk_series.proofs.PartLaws.{next}
use Rattle.qk_series.proofs.counts.Counts.case_at.Goals as goal

pub nonzero_div-rest : goal.nonzero_div-rest
nonzero_div-rest c =
    let kinds = c.args.self.now.kinds.now in
    let d = c.args.depth in
    let l = c.loop-i in
    let n = c.count_cases-others.result in
    let binders = c.args.binders.now in
    let b = c.index-binders-i.result in
    let rest = drop (l.i + 1) binders in
    let at : drop l.i binders ≡ b ∷ rest = next binders l.i b c.loop-i-test.true c.index-binders-i.is in
    let count : n ≡ saturated (length (cases kinds d rest)) = c.count_cases-others.ensures ∙ ap (λ bs. saturated (length (cases kinds d bs))) c.split_at.ensures.back in
    let step = case_step kinds d l.rest b rest n count (omega (arith, l.invariant.number, ap (λ bs. saturated (length (cases kinds d bs))) at)) in
    step.2

pub value_at-requires-clause-number : goal.value_at-requires-clause-number
value_at-requires-clause-number c =
    let kinds = c.args.self.now.kinds.now in
    let d = c.args.depth in
    let l = c.loop-i in
    let n = c.count_cases-others.result in
    let binders = c.args.binders.now in
    let b = c.index-binders-i.result in
    let rest = drop (l.i + 1) binders in
    let at : drop l.i binders ≡ b ∷ rest = next binders l.i b c.loop-i-test.true c.index-binders-i.is in
    let count : n ≡ saturated (length (cases kinds d rest)) = c.count_cases-others.ensures ∙ ap (λ bs. saturated (length (cases kinds d bs))) c.split_at.ensures.back in
    let step = case_step kinds d l.rest b rest n count (omega (arith, l.invariant.number, ap (λ bs. saturated (length (cases kinds d bs))) at)) in
    let ty : view_type c.binder.inside.ty ≡ b.ty = ap (λ b. b.ty) c.binder.view_is in
    subst (λ (t : TypeData). l.rest / n < saturated (length (series kinds d t))) (sym ty) step.0

pub returns-in-Crash : goal.returns-in-Crash
returns-in-Crash c =
    let kinds = c.args.self.now.kinds.now in
    let d = c.args.depth in
    let l = c.loop-i in
    let n = c.count_cases-others.result in
    let binders = c.args.binders.now in
    let b = c.index-binders-i.result in
    let rest = drop (l.i + 1) binders in
    let at : drop l.i binders ≡ b ∷ rest = next binders l.i b c.loop-i-test.true c.index-binders-i.is in
    let count : n ≡ saturated (length (cases kinds d rest)) = c.count_cases-others.ensures ∙ ap (λ bs. saturated (length (cases kinds d bs))) c.split_at.ensures.back in
    let step = case_step kinds d l.rest b rest n count (omega (arith, l.invariant.number, ap (λ bs. saturated (length (cases kinds d bs))) at)) in
    let ty : view_type c.binder.inside.ty ≡ b.ty = ap (λ b. b.ty) c.binder.view_is in
    let x = member kinds d b.ty (l.rest / n) in
    let before = map view_value l.values.items in
    let others = get_or (cases kinds d rest) (l.rest % n) [] in
    let is : get_or (cases kinds d (drop l.i binders)) l.rest [] ≡ x ∷ others = ap (λ bs. get_or (cases kinds d bs) l.rest []) at ∙ step.3 in
    let so_far : case_from before (x ∷ others) ≡ case_of (get_or (cases kinds d binders) c.args.k []) = ap (case_from before) (sym is) ∙ l.invariant.whole in
    let told : Err c.in-Crash.cause ≡ small x = sym (ap enumerated_in c.in-Crash.is) ∙ c.in_ok-cause.ensures ∙ ap (λ t. small (member kinds d t (l.rest / n))) ty in
    ap (λ r. after_value before r (λ y. case_from (before ++ y ∷ []) others)) told ∙ so_far

pub nonzero_rem-rest : goal.nonzero_rem-rest
nonzero_rem-rest c =
    let kinds = c.args.self.now.kinds.now in
    let d = c.args.depth in
    let l = c.loop-i in
    let n = c.count_cases-others.result in
    let binders = c.args.binders.now in
    let b = c.index-binders-i.result in
    let rest = drop (l.i + 1) binders in
    let at : drop l.i binders ≡ b ∷ rest = next binders l.i b c.loop-i-test.true c.index-binders-i.is in
    let count : n ≡ saturated (length (cases kinds d rest)) = c.count_cases-others.ensures ∙ ap (λ bs. saturated (length (cases kinds d bs))) c.split_at.ensures.back in
    let step = case_step kinds d l.rest b rest n count (omega (arith, l.invariant.number, ap (λ bs. saturated (length (cases kinds d bs))) at)) in
    step.2

pub loop-i-preserved : goal.loop-i-preserved
loop-i-preserved c =
    let kinds = c.args.self.now.kinds.now in
    let d = c.args.depth in
    let l = c.loop-i in
    let n = c.count_cases-others.result in
    let binders = c.args.binders.now in
    let b = c.index-binders-i.result in
    let rest = drop (l.i + 1) binders in
    let at : drop l.i binders ≡ b ∷ rest = next binders l.i b c.loop-i-test.true c.index-binders-i.is in
    let count : n ≡ saturated (length (cases kinds d rest)) = c.count_cases-others.ensures ∙ ap (λ bs. saturated (length (cases kinds d bs))) c.split_at.ensures.back in
    let step = case_step kinds d l.rest b rest n count (omega (arith, l.invariant.number, ap (λ bs. saturated (length (cases kinds d bs))) at)) in
    let ty : view_type c.binder.inside.ty ≡ b.ty = ap (λ b. b.ty) c.binder.view_is in
    let x = member kinds d b.ty (l.rest / n) in
    let before = map view_value l.values.items in
    let others = get_or (cases kinds d rest) (l.rest % n) [] in
    let is : get_or (cases kinds d (drop l.i binders)) l.rest [] ≡ x ∷ others = ap (λ bs. get_or (cases kinds d bs) l.rest []) at ∙ step.3 in
    let so_far : case_from before (x ∷ others) ≡ case_of (get_or (cases kinds d binders) c.args.k []) = ap (case_from before) (sym is) ∙ l.invariant.whole in
    let value = c.in-Value.value in
    let told : Ok (view_value value) ≡ small x = sym (ap enumerated_in c.in-Value.is) ∙ c.in_ok-cause.ensures ∙ ap (λ t. small (member kinds d t (l.rest / n))) ty in
    let added : map view_value c.add.new.self.items ≡ before ++ view_value value ∷ [] = ap (map view_value) c.in_ok-add-in-Value.ensures.ok ∙ map-append view_value l.values.items (value ∷ []) in
    record {
      number = step.1;
      whole = ap (λ values. case_from values others) added ∙ ap (λ r. after_value before r (λ y. case_from (before ++ y ∷ []) others)) told ∙ so_far;
    }
