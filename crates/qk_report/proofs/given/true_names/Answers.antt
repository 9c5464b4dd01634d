use Rattle.std.proofs.Common.{rules, ◌≡◌, ◌∙◌, ◌≤◌, ◌++◌, [], ◌∷◌, List, Bool, ℕ, ap, drop, length, map, refl, sym}
use Rattle.std.proofs.lemmas.List.{append-nil, drop_all}
use Rattle.qk_report.specs.Tables.{Text, true_names}
use Rattle.qk_report.proofs.given.true_names.Goals as goal

no_names : (truths : List Bool) → true_names [] truths ≡ []
no_names [] = refl
no_names (truth ∷ truths) = refl

-- where the names end, no more are chosen
ended : {X : Type 0} (f : X → Text) (names : List X) (i : ℕ) (truths : List Bool) (chosen all : List Text) → length names ≤ i → chosen ++ true_names (map f (drop i names)) truths ≡ all → chosen ≡ all
ended f names i truths chosen all done whole =
    sym (append-nil chosen) ∙ ap (λ more. chosen ++ more) (sym (ap (λ ns. true_names (map f ns) truths) (drop_all i names done) ∙ no_names truths)) ∙ whole

pub returns-in_default : goal.returns-in_default
returns-in_default c =
    let done : length c.args.names.now ≤ c.loop-index.index = search rules in
    ended (λ name. name.now) c.args.names.now c.loop-index.index (drop c.loop-index.index c.args.truths.now) _ _ done c.loop-index.invariant
