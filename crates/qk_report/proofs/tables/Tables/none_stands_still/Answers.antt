use Rattle.std.proofs.Common.{◌≡◌, ◌∙◌, ◌<◌, ℕ, Bool, true, false, cond, List, [], ◌∷◌, Option, Some, arith, subst, sym, unwrap_or}
use Rattle.std.specs.List.{AllByRecursion}
use Rattle.std.specs.Map.{lookup}
use Rattle.qk_report.specs.Counted.{key_eq, key_in}
use Rattle.qk_report.proofs.tables.Tables.none_stands_still.Goals as goal

-- what a look-up finds is the count of an entry
found_small : {K : Type 0} (test : K → Bool) (es : List (K × ℕ)) → AllByRecursion (λ (e : K × ℕ). e.1 < 18446744073709551615) es → unwrap_or (lookup test es) 0 < 18446744073709551615
found_small test [] small = omega arith
found_small test (e ∷ es) small = by (test e.0) (found_small test es small.1)
  where
    by : (b : Bool) → unwrap_or (lookup test es) 0 < 18446744073709551615 → unwrap_or (cond b (Some e.1) (lookup test es)) 0 < 18446744073709551615
    by true rest = small.0
    by false rest = rest

pub returns : goal.returns
returns c = λ _ key. found_small (λ k. key_eq key (key_in k)) c.args.self.now.counts.entries
    (c.loop-count.invariant.so_far (subst (AllByRecursion (λ e. e.1 < 18446744073709551615)) (sym c.in-None.ensures.steps.0) tt))
