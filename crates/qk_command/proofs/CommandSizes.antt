-- How large a list of commands is with one more.
use Rattle.std.proofs.Common.{◌≡◌, ◌∙◌, ℕ, ◌+◌, ◌≤◌, ◌<◌, max, List, [], ◌∷◌, ◌++◌, Ok, Err, sym, ap, arith}
use Rattle.std.proofs.lemmas.Bool.Decides.{nat_tests}
use Rattle.qk_base.specs.declared.outcome.Cause.TheVariants.{Weight, Depth}
use Rattle.qk_eval.specs.Parts.{small}
use Rattle.qk_eval.proofs.SharedLaws.{weight_push, depth_push}
use Rattle.qk_value.specs.Data.{Data, list, datas_of}
use Rattle.qk_value.specs.Measures.{weight, depth, weights, depths}

too_heavy : (d : Data) → 65536 < weight d → small d ≡ Err Weight
too_heavy d h = grind (arith, nat_tests, h)

too_deep : (d : Data) → weight d ≤ 65536 → 200 < depth d → small d ≡ Err Depth
too_deep d h k = grind (arith, nat_tests, h, k)

is_small : (d : Data) → weight d ≤ 65536 → depth d ≤ 200 → small d ≡ Ok d
is_small d h k = grind (arith, nat_tests, h, k)

pub heavier : (xs : List Data) (x : Data) (w v : ℕ) → w ≡ weights (datas_of xs) + 1 → v ≡ weight x → w + v ≡ weights (datas_of (xs ++ x ∷ [])) + 1
heavier xs x w v is kept = omega (arith, weight_push xs x, is, kept)

pub deeper : (xs : List Data) (x : Data) (e f : ℕ) → e ≡ depths (datas_of xs) + 1 → f ≡ depth x → max e (f + 1) ≡ depths (datas_of (xs ++ x ∷ [])) + 1
deeper xs x e f is kept = omega (arith, depth_push xs x, is, kept)

pub push_heavy : (xs : List Data) (x : Data) (w v : ℕ) → w ≡ weights (datas_of xs) + 1 → v ≡ weight x → 65536 < w + v → small (list (datas_of (xs ++ x ∷ []))) ≡ Err Weight
push_heavy xs x w v is kept more = too_heavy (list (datas_of (xs ++ x ∷ []))) (omega (arith, heavier xs x w v is kept, more))

pub push_deep : (xs : List Data) (x : Data) (w v e f : ℕ) → w ≡ weights (datas_of xs) + 1 → v ≡ weight x → w + v ≤ 65536 → e ≡ depths (datas_of xs) + 1 → f ≡ depth x → 200 < max e (f + 1)
    → small (list (datas_of (xs ++ x ∷ []))) ≡ Err Depth
push_deep xs x w v e f is kept less is_deep kept_deep more =
    too_deep (list (datas_of (xs ++ x ∷ []))) (omega (arith, heavier xs x w v is kept, less)) (omega (arith, deeper xs x e f is_deep kept_deep, more))

pub push_small : (xs : List Data) (x : Data) (w v e f : ℕ) → w ≡ weights (datas_of xs) + 1 → v ≡ weight x → w + v ≤ 65536 → e ≡ depths (datas_of xs) + 1 → f ≡ depth x → max e (f + 1) ≤ 200
    → small (list (datas_of (xs ++ x ∷ []))) ≡ Ok (list (datas_of (xs ++ x ∷ [])))
push_small xs x w v e f is kept less is_deep kept_deep flat =
    is_small (list (datas_of (xs ++ x ∷ []))) (omega (arith, heavier xs x w v is kept, less)) (omega (arith, deeper xs x e f is_deep kept_deep, flat))

-- the sizes of a list with one more command are those that were added up
pub pushed : (xs ys : List Data) (x y : Data) (w v e f g : ℕ) → ys ≡ xs ++ y ∷ [] → y ≡ x → w ≡ weights (datas_of xs) + 1 → v ≡ weight x → w + v ≤ 65536 → e ≡ depths (datas_of xs) + 1 → f ≡ depth x
    → g ≡ max e (f + 1) → g ≤ 200 → (w + v ≡ weights (datas_of ys) + 1) × (g ≡ depths (datas_of ys) + 1) × (w + v ≤ 65536) × (g ≤ 200)
pushed xs ys x y w v e f g are same is kept less is_deep kept_deep greater flat =
    let all : ys ≡ xs ++ x ∷ [] = are ∙ ap (λ z. xs ++ z ∷ []) same in (
      heavier xs x w v is kept ∙ ap (λ zs. weights (datas_of zs) + 1) (sym all),
      greater ∙ deeper xs x e f is_deep kept_deep ∙ ap (λ zs. depths (datas_of zs) + 1) (sym all),
      less,
      flat,
    )
