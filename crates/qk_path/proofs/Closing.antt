-- The views of all walkers in one.
use Rattle.std.proofs.Common.{◌≡◌, ℕ, zero, suc, ◌+◌, ◌*◌, ◌<◌, ◌≤◌, take, cond, eqb, Bool, List, [], ◌∷◌, ◌++◌, length, All, get_or, sym, refl, ap, ◌∙◌, subst, inl, inr, replicate, arith}
use Rattle.std.proofs.lemmas.List.Elements.{All-tail}
use mathlib.Core.Option.{some}
use lib.ListN.{get_elem?}
use Rattle.std.specs.Prelude.{Some}
use Rattle.qk_path.specs.declared.view.PathView.{PathView}
use Rattle.qk_path.specs.Paths.{IsPrefix, AllPrefixes}
use Rattle.qk_path.specs.Points.{width, Leads}
use Rattle.qk_path.specs.Rule.{KeptAt}
use Rattle.qk_path.specs.Views.{IsOthers, full_of, fresh, Tidy, past, draws_of, parts_of, IsEmptyView}
use Rattle.qk_totals.specs.Totals.{total, times, drawn, EachBelow}
use Rattle.qk_totals.proofs.Gather.{only, alone}
use Rattle.qk_path.proofs.Paths.{prefix_all, prefix_le, full_no, full_yes}
use Rattle.qk_base.specs.declared.family.Family.{Ghosts}
use Rattle.qk_path.specs.declared.walker.Walker.{Walker}
use Rattle.qk_path.specs.Walkers.{view_of, HasPath}
use mathlib.Core.Logic.{dite}
use native.Mathlib.Decide.{ℕ_discrete}

pub full_pos : (a n : ℕ) → a ≡ n → 0 < cond (eqb a n) 1 0
full_pos a n e = let y = full_yes a n e in omega arith

pub prefixes_split : (xss yss : List (List ℕ)) (ys : List ℕ) → AllPrefixes (xss ++ yss) ys → AllPrefixes xss ys × AllPrefixes yss ys
prefixes_split [] yss ys h = (tt, h)
prefixes_split (xs ∷ xss) yss ys h = let r = prefixes_split xss yss ys h.1 in ((h.0, r.0), r.1)

zeros : (n i : ℕ) → get_or {A = ℕ} (replicate {A = ℕ} n 0) i 0 ≡ 0
zeros zero i = refl
zeros (suc n) zero = refl
zeros (suc n) (suc i) = zeros n i

zeros_length : (n : ℕ) → length {A = ℕ} (replicate {A = ℕ} n 0) ≡ n
zeros_length zero = refl
zeros_length (suc n) = ap suc (zeros_length n)

module _ {F P : Type 0} (children : F → P → List P) (failing : F → P → Bool) (f : F) (p : P) (walkers limit : ℕ) where
  pub opens : KeptAt children failing f p walkers limit (replicate (2 * limit + 1) 0) (fresh (Some (f, p)) walkers ∷ []) []
  opens = let v : PathView F P = fresh (Some (f, p)) walkers in record {
    shape = zeros_length (2 * limit + 1);
    short = omega arith;
    marks = λ e h. zeros (2 * limit + 1) (2 * e + 1);
    leads = tt;
    prefixes = only (λ u. IsPrefix u.path []) v tt;
    absorbed = only (λ u. AllPrefixes u.absorbed []) v tt;
    whole = omega arith;
    draws = λ e x. (let z = zeros (2 * limit + 1) (2 * e + 2) in ((λ h. absurd (omega arith)), (λ h. refl)));
    claimed = λ e j h. absurd (omega arith);
    others = only (IsOthers []) v (λ j h. refl);
    levels = only Tidy v (λ e h. ((λ x. refl), refl));
    dones = only (λ u. (e : ℕ) → e ≤ 0 → times e u.done ≡ past e (width (children f) p (take e [])) u.draws) v (λ e h. refl);
    overs = λ e h. (let z = zeros (2 * limit + 1) (2 * e + 2) in omega arith);
    within = only (λ u. (e : ℕ) → times e u.done ≤ u.parts) v (λ e. omega arith);
    parts = omega arith;
    idle = only (λ u. u.parts ≡ 0 → IsEmptyView u) v (λ e. (refl, refl, refl, refl, refl));
    same = only (λ u. 0 < u.parts → u.start ≡ Some (f, p)) v (λ h. refl);
  }

  module _ (ws : List ℕ) (vs : List (PathView F P)) (places : List ℕ) (k : KeptAt children failing f p walkers limit ws vs places) (id : ℕ) (v : PathView F P) (at : get_elem? vs id ≡ some v) (all : v.parts ≡ walkers) where
    whole_sum : (g : PathView F P → ℕ) → ((u : PathView F P) → IsEmptyView u → g u ≡ 0) → total g vs ≡ g v
    whole_sum g h = alone parts_of g vs id v at (k.parts ∙ sym all) (λ i u e z. h u (k.idle i u e z))

    pub final_draws : (g : ℕ → ℕ → ℕ) → ((e x : ℕ) → draws_of e x v ≡ g e x) → (e : ℕ) → EachBelow (get_or ws (2 * e + 2) 0) (λ x. g e x)
    final_draws g e r x = subst (λ m. (x < get_or ws (2 * r + 2) 0 → m ≡ 1) × (get_or ws (2 * r + 2) 0 ≤ x → m ≡ 0)) (whole_sum (draws_of r x) (λ u z. ap (drawn r x) z.1) ∙ e r x) (k.draws r x)

    -- the one that stands for all has the whole path
    pub final_path : v.path ≡ places
    final_path = let low = prefix_le v.path places (k.prefixes id v at) in prefix_all v.path places (k.prefixes id v at) (dite (ℕ_discrete (length places) 0)
        (λ e. omega arith)
        (λ ne. dite (ℕ_discrete (length v.path) (length places)) (λ e. e)
        (λ no_full. let s = whole_sum (full_of (length places)) (λ u z. full_no (length u.path) (length places) (λ e. let l = ap length z.0 in ne (sym e ∙ l))) in
        let n = full_no (length v.path) (length places) no_full in let w = k.whole in absurd (omega arith))))

    pub final_leads : Leads (children f) (failing f) p v.path
    final_leads = subst (Leads (children f) (failing f) p) (sym final_path) k.leads

    pub final_taken : AllPrefixes v.absorbed v.path
    final_taken = subst (AllPrefixes v.absorbed) (sym final_path) (k.absorbed id v at)

    pub final_short : length v.path ≤ limit
    final_short = let l = ap length final_path in let s = k.short in omega arith

module _ {F P Q : Type 0} {met : Ghosts F P Q} where
  -- where one path is as long as the whole, it is the whole
  pub has_path : (path : List ℕ) (ws : List (Walker F P Q met)) → All (λ w. IsPrefix (view_of w).path path) ws → 0 < total (λ w. full_of (length path) (view_of w)) ws → HasPath path ws
  has_path path [] pre h = absurd (omega arith)
  has_path path (w ∷ ws) pre h = dite (ℕ_discrete (length (view_of w).path) (length path))
      (λ e. inl (prefix_all (view_of w).path path (pre 0 w (omega arith)) e))
      (λ ne. let z = full_no (length (view_of w).path) (length path) ne in inr (has_path path ws (All-tail (λ a. IsPrefix (view_of a).path path) w ws pre) (omega arith)))
