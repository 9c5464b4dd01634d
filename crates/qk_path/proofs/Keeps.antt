-- Each step keeps the rule of the path table.
use Rattle.std.proofs.Common.{◌≡◌, ℕ, suc, ◌+◌, ◌-◌, ◌*◌, ◌<◌, ◌≤◌, ◌≢◌, Bool, true, List, [], ◌∷◌, ◌++◌, take, length, get_or, set, sym, refl, ap, ◌∙◌, subst, length-set, length-append, get_or-set_same, get_or-set_other, arith}
use mathlib.Core.Logic.{dite}
use mathlib.Core.Option.{some}
use native.Mathlib.Decide.{ℕ_discrete, dec_le}
use lib.ListN.{get_elem?}
use Rattle.std.specs.Prelude.{Some}
use Rattle.qk_path.specs.declared.view.PathView.{PathView}
use Rattle.qk_path.specs.Paths.{IsPrefix, AllPrefixes, path_word}
use Rattle.qk_path.specs.Points.{reached, nth, Leads, width}
use Rattle.qk_path.specs.Rule.{KeptAt}
use Rattle.qk_path.specs.Views.{past, draws_of, dones_of, parts_of, full_of, IsEmptyView, Tidy, IsOthers, with_draw, with_done, with_step}
use Rattle.qk_totals.specs.Totals.{total, times, drawn, EachBelow}
use Rattle.qk_totals.proofs.Totals.{le_total, total_mono, total_set, total_none, kept_pos, moved, each_set, times_append, drawn_append, one_same, one_other, draw_same, draw_elsewhere, draw_other}
use Rattle.qk_path.proofs.Pairs.{pair_total, each_other}
use Rattle.qk_path.proofs.Paths.{prefix_zero, prefix_more, prefixes_more, prefix_self, prefix_le, prefix_take, take_more, word_last, word_else, leads_more, past_append, past_low, past_high, past_else, past_none, full_le, full_yes, full_no}

add_zero : (x : ℕ) → x + 0 ≡ x
add_zero x = omega arith

le_self : (x : ℕ) → x ≤ x
le_self x = omega arith

grow : (n x T T' d : ℕ) → (x < n → T ≡ 1) × (n ≤ x → T ≡ 0) → T' ≡ T + d → (n ≡ x → d ≡ 1) → (n ≢ x → d ≡ 0) → (x < n + 1 → T' ≡ 1) × (n + 1 ≤ x → T' ≡ 0)
grow n x T T' d old t one none = dite (ℕ_discrete n x) (λ is. let o = one is in let z = old.1 in ((λ h. omega arith), (λ h. omega arith)))
    (λ isnt. let o = none isnt in let a = old.0 in let z = old.1 in ((λ h. omega arith), (λ h. omega arith)))

unmoved : (T T' d : ℕ) → T' ≡ T + d → d ≡ 0 → T' ≡ T
unmoved T T' d t e = omega arith

sum_same : (a b c d x y : ℕ) → x ≡ a + b → y ≡ c + d → a ≡ c → b ≡ d → x ≡ y
sum_same a b c d x y h k e f = omega arith

over_same : (T T' g n w n' : ℕ) → T' ≡ T + g → T ≡ n - w → n' ≡ n + 1 → g + (n - w) ≡ n + 1 - w → T' ≡ n' - w
over_same T T' g n w n' t k e h = omega arith

over_other : (T T' g n w n' : ℕ) → T' ≡ T + g → T ≡ n - w → n' ≡ n → g ≡ 0 → T' ≡ n' - w
over_other T T' g n w n' t k e h = omega arith

no_word : (n T : ℕ) → (0 < n → T ≡ 1) → T ≡ 0 → n ≡ 0
no_word n T h z = dite (dec_le 1 n) (λ p. let o = h p in absurd (omega arith)) (λ q. omega arith)

more_than : (n T d : ℕ) (x : ℕ) → (n ≤ x → T ≡ 0) → d ≤ T → 0 < d → x < n
more_than n T d x z le p = dite (dec_le (suc x) n) (λ h. h) (λ h. let o = z (omega arith) in absurd (omega arith))

same_suc : (a b : ℕ) → suc a ≡ suc b → a ≡ b
same_suc a b h = omega arith

none_over : (T n w : ℕ) → T ≡ 0 → n ≡ 0 → T ≡ n - w
none_over T n w t e = omega arith

module _ {F P : Type 0} (children : F → P → List P) (failing : F → P → Bool) (f : F) (p : P) (walkers limit : ℕ) where
  abbrev K : List ℕ → List (PathView F P) → List ℕ → Type 0
  K ws vs places = KeptAt children failing f p walkers limit ws vs places

  abbrev pub Idle : PathView F P → Type 0
  Idle u = u.parts ≡ 0 → IsEmptyView u

  abbrev pub Same : PathView F P → Type 0
  Same u = 0 < u.parts → u.start ≡ Some (f, p)

  abbrev pub Within : PathView F P → Type 0
  Within u = (q : ℕ) → times q u.done ≤ u.parts

  abbrev pub Dones : List ℕ → PathView F P → Type 0
  Dones places u = (q : ℕ) → q ≤ length places → times q u.done ≡ past q (width (children f) p (take q places)) u.draws

  -- a step that was taken at the walker's level or above is none of its draws
  pub others_from : (places : List ℕ) (v : PathView F P) → IsOthers places v → Tidy v → (n : ℕ) → length v.path ≤ n → (j : ℕ) → path_word places n ≡ suc j → drawn n j v.draws ≡ 0
  others_from places v o t n le j h = dite (ℕ_discrete (length v.path) n)
      (λ is. let G : ℕ → Type 0 = λ i. path_word places i ≡ suc j → drawn i j v.draws ≡ 0 in subst G is (o j) h)
      (λ ne. (t n (omega arith)).0 j)

  module _ (ws : List ℕ) (vs : List (PathView F P)) (places : List ℕ) (k : K ws vs places) (id : ℕ) (v : PathView F P) (at : get_elem? vs id ≡ some v) (alive : 0 < v.parts) where
    abbrev e : ℕ
    e = length v.path

    abbrev w : ℕ
    w = width (children f) p v.path

    pub level : e ≤ length places
    level = prefix_le v.path places (k.prefixes id v at)

    pub width_here : width (children f) p (take e places) ≡ w
    width_here = ap (width (children f) p) (prefix_take v.path places (k.prefixes id v at))

    -- a claim word is not past the width by more than the walkers
    pub fits : get_or ws (2 * e + 2) 0 ≤ w + walkers
    fits = let d = k.overs e level in let s = k.parts in let m = total_mono (dones_of e) parts_of vs (λ i u a. k.within i u a e) in let h = width_here in omega arith

    module _ (short : e < limit) where
      -- a claim
      module _ (dn : List ℕ) (g : ℕ → ℕ) (gain : (q : ℕ) → times q dn ≡ times q v.done + g q)
          (here : g e ≡ past e w ((e, get_or ws (2 * e + 2) 0) ∷ [])) (elsewhere : (q : ℕ) → e ≢ q → g q ≡ 0)
          (one : g e + (get_or ws (2 * e + 2) 0 - w) ≡ get_or ws (2 * e + 2) 0 + 1 - w) (room : times e dn ≤ v.parts) where
        abbrev n : ℕ
        n = get_or ws (2 * e + 2) 0

        abbrev u : PathView F P
        u = record v { draws = v.draws ++ (e, n) ∷ []; done = dn }

        abbrev ws' : List ℕ
        ws' = set ws (2 * e + 2) (n + 1)

        word_here : get_or ws' (2 * e + 2) 0 ≡ n + 1
        word_here = let s = k.shape in get_or-set_same ws (2 * e + 2) (n + 1) 0 (omega arith)

        word_there : (j : ℕ) → j ≢ 2 * e + 2 → get_or ws' j 0 ≡ get_or ws j 0
        word_there j h = get_or-set_other ws (2 * e + 2) j (n + 1) 0 h

        drew : (q x : ℕ) → total (draws_of q x) (set vs id u) ≡ total (draws_of q x) vs + drawn q x ((e, n) ∷ [])
        drew q x = moved (draws_of q x) vs id (drawn q x ((e, n) ∷ [])) v u at (drawn_append q x v.draws ((e, n) ∷ []))

        abbrev Goal : ℕ → Type 0
        Goal q = EachBelow (get_or ws' (2 * q + 2) 0) (λ x. total (draws_of q x) (set vs id u))

        draws_keep : (q : ℕ) → Goal q
        draws_keep q = dite (ℕ_discrete e q)
            (λ is. subst Goal is (subst (λ m. EachBelow m (λ x. total (draws_of e x) (set vs id u))) (sym word_here) (λ x.
            grow n x (total (draws_of e x) vs) (total (draws_of e x) (set vs id u)) (drawn e x ((e, n) ∷ [])) (k.draws e x) (drew e x) (λ h. draw_same e x e n refl h) (λ h. draw_other e x e n refl h))))
            (λ ne. subst (λ m. EachBelow m (λ x. total (draws_of q x) (set vs id u))) (sym (word_there (2 * q + 2) (λ h. ne (omega arith)))) (λ x.
            subst (λ m. (x < get_or ws (2 * q + 2) 0 → m ≡ 1) × (get_or ws (2 * q + 2) 0 ≤ x → m ≡ 0)) (sym (unmoved (total (draws_of q x) vs) (total (draws_of q x) (set vs id u)) (drawn q x ((e, n) ∷ [])) (drew q x) (draw_elsewhere q x e n ne))) (k.draws q x)))

        tidy : Tidy u
        tidy q h = let ne : e ≢ q = (λ is. omega arith) in let old = k.levels id v at q h in (
          (λ x. let a = drawn_append q x v.draws ((e, n) ∷ []) in let b = draw_elsewhere q x e n ne in let c = old.0 x in omega arith),
          (let a = gain q in let b = elsewhere q ne in let c = old.1 in omega arith),
        )

        dones_new : Dones places u
        dones_new q low = dite (ℕ_discrete e q)
            (λ is. let G : ℕ → Type 0 = λ j. times j dn ≡ past j (width (children f) p (take j places)) (v.draws ++ (e, n) ∷ []) in subst G is (
            sum_same (times e v.done) (g e) (past e (width (children f) p (take e places)) v.draws) (past e (width (children f) p (take e places)) ((e, n) ∷ [])) (times e dn) (past e (width (children f) p (take e places)) (v.draws ++ (e, n) ∷ []))
            (gain e) (past_append e (width (children f) p (take e places)) v.draws ((e, n) ∷ [])) (k.dones id v at e level) (here ∙ ap (λ m. past e m ((e, n) ∷ [])) (sym width_here))))
            (λ ne. sum_same (times q v.done) (g q) (past q (width (children f) p (take q places)) v.draws) (past q (width (children f) p (take q places)) ((e, n) ∷ [])) (times q dn) (past q (width (children f) p (take q places)) (v.draws ++ (e, n) ∷ []))
            (gain q) (past_append q (width (children f) p (take q places)) v.draws ((e, n) ∷ [])) (k.dones id v at q low) (elsewhere q ne ∙ sym (past_else q e (width (children f) p (take q places)) n ne)))

        overs_keep : (q : ℕ) → q ≤ length places → total (dones_of q) (set vs id u) ≡ get_or ws' (2 * q + 2) 0 - width (children f) p (take q places)
        overs_keep q low = dite (ℕ_discrete e q)
            (λ is. let G : ℕ → Type 0 = λ j. total (dones_of j) (set vs id u) ≡ get_or ws' (2 * j + 2) 0 - width (children f) p (take j places) in subst G is (
            over_same (total (dones_of e) vs) (total (dones_of e) (set vs id u)) (g e) n (width (children f) p (take e places)) (get_or ws' (2 * e + 2) 0) (moved (dones_of e) vs id (g e) v u at (gain e)) (k.overs e level) word_here
            (subst (λ m. g e + (n - m) ≡ n + 1 - m) (sym width_here) one)))
            (λ ne. over_other (total (dones_of q) vs) (total (dones_of q) (set vs id u)) (g q) (get_or ws (2 * q + 2) 0) (width (children f) p (take q places)) (get_or ws' (2 * q + 2) 0) (moved (dones_of q) vs id (g q) v u at (gain q)) (k.overs q low)
            (word_there (2 * q + 2) (λ h. ne (omega arith))) (elsewhere q ne))

        claimed_keep : (q j : ℕ) → path_word places q ≡ suc j → j < get_or ws' (2 * q + 2) 0
        claimed_keep q j h = let old = k.claimed q j h in dite (ℕ_discrete e q)
            (λ is. let G : ℕ → Type 0 = λ i. j < get_or ws (2 * i + 2) 0 → j < get_or ws' (2 * i + 2) 0 in subst G is (λ o. let w = word_here in omega arith) old)
            (λ ne. let w = word_there (2 * q + 2) (λ z. ne (omega arith)) in omega arith)

        others_new : IsOthers places u
        others_new j h = let a = drawn_append e j v.draws ((e, n) ∷ []) in let o = k.others id v at j h in let low = k.claimed e j h in let b = draw_other e j e n refl (λ z. omega arith) in omega arith

        within_new : Within u
        within_new q = dite (ℕ_discrete e q) (λ is. subst (λ j. times j dn ≤ v.parts) is room) (λ ne. let a = gain q in let b = elsewhere q ne in let c = k.within id v at q in omega arith)

        pub claim_keeps : K ws' (set vs id u) places
        claim_keeps = record {
          shape = length-set ws (2 * e + 2) (n + 1) ∙ k.shape;
          short = k.short;
          marks = λ q h. word_there (2 * q + 1) (λ z. omega arith) ∙ k.marks q h;
          leads = k.leads;
          prefixes = each_set (λ a. IsPrefix a.path places) vs id u k.prefixes (k.prefixes id v at);
          absorbed = each_set (λ a. AllPrefixes a.absorbed places) vs id u k.absorbed (k.absorbed id v at);
          whole = kept_pos (full_of (length places)) vs id v u at (le_self (full_of (length places) v)) k.whole;
          draws = draws_keep;
          claimed = claimed_keep;
          others = each_set (IsOthers places) vs id u k.others others_new;
          levels = each_set Tidy vs id u k.levels tidy;
          dones = each_set (Dones places) vs id u k.dones dones_new;
          overs = overs_keep;
          within = each_set Within vs id u k.within within_new;
          parts = moved parts_of vs id 0 v u at (omega arith) ∙ (add_zero (total parts_of vs) ∙ k.parts);
          idle = each_set Idle vs id u k.idle (λ z. absurd (omega arith));
          same = each_set Same vs id u k.same (k.same id v at);
        }

      pub claim_low : get_or ws (2 * e + 2) 0 < w → K (set ws (2 * e + 2) (get_or ws (2 * e + 2) 0 + 1)) (set vs id (with_draw v (get_or ws (2 * e + 2) 0))) places
      claim_low low = claim_keeps v.done (λ q. 0) (λ q. omega arith) (sym (past_low e w (get_or ws (2 * e + 2) 0) low)) (λ q ne. refl) (omega arith) (k.within id v at e)

      pub claim_high : w ≤ get_or ws (2 * e + 2) 0 → times e v.done ≡ 0 → K (set ws (2 * e + 2) (get_or ws (2 * e + 2) 0 + 1)) (set vs id (with_done v (get_or ws (2 * e + 2) 0))) places
      claim_high high ready = let o : times e (e ∷ []) ≡ 1 = one_same e e refl in
          claim_keeps (v.done ++ e ∷ []) (λ q. times q (e ∷ [])) (λ q. times_append q v.done (e ∷ [])) (o ∙ sym (past_high e w (get_or ws (2 * e + 2) 0) high)) (λ q ne. one_other e q ne) (omega arith)
          (let a = times_append e v.done (e ∷ []) in omega arith)

    -- a step that changes the path and the looks alone
    module _ (path : List ℕ) (missed : ℕ) (pre : IsPrefix path places) (longer : e ≤ length path) where
      abbrev u₂ : PathView F P
      u₂ = record v { path = path; missed = missed }

      pub path_keeps : K ws (set vs id u₂) places
      path_keeps = record {
        shape = k.shape;
        short = k.short;
        marks = k.marks;
        leads = k.leads;
        prefixes = each_set (λ a. IsPrefix a.path places) vs id u₂ k.prefixes pre;
        absorbed = each_set (λ a. AllPrefixes a.absorbed places) vs id u₂ k.absorbed (k.absorbed id v at);
        whole = kept_pos (full_of (length places)) vs id v u₂ at (full_le e (length path) (length places) longer (prefix_le path places pre)) k.whole;
        draws = λ q x. subst (λ m. (x < get_or ws (2 * q + 2) 0 → m ≡ 1) × (get_or ws (2 * q + 2) 0 ≤ x → m ≡ 0)) (sym (unmoved (total (draws_of q x) vs) (total (draws_of q x) (set vs id u₂)) 0 (moved (draws_of q x) vs id 0 v u₂ at (sym (add_zero (drawn q x v.draws)))) refl)) (k.draws q x);
        claimed = k.claimed;
        others = each_set (IsOthers places) vs id u₂ k.others (others_from places v (k.others id v at) (k.levels id v at) (length path) longer);
        levels = each_set Tidy vs id u₂ k.levels (λ q h. k.levels id v at q (omega arith));
        dones = each_set (Dones places) vs id u₂ k.dones (k.dones id v at);
        overs = λ q low. unmoved (total (dones_of q) vs) (total (dones_of q) (set vs id u₂)) 0 (moved (dones_of q) vs id 0 v u₂ at (sym (add_zero (times q v.done)))) refl ∙ k.overs q low;
        within = each_set Within vs id u₂ k.within (k.within id v at);
        parts = moved parts_of vs id 0 v u₂ at (omega arith) ∙ (add_zero (total parts_of vs) ∙ k.parts);
        idle = each_set Idle vs id u₂ k.idle (λ z. absurd (omega arith));
        same = each_set Same vs id u₂ k.same (k.same id v at);
      }

    -- an offer that is taken
    module _ (short : e < limit) (word : get_or ws (2 * e + 1) 0 ≡ 0) (j : ℕ) (drew : 0 < drawn e j v.draws) (below : j < w) (fails : failing f (nth (reached (children f) p v.path) (children f (reached (children f) p v.path)) j) ≡ true) where
      abbrev places₃ : List ℕ
      places₃ = places ++ j ∷ []

      abbrev u₃ : PathView F P
      u₃ = with_step v j

      abbrev ws₃ : List ℕ
      ws₃ = set ws (2 * e + 1) (suc j)

      pub whole_path : v.path ≡ places
      whole_path = prefix_zero v.path places (k.prefixes id v at) (sym (k.marks e short) ∙ word)

      same_length : e ≡ length places
      same_length = ap length whole_path

      one_more : length places₃ ≡ length places + 1
      one_more = length-append places (j ∷ [])

      word_there₃ : (i : ℕ) → i ≢ 2 * e + 1 → get_or ws₃ i 0 ≡ get_or ws i 0
      word_there₃ i h = get_or-set_other ws (2 * e + 1) i (suc j) 0 h

      marks₃ : (q : ℕ) → q < limit → get_or ws₃ (2 * q + 1) 0 ≡ path_word places₃ q
      marks₃ q h = dite (ℕ_discrete e q)
          (λ is. let s = k.shape in let G : ℕ → Type 0 = λ i. get_or ws₃ (2 * i + 1) 0 ≡ path_word places₃ i in subst G is (get_or-set_same ws (2 * e + 1) (suc j) 0 (omega arith) ∙ sym (word_last places j e same_length)))
          (λ ne. word_there₃ (2 * q + 1) (λ z. ne (omega arith)) ∙ (k.marks q h ∙ sym (word_else places j q (λ z. let s = same_length in ne (omega arith)))))

      lead : Leads (children f) (failing f) p v.path
      lead = subst (Leads (children f) (failing f) p) (sym whole_path) k.leads

      pub leads_step : Leads (children f) (failing f) p (v.path ++ j ∷ [])
      leads_step = leads_more (children f) (failing f) p v.path j lead below fails

      leads₃ : Leads (children f) (failing f) p places₃
      leads₃ = subst (λ l. Leads (children f) (failing f) p (l ++ j ∷ [])) whole_path leads_step

      prefix_new : IsPrefix (v.path ++ j ∷ []) places₃
      prefix_new = subst (λ l. IsPrefix (v.path ++ j ∷ []) (l ++ j ∷ [])) whole_path (prefix_self (v.path ++ j ∷ []))

      longer₃ : length (v.path ++ j ∷ []) ≡ e + 1
      longer₃ = length-append v.path (j ∷ [])

      -- nobody has drawn at the next level
      none_drawn : (q : ℕ) → length places < q → (x : ℕ) → total (draws_of q x) vs ≡ 0
      none_drawn q h x = total_none (draws_of q x) vs (λ i a t. let l = prefix_le a.path places (k.prefixes i a t) in (k.levels i a t q (omega arith)).0 x)

      none_done : (q : ℕ) → length places < q → total (dones_of q) vs ≡ 0
      none_done q h = total_none (dones_of q) vs (λ i a t. let l = prefix_le a.path places (k.prefixes i a t) in (k.levels i a t q (omega arith)).1)

      no_claims : (q : ℕ) → length places < q → get_or ws (2 * q + 2) 0 ≡ 0
      no_claims q h = no_word (get_or ws (2 * q + 2) 0) (total (draws_of q 0) vs) (k.draws q 0).0 (none_drawn q h 0)

      dones_old : (i : ℕ) (a : PathView F P) → get_elem? vs i ≡ some a → Dones places₃ a
      dones_old i a t q low = dite (dec_le q (length places))
          (λ le. subst (λ l. times q a.done ≡ past q (width (children f) p l) a.draws) (sym (take_more q places (j ∷ []) le)) (k.dones i a t q le))
          (λ gt. let l = prefix_le a.path places (k.prefixes i a t) in let o = k.levels i a t q (omega arith) in o.1 ∙ sym (past_none q (width (children f) p (take q places₃)) a.draws o.0))

      overs₃ : (q : ℕ) → q ≤ length places₃ → total (dones_of q) (set vs id u₃) ≡ get_or ws₃ (2 * q + 2) 0 - width (children f) p (take q places₃)
      overs₃ q low = let n : ℕ = get_or ws (2 * q + 2) 0 in
          unmoved (total (dones_of q) vs) (total (dones_of q) (set vs id u₃)) 0 (moved (dones_of q) vs id 0 v u₃ at (sym (add_zero (times q v.done)))) refl ∙ (
          dite (dec_le q (length places))
          (λ le. subst (λ l. total (dones_of q) vs ≡ n - width (children f) p l) (sym (take_more q places (j ∷ []) le)) (k.overs q le))
          (λ gt. none_over (total (dones_of q) vs) n (width (children f) p (take q places₃)) (none_done q (omega arith)) (no_claims q (omega arith)))
          ∙ ap (λ m. m - width (children f) p (take q places₃)) (sym (word_there₃ (2 * q + 2) (λ z. omega arith))))

      inside : j < get_or ws (2 * e + 2) 0
      inside = more_than (get_or ws (2 * e + 2) 0) (total (draws_of e j) vs) (drawn e j v.draws) j (k.draws e j).1 (le_total (draws_of e j) vs id v at) drew

      is_step : (q i : ℕ) → q ≡ e → path_word places₃ q ≡ suc i → j ≡ i
      is_step q i is h = same_suc j i (sym (word_last places j q (is ∙ same_length)) ∙ h)

      is_old : (q : ℕ) → q ≢ e → path_word places₃ q ≡ path_word places q
      is_old q ne = word_else places j q (λ z. let s = same_length in ne (omega arith))

      claimed₃ : (q i : ℕ) → path_word places₃ q ≡ suc i → i < get_or ws₃ (2 * q + 2) 0
      claimed₃ q i h = let s = word_there₃ (2 * q + 2) (λ z. omega arith) in dite (ℕ_discrete q e)
          (λ is. let G : ℕ → Type 0 = λ m. get_or ws₃ (2 * m + 2) 0 ≡ get_or ws (2 * m + 2) 0 in let t = subst G is s in let same = is_step q i is h in let low = inside in let H : ℕ → Type 0 = λ m. i < get_or ws₃ (2 * m + 2) 0 in subst H (sym is) (omega arith))
          (λ ne. let old = k.claimed q i (sym (is_old q ne) ∙ h) in omega arith)

      others_old : (i : ℕ) (a : PathView F P) → i ≢ id → get_elem? vs i ≡ some a → IsOthers places₃ a
      others_old i a apart t m h = dite (ℕ_discrete (length a.path) e)
          (λ is. let G : ℕ → ℕ → Type 0 = λ q x. drawn q x a.draws ≡ 0 in
          let one = (k.draws e j).0 inside in let two = pair_total (draws_of e j) vs i id a v apart t at in let none : G e j = omega arith in
          subst (λ x. G (length a.path) x) (is_step (length a.path) m is h) (subst (λ q. G q j) (sym is) none))
          (λ ne. k.others i a t m (sym (is_old (length a.path) ne) ∙ h))

      others_mine : IsOthers places₃ u₃
      others_mine m h = let l = longer₃ in (k.levels id v at (length (v.path ++ j ∷ [])) (omega arith)).0 m

      now_whole : (T T' a b : ℕ) → T' + a ≡ T + b → a ≡ 0 → b ≡ 1 → 0 < T'
      now_whole T T' a b h x y = omega arith

      pub offer_keeps : K ws₃ (set vs id u₃) places₃
      offer_keeps = record {
        shape = length-set ws (2 * e + 1) (suc j) ∙ k.shape;
        short = (let a = one_more in let b = same_length in omega arith);
        marks = marks₃;
        leads = leads₃;
        prefixes = each_set (λ a. IsPrefix a.path places₃) vs id u₃ (λ i a t. prefix_more a.path places (j ∷ []) (k.prefixes i a t)) prefix_new;
        absorbed = each_set (λ a. AllPrefixes a.absorbed places₃) vs id u₃ (λ i a t. prefixes_more a.absorbed places (j ∷ []) (k.absorbed i a t)) (prefixes_more v.absorbed places (j ∷ []) (k.absorbed id v at));
        whole = now_whole (total (full_of (length places₃)) vs) (total (full_of (length places₃)) (set vs id u₃)) (full_of (length places₃) v) (full_of (length places₃) u₃) (total_set (full_of (length places₃)) vs id v u₃ at)
            (full_no e (length places₃) (λ z. let a = one_more in let b = same_length in omega arith)) (full_yes (length (v.path ++ j ∷ [])) (length places₃) (let a = one_more in let b = same_length in let c = longer₃ in omega arith));
        draws = λ q x. subst (λ m. (x < m → total (draws_of q x) (set vs id u₃) ≡ 1) × (m ≤ x → total (draws_of q x) (set vs id u₃) ≡ 0)) (sym (word_there₃ (2 * q + 2) (λ z. omega arith)))
            (subst (λ m. (x < get_or ws (2 * q + 2) 0 → m ≡ 1) × (get_or ws (2 * q + 2) 0 ≤ x → m ≡ 0)) (sym (unmoved (total (draws_of q x) vs) (total (draws_of q x) (set vs id u₃)) 0 (moved (draws_of q x) vs id 0 v u₃ at (sym (add_zero (drawn q x v.draws)))) refl)) (k.draws q x));
        claimed = claimed₃;
        others = each_other (IsOthers places₃) vs id u₃ others_old others_mine;
        levels = each_set Tidy vs id u₃ k.levels (λ q h. let l = longer₃ in k.levels id v at q (omega arith));
        dones = each_set (Dones places₃) vs id u₃ dones_old (dones_old id v at);
        overs = overs₃;
        within = each_set Within vs id u₃ k.within (k.within id v at);
        parts = moved parts_of vs id 0 v u₃ at (omega arith) ∙ (add_zero (total parts_of vs) ∙ k.parts);
        idle = each_set Idle vs id u₃ k.idle (λ z. absurd (omega arith));
        same = each_set Same vs id u₃ k.same (k.same id v at);
      }
