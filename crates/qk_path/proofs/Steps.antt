-- What the steps of a table ask, from the lemmas of `Keeps`.
use Rattle.std.proofs.Common.{◌≡◌, ℕ, zero, suc, ◌+◌, ◌-◌, ◌*◌, ◌%◌, ◌^◌, ◌<◌, ◌≤◌, ◌≢◌, cond, eqb, eq-eqb, ne_eqb, Bool, true, false, List, [], ◌∷◌, ◌++◌, take, length, get_or, set, length-append, sym, refl, ap, ◌∙◌, subst, ⊎_elim, arith}
use mathlib.Core.Logic.{dite}
use mathlib.Core.Option.{none, some, some-ne-none}
use native.Mathlib.Decide.{dec_le, ℕ_discrete}
use prog.Atomic.{either}
use lib.ListN.{get_elem?}
use Rattle.std.specs.Prelude.{Option}
use Rattle.atomic_table.specs.Table.{State, Me, step, keeps, stepped, Allows, Splits, Joins}
use Rattle.atomic_table.proofs.Lists.{at_set, set_here, set_else}
use Rattle.qk_path.specs.declared.view.PathView.{PathView}
use Rattle.qk_path.specs.Paths.{IsPrefix, AllPrefixes, path_word, longer}
use Rattle.qk_path.specs.Points.{reached, nth, width}
use Rattle.qk_path.specs.Rule.{KeptAt, Kept}
use Rattle.qk_path.specs.Steps.{Claimed, Looked, Offered, one_less, handed, joined, spent_view}
use Rattle.qk_path.specs.Views.{IsOthers, past, StartLeads, width_of, start_width, draws_of, dones_of, parts_of, full_of, IsEmptyView, Tidy, with_draw, with_done, with_miss, with_step}
use Rattle.qk_totals.specs.Totals.{total, times, drawn}
use Rattle.qk_totals.proofs.Totals.{total_set, total_append, le_total, each_set, each_snoc, times_append, drawn_append}
use Rattle.qk_path.proofs.Paths.{prefix_suc, prefix_le, word_suc, leads_prefix, past_append, prefixes_append, set_id, full_le}
use Rattle.qk_path.proofs.Keeps.{others_from, Idle, Same, Within, Dones, fits, claim_low, claim_high, path_keeps, offer_keeps, leads_step}

wraps : (n len walkers : ℕ) → n ≤ len + walkers → len + walkers < 2 ^ 63 → n + 1 ≡ (n + 1) % 2 ^ 64
wraps n len walkers h k = omega arith

le_zero : (f T : ℕ) → T ≡ 0 → f ≤ T → f ≡ 0
le_zero f T e h = omega arith

pred_of : (n : ℕ) → n ≢ 0 → n ≡ suc (n - 1)
pred_of n h = omega arith

pred_is : (n j : ℕ) → n ≡ suc j → n - 1 ≡ j
pred_is n j h = omega arith

same_suc : (a b : ℕ) → suc a ≡ suc b → a ≡ b
same_suc a b h = omega arith

longer_when : (b : Bool) (Q : List ℕ → Type 0) (xs ys : List ℕ) → Q xs → Q ys → Q (cond b ys xs)
longer_when true Q xs ys h k = k
longer_when false Q xs ys h k = h

pub longer_by : (Q : List ℕ → Type 0) (xs ys : List ℕ) → Q xs → Q ys → Q (longer xs ys)
longer_by Q xs ys h k = longer_when (eqb (length xs - length ys) 0) Q xs ys h k

longer_len : (xs ys : List ℕ) → (length xs ≤ length (longer xs ys)) × (length ys ≤ length (longer xs ys))
longer_len xs ys = dite (ℕ_discrete (length xs - length ys) 0)
    (λ e. subst (λ (b : Bool). (length xs ≤ length (cond b ys xs)) × (length ys ≤ length (cond b ys xs))) (sym (eq-eqb (length xs - length ys) 0 e)) (omega arith, omega arith))
    (λ e. subst (λ (b : Bool). (length xs ≤ length (cond b ys xs)) × (length ys ≤ length (cond b ys xs))) (sym (ne_eqb (length xs - length ys) 0 e)) (omega arith, omega arith))

at_low : {A : Type 0} (l : List A) (i : ℕ) (a : A) → get_elem? l i ≡ some a → i < length l
at_low [] i a e = absurd (some-ne-none a (sym e))
at_low (x ∷ xs) zero a e = omega arith
at_low (x ∷ xs) (suc i) a e = let r = at_low xs i a e in omega arith

module _ {F P : Type 0} (children : F → P → List P) (failing : F → P → Bool) (f : F) (p : P) (walkers limit : ℕ) where
  abbrev Rule : State (Unit {0}) (PathView F P) → Type 0
  Rule s = Kept children failing f p walkers limit s.words s.views

  pub claims : (slots id : ℕ) (me : Me (Unit {0}) (PathView F P)) → 0 < me.0.parts → length me.0.path < limit → width (children f) p me.0.path + walkers < 2 ^ 63 → times (length me.0.path) me.0.done ≡ 0
      → Allows Rule slots id me (2 * length me.0.path + 2) (λ n. (n + 1) % 2 ^ 64) (Claimed children (step slots (2 * length me.0.path + 2) 1 0 none) me)
  claims slots id me alive short small ready s (places, k) _ at _ =
      let e : ℕ = length me.0.path in
      let n : ℕ = get_or s.words (2 * e + 2) 0 in
      let w : ℕ = width (children f) p me.0.path in
      let grown : n + 1 ≡ (n + 1) % 2 ^ 64 = wraps n w walkers (fits children failing f p walkers limit s.words s.views places k id me.0 at alive) small in
      let known : width_of children me.0 ≡ w = ap (λ (t : Option (F × P)). start_width children t me.0.path) (k.same id me.0 at alive) in
      let greater : (y : ℕ) → n ≤ y → drawn e y me.0.draws ≡ 0 = λ y h. le_zero (drawn e y me.0.draws) (total (draws_of e y) s.views) ((k.draws e y).1 h) (le_total (draws_of e y) s.views id me.0 at) in
      dite (dec_le (suc n) w)
      (λ low. (
        with_draw me.0 n,
        keeps,
        tt,
        subst (λ (z : ℕ). Rule (stepped s (2 * e + 2) z id me.1 (with_draw me.0 n) keeps)) grown (places, claim_low children failing f p walkers limit s.words s.views places k id me.0 at alive short low),
        (refl, greater, (λ _. refl), (λ h. absurd (omega arith))),
      ))
      (λ high. (
        with_done me.0 n,
        keeps,
        tt,
        subst (λ (z : ℕ). Rule (stepped s (2 * e + 2) z id me.1 (with_done me.0 n) keeps)) grown (places, claim_high children failing f p walkers limit s.words s.views places k id me.0 at alive short (omega arith) ready),
        (refl, greater, (λ h. absurd (omega arith)), (λ _. refl)),
      ))

  -- a step that was taken by another one
  module _ (s : State (Unit {0}) (PathView F P)) (places : List ℕ) (k : KeptAt children failing f p walkers limit s.words s.views places) (id : ℕ) (v : PathView F P) (at : get_elem? s.views id ≡ some v) (alive : 0 < v.parts) (short : length v.path < limit)
      (j : ℕ) (word : get_or s.words (2 * length v.path + 1) 0 ≡ suc j) where
    there : path_word places (length v.path) ≡ suc j
    there = sym (k.marks (length v.path) short) ∙ word

    next : IsPrefix (v.path ++ j ∷ []) places
    next = prefix_suc v.path places j (k.prefixes id v at) there

    more : length v.path ≤ length (v.path ++ j ∷ [])
    more = let a = word_suc places (length v.path) j there in let l = length-append v.path (j ∷ []) in omega arith

    taken_keeps : (z : ℕ) → z ≡ get_or s.words (2 * length v.path + 1) 0 → Kept children failing f p walkers limit (set s.words (2 * length v.path + 1) z) (set s.views id (with_step v j))
    taken_keeps z e = subst (λ (l : List ℕ). Kept children failing f p walkers limit l (set s.views id (with_step v j))) (sym (ap (set s.words (2 * length v.path + 1)) e ∙ set_id s.words (2 * length v.path + 1)))
        (places, path_keeps children failing f p walkers limit s.words s.views places k id v at alive (v.path ++ j ∷ []) v.missed next more)

    taken_leads : StartLeads children failing v.start (v.path ++ j ∷ [])
    taken_leads = subst (λ (t : Option (F × P)). StartLeads children failing t (v.path ++ j ∷ [])) (sym (k.same id v at alive)) (leads_prefix (children f) (failing f) p (v.path ++ j ∷ []) places next k.leads)

    taken_says : (i : ℕ) → get_or s.words (2 * length v.path + 1) 0 ≡ suc i → (with_step v j ≡ with_step v i) × StartLeads children failing v.start (v.path ++ i ∷ [])
    taken_says i h = subst (λ (m : ℕ). (with_step v j ≡ with_step v m) × StartLeads children failing v.start (v.path ++ m ∷ [])) (same_suc j i (sym word ∙ h)) (refl, taken_leads)

    taken_other : (i : ℕ) → get_or s.words (2 * length v.path + 1) 0 ≡ suc i → (with_step v j ≡ with_step v i) × StartLeads children failing v.start (v.path ++ i ∷ []) × (drawn (length v.path) i v.draws ≡ 0)
    taken_other i h = let t = taken_says i h in (t.0, t.1, k.others id v at i (sym (k.marks (length v.path) short) ∙ h))

  pub looks : (slots id : ℕ) (me : Me (Unit {0}) (PathView F P)) → 0 < me.0.parts → length me.0.path < limit
      → Allows Rule slots id me (2 * length me.0.path + 1) (λ n. n) (Looked children failing (step slots (2 * length me.0.path + 1) 0 0 none) me)
  looks slots id me alive short s (places, k) _ at _ =
      let i : ℕ = 2 * length me.0.path + 1 in
      let n : ℕ = get_or s.words i 0 in
      dite (ℕ_discrete n 0)
      (λ none_yet. (
        with_miss me.0,
        keeps,
        tt,
        subst (λ (l : List ℕ). Kept children failing f p walkers limit l (set s.views id (with_miss me.0))) (sym (set_id s.words i))
            (places, path_keeps children failing f p walkers limit s.words s.views places k id me.0 at alive me.0.path (me.0.missed + 1) (k.prefixes id me.0 at) (omega arith)),
        (refl, (λ _. refl), (λ j h. absurd (omega arith))),
      ))
      (λ one. let j : ℕ = n - 1 in let word : n ≡ suc j = pred_of n one in (
        with_step me.0 j,
        keeps,
        tt,
        taken_keeps s places k id me.0 at alive short j word n refl,
        (refl, (λ h. absurd (one h)), taken_says s places k id me.0 at alive short j word),
      ))

  offers_suc : (slots id j : ℕ) (me : Me (Unit {0}) (PathView F P)) → 0 < me.0.parts → length me.0.path < limit → 0 < drawn (length me.0.path) j me.0.draws → j < width (children f) p me.0.path
      → failing f (nth (reached (children f) p me.0.path) (children f (reached (children f) p me.0.path)) j) ≡ true
      → Allows Rule slots id me (2 * length me.0.path + 1) (λ n. either (eqb n 0) (suc j) n) (Offered children failing (step slots (2 * length me.0.path + 1) 0 (suc j) none) me)
  offers_suc slots id j me alive short drew below fails s (places, k) _ at _ =
      let i : ℕ = 2 * length me.0.path + 1 in
      let n : ℕ = get_or s.words i 0 in
      dite (ℕ_discrete n 0)
      (λ free. (
        with_step me.0 j,
        keeps,
        tt,
        subst (λ (b : Bool). Rule (stepped s i (either b (suc j) n) id me.1 (with_step me.0 j) keeps)) (sym (eq-eqb n 0 free))
            (places ++ j ∷ [], offer_keeps children failing f p walkers limit s.words s.views places k id me.0 at alive short free j drew below fails),
        (
          refl,
          (λ _ q h. subst (λ (m : ℕ). (with_step me.0 j ≡ with_step me.0 m) × StartLeads children failing me.0.start (me.0.path ++ m ∷ [])) (same_suc j q h) (
            refl,
            subst (λ (t : Option (F × P)). StartLeads children failing t (me.0.path ++ j ∷ [])) (sym (k.same id me.0 at alive)) (leads_step children failing f p walkers limit s.words s.views places k id me.0 at alive short free j drew below fails),
          )),
          (λ q h. absurd (omega arith)),
        ),
      ))
      (λ one. let q : ℕ = n - 1 in let word : n ≡ suc q = pred_of n one in (
        with_step me.0 q,
        keeps,
        tt,
        subst (λ (b : Bool). Rule (stepped s i (either b (suc j) n) id me.1 (with_step me.0 q) keeps)) (sym (ne_eqb n 0 one)) (taken_keeps s places k id me.0 at alive short q word n refl),
        (refl, (λ h. absurd (one h)), taken_other s places k id me.0 at alive short q word),
      ))

  pub offers : (slots id j m : ℕ) → m ≡ suc j → (me : Me (Unit {0}) (PathView F P)) → 0 < me.0.parts → length me.0.path < limit → 0 < drawn (length me.0.path) j me.0.draws → j < width (children f) p me.0.path
      → failing f (nth (reached (children f) p me.0.path) (children f (reached (children f) p me.0.path)) j) ≡ true
      → Allows Rule slots id me (2 * length me.0.path + 1) (λ n. either (eqb n 0) m n) (Offered children failing (step slots (2 * length me.0.path + 1) 0 m none) me)
  offers slots id j m is me alive short drew below fails = subst (λ (z : ℕ). Allows Rule slots id me (2 * length me.0.path + 1) (λ n. either (eqb n 0) z n) (Offered children failing (step slots (2 * length me.0.path + 1) 0 z none) me)) (sym is)
      (offers_suc slots id j me alive short drew below fails)

  -- the same words, and views that add up to the same
  regrouped : (ws : List ℕ) (vs us : List (PathView F P)) (places : List ℕ) → KeptAt children failing f p walkers limit ws vs places
      → ((e x : ℕ) → total (draws_of e x) us ≡ total (draws_of e x) vs) → ((e : ℕ) → total (dones_of e) us ≡ total (dones_of e) vs) → total parts_of us ≡ total parts_of vs
      → ((id : ℕ) (v : PathView F P) → get_elem? us id ≡ some v → IsPrefix v.path places)
      → ((id : ℕ) (v : PathView F P) → get_elem? us id ≡ some v → AllPrefixes v.absorbed places)
      → 0 < total (full_of (length places)) us
      → ((id : ℕ) (v : PathView F P) → get_elem? us id ≡ some v → IsOthers places v)
      → ((id : ℕ) (v : PathView F P) → get_elem? us id ≡ some v → Tidy v)
      → ((id : ℕ) (v : PathView F P) → get_elem? us id ≡ some v → Dones children failing f p walkers limit places v)
      → ((id : ℕ) (v : PathView F P) → get_elem? us id ≡ some v → Within children failing f p walkers limit v)
      → ((id : ℕ) (v : PathView F P) → get_elem? us id ≡ some v → Idle children failing f p walkers limit v)
      → ((id : ℕ) (v : PathView F P) → get_elem? us id ≡ some v → Same children failing f p walkers limit v)
      → KeptAt children failing f p walkers limit ws us places
  regrouped ws vs us places k dr dn pa prefixes absorbed whole others levels dones within idle same = record {
    shape = k.shape;
    short = k.short;
    marks = k.marks;
    leads = k.leads;
    prefixes = prefixes;
    absorbed = absorbed;
    whole = whole;
    draws = λ e x. subst (λ m. (x < get_or ws (2 * e + 2) 0 → m ≡ 1) × (get_or ws (2 * e + 2) 0 ≤ x → m ≡ 0)) (sym (dr e x)) (k.draws e x);
    claimed = k.claimed;
    others = others;
    levels = levels;
    dones = dones;
    overs = λ e h. dn e ∙ k.overs e h;
    within = within;
    parts = pa ∙ k.parts;
    idle = idle;
    same = same;
  }

  split_total : (g : PathView F P → ℕ) (vs : List (PathView F P)) (id : ℕ) (v l r : PathView F P) → get_elem? vs id ≡ some v → g l + g r ≡ g v → total g (set vs id l ++ r ∷ []) ≡ total g vs
  split_total g vs id v l r at e = let a = total_append g (set vs id l) (r ∷ []) in let b = total_set g vs id v l at in omega arith

  no_times : (r : ℕ) (l : List ℕ) → l ≡ [] → times r l ≤ 0
  no_times r l e = subst (λ (m : List ℕ). times r m ≤ 0) (sym e) (omega arith)

  le_any : (a b : ℕ) → a ≤ 0 → a ≤ b
  le_any a b h = omega arith

  plus_zero : (x : ℕ) → x + 0 ≡ x
  plus_zero x = omega arith

  one_back : (q : ℕ) → 0 < q → q - 1 + 1 ≡ q
  one_back q h = omega arith

  split_pos : (g : PathView F P → ℕ) (vs : List (PathView F P)) (id : ℕ) (v l r : PathView F P) → get_elem? vs id ≡ some v → g l ≡ g v → 0 < total g vs → 0 < total g (set vs id l ++ r ∷ [])
  split_pos g vs id v l r at e h = let a = total_append g (set vs id l) (r ∷ []) in let b = total_set g vs id v l at in omega arith

  pub splits : (id : ℕ) (v : PathView F P) → IsEmptyView v → 0 < v.parts → Splits Rule id v (one_less v) (handed v)
  splits id v bare alive s (places, k) at = let us : List (PathView F P) = set s.views id (one_less v) ++ handed v ∷ [] in
      let both : (Q : PathView F P → Type 0) → ((i : ℕ) (u : PathView F P) → get_elem? s.views i ≡ some u → Q u) → Q (one_less v) → Q (handed v) → (i : ℕ) (u : PathView F P) → get_elem? us i ≡ some u → Q u
      = λ Q all one two. each_snoc Q (set s.views id (one_less v)) (handed v) (each_set Q s.views id (one_less v) all one) two in (
        places,
        regrouped s.words s.views us places k
            (λ e x. split_total (draws_of e x) s.views id v (one_less v) (handed v) at (plus_zero (drawn e x v.draws)))
            (λ e. split_total (dones_of e) s.views id v (one_less v) (handed v) at (plus_zero (times e v.done)))
            (split_total parts_of s.views id v (one_less v) (handed v) at (one_back v.parts alive))
            (both (λ u. IsPrefix u.path places) k.prefixes (k.prefixes id v at) tt)
            (both (λ u. AllPrefixes u.absorbed places) k.absorbed (k.absorbed id v at) tt)
            (split_pos (full_of (length places)) s.views id v (one_less v) (handed v) at refl k.whole)
            (both (IsOthers places) k.others (k.others id v at) (λ j h. refl))
            (both Tidy k.levels (k.levels id v at) (λ q h. ((λ x. refl), refl)))
            (both (Dones children failing f p walkers limit places) k.dones (k.dones id v at) (λ q h. refl))
            (both (Within children failing f p walkers limit) k.within (λ q. le_any (times q v.done) (v.parts - 1) (no_times q v.done bare.2)) (λ q. omega arith))
            (both (Idle children failing f p walkers limit) k.idle (λ _. bare) (λ e. absurd (omega arith)))
            (both (Same children failing f p walkers limit) k.same (λ _. k.same id v at alive) (λ _. k.same id v at alive)),
      )

  join_total : (g : PathView F P → ℕ) (vs : List (PathView F P)) (id other : ℕ) (v w : PathView F P) → get_elem? vs id ≡ some v → get_elem? (set vs id (joined v w)) other ≡ some w → g (joined v w) ≡ g v + g w → g spent_view ≡ 0
      → total g (set (set vs id (joined v w)) other spent_view) ≡ total g vs
  join_total g vs id other v w at too e z = let a = total_set g vs id v (joined v w) at in let b = total_set g (set vs id (joined v w)) other w spent_view too in omega arith

  join_pos : (g : PathView F P → ℕ) (vs : List (PathView F P)) (id other : ℕ) (v w : PathView F P) → get_elem? vs id ≡ some v → id ≢ other → get_elem? (set vs id (joined v w)) other ≡ some w → g v ≤ g (joined v w) → g w ≤ g (joined v w) → 0 < total g vs
      → 0 < total g (set (set vs id (joined v w)) other spent_view)
  join_pos g vs id other v w at apart too h k pos = let a = total_set g vs id v (joined v w) at in let b = total_set g (set vs id (joined v w)) other w spent_view too in
      let c = le_total g (set (set vs id (joined v w)) other spent_view) id (joined v w) (set_else (set vs id (joined v w)) other id spent_view apart ∙ set_here vs id (joined v w) (at_low vs id v at)) in omega arith

  sum_le : (c a b m n : ℕ) → c ≡ a + b → a ≤ m → b ≤ n → c ≤ m + n
  sum_le c a b m n e h k = omega arith

  sum_zero : (c a b : ℕ) → c ≡ a + b → a ≡ 0 → b ≡ 0 → c ≡ 0
  sum_zero c a b e h k = omega arith

  sum_same : (a b c d x y : ℕ) → x ≡ a + b → y ≡ c + d → a ≡ c → b ≡ d → x ≡ y
  sum_same a b c d x y h k e f = omega arith

  pub joins : (id other : ℕ) (v w : PathView F P) → 0 < v.parts → Joins Rule id v other w (joined v w) spent_view
  joins id other v w alive s (places, k) at apart too =
      let both : PathView F P = joined v w in
      let us : List (PathView F P) = set (set s.views id both) other spent_view in
      let there : get_elem? s.views other ≡ some w = ⊎_elim (λ (t : (other ≡ id) × (both ≡ w)). absurd (apart t.0)) (λ (t : (other ≢ id) × (get_elem? s.views other ≡ some w)). t.1) (at_set s.views id other both w too) in
      let all : (Q : PathView F P → Type 0) → ((i : ℕ) (u : PathView F P) → get_elem? s.views i ≡ some u → Q u) → Q both → Q spent_view → (i : ℕ) (u : PathView F P) → get_elem? us i ≡ some u → Q u
      = λ Q old one two. each_set Q (set s.views id both) other spent_view (each_set Q s.views id both old one) two in
      let len = longer_len v.path w.path in
      let pre : IsPrefix both.path places = longer_by (λ l. IsPrefix l places) v.path w.path (k.prefixes id v at) (k.prefixes other w there) in
      let fits_in = prefix_le both.path places pre in (
        places,
        regrouped s.words s.views us places k
            (λ e x. join_total (draws_of e x) s.views id other v w at too (drawn_append e x v.draws w.draws) refl)
            (λ e. join_total (dones_of e) s.views id other v w at too (times_append e v.done w.done) refl)
            (join_total parts_of s.views id other v w at too refl refl)
            (all (λ u. IsPrefix u.path places) k.prefixes pre tt)
            (all (λ u. AllPrefixes u.absorbed places) k.absorbed (prefixes_append v.absorbed (v.path ∷ w.path ∷ w.absorbed) places (k.absorbed id v at) (k.prefixes id v at, (k.prefixes other w there, k.absorbed other w there))) tt)
            (join_pos (full_of (length places)) s.views id other v w at (λ e. apart (sym e)) too (full_le (length v.path) (length both.path) (length places) len.0 fits_in) (full_le (length w.path) (length both.path) (length places) len.1 fits_in) k.whole)
            (all (IsOthers places) k.others (λ j h. let n : ℕ = length both.path in let from = others_from children failing f p walkers limit places in
            sum_zero (drawn n j (v.draws ++ w.draws)) (drawn n j v.draws) (drawn n j w.draws) (drawn_append n j v.draws w.draws) (from v (k.others id v at) (k.levels id v at) n len.0 j h) (from w (k.others other w there) (k.levels other w there) n len.1 j h)) (λ j h. refl))
            (all Tidy k.levels (λ q h. (
              (λ x. sum_zero (drawn q x (v.draws ++ w.draws)) (drawn q x v.draws) (drawn q x w.draws) (drawn_append q x v.draws w.draws) ((k.levels id v at q (omega arith)).0 x) ((k.levels other w there q (omega arith)).0 x)),
              sum_zero (times q (v.done ++ w.done)) (times q v.done) (times q w.done) (times_append q v.done w.done) (k.levels id v at q (omega arith)).1 (k.levels other w there q (omega arith)).1,
            )) (λ q h. ((λ x. refl), refl)))
            (all (Dones children failing f p walkers limit places) k.dones (λ q h. let m : ℕ = width (children f) p (take q places) in
            sum_same (times q v.done) (times q w.done) (past q m v.draws) (past q m w.draws) (times q (v.done ++ w.done)) (past q m (v.draws ++ w.draws)) (times_append q v.done w.done) (past_append q m v.draws w.draws) (k.dones id v at q h) (k.dones other w there q h)) (λ q h. refl))
            (all (Within children failing f p walkers limit) k.within (λ q. sum_le (times q (v.done ++ w.done)) (times q v.done) (times q w.done) v.parts w.parts (times_append q v.done w.done) (k.within id v at q) (k.within other w there q)) (λ q. omega arith))
            (all (Idle children failing f p walkers limit) k.idle (λ e. absurd (omega arith)) (λ _. (refl, refl, refl, refl, refl)))
            (all (Same children failing f p walkers limit) k.same (λ _. k.same id v at alive) (λ h. absurd (omega arith))),
      )

-- The same where the walker's word is found by its level, and the key is known to be a family, a root and a limit.
module _ {F P : Type 0} (children : F → P → List P) (failing : F → P → Bool) (kf : F) (kp : P) (walkers klimit : ℕ) (f : F) (p : P) (limit : ℕ) (same_f : kf ≡ f) (same_p : kp ≡ p) (same_limit : klimit ≡ limit) (slots id lv : ℕ) (me : Me (Unit {0}) (PathView F P))
    (is : lv ≡ length me.0.path) (alive : 0 < me.0.parts) (short : length me.0.path < limit) where
  abbrev KeyRule : State (Unit {0}) (PathView F P) → Type 0
  KeyRule s = Kept children failing kf kp walkers klimit s.words s.views

  short_key : length me.0.path < klimit
  short_key = omega arith

  same_width : width (children kf) kp me.0.path ≡ width (children f) p me.0.path
  same_width = λ i. width (children (same_f i)) (same_p i) me.0.path

  fails_key : (j : ℕ) → failing f (nth (reached (children f) p me.0.path) (children f (reached (children f) p me.0.path)) j) ≡ true → failing kf (nth (reached (children kf) kp me.0.path) (children kf (reached (children kf) kp me.0.path)) j) ≡ true
  fails_key j h = let e : failing kf (nth (reached (children kf) kp me.0.path) (children kf (reached (children kf) kp me.0.path)) j) ≡ failing f (nth (reached (children f) p me.0.path) (children f (reached (children f) p me.0.path)) j)
      = λ i. failing (same_f i) (nth (reached (children (same_f i)) (same_p i) me.0.path) (children (same_f i) (reached (children (same_f i)) (same_p i) me.0.path)) j) in e ∙ h

  pub claims_at : (count : ℕ) → count ≡ width (children f) p me.0.path → count ≤ 2 ^ 40 → walkers ≤ 64 → times (length me.0.path) me.0.done ≡ 0
      → Allows KeyRule slots id me (2 * lv + 2) (λ n. (n + 1) % 2 ^ 64) (Claimed children (step slots (2 * lv + 2) 1 0 none) me)
  claims_at count e few crew ready = let w = same_width in
      subst (λ (l : ℕ). Allows KeyRule slots id me (2 * l + 2) (λ n. (n + 1) % 2 ^ 64) (Claimed children (step slots (2 * l + 2) 1 0 none) me)) (sym is) (claims children failing kf kp walkers klimit slots id me alive short_key (omega arith) ready)

  pub looks_at : Allows KeyRule slots id me (2 * lv + 1) (λ n. n) (Looked children failing (step slots (2 * lv + 1) 0 0 none) me)
  looks_at = subst (λ (l : ℕ). Allows KeyRule slots id me (2 * l + 1) (λ n. n) (Looked children failing (step slots (2 * l + 1) 0 0 none) me)) (sym is) (looks children failing kf kp walkers klimit slots id me alive short_key)

  pub offers_at : (j m : ℕ) → m ≡ suc j → 0 < drawn (length me.0.path) j me.0.draws → j < width (children f) p me.0.path → failing f (nth (reached (children f) p me.0.path) (children f (reached (children f) p me.0.path)) j) ≡ true
      → Allows KeyRule slots id me (2 * lv + 1) (λ n. either (eqb n 0) m n) (Offered children failing (step slots (2 * lv + 1) 0 m none) me)
  offers_at j m e drew below fails = subst (λ (l : ℕ). Allows KeyRule slots id me (2 * l + 1) (λ n. either (eqb n 0) m n) (Offered children failing (step slots (2 * l + 1) 0 m none) me)) (sym is)
      (offers children failing kf kp walkers klimit slots id j m e me alive short_key drew (subst (λ (n : ℕ). j < n) (sym same_width) below) (fails_key j fails))
