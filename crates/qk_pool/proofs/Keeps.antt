-- Each step keeps the rule of the relay.
use Rattle.std.proofs.Common.{◌≡◌, ◌≢◌, ℕ, ◌+◌, ◌<◌, ◌≤◌, true, false, true≢false, List, [], ◌∷◌, ◌++◌, length, length-append, set, sym, refl, ap, ◌∙◌, subst, ⊎_elim, append_assoc, arith}
use Rattle.std.specs.Prelude.{zero, suc}
use mathlib.Core.Option.{some, some-ne-none}
use lib.ListN.{get_elem?}
use Rattle.crossbeam_queue.specs.Fifo.{Pushes, Pops, Forks, Merges, Learns}
use Rattle.crossbeam_queue.proofs.Lists.{at_set, at_snoc}
use Rattle.qk_totals.specs.Totals.{total}
use Rattle.qk_totals.proofs.Totals.{total_set, total_append, le_total, moved, each_set, each_snoc}
use Rattle.qk_totals.proofs.Gather.{alone, only}
use Rattle.qk_pool.specs.declared.taken.Taken.{Taken}
use Rattle.qk_pool.specs.declared.view.RelayView.{RelayView}
use Rattle.qk_pool.specs.Numbers.{numbers_of, is_end, ends_of, Below}
use Rattle.qk_pool.specs.Views.{known, parts_of, with_put, with_taken}
use Rattle.qk_pool.specs.Rule.{InTurn, Kept}
use Rattle.qk_pool.specs.Steps.{Took, one_less, newcomer, joined, spent_view, Weighed, Fits}
use Rattle.qk_pool.proofs.Turns.{turn_snoc, after_end, is_new, below_more, below_new}

abbrev All : (ℕ → RelayView → Type 0) → List RelayView → Type 0
All F views = (id : ℕ) (v : RelayView) → get_elem? views id ≡ some v → F id v

all_set : (F : ℕ → RelayView → Type 0) (views : List RelayView) (id : ℕ) (w : RelayView) → F id w → ((j : ℕ) (u : RelayView) → j ≢ id → get_elem? views j ≡ some u → F j u) → All F (set views id w)
all_set F views id w mine others j u e = ⊎_elim (λ (x : (j ≡ id) × (w ≡ u)). subst (λ (y : ℕ × RelayView). F y.0 y.1) (λ i. (sym x.0 i, x.1 i)) mine)
    (λ (x : (j ≢ id) × (get_elem? views j ≡ some u)). others j u x.0 x.1) (at_set views id j w u e)

all_snoc : (F : ℕ → RelayView → Type 0) (views : List RelayView) (w : RelayView) → All F views → ((j : ℕ) → F j w) → All F (views ++ w ∷ [])
all_snoc F views w all one j u e = ⊎_elim (λ (t : get_elem? views j ≡ some u). all j u t) (λ (t : w ≡ u). subst (F j) t (one j)) (at_snoc views w u j e)

plus_zero : (x : ℕ) → x ≡ x + 0
plus_zero x = omega arith

abbrev Feeds : ℕ → List Taken → ℕ → RelayView → Type 0
Feeds feeder sent id v = v.feeds ≡ true → (id ≡ feeder) × (v.put ≡ sent)

abbrev Under : ℕ → RelayView → Type 0
Under g v = v.feeds ≡ false → Below g (numbers_of v.taken)

abbrev Idle : RelayView → Type 0
Idle v = v.parts ≡ 0 → v.taken ≡ []

still : (f : RelayView → ℕ) (views : List RelayView) (id : ℕ) (v w : RelayView) → get_elem? views id ≡ some v → f w ≡ f v → total f (set views id w) ≡ total f views
still f views id v w at e = let t = total_set f views id v w at in omega arith

first_only : (v : RelayView) (j : ℕ) (u : RelayView) → get_elem? (v ∷ []) j ≡ some u → j ≡ 0
first_only v zero u e = refl
first_only v (suc j) u e = absurd (some-ne-none u (sym e))

module _ (sent got items : List Taken) (views : List RelayView) where
  ends_last : sent ≡ got ++ items → InTurn 0 sent → ((h : Taken → ℕ) → total (λ v. total h v.taken) views ≡ total h got)
      → (id : ℕ) (v : RelayView) → get_elem? views id ≡ some v → 0 < ends_of v.taken → (0 < ends_of sent) × (ends_of items ≡ length items)
  ends_last flow turn taken id v at p =
      let low = le_total (λ u. ends_of u.taken) views id v at in let all = taken is_end in
      let some : 0 < ends_of got = omega arith in
      let sum = ap ends_of flow ∙ total_append is_end got items in
      (omega arith, after_end 0 got items (subst (λ l. InTurn 0 l) flow turn) some)

pub begins : Kept [] (known true 1024 [] [] ∷ [])
begins = record {
  sent = [];
  got = [];
  feeder = 0;
  flow = refl;
  in_turn = tt;
  feeds = all_set (Feeds 0 []) (known true 1024 [] [] ∷ []) 0 (known true 1024 [] []) (λ _. (refl, refl)) (λ j u other e. absurd (other (first_only _ j u e)));
  taken = λ h. refl;
  below = only (Under 0) (known true 1024 [] []) (λ p. absurd (true≢false p));
  parts = refl;
  idle = only Idle (known true 1024 [] []) (λ _. refl);
  ended = ends_last [] [] [] (known true 1024 [] [] ∷ []) refl tt (λ h. refl);
}

pub puts : (n id : ℕ) (v : RelayView) (x : Taken) → v.feeds ≡ true → Fits v.put x → Pushes Kept n id v x (λ w. w ≡ with_put v x)
puts n id v x may fits items views room k at =
    let w : RelayView = with_put v x in let mine = k.feeds id v at may in let sent : List Taken = k.sent ++ x ∷ [] in
    let vs : List RelayView = set views id w in
    let flow : sent ≡ k.got ++ (items ++ x ∷ []) = ap (λ l. l ++ x ∷ []) k.flow ∙ append_assoc k.got items (x ∷ []) in
    let turn = turn_snoc k.sent x k.in_turn (subst (λ l. Fits l x) mine.1 fits) in
    let taken : (h : Taken → ℕ) → total (λ u. total h u.taken) vs ≡ total h k.got = λ h. still (λ u. total h u.taken) views id v w at refl ∙ k.taken h in (
      w,
      record {
        sent = sent;
        got = k.got;
        feeder = k.feeder;
        flow = flow;
        in_turn = turn;
        feeds = all_set (Feeds k.feeder sent) views id w (λ _. (mine.0, ap (λ l. l ++ x ∷ []) mine.1)) (λ j u other e p. absurd (other ((k.feeds j u e p).0 ∙ sym mine.0)));
        taken = taken;
        below = each_set (Under (length k.got)) views id w k.below (k.below id v at);
        parts = still parts_of views id v w at refl ∙ k.parts;
        idle = each_set Idle views id w k.idle (k.idle id v at);
        ended = ends_last sent k.got (items ++ x ∷ []) vs flow turn taken;
      },
      refl,
    )

-- the queue holds no more than was put
pub shows : (id : ℕ) (v : RelayView) → v.feeds ≡ true → Learns Kept id v (λ items. length items ≤ length v.put)
shows id v may items views k at =
    let mine = k.feeds id v at may in let a = ap length (mine.1 ∙ k.flow) in let b = length-append k.got items in omega arith

one_end : (xs : List Taken) (x : Taken) → ends_of (xs ++ x ∷ []) ≡ ends_of xs + is_end x
one_end xs x = let s = total_append is_end xs (x ∷ []) in omega arith

pub takes : (id : ℕ) (v : RelayView) → v.feeds ≡ false → 0 < v.parts → Pops Kept id v (Took v)
takes id v may alive x items views k at =
    let w : RelayView = with_taken v x in let mine = k.below id v at may in let got : List Taken = k.got ++ x ∷ [] in
    let turn = subst (λ l. InTurn 0 l) k.flow k.in_turn in
    let more = length-append k.got (x ∷ []) in
    let vs : List RelayView = set views id w in
    let flow : k.sent ≡ got ++ items = k.flow ∙ sym (append_assoc k.got (x ∷ []) items) in
    let taken : (h : Taken → ℕ) → total (λ u. total h u.taken) vs ≡ total h got =
    λ h. moved (λ u. total h u.taken) views id (total h (x ∷ [])) v w at (total_append h v.taken (x ∷ [])) ∙ ap (λ t. t + total h (x ∷ [])) (k.taken h) ∙ sym (total_append h k.got (x ∷ [])) in (
      w,
      record {
        sent = k.sent;
        got = got;
        feeder = k.feeder;
        flow = flow;
        in_turn = k.in_turn;
        feeds = all_set (Feeds k.feeder k.sent) views id w (k.feeds id v at) (λ j u other e. k.feeds j u e);
        taken = taken;
        below = each_set (Under (length got)) views id w (λ j u e p. below_more (length k.got) (length got) (numbers_of u.taken) (omega arith) (k.below j u e p)) (λ _. below_new k.got items v.taken x turn mine);
        parts = still parts_of views id v w at refl ∙ k.parts;
        idle = each_set Idle views id w k.idle (λ z. absurd (omega arith));
        ended = ends_last k.sent got items vs flow k.in_turn taken;
      },
      (refl, is_new k.got items v.taken x turn mine, one_end v.taken x),
    )

split_total : (f : RelayView → ℕ) (vs : List RelayView) (id : ℕ) (v l r : RelayView) → get_elem? vs id ≡ some v → f l + f r ≡ f v → total f (set vs id l ++ r ∷ []) ≡ total f vs
split_total f vs id v l r at e = let a = total_append f (set vs id l) (r ∷ []) in let b = total_set f vs id v l at in omega arith

pub forks : (id : ℕ) (v : RelayView) → v.feeds ≡ true → 1 < v.parts → Forks Kept id v (one_less v) newcomer
forks id v may alive items views k at = let l : RelayView = one_less v in let mine = k.feeds id v at in
    let vs : List RelayView = set views id l ++ newcomer ∷ [] in
    let taken : (h : Taken → ℕ) → total (λ u. total h u.taken) vs ≡ total h k.got = λ h. split_total (λ u. total h u.taken) views id v l newcomer at (sym (plus_zero (total h v.taken))) ∙ k.taken h in
    record {
      sent = k.sent;
      got = k.got;
      feeder = k.feeder;
      flow = k.flow;
      in_turn = k.in_turn;
      feeds = all_snoc (Feeds k.feeder k.sent) (set views id l) newcomer (all_set (Feeds k.feeder k.sent) views id l mine (λ j u other e. k.feeds j u e)) (λ j p. absurd (true≢false (sym p)));
      taken = taken;
      below = each_snoc (Under (length k.got)) (set views id l) newcomer (each_set (Under (length k.got)) views id l k.below (k.below id v at)) (λ _ m _. refl);
      parts = split_total parts_of views id v l newcomer at (omega arith) ∙ k.parts;
      idle = each_snoc Idle (set views id l) newcomer (each_set Idle views id l k.idle (λ z. absurd (omega arith))) (λ z. absurd (omega arith));
      ended = ends_last k.sent k.got items vs k.flow k.in_turn taken;
    }

join_total : (f : RelayView → ℕ) (vs : List RelayView) (id other : ℕ) (v w : RelayView) → get_elem? vs id ≡ some v → get_elem? (set vs id (joined v w)) other ≡ some w → f (joined v w) ≡ f v + f w → f spent_view ≡ 0
    → total f (set (set vs id (joined v w)) other spent_view) ≡ total f vs
join_total f vs id other v w at too e z = let a = total_set f vs id v (joined v w) at in let b = total_set f (set vs id (joined v w)) other w spent_view too in omega arith

pub merges : (id : ℕ) (v : RelayView) (other : ℕ) (u : RelayView) → v.feeds ≡ true → 0 < v.parts → Merges Kept id v other u (joined v u) spent_view
merges id v other u may alive items views k at apart too =
    let both : RelayView = joined v u in let vs : List RelayView = set views id both in
    let taken : (h : Taken → ℕ) → total (λ y. total h y.taken) (set vs other spent_view) ≡ total h k.got = λ h. join_total (λ y. total h y.taken) views id other v u at too (total_append h v.taken u.taken) refl ∙ k.taken h in
    record {
      sent = k.sent;
      got = k.got;
      feeder = k.feeder;
      flow = k.flow;
      in_turn = k.in_turn;
      feeds = all_set (Feeds k.feeder k.sent) vs other spent_view (λ p. absurd (true≢false (sym p))) (λ j y far e. all_set (Feeds k.feeder k.sent) views id both (k.feeds id v at) (λ i z _ d. k.feeds i z d) j y e);
      taken = taken;
      below = each_set (Under (length k.got)) vs other spent_view (each_set (Under (length k.got)) views id both k.below (λ p. absurd (true≢false (sym may ∙ p)))) (λ _ m _. refl);
      parts = join_total parts_of views id other v u at too refl refl ∙ k.parts;
      idle = each_set Idle vs other spent_view (each_set Idle views id both k.idle (λ z. absurd (omega arith))) (λ _. refl);
      ended = ends_last k.sent k.got items (set vs other spent_view) k.flow k.in_turn taken;
    }

pub weighs : (id : ℕ) (v : RelayView) → v.feeds ≡ true → v.parts ≡ 1024 → Learns Kept id v (Weighed v)
weighs id v may all items views k at =
    let mine = (k.feeds id v at may).1 in
    let has : (h : Taken → ℕ) → total h k.got ≡ total h v.taken = λ h. sym (k.taken h) ∙ alone parts_of (λ u. total h u.taken) views id v at (k.parts ∙ sym all) (λ i u e z. ap (total h) (k.idle i u e z)) in (
      (λ h. ap (total h) (mine ∙ k.flow) ∙ total_append h k.got items ∙ ap (λ t. t + total h items) (has h)),
      (λ p. after_end 0 k.got items (subst (λ l. InTurn 0 l) k.flow k.in_turn) (subst (λ t. 0 < t) (sym (has is_end)) p)),
    )
