-- What the values of an attempt are shrunk to is typed.
use Rattle.std.specs.Prelude.{position, slice_index_or, nat_lt}
use Rattle.std.proofs.Common.{◌≡◌, ℕ, zero, suc, ◌+◌, Bool, true, false, ◌&&◌, if◌then◌else◌, List, [], ◌∷◌, length, take, Option, Some, None, slice_get, refl, sym, subst}
use Rattle.std.proofs.lemmas.List.Elements.{All-nil, All-map, All-head, All-tail}
use Rattle.std.specs.List.{All}
use Rattle.qk_base.specs.declared.outcome.Cause.{Cause}
use Rattle.qk_command.specs.Drawing.{DrawnValues}
use Rattle.qk_core.specs.Program.{ProgramData}
use Rattle.qk_core.specs.Properties.{PropertyData}
use Rattle.qk_minimise.specs.Descent.{Descended, descent}
use Rattle.qk_minimise.specs.Minimal.{Minimal}
use Rattle.qk_path.specs.Points.{nth, reached}
use Rattle.qk_property.specs.Attempts.{drawn_at}
use Rattle.qk_property.specs.Points.{with_values, children_at, fails_at}
use Rattle.qk_property.specs.Replayed.{step_to, followed}
use Rattle.qk_property.specs.Settings.{ReportSettings}
use Rattle.qk_property.specs.Shrunk.{is_shrunk}
use Rattle.qk_shrink.proofs.SizeLaws.{each}
use Rattle.qk_shrink.specs.Tuples.{candidates}
use Rattle.qk_splitmix.specs.Attempts.{attempt_gen}
use Rattle.qk_typed.proofs.Candidates.{candidates_typed}
use Rattle.qk_typed.proofs.DrawnValues.{drawn_typed, judged_typed}
use Rattle.qk_typed.specs.TypedValues.{HaveTypes}
use Rattle.qk_typed.specs.WellTyped.{IsWellTyped, types_of}
use Rattle.qk_value.specs.Data.{Data}
use Rattle.qk_value.specs.Kinds.{KindData}
use Rattle.qk_value.specs.Types.{TypeData}
use Rattle.qk_sound.specs.Reported.{IsTypedPoint, ShrunkPointsAreTyped, ReplayedPointsAreTyped}
use Rattle.qk_sound.proofs.Found.{same_some}
use Rattle.qk_sound.proofs.Programs.{programs_typed}

-- what holds of all children holds wherever steps to children lead
module _ {P : Type 0} (Good : P → Type 0) where
  one_of : (xs : List P) (i : ℕ) (d : P) → All Good xs → Good d → Good (slice_index_or xs i d)
  one_of [] i d all h = h
  one_of (x ∷ xs) zero d all h = All-head Good x xs all
  one_of (x ∷ xs) (suc i) d all h = one_of xs i d (All-tail Good x xs all) h

  nth_of : (xs : List P) (i : ℕ) (d : P) → All Good xs → Good d → Good (nth d xs i)
  nth_of [] i d all h = h
  nth_of (x ∷ xs) zero d all h = All-head Good x xs all
  nth_of (x ∷ xs) (suc i) d all h = nth_of xs i d (All-tail Good x xs all) h

  module _ (children : P → List P) (failing : P → Bool) (good : (q : P) → Good q → All Good (children q)) where
    -- where a descent ends from a point of which that child is the first to fail
    abbrev ends : ℕ → P → Option ℕ → Descended P
    ends left q o = elim o [
      | None ↦ record { point = q; path = []; tried = length (children q); limit_met = false }
      | Some place ↦
          let more = descent children failing left (slice_index_or (children q) place q) in
          record { point = more.point; path = place ∷ more.path; tried = place + 1 + more.tried; limit_met = more.limit_met }
    ]

    next_good : (left : ℕ) (q : P) (o : Option ℕ) → Good q → ((x : P) → Good x → Good (descent children failing left x).point) → Good (ends left q o).point
    next_good left q None h rest = h
    next_good left q (Some place) h rest = rest (slice_index_or (children q) place q) (one_of (children q) place q (good q h) h)

    descent_good : (left : ℕ) (q : P) → Good q → Good (descent children failing left q).point
    descent_good zero q h = h
    descent_good (suc left) q h = next_good left q (position failing (children q)) h (λ x k. descent_good left x k)

    reached_good : (path : List ℕ) (q : P) → Good q → Good (reached children q path)
    reached_good [] q h = h
    reached_good (n ∷ ns) q h = reached_good ns (nth q (children q) n) (nth_of (children q) n q (good q h) h)

    step_good : (b : Bool) (q r : P) (n : ℕ) → Good q → (if b then Some (nth q (children q) n) else None) ≡ Some r → Good r
    step_good true q r n h e = subst Good (same_some (nth q (children q) n) r e) (nth_of (children q) n q (good q h) h)
    step_good false q r n h e = cc

    from_good : (path : List ℕ) (o : Option P) (r : P) → ((s : P) → o ≡ Some s → Good s) → ((s : P) → Good s → followed children failing s path ≡ Some r → Good r)
        → elim o [ None ↦ None | Some s ↦ followed children failing s path ] ≡ Some r → Good r
    from_good path None r h rest e = cc
    from_good path (Some s) r h rest e = rest s (h s refl) e

    followed_good : (path : List ℕ) (q r : P) → Good q → followed children failing q path ≡ Some r → Good r
    followed_good [] q r h e = subst Good (same_some q r e) h
    followed_good (n ∷ ns) q r h e =
        from_good ns (step_to children failing q n) r (λ s k. step_good (nat_lt n (length (children q)) && failing (nth q (children q) n)) q s n h k) (λ s k f. followed_good ns s r k f) e

first_all : (kinds : List KindData) (ts : List TypeData) (xs : List Data) → HaveTypes kinds ts xs → HaveTypes kinds (take (length xs) ts) xs
first_all kinds [] [] h = tt
first_all kinds [] (x ∷ xs) h = absurd h
first_all kinds (t ∷ ts) [] h = absurd h
first_all kinds (t ∷ ts) (x ∷ xs) h = (h.0, first_all kinds ts xs h.1)

module _ (c : ProgramData) (is : IsWellTyped c) (i : ℕ) (p : PropertyData) (at : slice_get c.properties i ≡ Some p) where
  drawn_point : (seed fuel k size : ℕ) → IsTypedPoint c p (drawn_at c p seed fuel k size)
  drawn_point seed fuel k size = record { first = drawn_typed c is i p size (attempt_gen seed k) fuel at; all = λ none. judged_typed c is i p size (attempt_gen seed k) fuel at none }

  from_values : (fuel : ℕ) (xs : List Data) (crash : Option Cause) → IsTypedPoint c p (record { values = xs; crash = crash }) → All (IsTypedPoint c p) (children_at c p fuel (record { values = xs; crash = crash }))
  from_values fuel xs None h =
      All-map (IsTypedPoint c p) with_values (candidates c p.binders xs fuel)
      (each (HaveTypes c.kinds (types_of p.binders)) (λ ys. IsTypedPoint c p (with_values ys)) (λ ys k. record { first = first_all c.kinds (types_of p.binders) ys k; all = λ none. k })
      (candidates c p.binders xs fuel) (candidates_typed c is i p xs fuel at (h.all refl)))
  from_values fuel xs (Some cause) h = All-nil (IsTypedPoint c p)

  children_typed : (fuel : ℕ) (point : DrawnValues) → IsTypedPoint c p point → All (IsTypedPoint c p) (children_at c p fuel point)
  children_typed fuel point h = from_values fuel point.values point.crash h

  shrunk_point : (greedy : Bool) (s : ReportSettings) (point : DrawnValues) (m : Minimal DrawnValues) → IsTypedPoint c p point → is_shrunk greedy s c p point m → IsTypedPoint c p m.point
  shrunk_point false s point m h w =
      subst (λ (x : Minimal DrawnValues). IsTypedPoint c p x.point) (sym w) (descent_good (IsTypedPoint c p) (children_at c p s.fuel) (fails_at c p s.fuel) (children_typed s.fuel) s.shrinks point h)
  shrunk_point true s point m h w = subst (IsTypedPoint c p) w.0.ends (reached_good (IsTypedPoint c p) (children_at c p s.fuel) (fails_at c p s.fuel) (children_typed s.fuel) m.path point h)

  replayed_point : (b : Bool) (fuel : ℕ) (from point : DrawnValues) (path : List ℕ) → IsTypedPoint c p from → (if b then followed (children_at c p fuel) (fails_at c p fuel) from path else None) ≡ Some point → IsTypedPoint c p point
  replayed_point true fuel from point path h e = followed_good (IsTypedPoint c p) (children_at c p fuel) (fails_at c p fuel) (children_typed fuel) path from point h e
  replayed_point false fuel from point path h e = cc

pub shrunk_points_typed : ShrunkPointsAreTyped
shrunk_points_typed trees core is i p s k size m at w =
    shrunk_point core (programs_typed trees core is) i p at s.greedy s (drawn_at core p s.seed s.fuel k size) m (drawn_point core (programs_typed trees core is) i p at s.seed s.fuel k size) w

pub replayed_points_typed : ReplayedPointsAreTyped
replayed_points_typed trees core is i p seed fuel k size path point at e =
    replayed_point core (programs_typed trees core is) i p at (fails_at core p fuel (drawn_at core p seed fuel k size)) fuel (drawn_at core p seed fuel k size) point path
    (drawn_point core (programs_typed trees core is) i p at seed fuel k size) e
