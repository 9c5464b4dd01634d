-- Which bytes the fields of a token are read from.
use Rattle.std.proofs.Common.{◌≡◌, ◌∙◌, ℕ, ◌-◌, ◌^◌, ◌<◌, ◌≤◌, ◌==◌, Bool, true, false, List, [], ◌∷◌, ◌++◌, Option, Some, None, option_map, decimal, nat_le, nat_lt, refl, ap, subst, arith, if◌then◌else◌}
use Rattle.std.proofs.lemmas.Bool.{le-leb, leb-true, lt-ltb, ltb-true, eqb-true}
use Rattle.std.specs.Prelude.{option_and_then}
use Rattle.qk_report.specs.declared.token_parsing.Fields.{Fields}
use Rattle.qk_report.specs.TokenReader.{number_in, past, field_in, fuel_in, attempt_in, fields_in}
use Rattle.qk_report.proofs.NumberReading.{number_whole, number_sound, some_eq, none_some}

-- what a step that succeeded found
pub then_some : {X Y : Type 0} (f : X → Option Y) (o : Option X) (y : Y) → option_and_then f o ≡ Some y → (x : X) × ((o ≡ Some x) × (f x ≡ Some y))
then_some f None y e = absurd (none_some y e)
then_some f (Some x) y e = (x, (refl, e))

pub map_some : {X Y : Type 0} (f : X → Y) (o : Option X) (y : Y) → option_map f o ≡ Some y → (x : X) × ((o ≡ Some x) × (f x ≡ y))
map_some f None y e = absurd (none_some y e)
map_some f (Some x) y e = (x, (refl, some_eq (f x) y e))

pub past_sound : (b : ℕ) (bytes rest : List ℕ) → past b bytes ≡ Some rest → bytes ≡ b ∷ rest
past_sound b [] rest e = absurd (none_some rest e)
past_sound b (c ∷ cs) rest e = by (c == b) refl e
  where
    by : (t : Bool) → (c == b) ≡ t → (if t then Some cs else None) ≡ Some rest → c ∷ cs ≡ b ∷ rest
    by true same k = ap (λ x. x ∷ cs) (eqb-true c b same) ∙ ap (λ t. b ∷ t) (some_eq cs rest k)
    by false same k = absurd (none_some rest k)

pub field_whole : (most n : ℕ) (rest : List ℕ) → n ≤ most → n < 2 ^ 64 → field_in most (decimal n ++ 58 ∷ rest) ≡ Some (n, rest)
field_whole most n rest h k =
    let read = number_whole n (58 ∷ rest) k refl in
    let few = le-leb n most h in
    rw read (rw few refl)

pub field_sound : (most : ℕ) (bytes : List ℕ) (p : ℕ × List ℕ) → field_in most bytes ≡ Some p → (bytes ≡ decimal p.0 ++ 58 ∷ p.1) × ((p.0 ≤ most) × (p.0 < 2 ^ 64))
field_sound most bytes p e =
    let found = then_some (λ q. if nat_le q.0 most then option_map (λ rest. (q.0, rest)) (past 58 q.1) else None) (number_in bytes) p e in
    by found.0 found.1.0 (nat_le found.0.0 most) refl found.1.1
  where
    by : (q : ℕ × List ℕ) → number_in bytes ≡ Some q → (t : Bool) → nat_le q.0 most ≡ t → (if t then option_map (λ rest. (q.0, rest)) (past 58 q.1) else None) ≡ Some p
        → (bytes ≡ decimal p.0 ++ 58 ∷ p.1) × ((p.0 ≤ most) × (p.0 < 2 ^ 64))
    by q read true few k =
        let behind = map_some (λ rest. (q.0, rest)) (past 58 q.1) p k in
        let number = number_sound bytes q.0 q.1 read in
        let colon = past_sound 58 q.1 behind.0 behind.1.0 in
        subst (λ (r : ℕ × List ℕ). (bytes ≡ decimal r.0 ++ 58 ∷ r.1) × ((r.0 ≤ most) × (r.0 < 2 ^ 64))) behind.1.1
        (number.0 ∙ ap (λ t. decimal q.0 ++ t) colon, (leb-true _ _ few, number.1))
    by q read false few k = absurd (none_some p k)

-- the text of the fields, each with the colon behind it
abbrev pub fields_text : Fields → List ℕ → List ℕ
fields_text f rest = decimal f.property ++ 58 ∷ (decimal f.seed ++ 58 ∷ (decimal f.attempt ++ 58 ∷ (decimal f.size ++ 58 ∷ (decimal f.fuel ++ 58 ∷ rest))))

pub record AreFields (f : Fields) : Type 0 where
  pub property : f.property ≤ 999
  pub seed : f.seed < 2 ^ 64
  pub attempt : f.attempt ≤ 100999999
  pub size : f.size ≤ 1000
  pub fuel : (1 ≤ f.fuel) × (f.fuel ≤ 1000000)

pub fields_whole : (f : Fields) (rest : List ℕ) → AreFields f → fields_in (fields_text f rest) ≡ Some (f, rest)
fields_whole f rest h =
    let property = field_whole 999 f.property (decimal f.seed ++ 58 ∷ (decimal f.attempt ++ 58 ∷ (decimal f.size ++ 58 ∷ (decimal f.fuel ++ 58 ∷ rest)))) h.property (omega (arith, h.property)) in
    let seed = field_whole (2 ^ 64 - 1) f.seed (decimal f.attempt ++ 58 ∷ (decimal f.size ++ 58 ∷ (decimal f.fuel ++ 58 ∷ rest))) (omega (arith, h.seed)) h.seed in
    let attempt = field_whole 100999999 f.attempt (decimal f.size ++ 58 ∷ (decimal f.fuel ++ 58 ∷ rest)) h.attempt (omega (arith, h.attempt)) in
    let size = field_whole 1000 f.size (decimal f.fuel ++ 58 ∷ rest) h.size (omega (arith, h.size)) in
    let fuel = field_whole 1000000 f.fuel rest h.fuel.1 (omega (arith, h.fuel.1)) in
    let some = lt-ltb 0 f.fuel h.fuel.0 in
    ap (λ o. option_and_then (λ p. option_and_then (λ q. attempt_in p.0 q.0 q.1) (field_in (2 ^ 64 - 1) p.1)) o) property
    ∙ ap (λ o. option_and_then (λ q. attempt_in f.property q.0 q.1) o) seed
    ∙ ap (λ o. option_and_then (λ p. option_and_then (λ q. fuel_in f.property f.seed p.0 q.0 q.1) (field_in 1000 p.1)) o) attempt
    ∙ ap (λ o. option_and_then (λ q. fuel_in f.property f.seed f.attempt q.0 q.1) o) size
    ∙ ap (λ o. option_and_then (λ p. if nat_lt 0 p.0 then Some (record { property = f.property; seed = f.seed; attempt = f.attempt; size = f.size; fuel = p.0 }, p.1) else None) o) fuel
    ∙ rw some refl

pub fields_sound : (bytes : List ℕ) (p : Fields × List ℕ) → fields_in bytes ≡ Some p → (bytes ≡ fields_text p.0 p.1) × AreFields p.0
fields_sound bytes p e =
    let property = then_some (λ (q : ℕ × List ℕ). option_and_then (λ (r : ℕ × List ℕ). attempt_in q.0 r.0 r.1) (field_in (2 ^ 64 - 1) q.1)) (field_in 999 bytes) p e in
    let seed = then_some (λ (r : ℕ × List ℕ). attempt_in property.0.0 r.0 r.1) (field_in (2 ^ 64 - 1) property.0.1) p property.1.1 in
    let attempt = then_some (λ (q : ℕ × List ℕ). option_and_then (λ (r : ℕ × List ℕ). fuel_in property.0.0 seed.0.0 q.0 r.0 r.1) (field_in 1000 q.1)) (field_in 100999999 seed.0.1) p seed.1.1 in
    let size = then_some (λ (r : ℕ × List ℕ). fuel_in property.0.0 seed.0.0 attempt.0.0 r.0 r.1) (field_in 1000 attempt.0.1) p attempt.1.1 in
    let fuel = then_some (λ (q : ℕ × List ℕ). if nat_lt 0 q.0 then Some (record { property = property.0.0; seed = seed.0.0; attempt = attempt.0.0; size = size.0.0; fuel = q.0 }, q.1) else None) (field_in 1000000 size.0.1) p size.1.1 in
    let first = field_sound 999 bytes property.0 property.1.0 in
    let second = field_sound (2 ^ 64 - 1) property.0.1 seed.0 seed.1.0 in
    let third = field_sound 100999999 seed.0.1 attempt.0 attempt.1.0 in
    let fourth = field_sound 1000 attempt.0.1 size.0 size.1.0 in
    let fifth = field_sound 1000000 size.0.1 fuel.0 fuel.1.0 in
    let whole : bytes ≡ decimal property.0.0 ++ 58 ∷ (decimal seed.0.0 ++ 58 ∷ (decimal attempt.0.0 ++ 58 ∷ (decimal size.0.0 ++ 58 ∷ (decimal fuel.0.0 ++ 58 ∷ fuel.0.1)))) =
    first.0 ∙ ap (λ t. decimal property.0.0 ++ 58 ∷ t) (second.0 ∙ ap (λ t. decimal seed.0.0 ++ 58 ∷ t) (third.0 ∙ ap (λ t. decimal attempt.0.0 ++ 58 ∷ t) (fourth.0 ∙ ap (λ t. decimal size.0.0 ++ 58 ∷ t) fifth.0))) in
    by property.0.0 seed.0.0 attempt.0.0 size.0.0 fuel.0.0 fuel.0.1 whole first.1.0 second.1.1 third.1.0 fourth.1.0 fifth.1.0 (nat_lt 0 fuel.0.0) refl fuel.1.1
  where
    by : (a b c d f : ℕ) (rest : List ℕ) → bytes ≡ decimal a ++ 58 ∷ (decimal b ++ 58 ∷ (decimal c ++ 58 ∷ (decimal d ++ 58 ∷ (decimal f ++ 58 ∷ rest))))
        → a ≤ 999 → b < 2 ^ 64 → c ≤ 100999999 → d ≤ 1000 → f ≤ 1000000
        → (t : Bool) → nat_lt 0 f ≡ t → (if t then Some (record { property = a; seed = b; attempt = c; size = d; fuel = f }, rest) else None) ≡ Some p
        → (bytes ≡ fields_text p.0 p.1) × AreFields p.0
    by a b c d f rest whole ha hb hc hd hf true some k =
        subst (λ (q : Fields × List ℕ). (bytes ≡ fields_text q.0 q.1) × AreFields q.0) (some_eq _ p k)
        (whole, record { property = ha; seed = hb; attempt = hc; size = hd; fuel = (ltb-true 0 f some, hf) })
    by a b c d f rest whole ha hb hc hd hf false some k = absurd (none_some p k)
