-- The weighed parts of a frequency.
use Rattle.std.specs.Prelude.{nat_le, nat_lt, sum_by, ℤ, pos, negsuc}
use Rattle.std.specs.List.{fold}
use Rattle.std.proofs.Common.{◌≡◌, ◌∙◌, ℕ, ◌+◌, ◌<◌, ◌≤◌, true, List, [], ◌∷◌, map, refl, sym, ap, subst, arith, Ok}
use Rattle.std.proofs.lemmas.Bool.Decides.{nat_tests}
use Rattle.qk_base.specs.declared.place.Place.{Place}
use Rattle.qk_syntax.specs.PlainTrees.{number, list, PlainTrees, end, more, count}
use Rattle.qk_core.specs.GenData.{GenData, weighteds_of}
use Rattle.qk_value.specs.Types.{TypeData}
use Rattle.qk_generators.specs.Drawing.{Drawn, drawn, Part, weight_at, of_parts, draws_agree}
use Rattle.qk_typing.specs.Operators.{Tables}
use Rattle.qk_headers.specs.Scopes.{Scope}
use Rattle.qk_wellformed.specs.GeneratorTypes.{AllAre}
use Rattle.qk_wellformed.specs.IsGenerator.{IsGenerator, AreWeighed}
use Rattle.qk_wellformed.proofs.DrawingStands.{types_drawn, draws_agreeing, draws_agree_given, all_as, parts_same, drawn_same}
use Rattle.qk_wellformed.proofs.Inversion.{ok_is, held, followed, passing, next_after}

pub at_most : (m n : ℕ) → nat_le m n ≡ true → m ≤ n
at_most m n h = grind (arith, nat_tests)

pub most_given : (m n : ℕ) → m ≤ n → nat_le m n ≡ true
most_given m n h = grind (arith, nat_tests)

pub less : (m n : ℕ) → nat_lt m n ≡ true → m < n
less m n h = grind (arith, nat_tests)

pub less_given : (m n : ℕ) → m < n → nat_lt m n ≡ true
less_given m n h = grind (arith, nat_tests)

pub weight_stands : (q : Place) (n : ℤ) (k : ℕ) → weight_at q n ≡ Ok k → (n ≡ pos k) × (k ≤ 1000000)
weight_stands q (negsuc m) k h = absurd (cc)
weight_stands q (pos m) k h = held (nat_le m 1000000) 29 q (Ok m) k _ (λ le r. let same : m ≡ k = ok_is _ _ _ refl r in (ap pos same, subst (λ j. j ≤ 1000000) same (at_most m 1000000 le))) h

pub weight_given : (q : Place) (n : ℤ) (k : ℕ) → n ≡ pos k → k ≤ 1000000 → weight_at q n ≡ Ok k
weight_given q n k is le = ap (weight_at q) is ∙ passing (nat_le k 1000000) 29 q (Ok k) (Ok k) (most_given k 1000000 le) refl

-- the parts as the program has them
abbrev pub weighed : List Part → List (ℕ × GenData)
weighed parts = map (λ a. (a.weight, a.body.gen)) parts

abbrev pub types_of_parts : List Part → List TypeData
types_of_parts parts = types_drawn (map (λ a. a.body) parts)

weights_from : (n : ℕ) (parts : List Part) → fold (λ m a. m + a.weight) n parts ≡ fold (λ m a. m + a.0) n (weighed parts)
weights_from n [] = refl
weights_from n (a ∷ parts) = weights_from (n + a.weight) parts

weights_same : (parts : List Part) → sum_by (λ a. a.weight) parts ≡ sum_by (λ a. a.0) (weighed parts)
weights_same parts = weights_from 0 parts

-- each part draws values of a type of its own
abbrev pub AreParts : Tables → Scope → PlainTrees → List Part → Type 0
AreParts d s end [] = Unit {0}
AreParts d s (more (list p (more (number q n) (more b end))) us) (a ∷ parts) = (n ≡ pos a.weight) × (a.weight ≤ 1000000) × IsGenerator d s b a.body.ty a.body.gen × AreParts d s us parts
AreParts d s us parts = ⊥

module _ (d : Tables) (s : Scope) where
  weighed_from : (us : PlainTrees) (parts : List Part) (t : TypeData) → AreParts d s us parts → AllAre t (types_of_parts parts) → AreWeighed d s t us (weighed parts)
  weighed_from end [] t h all = tt
  weighed_from (more (list p (more (number q n) (more b end))) us) (a ∷ parts) t (is, le, ib, rest) (same, all) = (is, le, subst (λ y. IsGenerator d s b y a.body.gen) same ib, weighed_from us parts t rest all)
  weighed_from us parts t h all = absurd h

  pub parts_stand : (p : Place) (us : PlainTrees) (parts : List Part) (r : Drawn) → AreParts d s us parts → of_parts p parts ≡ Ok r
      → (ws : List (ℕ × GenData)) × AreWeighed d s r.ty us ws × (0 < sum_by (λ a. a.0) ws) × (r.gen ≡ GenData.frequency (weighteds_of ws))
  parts_stand p us [] r are h = absurd (cc)
  parts_stand p us (part ∷ parts) r are h =
      held (nat_lt 0 (sum_by (λ a. a.weight) (part ∷ parts))) 29 p _ r _
      (λ some k. followed (draws_agree part.body.ty (map (λ a. a.body) parts)) (Ok (drawn p part.body.ty (GenData.frequency (weighteds_of (weighed (part ∷ parts)))))) r _
      (λ x f l. let same : (r.ty ≡ part.body.ty) × (r.gen ≡ GenData.frequency (weighteds_of (weighed (part ∷ parts)))) = parts_same _ r (ok_is _ _ _ refl l) in (
        weighed (part ∷ parts),
        weighed_from us (part ∷ parts) r.ty are (sym same.0, all_as part.body.ty r.ty (types_of_parts parts) (sym same.0) (draws_agreeing part.body.ty (map (λ a. a.body) parts) x f)),
        subst (λ n. 0 < n) (weights_same (part ∷ parts)) (less 0 _ some),
        same.1,
      )) k) h

  pub parts_given : (p : Place) (parts : List Part) (t : TypeData) (g : GenData) → AllAre t (types_of_parts parts) → 0 < sum_by (λ a. a.0) (weighed parts) → g ≡ GenData.frequency (weighteds_of (weighed parts))
      → of_parts p parts ≡ Ok (drawn p t g)
  parts_given p [] t g all some is = absurd (omega arith)
  parts_given p (part ∷ parts) t g (same, all) some is =
      passing (nat_lt 0 (sum_by (λ a. a.weight) (part ∷ parts))) 29 p _ _ (less_given 0 _ (subst (λ n. 0 < n) (sym (weights_same (part ∷ parts))) some))
      (next_after (draws_agree part.body.ty (map (λ a. a.body) parts)) (Ok (drawn p part.body.ty (GenData.frequency (weighteds_of (weighed (part ∷ parts)))))) tt _
      (draws_agree_given part.body.ty (map (λ a. a.body) parts) (all_as t part.body.ty (types_of_parts parts) (sym same) all)) (drawn_same p t part.body.ty g _ (sym same) is))

  pub some_parts : (t : TypeData) (us : PlainTrees) (ws : List (ℕ × GenData)) → AreWeighed d s t us ws → 0 < sum_by (λ a. a.0) ws → nat_lt 0 (count us) ≡ true
  some_parts t end [] are some = absurd (omega arith)
  some_parts t end (w ∷ ws) are some = absurd are
  some_parts t (more u us) ws are some = grind arith
