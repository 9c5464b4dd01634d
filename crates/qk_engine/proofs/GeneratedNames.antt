-- The names of the properties of a generated file are new.
use Rattle.std.proofs.Common.{◌≡◌, ℕ, ◌+◌, ◌<◌, ◌≤◌, Bool, true, false, cond, ◌||◌, List, [], ◌∷◌, decimal, refl, ap, ◌∙◌, arith}
use Rattle.std.specs.Prelude.{bytes_eq, nat_eq, pos, if◌then◌else◌}
use Rattle.std.proofs.lemmas.Bool.Decides.{nat_tests}
use Rattle.std.proofs.lemmas.Bool.{false_from_ne_true}
use Rattle.std.proofs.lemmas.Fmt.{decimal_injective}
use Rattle.std.proofs.lemmas.Int.{ints}
use Rattle.std.proofs.lemmas.List.Sums.{sum_by-append}
use Rattle.std.proofs.lemmas.Slice.Eq.{bytes_eq-Decides}
use Rattle.qk_syntax.specs.Words.{is_digit, is_number_word, begins_with_digit}
use Rattle.qk_syntax.proofs.PrintedNumbers.{printed_number}
use Rattle.qk_names.specs.Names.{Declared, is_declared, is_known, number_of, is_of}
use Rattle.qk_names.specs.Reserved.{Word, is_reserved}
use Rattle.qk_names.specs.declared.names.Item.TheVariants as items
use Rattle.qk_names.specs.declared.names.Named.{Named}
use Rattle.qk_names.specs.declared.names.Named.TheVariants as named
use Rattle.qk_wellformed.specs.AreNames.{with_name}
use Rattle.qk_engine.proofs.GeneratedTrees.{name_of}

differ : (a b : List ℕ) → (a ≡ b → ⊥) → bytes_eq a b ≡ false
differ a b apart = false_from_ne_true (bytes_eq a b) (λ t. apart ((bytes_eq-Decides a b).0 t))

tail_of : List ℕ → List ℕ
tail_of [] = []
tail_of (x ∷ xs) = xs

-- names of two numbers differ
pub names_differ : (i j : ℕ) → i < 1000 → j < 1000 → (i ≡ j → ⊥) → bytes_eq (name_of i) (name_of j) ≡ false
unfolding tail_of
names_differ i j few also apart = differ (name_of i) (name_of j) (λ e. apart (decimal_injective i j (omega (arith, few)) (omega (arith, also)) (ap tail_of e)))

-- a word that begins so and then with a digit is not reserved
reserved_not : (d : ℕ) (ds : List ℕ) → is_digit d ≡ true → is_reserved (112 ∷ d ∷ ds) ≡ false
reserved_not d ds digit =
    let low : nat_eq d 97 ≡ false = grind (arith, nat_tests) in
    let high : nat_eq d 117 ≡ false = grind (arith, nat_tests) in
    rw (low, high) refl

-- digits begin with a digit
begins_so : (ds : List ℕ) → is_number_word ds ≡ true → is_reserved (112 ∷ ds) ≡ false
begins_so [] e = absurd (cc)
begins_so (d ∷ ds) e = next (nat_eq d 45) refl e
  where
    next : (b : Bool) → nat_eq d 45 ≡ b → begins_with_digit (if b then ds else d ∷ ds) ≡ true → is_reserved (112 ∷ d ∷ ds) ≡ false
    next true is _ = let low : nat_eq d 97 ≡ false = grind (arith, nat_tests) in let high : nat_eq d 117 ≡ false = grind (arith, nat_tests) in rw (low, high) refl
    next false is digit = reserved_not d ds digit

declared_more : (names : List Declared) (w x : Word) (what : Named) → is_declared names w ≡ false → bytes_eq w x ≡ false → is_declared (with_name names x what) w ≡ false
declared_more [] w x what none other = rw other refl
declared_more (d ∷ names) w x what none other = next (bytes_eq w d.name) refl (λ rest. declared_more names w x what rest other)
  where
    next : (b : Bool) → bytes_eq w d.name ≡ b → (is_declared names w ≡ false → is_declared (with_name names x what) w ≡ false) → is_declared (with_name (d ∷ names) x what) w ≡ false
    next true e rest = absurd (let h = rw e at none in cc)
    next false e rest = rw e (rest (rw e at none))

-- so many properties are declared, and no name from there on
pub record Before (i : ℕ) (names : List Declared) : Type 0 where
  pub properties : number_of names items.Property ≡ i
  pub new : (j : ℕ) → i ≤ j → j < 1000 → is_declared names (name_of j) ≡ false

pub none_before : Before 0 []
none_before = record { properties = refl; new = λ j from few. refl }

pub one_more : (i : ℕ) (names : List Declared) → i < 1000 → Before i names → Before (i + 1) (with_name names (name_of i) (named.Property (number_of names items.Property)))
one_more i names few before = record {
  properties = sum_by-append (λ d. cond (is_of items.Property d.named) 1 0) names (record { name = name_of i; named = named.Property (number_of names items.Property) } ∷ []) ∙ ap (λ n. n + 1) before.properties;
  new = λ j from small. declared_more names (name_of j) (name_of i) _ (before.new j (omega (arith, from)) small) (names_differ j i small few (λ e. omega (arith, from, e)));
}

pub is_new : (i : ℕ) (names : List Declared) → i < 1000 → Before i names → is_known names (name_of i) ≡ false
is_new i names few before =
    let word = (printed_number (pos i) (omega (arith, ints)) (omega (arith, ints))).1 in
    both (is_reserved (name_of i)) (is_declared names (name_of i)) (begins_so (decimal i) word.kind) (before.new i (omega arith) few)
  where
    both : (a b : Bool) → a ≡ false → b ≡ false → (a || b) ≡ false
    both a b e f = rw (e, f) refl
