-- Keys that are equal where what they count is: what a change at one key leaves at any other.
use Rattle.std.proofs.Common.{◌≡◌, ◌∙◌, ◌<◌, ℕ, Bool, true, false, cond, ◌&&◌, List, [], ◌∷◌, refl, sym, ap, subst, Option, None, Some, unwrap_or, is_some, true≢false, ◌==◌, eqb-true, eq-eqb, min, ◌+◌, arith}
use Rattle.std.specs.Cmp.{both_ways}
use Rattle.std.specs.Cmp.Lexicographic.{bytes_decides, nat_list_eq_equiv}
use Rattle.std.specs.HashMap.{HashMap, get_by, UpdatesBy}
use Rattle.std.specs.Map.{lookup, IsKeyTest, AreApart, KeepsOthers}
use Rattle.std.specs.Str.{bytes_eq}
use Rattle.qk_report.specs.Counted.{Key, label, class, entry, entries, cover, key_eq, key_in}
use Rattle.qk_report.specs.declared.counted.Counted.{Counted}
use Rattle.qk_report.specs.declared.counted.Counted.TheVariants as counted
use Rattle.qk_report.specs.contracts.counted.CountedPartialEq.TheImpl.{eq-value}

abbrev pub same : Counted → Counted → Bool
same x y = eq-value.it x y

-- the derived test compares what is counted
pub same_is : (x y : Counted) → same x y ≡ key_eq (key_in x) (key_in y)
same_is (counted.Label a) (counted.Label b) = refl
same_is (counted.Class a) (counted.Class b) = refl
same_is (counted.Entry a s) (counted.Entry b t) = refl
same_is (counted.Entries a) (counted.Entries b) = refl
same_is (counted.Cover i) (counted.Cover j) = refl
same_is x y = refl

both_true : (a b : Bool) → a && b ≡ true → (a ≡ true) × (b ≡ true)
both_true true b h = (refl, h)
both_true false b h = absurd (true≢false (sym h))

pub same_key : (a b : Key) → key_eq a b ≡ true → a ≡ b
same_key (label a) (label b) e = ap label ((bytes_decides a b).0 e)
same_key (class a) (class b) e = ap class ((bytes_decides a b).0 e)
same_key (entry a s) (entry b t) e = let both = both_true (bytes_eq a b) (bytes_eq s t) e in λ i. entry ((bytes_decides a b).0 both.0 i) ((bytes_decides s t).0 both.1 i)
same_key (entries a) (entries b) e = ap entries ((bytes_decides a b).0 e)
same_key (cover i) (cover j) e = ap cover (eqb-true i j e)
same_key a b e = absurd (true≢false (sym e))

pub own_key : (a : Key) → key_eq a a ≡ true
own_key (label a) = nat_list_eq_equiv.refl a
own_key (class a) = nat_list_eq_equiv.refl a
own_key (entry a s) = ap (λ b. b && bytes_eq s s) (nat_list_eq_equiv.refl a) ∙ nat_list_eq_equiv.refl s
own_key (entries a) = nat_list_eq_equiv.refl a
own_key (cover i) = eq-eqb i i refl

pub key_symm : (a b : Key) → key_eq a b ≡ key_eq b a
key_symm a b = both_ways (key_eq a b) (key_eq b a) (λ e. subst (λ k. key_eq k a ≡ true) (same_key a b e) (own_key a)) (λ e. subst (λ k. key_eq k b ≡ true) (same_key b a e) (own_key b))

-- a look-up of a key is one of what it counts
pub looks_up : {S : Type 0} (key : Counted) (m : HashMap Counted ℕ S) → get_by (same key) m ≡ get_by (λ k. key_eq (key_in key) (key_in k)) m
looks_up key m = ap (λ t. get_by t m) (λ i k. same_is key k i)

others : {K X : Type 0} (eq : K → K → Bool) (test : K → Bool) (old new : List (K × X)) → KeepsOthers eq test old new → (other : K → Bool) → IsKeyTest eq other → AreApart test other → lookup other new ≡ lookup other old
unfolding KeepsOthers
others eq test old new h = h

module _ {S : Type 0} (key : Counted) (m n : HashMap Counted ℕ S) (w : Option ℕ) where
  pub updates_key : UpdatesBy same (same key) m n w → (other : Key) → get_by (λ k. key_eq other (key_in k)) n ≡ cond (key_eq (key_in key) other) w (get_by (λ k. key_eq other (key_in k)) m)
  updates_key h other = by (key_eq (key_in key) other) refl
    where
      by : (b : Bool) → key_eq (key_in key) other ≡ b → get_by (λ k. key_eq other (key_in k)) n ≡ cond b w (get_by (λ k. key_eq other (key_in k)) m)
      by true e = subst (λ l. get_by (λ k. key_eq l (key_in k)) n ≡ w) (same_key (key_in key) other e) (sym (looks_up key n) ∙ h.1)
      by false e = others same (same key) m.entries n.entries h.3 (λ k. key_eq other (key_in k))
          (λ x y q. ap (λ l. key_eq l (key_in y)) (same_key other (key_in x) q) ∙ sym (same_is x y))
          (λ k q. ap (key_eq other) (sym (same_key (key_in key) (key_in k) (sym (same_is key k) ∙ q))) ∙ key_symm other (key_in key) ∙ e)

higher : (v n : ℕ) → v ≡ min n 18446744073709551615 → min (v + 1) 18446744073709551615 ≡ min (n + (0 + 1)) 18446744073709551615
higher v n at = omega arith

same_height : (n : ℕ) → min n 18446744073709551615 ≡ min (n + (0 + 0)) 18446744073709551615
same_height n = omega arith

some_none : {X : Type 0} (o : Option X) → is_some o ≡ false → o ≡ None
some_none None h = refl
some_none (Some x) h = absurd (true≢false h)

module _ (f : Key → Option ℕ) (key other own : Key) (new : Option ℕ) where
  -- a row of count 0 changes no count
  pub zero_row : new ≡ cond (key_eq own other) (Some 0) (f other) → own ≡ key → is_some (f key) ≡ false → unwrap_or new 0 ≡ unwrap_or (f other) 0
  zero_row h is none = by (key_eq own other) refl h
    where
      by : (b : Bool) → key_eq own other ≡ b → new ≡ cond b (Some 0) (f other) → unwrap_or new 0 ≡ unwrap_or (f other) 0
      by true e k = ap (λ o. unwrap_or o 0) k ∙ sym (ap (λ o. unwrap_or o 0) (some_none (f other) (subst (λ t. is_some (f t) ≡ false) (sym is ∙ same_key own other e) none)))
      by false e k = ap (λ o. unwrap_or o 0) k

module _ (f : Key → Option ℕ) (other own : Key) (new : Option ℕ) (w : ℕ) where
  -- and takes no row away
  pub kept_row : new ≡ cond (key_eq own other) (Some w) (f other) → is_some (f other) ≡ true → is_some new ≡ true
  kept_row h there = by (key_eq own other) h
    where
      by : (b : Bool) → new ≡ cond b (Some w) (f other) → is_some new ≡ true
      by true k = ap is_some k
      by false k = ap is_some k ∙ there

  -- a row that was there is there still
  pub same_rows : (v : ℕ) → new ≡ cond (key_eq own other) (Some w) (f other) → f own ≡ Some v → is_some new ≡ is_some (f other)
  same_rows v h was = by (key_eq own other) refl h
    where
      by : (b : Bool) → key_eq own other ≡ b → new ≡ cond b (Some w) (f other) → is_some new ≡ is_some (f other)
      by true e k = ap is_some k ∙ sym (ap is_some (subst (λ t. f t ≡ Some v) (same_key own other e) was))
      by false e k = ap is_some k

module _ (f : Key → Option ℕ) (key other : Key) (new : Option ℕ) (v w n : ℕ) where
  -- a count that rose
  pub counted_row : new ≡ cond (key_eq key other) (Some w) (f other) → f key ≡ Some v → w ≡ min (v + 1) 18446744073709551615 → unwrap_or (f other) 0 ≡ min n 18446744073709551615
      → unwrap_or new 0 ≡ min (n + (0 + cond (key_eq other key) 1 0)) 18446744073709551615
  counted_row h was rose count = by (key_eq key other) refl h ∙ ap (λ b. min (n + (0 + cond b 1 0)) 18446744073709551615) (key_symm key other)
    where
      by : (b : Bool) → key_eq key other ≡ b → new ≡ cond b (Some w) (f other) → unwrap_or new 0 ≡ min (n + (0 + cond b 1 0)) 18446744073709551615
      by true e k =
          let at : v ≡ min n 18446744073709551615 = sym (ap (λ o. unwrap_or o 0) (subst (λ t. f t ≡ Some v) (same_key key other e) was)) ∙ count in
          ap (λ o. unwrap_or o 0) k ∙ rose ∙ higher v n at
      by false e k = ap (λ o. unwrap_or o 0) k ∙ count ∙ same_height n
