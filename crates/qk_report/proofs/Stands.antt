-- What one more outcome adds to the counts over a list.
use Rattle.std.proofs.Common.{◌≡◌, ◌∙◌, ◌+◌, ◌-◌, ◌<◌, ◌==◌, ℕ, zero, suc, Bool, true, false, cond, ◌&&◌, List, [], ◌∷◌, ◌++◌, ap, arith, filter, length, map, min, refl, subst, sym, true≢false, unwrap_or, slice_get, flat_map, count_by, length-append, eq-eqb, ne_eqb, add-zero, Result, OnOk}
use Rattle.std.proofs.lemmas.List.{append-nil}
use Rattle.std.proofs.lemmas.List.Sums.{sum_by-append}
use Rattle.std.proofs.lemmas.Grind.{flat_map-append}
use Rattle.std.proofs.lemmas.Result.{on_ok_weaker}
use Rattle.std.proofs.lemmas.List.Elements.{filter-append}
use Rattle.std.specs.Str.{bytes_eq}
use Rattle.qk_base.specs.Judged.{Judged, Marked, passes}
use Rattle.qk_core.specs.Properties.{PropertyData}
use Rattle.qk_report.proofs.KeyCounts.{among_cons, count_append, count_cons}
use Rattle.qk_report.specs.Counted.{Key, label, class, entry, entries, cover, among, count_of, count_over, key_eq, Raises, StandsFor}
use Rattle.qk_report.specs.Given.{cover_keys, entry_keys, keys_given}
use Rattle.qk_report.specs.Tables.{Text, class_names, distinct, label_of, passing, table_names, texts_under, times, true_names}
use Rattle.qk_report.specs.declared.tables.Tables.{Tables}

-- keys that are made of texts
among_map : (make : Text → Key) (key : Key) (test : Text → Bool) → ((text : Text) → key_eq key (make text) ≡ test text) → (texts : List Text) → among key (map make texts) ≡ count_by test texts
among_map make key test same [] = refl
among_map make key test same (t ∷ ts) =
    among_cons key (make t) (map make ts) ∙ (λ i. among_map make key test same ts i + cond (same t i) 1 0) ∙ sym (count_cons test t ts)

none : {X : Type 0} (xs : List X) → count_by (λ x. false) xs ≡ 0
none [] = refl
none (x ∷ xs) = count_cons (λ x. false) x xs ∙ ap (λ n. n + 0) (none xs)

not_made : (make : Text → Key) (key : Key) → ((text : Text) → key_eq key (make text) ≡ false) → (texts : List Text) → among key (map make texts) ≡ 0
not_made make key other texts = among_map make key (λ _. false) other texts ∙ none texts

-- the keys of entries
two : (key one other : Key) (keys : List Key) → among key (one ∷ other ∷ keys) ≡ (among key keys + cond (key_eq key other) 1 0) + cond (key_eq key one) 1 0
two key one other keys = among_cons key one (other ∷ keys) ∙ ap (λ n. n + cond (key_eq key one) 1 0) (among_cons key other keys)

first_zero : (n c : ℕ) → (n + 0) + c ≡ n + c
first_zero n c = omega arith

last_zero : (n c : ℕ) → (n + c) + 0 ≡ n + c
last_zero n c = omega arith

no_more : (n : ℕ) → (n + 0) + 0 ≡ n
no_more n = omega arith

entry_counts : (name text : Text) (names texts : List Text) → among (entry name text) (entry_keys names texts) ≡ times text (texts_under name names texts)
entry_counts name text names [] = refl
entry_counts name text [] (t ∷ ts) = refl
entry_counts name text (n ∷ ns) (t ∷ ts) = two (entry name text) (entry n t) (entries n) (entry_keys ns ts) ∙ by (bytes_eq name n) (entry_counts name text ns ts)
  where
    by : (b : Bool) → among (entry name text) (entry_keys ns ts) ≡ times text (texts_under name ns ts)
        → (among (entry name text) (entry_keys ns ts) + 0) + cond (b && bytes_eq text t) 1 0 ≡ times text (cond b (t ∷ texts_under name ns ts) (texts_under name ns ts))
    by true rest =
        first_zero (among (entry name text) (entry_keys ns ts)) (cond (bytes_eq text t) 1 0) ∙ ap (λ m. m + cond (bytes_eq text t) 1 0) rest ∙ sym (count_cons (bytes_eq text) t (texts_under name ns ts))
    by false rest = no_more (among (entry name text) (entry_keys ns ts)) ∙ rest

longer : (n : ℕ) → n + 1 ≡ suc n
longer n = omega arith

entries_counts : (name : Text) (names texts : List Text) → among (entries name) (entry_keys names texts) ≡ length (texts_under name names texts)
entries_counts name names [] = refl
entries_counts name [] (t ∷ ts) = refl
entries_counts name (n ∷ ns) (t ∷ ts) = two (entries name) (entry n t) (entries n) (entry_keys ns ts) ∙ by (bytes_eq name n) (entries_counts name ns ts)
  where
    by : (b : Bool) → among (entries name) (entry_keys ns ts) ≡ length (texts_under name ns ts)
        → (among (entries name) (entry_keys ns ts) + cond b 1 0) + 0 ≡ length (cond b (t ∷ texts_under name ns ts) (texts_under name ns ts))
    by true rest = last_zero (among (entries name) (entry_keys ns ts)) 1 ∙ longer (among (entries name) (entry_keys ns ts)) ∙ ap suc rest
    by false rest = no_more (among (entries name) (entry_keys ns ts)) ∙ rest

no_entry : (key : Key) → ((n t : Text) → key_eq key (entry n t) ≡ false) → ((n : Text) → key_eq key (entries n) ≡ false) → (names texts : List Text) → among key (entry_keys names texts) ≡ 0
no_entry key a b names [] = refl
no_entry key a b [] (t ∷ ts) = refl
no_entry key a b (n ∷ ns) (t ∷ ts) = two key (entry n t) (entries n) (entry_keys ns ts) ∙ (λ i. (no_entry key a b ns ts i + cond (b n i) 1 0) + cond (a n t i) 1 0)

-- the keys of covers
no_cover : (key : Key) → ((i : ℕ) → key_eq key (cover i) ≡ false) → (j : ℕ) (covers : List Bool) → among key (cover_keys j covers) ≡ 0
no_cover key other j [] = refl
no_cover key other j (true ∷ bs) = among_cons key (cover j) (cover_keys (j + 1) bs) ∙ (λ i. no_cover key other (j + 1) bs i + cond (other j i) 1 0)
no_cover key other j (false ∷ bs) = no_cover key other (j + 1) bs

unlike : (i j : ℕ) → (i ≡ j → ⊥) → i == j ≡ false
unlike i j apart = ne_eqb i j apart

past : (i j : ℕ) (covers : List Bool) → i < j → among (cover i) (cover_keys j covers) ≡ 0
past i j [] less = refl
past i j (true ∷ bs) less =
    let rest = past i (j + 1) bs (omega arith) in let apart = unlike i j (λ same. absurd (omega arith)) in among_cons (cover i) (cover j) (cover_keys (j + 1) bs) ∙ (λ k. rest k + cond (apart k) 1 0)
past i j (false ∷ bs) less = past i (j + 1) bs (omega arith)

cover_counts : (d i j : ℕ) (covers : List Bool) → i ≡ j + d → among (cover i) (cover_keys j covers) ≡ cond (unwrap_or (slice_get covers d) false) 1 0
cover_counts d i j [] at = refl
cover_counts zero i j (true ∷ bs) at =
    let rest = past i (j + 1) bs (omega arith) in let here = eq-eqb i j (omega arith) in among_cons (cover i) (cover j) (cover_keys (j + 1) bs) ∙ (λ k. rest k + cond (here k) 1 0)
cover_counts zero i j (false ∷ bs) at = past i (j + 1) bs (omega arith)
cover_counts (suc d) i j (true ∷ bs) at =
    let rest = cover_counts d i (j + 1) bs (omega arith) in let apart = unlike i j (λ same. absurd (omega arith)) in
    among_cons (cover i) (cover j) (cover_keys (j + 1) bs) ∙ (λ k. rest k + cond (apart k) 1 0) ∙ add-zero (cond (unwrap_or (slice_get bs d) false) 1 0)
cover_counts (suc d) i j (false ∷ bs) at = cover_counts d i (j + 1) bs (omega arith)

-- all keys of an attempt
module _ (p : PropertyData) (m : Marked) where
  abbrev label_part : List Key
  label_part = map label (label_of m.label)

  abbrev class_part : List Key
  class_part = map class (distinct (true_names (class_names p.marks) m.classes))

  abbrev entry_part : List Key
  entry_part = entry_keys (table_names p.marks) m.entries

  abbrev cover_part : List Key
  cover_part = cover_keys 0 m.covers

  parts : (key : Key) → among key (keys_given p m) ≡ among key label_part + among key class_part + among key entry_part + among key cover_part
  parts key =
      count_append (key_eq key) (label_part ++ class_part ++ entry_part) cover_part ∙ ap (λ n. n + among key cover_part) (count_append (key_eq key) (label_part ++ class_part) entry_part)
      ∙ ap (λ n. n + among key entry_part + among key cover_part) (count_append (key_eq key) label_part class_part)

  -- how often the attempt gives a key
  abbrev pub gives : Key → ℕ
  gives (label text) = times text (label_of m.label)
  gives (class name) = times name (distinct (true_names (class_names p.marks) m.classes))
  gives (entry name text) = times text (texts_under name (table_names p.marks) m.entries)
  gives (entries name) = length (texts_under name (table_names p.marks) m.entries)
  gives (cover i) = cond (unwrap_or (slice_get m.covers i) false) 1 0

  sum_of : (n a b c d g : ℕ) → n ≡ a + b + c + d → a + b + c + d ≡ g → n ≡ g
  sum_of n a b c d g e f = e ∙ f

  pub given_is : (key : Key) → among key (keys_given p m) ≡ gives key
  given_is (label text) =
      let a = among_map label (label text) (bytes_eq text) (λ t. refl) (label_of m.label) in
      let b = not_made class (label text) (λ t. refl) (distinct (true_names (class_names p.marks) m.classes)) in
      let c = no_entry (label text) (λ n t. refl) (λ n. refl) (table_names p.marks) m.entries in
      let d = no_cover (label text) (λ i. refl) 0 m.covers in
      let all = parts (label text) in
      omega arith
  given_is (class name) =
      let a = not_made label (class name) (λ t. refl) (label_of m.label) in
      let b = among_map class (class name) (bytes_eq name) (λ t. refl) (distinct (true_names (class_names p.marks) m.classes)) in
      let c = no_entry (class name) (λ n t. refl) (λ n. refl) (table_names p.marks) m.entries in
      let d = no_cover (class name) (λ i. refl) 0 m.covers in
      let all = parts (class name) in
      omega arith
  given_is (entry name text) =
      let a = not_made label (entry name text) (λ t. refl) (label_of m.label) in
      let b = not_made class (entry name text) (λ t. refl) (distinct (true_names (class_names p.marks) m.classes)) in
      let c = entry_counts name text (table_names p.marks) m.entries in
      let d = no_cover (entry name text) (λ i. refl) 0 m.covers in
      let all = parts (entry name text) in
      omega arith
  given_is (entries name) =
      let a = not_made label (entries name) (λ t. refl) (label_of m.label) in
      let b = not_made class (entries name) (λ t. refl) (distinct (true_names (class_names p.marks) m.classes)) in
      let c = entries_counts name (table_names p.marks) m.entries in
      let d = no_cover (entries name) (λ i. refl) 0 m.covers in
      let all = parts (entries name) in
      omega arith
  given_is (cover i) =
      let a = not_made label (cover i) (λ t. refl) (label_of m.label) in
      let b = not_made class (cover i) (λ t. refl) (distinct (true_names (class_names p.marks) m.classes)) in
      let c = no_entry (cover i) (λ n t. refl) (λ n. refl) (table_names p.marks) m.entries in
      let d = cover_counts i i 0 m.covers (omega arith) in
      let all = parts (cover i) in
      omega arith

-- one more outcome that passes
module _ (p : PropertyData) (outcomes : List Judged) (o : Judged) (passed : passes o ≡ true) where
  one_more : passing (outcomes ++ o ∷ []) ≡ passing outcomes ++ o ∷ []
  one_more = filter-append passes outcomes (o ∷ []) ∙ ap (λ b. passing outcomes ++ cond b (o ∷ []) []) passed

  texts_more : (f : Judged → List Text) → flat_map f (passing (outcomes ++ o ∷ [])) ≡ flat_map f (passing outcomes) ++ f o
  texts_more f = ap (flat_map f) one_more ∙ flat_map-append f (passing outcomes) (o ∷ []) ∙ ap (λ ts. flat_map f (passing outcomes) ++ ts) (append-nil (f o))

  times_more : (text : Text) (f : Judged → List Text) → times text (flat_map f (passing (outcomes ++ o ∷ []))) ≡ times text (flat_map f (passing outcomes)) + times text (f o)
  times_more text f = ap (times text) (texts_more f) ∙ count_append (bytes_eq text) (flat_map f (passing outcomes)) (f o)

  pub counted_more : (key : Key) → count_over p (outcomes ++ o ∷ []) key ≡ count_over p outcomes key + gives p o.marks key
  counted_more (label text) = times_more text (λ a. label_of a.marks.label)
  counted_more (class name) = times_more name (λ a. distinct (true_names (class_names p.marks) a.marks.classes))
  counted_more (entry name text) = times_more text (λ a. texts_under name (table_names p.marks) a.marks.entries)
  counted_more (entries name) =
      let f : Judged → List Text = λ a. texts_under name (table_names p.marks) a.marks.entries in
      ap length (texts_more f) ∙ length-append (flat_map f (passing outcomes)) (f o)
  counted_more (cover i) =
      let f : Judged → Bool = λ a. unwrap_or (slice_get a.marks.covers i) false in
      ap (count_by f) one_more ∙ count_append f (passing outcomes) (o ∷ []) ∙ ap (λ n. count_by f (passing outcomes) + n) (zero_more (cond (f o) 1 0))
    where
      zero_more : (n : ℕ) → 0 + n ≡ n
      zero_more n = omega arith

pub stands_more : (old new : Tables) (o : Judged) → passes o ≡ true → new.property ≡ old.property → Raises old (keys_given old.property.now o.marks) new
    → (outcomes : List Judged) → StandsFor old outcomes → StandsFor new (outcomes ++ o ∷ [])
stands_more old new o passed same raises outcomes stands key =
    raises key (count_over old.property.now outcomes key) (stands key)
    ∙ ap (λ n. min n 18446744073709551615) (ap (λ n. count_over old.property.now outcomes key + n) (given_is old.property.now o.marks key) ∙ sym (counted_more old.property.now outcomes o passed key))
    ∙ ap (λ p. min (count_over p.now (outcomes ++ o ∷ []) key) 18446744073709551615) (sym same)

pub stands_after : {T E : Type 0} (r : Result T E) (old new : Tables) (o : Judged) (m : Marked) → OnOk r (Raises old (keys_given old.property.now m) new) → passes o ≡ true → m ≡ o.marks → new.property ≡ old.property
    → OnOk r ((outcomes : List Judged) → StandsFor old outcomes → StandsFor new (outcomes ++ o ∷ []))
stands_after r old new o m raises passed is same =
    on_ok_weaker r (λ h. stands_more old new o passed same (subst (λ (l : Marked). Raises old (keys_given old.property.now l) new) is h)) raises
