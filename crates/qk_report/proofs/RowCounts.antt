-- The rows that tables hold are those of the texts that they count.
use Rattle.std.proofs.Common.{◌≡◌, ◌∙◌, ◌+◌, ◌-◌, ◌^◌, ◌<◌, ◌==◌, ◌&&◌, ℕ, Bool, true, false, cond, not, List, [], ◌∷◌, Option, Some, None, ap, arith, eq-eqb, eqb-true, filter, filter_map, lt-ltb, map, min, nat_lt, refl, subst, sym, true≢false, unwrap_or}
use Rattle.std.proofs.lemmas.Cmp.{tied_itself}
use Rattle.std.proofs.lemmas.List.Sorted.{IsPermutation-map, sum_by-IsPermutation}
use Rattle.std.specs.Cmp.{both_ways}
use Rattle.std.specs.Cmp.Lexicographic.{bytes_decides, nat_list_eq_equiv}
use Rattle.std.specs.List.{AllByRecursion, IsDistinct, cons_option}
use Rattle.std.specs.List.Sorted.{IsPermutation, IsSortedBy}
use Rattle.std.specs.Map.{keys_of, lookup}
use Rattle.std.specs.Ordering.{is_eq, is_lt}
use Rattle.std.specs.Str.{bytes_eq}
use Rattle.std.specs.declared.cmp.Ordering.{Ordering}
use Rattle.std.specs.declared.cmp.Ordering.TheVariants.{Less, Equal, Greater}
use Rattle.qk_base.specs.Judged.{Judged}
use Rattle.qk_core.specs.Properties.{PropertyData}
use Rattle.qk_report.proofs.Ascending.{asc_of, unique}
use Rattle.qk_report.proofs.KeyCounts.{count_cons}
use Rattle.qk_report.proofs.Keys.{same, same_is, same_key}
use Rattle.qk_report.proofs.RowOrder.{Asc, asc_order, occ, occ_order, row_total, rows_tied}
use Rattle.qk_report.specs.Counted.{Key, StandsFor, class, count_of, count_over, cover, entries, entry, key_eq, key_in, label}
use Rattle.qk_report.specs.RowsView.{NoneStandsStill, row_behind, row_under, rows_in, text_under}
use Rattle.qk_report.specs.TableLines.{Section, classes, labels, table, texts_in}
use Rattle.qk_report.specs.Tables.{Row, Text, distinct, in_order, row_cmp, rows_of, times}
use Rattle.qk_report.specs.declared.counted.Counted.{Counted}
use Rattle.qk_report.specs.declared.rows.RowRef.{RowRef}
use Rattle.qk_report.specs.declared.tables.Tables.{Tables}

both_true : (a b : Bool) → a && b ≡ true → (a ≡ true) × (b ≡ true)
both_true true b h = (refl, h)
both_true false b h = absurd (true≢false (sym h))

and_false : (a : Bool) → a && false ≡ false
and_false true = refl
and_false false = refl

no_more : (n : ℕ) → n + 0 ≡ n
no_more n = omega arith

first : (n : ℕ) → 0 + n ≡ n
first n = omega arith

same_parts : (q : Row) (n : ℕ) (t : Text) (r : Ordering) → row_cmp q (record { count = n; text = t }) ≡ r → is_eq r ≡ true → q.count == n && bytes_eq q.text t ≡ true
same_parts q n t Less e h = absurd (true≢false (sym h))
same_parts q n t Greater e h = absurd (true≢false (sym h))
same_parts q n t Equal e h =
    let rows : q ≡ record { count = n; text = t } = rows_tied q (record { count = n; text = t }) e in
    (λ i. eq-eqb q.count n (ap (λ (r : Row). r.count) rows) i && bytes_eq q.text t) ∙ (bytes_decides q.text t).1 (ap (λ (r : Row). r.text) rows)

-- whether a row is that of a text
row_is : (q : Row) (n : ℕ) (t : Text) → is_eq (row_cmp q (record { count = n; text = t })) ≡ (q.count == n && bytes_eq q.text t)
row_is q n t = both_ways (is_eq (row_cmp q (record { count = n; text = t }))) (q.count == n && bytes_eq q.text t) there back
  where
    there : is_eq (row_cmp q (record { count = n; text = t })) ≡ true → q.count == n && bytes_eq q.text t ≡ true
    there e = same_parts q n t (row_cmp q (record { count = n; text = t })) refl e

    back : q.count == n && bytes_eq q.text t ≡ true → is_eq (row_cmp q (record { count = n; text = t })) ≡ true
    back e =
        let both = both_true (q.count == n) (bytes_eq q.text t) e in
        let counts : q.count ≡ n = eqb-true q.count n both.0 in let texts : q.text ≡ t = (bytes_decides q.text t).0 both.1 in
        ap is_eq ((λ i. row_cmp q (record { count = sym counts i; text = sym texts i })) ∙ tied_itself row_total q)

-- a text stands once among the distinct ones, where it stands at all
gone : (t x : Text) (ds : List Text) → bytes_eq t x ≡ true → times t (filter (λ other. not (bytes_eq x other)) ds) ≡ 0
gone t x [] e = refl
gone t x (d ∷ ds) e = by (bytes_eq x d) refl (gone t x ds e)
  where
    by : (b : Bool) → bytes_eq x d ≡ b → times t (filter (λ other. not (bytes_eq x other)) ds) ≡ 0
        → times t (cond (not b) (d ∷ filter (λ other. not (bytes_eq x other)) ds) (filter (λ other. not (bytes_eq x other)) ds)) ≡ 0
    by true h rest = rest
    by false h rest =
        count_cons (bytes_eq t) d (filter (λ other. not (bytes_eq x other)) ds) ∙ (λ i. rest i + cond ((nat_list_eq_equiv.congr t x d e ∙ h) i) 1 0)

kept : (t x : Text) (ds : List Text) → bytes_eq t x ≡ false → times t (filter (λ other. not (bytes_eq x other)) ds) ≡ times t ds
kept t x [] e = refl
kept t x (d ∷ ds) e = by (bytes_eq x d) refl (kept t x ds e)
  where
    by : (b : Bool) → bytes_eq x d ≡ b → times t (filter (λ other. not (bytes_eq x other)) ds) ≡ times t ds
        → times t (cond (not b) (d ∷ filter (λ other. not (bytes_eq x other)) ds) (filter (λ other. not (bytes_eq x other)) ds)) ≡ times t (d ∷ ds)
    by true h rest =
        let apart : bytes_eq t d ≡ false = nat_list_eq_equiv.symm t d ∙ sym (nat_list_eq_equiv.congr x d t h) ∙ nat_list_eq_equiv.symm x t ∙ e in
        rest ∙ sym (count_cons (bytes_eq t) d ds ∙ ap (λ b. times t ds + cond b 1 0) apart ∙ no_more (times t ds))
    by false h rest =
        count_cons (bytes_eq t) d (filter (λ other. not (bytes_eq x other)) ds) ∙ ap (λ n. n + cond (bytes_eq t d) 1 0) rest ∙ sym (count_cons (bytes_eq t) d ds)

times_distinct : (t : Text) (ts : List Text) → times t (distinct ts) ≡ cond (nat_lt 0 (times t ts)) 1 0
times_distinct t [] = refl
times_distinct t (x ∷ xs) =
    count_cons (bytes_eq t) x (filter (λ other. not (bytes_eq x other)) (distinct xs)) ∙ by (bytes_eq t x) refl (times_distinct t xs)
    ∙ ap (λ n. cond (nat_lt 0 n) 1 0) (sym (count_cons (bytes_eq t) x xs))
  where
    by : (b : Bool) → bytes_eq t x ≡ b → times t (distinct xs) ≡ cond (nat_lt 0 (times t xs)) 1 0
        → times t (filter (λ other. not (bytes_eq x other)) (distinct xs)) + cond b 1 0 ≡ cond (nat_lt 0 (times t xs + cond b 1 0)) 1 0
    by true e rest = ap (λ n. n + 1) (gone t x (distinct xs) e) ∙ ap (λ b. cond b 1 0) (sym (lt-ltb 0 (times t xs + 1) (omega arith)))
    by false e rest =
        no_more (times t (filter (λ other. not (bytes_eq x other)) (distinct xs))) ∙ kept t x (distinct xs) e ∙ rest ∙ ap (λ n. cond (nat_lt 0 n) 1 0) (sym (no_more (times t xs)))

-- how often a row stands among those of texts
abbrev row_for : List Text → Text → Row
row_for texts text = record { count = times text texts; text = text }

none_or : (b : Bool) → cond {A = ℕ} b 0 0 ≡ 0
none_or true = refl
none_or false = refl

occ_made : (q : Row) (texts us : List Text) → occ q (map (row_for texts) us) ≡ cond (q.count == times q.text texts) (times q.text us) 0
occ_made q texts [] = sym (none_or (q.count == times q.text texts))
occ_made q texts (u ∷ us) =
    count_cons (λ z. is_eq (row_cmp q z)) (row_for texts u) (map (row_for texts) us)
    ∙ (λ i. occ_made q texts us i + cond (row_is q (times u texts) u i) 1 0)
    ∙ by (bytes_eq q.text u) refl
    ∙ ap (λ n. cond (q.count == times q.text texts) n 0) (sym (count_cons (bytes_eq q.text) u us))
  where
    here : (b : Bool) (n : ℕ) → cond b n 0 + cond (b && true) 1 0 ≡ cond b (n + 1) 0
    here true n = refl
    here false n = refl

    elsewhere : (b c : Bool) (n : ℕ) → cond b n 0 + cond (c && false) 1 0 ≡ cond b (n + 0) 0
    elsewhere true true n = refl
    elsewhere true false n = refl
    elsewhere false true n = refl
    elsewhere false false n = refl

    by : (b : Bool) → bytes_eq q.text u ≡ b
        → cond (q.count == times q.text texts) (times q.text us) 0 + cond (q.count == times u texts && b) 1 0 ≡ cond (q.count == times q.text texts) (times q.text us + cond b 1 0) 0
    by true e =
        ap (λ t. cond (q.count == times q.text texts) (times q.text us) 0 + cond (q.count == times t texts && true) 1 0) (sym ((bytes_decides q.text u).0 e))
        ∙ here (q.count == times q.text texts) (times q.text us)
    by false e = elsewhere (q.count == times q.text texts) (q.count == times u texts) (times q.text us)

-- a row of a count that is not 0
abbrev hit : ℕ → ℕ → ℕ
hit n c = cond (n == c && nat_lt 0 c) 1 0

no_hit : (n : ℕ) → hit n 0 ≡ 0
no_hit n = ap (λ b. cond b 1 0) (and_false (n == 0))

pub occ_rows : (q : Row) (texts : List Text) → occ q (rows_of texts) ≡ hit q.count (times q.text texts)
occ_rows q texts =
    occ_order q (map (row_for texts) (distinct texts)) ∙ occ_made q texts (distinct texts)
    ∙ ap (λ n. cond (q.count == times q.text texts) n 0) (times_distinct q.text texts) ∙ both (q.count == times q.text texts) (nat_lt 0 (times q.text texts))
  where
    both : (a b : Bool) → cond {A = ℕ} a (cond b 1 0) 0 ≡ cond (a && b) 1 0
    both true b = refl
    both false b = refl

-- the key by which a table counts a text
abbrev pub section_key : Section → Text → Key
section_key labels text = label text
section_key classes text = class text
section_key (table name) text = entry name text

abbrev once : Row → Option Row → ℕ
once q None = 0
once q (Some row) = cond (is_eq (row_cmp q row)) 1 0

occ_cons : (q : Row) (row : Option Row) (rows : List Row) → occ q (cons_option row rows) ≡ occ q rows + once q row
occ_cons q None rows = sym (no_more (occ q rows))
occ_cons q (Some row) rows = count_cons (λ z. is_eq (row_cmp q z)) row rows

split : (a b : Bool) → cond {A = ℕ} (a && b) 1 0 ≡ cond b (cond (a && true) 1 0) 0
split true true = refl
split true false = refl
split false true = refl
split false false = refl

once_found : (q : Row) (s : Section) (n : ℕ) (k : Key) → nat_lt 0 n ≡ true → once q (elim (text_under s k) [ None ↦ None | Some text ↦ Some (record { count = n; text = text }) ]) ≡ cond (key_eq (section_key s q.text) k) (cond (q.count == n && true) 1 0) 0
once_found q labels n (label t) pos = ap (λ b. cond b 1 0) (row_is q n t) ∙ split (q.count == n) (bytes_eq q.text t)
once_found q labels n (class t) pos = refl
once_found q labels n (entry a t) pos = refl
once_found q labels n (entries a) pos = refl
once_found q labels n (cover i) pos = refl
once_found q classes n (label t) pos = refl
once_found q classes n (class t) pos = ap (λ b. cond b 1 0) (row_is q n t) ∙ split (q.count == n) (bytes_eq q.text t)
once_found q classes n (entry a t) pos = refl
once_found q classes n (entries a) pos = refl
once_found q classes n (cover i) pos = refl
once_found q (table name) n (label t) pos = refl
once_found q (table name) n (class t) pos = refl
once_found q (table name) n (entry a t) pos = by (bytes_eq name a)
  where
    by : (b : Bool) → once q (elim (cond b (Some t) None) [ None ↦ None | Some text ↦ Some (record { count = n; text = text }) ]) ≡ cond (b && bytes_eq q.text t) (cond (q.count == n && true) 1 0) 0
    by true = ap (λ b. cond b 1 0) (row_is q n t) ∙ split (q.count == n) (bytes_eq q.text t)
    by false = refl
once_found q (table name) n (entries a) pos = refl
once_found q (table name) n (cover i) pos = refl

once_under : (q : Row) (s : Section) (k : Key) (n : ℕ) → once q (row_under s k n) ≡ cond (key_eq (section_key s q.text) k) (hit q.count n) 0
once_under q s k n = by (nat_lt 0 n) refl
  where
    by : (b : Bool) → nat_lt 0 n ≡ b → once q (cond b (elim (text_under s k) [ None ↦ None | Some text ↦ Some (record { count = n; text = text }) ]) None)
        ≡ cond (key_eq (section_key s q.text) k) (cond (q.count == n && b) 1 0) 0
    by true e = once_found q s n k e
    by false e = sym (ap (λ m. cond (key_eq (section_key s q.text) k) m 0) (ap (λ b. cond b 1 0) (and_false (q.count == n))) ∙ none_or (key_eq (section_key s q.text) k))

-- where keys are distinct, what follows a key has it no more
none_after : (key : Key) (k : Counted) (es : List (Counted × ℕ)) → key_eq key (key_in k) ≡ true → AllByRecursion (λ other. same k other ≡ false) (keys_of es)
    → lookup (λ other. key_eq key (key_in other)) es ≡ None
none_after key k [] e apart = refl
none_after key k (x ∷ es) e apart =
    ap (λ b. cond b (Some x.1) (lookup (λ other. key_eq key (key_in other)) es)) (ap (λ l. key_eq l (key_in x.0)) (same_key key (key_in k) e) ∙ sym (same_is k x.0) ∙ apart.0) ∙ none_after key k es e apart.1

occ_found : (q : Row) (s : Section) (es : List (Counted × ℕ)) → IsDistinct same (keys_of es)
    → occ q (filter_map (λ e. row_under s (key_in e.0) e.1) es) ≡ hit q.count (unwrap_or (lookup (λ k. key_eq (section_key s q.text) (key_in k)) es) 0)
unfolding IsDistinct
occ_found q s [] apart = sym (no_hit q.count)
occ_found q s (e ∷ es) apart =
    occ_cons q (row_under s (key_in e.0) e.1) (filter_map (λ e. row_under s (key_in e.0) e.1) es)
    ∙ (λ i. occ_found q s es apart.1 i + once_under q s (key_in e.0) e.1 i)
    ∙ by (key_eq (section_key s q.text) (key_in e.0)) refl (lookup (λ k. key_eq (section_key s q.text) (key_in k)) es) (λ is. none_after (section_key s q.text) e.0 es is apart.0)
  where
    by : (b : Bool) → key_eq (section_key s q.text) (key_in e.0) ≡ b → (rest : Option ℕ) → (key_eq (section_key s q.text) (key_in e.0) ≡ true → rest ≡ None)
        → hit q.count (unwrap_or rest 0) + cond b (hit q.count e.1) 0 ≡ hit q.count (unwrap_or (cond b (Some e.1) rest) 0)
    by true is rest none = ap (λ r. hit q.count (unwrap_or r 0) + hit q.count e.1) (none is) ∙ ap (λ n. n + hit q.count e.1) (no_hit q.count) ∙ first (hit q.count e.1)
    by false is rest none = no_more (hit q.count (unwrap_or rest 0))

exact : (count over : ℕ) → count ≡ min over 18446744073709551615 → count < 18446744073709551615 → count ≡ over
exact count over e small = omega arith

over_section : (p : PropertyData) (outcomes : List Judged) (s : Section) (text : Text) → count_over p outcomes (section_key s text) ≡ times text (texts_in p outcomes s)
over_section p outcomes labels text = refl
over_section p outcomes classes text = refl
over_section p outcomes (table name) text = refl

module _ (tables : Tables) (s : Section) (outcomes : List Judged) (found rows : List RowRef) where
  abbrev texts : List Text
  texts = texts_in tables.property.now outcomes s

  same_counts : StandsFor tables outcomes → NoneStandsStill tables → IsDistinct same (keys_of tables.counts.entries) → map row_behind found ≡ rows_in tables s → IsPermutation found rows
      → (q : Row) → occ q (map row_behind rows) ≡ occ q (rows_of texts)
  same_counts stands small apart is moved q =
      let key = section_key s q.text in
      let count : count_of tables key ≡ times q.text texts = exact (count_of tables key) (count_over tables.property.now outcomes key) (stands key) (small key) ∙ over_section tables.property.now outcomes s q.text in
      sum_by-IsPermutation (λ z. cond (is_eq (row_cmp q z)) 1 0) (map row_behind found) (map row_behind rows) (IsPermutation-map row_behind found rows moved)
      ∙ ap (occ q) is ∙ occ_found q s tables.counts.entries apart ∙ ap (hit q.count) count ∙ sym (occ_rows q texts)

  pub rows_are : StandsFor tables outcomes → NoneStandsStill tables → IsDistinct same (keys_of tables.counts.entries) → map row_behind found ≡ rows_in tables s → IsPermutation found rows
      → IsSortedBy (λ a b. is_lt (row_cmp (row_behind a) (row_behind b))) rows → map row_behind rows ≡ rows_of texts
  rows_are stands small apart is moved sorted =
      unique row_total rows_tied (map row_behind rows) (rows_of texts) (asc_of row_total rows_tied row_behind rows sorted) (asc_order (map (row_for texts) (distinct texts)))
      (same_counts stands small apart is moved)
