-- Which bytes a path is read from.
use Rattle.std.proofs.Common.{◌≡◌, ◌∙◌, ℕ, suc, zero, ◌+◌, ◌-◌, ◌^◌, ◌<◌, ◌≤◌, Bool, true, false, List, [], ◌∷◌, ◌++◌, length, Option, Some, None, option_map, decimal, codes, refl, sym, ap, subst, arith, append_assoc, if◌then◌else◌}
use Rattle.std.proofs.lemmas.List.{append-nil, length_push}
use Rattle.std.proofs.lemmas.List.Elements.{All-cons, All-head, All-tail}
use Rattle.std.specs.Cmp.Lexicographic.{bytes_decides}
use Rattle.std.specs.List.{All}
use Rattle.std.specs.Prelude.{option_and_then}
use Rattle.std.specs.Str.{bytes_eq}
use Rattle.qk_report.specs.Token.{dotted, path_text}
use Rattle.qk_report.specs.TokenReader.{number_in, past, dotted_number_in, dotted_in, numbers_in, path_in}
use Rattle.qk_report.proofs.NumberReading.{ends_digits, number_whole, number_sound, some_eq, none_some}
use Rattle.qk_report.proofs.FieldReading.{then_some, map_some, past_sound}

pub dotted_end : (k : ℕ) → dotted_in k [] ≡ Some []
unfolding dotted_in
dotted_end zero = refl
dotted_end (suc k) = refl

pub dotted_full : (rest : List ℕ) → 0 < length rest → dotted_in 0 rest ≡ None
unfolding dotted_in
dotted_full [] h = absurd (omega arith)
dotted_full (c ∷ cs) h = refl

dotted_next : (k c : ℕ) (cs : List ℕ) → dotted_in (suc k) (c ∷ cs) ≡ option_and_then (λ (p : ℕ × List ℕ). option_map (λ ns. p.0 ∷ ns) (dotted_in k p.1)) (dotted_number_in (c ∷ cs))
unfolding dotted_in
dotted_next k c cs = refl

-- a number more of a path that is read
pub path_more : (k : ℕ) (path rest after : List ℕ) (n : ℕ) → 0 < length rest → Some (n, after) ≡ dotted_number_in rest
    → option_map (λ ns. (path ++ n ∷ []) ++ ns) (dotted_in k after) ≡ option_map (λ ns. path ++ ns) (dotted_in (suc k) rest)
path_more k path [] after n some e = absurd (omega arith)
path_more k path (c ∷ cs) after n some e =
    by (dotted_in k after) ∙ ap (λ o. option_map (λ ns. path ++ ns) (option_and_then (λ (p : ℕ × List ℕ). option_map (λ ns. p.0 ∷ ns) (dotted_in k p.1)) o)) e
    ∙ sym (ap (λ o. option_map (λ ns. path ++ ns) o) (dotted_next k c cs))
  where
    by : (o : Option (List ℕ)) → option_map (λ ns. (path ++ n ∷ []) ++ ns) o ≡ option_map (λ ns. path ++ ns) (option_map (λ ns. n ∷ ns) o)
    by None = refl
    by (Some ns) = ap (λ t. Some t) (append_assoc path (n ∷ []) ns)

-- .. and where there is none
pub path_stops : (k : ℕ) (rest : List ℕ) → 0 < length rest → None ≡ dotted_number_in rest → dotted_in (suc k) rest ≡ None
path_stops k [] some e = absurd (omega arith)
path_stops k (c ∷ cs) some e = dotted_next k c cs ∙ ap (λ o. option_and_then (λ (p : ℕ × List ℕ). option_map (λ ns. p.0 ∷ ns) (dotted_in k p.1)) o) (sym e)

pub none_of : {X Y : Type 0} (f : X → Y) (o : Option X) → None ≡ option_map f o → o ≡ None
none_of f None e = refl
none_of f (Some x) e = absurd (none_some (f x) e)

-- one more of at most 1,024 numbers
pub path_goes_on : (path new rest after : List ℕ) (n : ℕ) (whole : Option (List ℕ)) → new ≡ path ++ n ∷ [] → length path < 1024 → 0 < length rest → Some (n, after) ≡ dotted_number_in rest
    → option_map (λ ns. path ++ ns) (dotted_in (1024 - length path) rest) ≡ whole
    → (length new ≤ 1024) × (option_map (λ ns. new ++ ns) (dotted_in (1024 - length new) after) ≡ whole)
path_goes_on path new rest after n whole longer few some e kept =
    let grown : length new ≡ length path + 1 = ap length longer ∙ length_push path n in
    let left : suc (1024 - length new) ≡ 1024 - length path = omega (arith, grown, few) in (
      omega (arith, grown, few),
      subst (λ t. option_map (λ ns. t ++ ns) (dotted_in (1024 - length new) after) ≡ whole) (sym longer)
          (path_more (1024 - length new) path rest after n some e ∙ ap (λ k. option_map (λ ns. path ++ ns) (dotted_in k rest)) left ∙ kept),
    )

pub path_ends : (k : ℕ) (path rest : List ℕ) → length rest ≡ 0 → option_map (λ ns. path ++ ns) (dotted_in k rest) ≡ Some path
path_ends k path [] e = ap (λ o. option_map (λ ns. path ++ ns) o) (dotted_end k) ∙ ap (λ t. Some t) (append-nil path)
path_ends k path (c ∷ cs) e = absurd (omega arith)

-- a path that cannot go on is none
pub no_path : (first : ℕ) (path bytes rest : List ℕ) (k : ℕ) → dotted_in k rest ≡ None
    → option_map (λ ns. path ++ ns) (dotted_in k rest) ≡ option_map (λ ns. first ∷ ns) (dotted_in 1023 bytes) → dotted_in 1023 bytes ≡ None
no_path first path bytes rest k none kept = none_of (λ ns. first ∷ ns) (dotted_in 1023 bytes) (sym (ap (λ o. option_map (λ ns. path ++ ns) o) none) ∙ kept)

pub no_more : (path rest : List ℕ) → length path < 1024 → 0 < length rest → None ≡ dotted_number_in rest → dotted_in (1024 - length path) rest ≡ None
no_more path rest few some e =
    let left : suc (1023 - length path) ≡ 1024 - length path = omega (arith, few) in
    subst (λ k. dotted_in k rest ≡ None) left (path_stops (1023 - length path) rest some e)

pub no_room : (path rest : List ℕ) → 1024 ≤ length path → 0 < length rest → dotted_in (1024 - length path) rest ≡ None
no_room path rest full some = let left : 0 ≡ 1024 - length path = omega (arith, full) in subst (λ k. dotted_in k rest ≡ None) left (dotted_full rest some)

-- the numbers fit 64 bits
abbrev pub AreNumbers : List ℕ → Type 0
AreNumbers ns = All (λ n. n < 2 ^ 64) ns

dotted_ends : (ns : List ℕ) → ends_digits (dotted ns) ≡ true
dotted_ends [] = refl
dotted_ends (n ∷ ns) = refl

no_numbers : AreNumbers []
no_numbers k d h = absurd (omega arith)

dotted_whole : (k : ℕ) (ns : List ℕ) → length ns ≤ k → AreNumbers ns → dotted_in k (dotted ns) ≡ Some ns
dotted_whole k [] few all = dotted_end k
dotted_whole zero (n ∷ ns) few all = absurd (omega arith)
dotted_whole (suc k) (n ∷ ns) few all =
    let first = number_whole n (dotted ns) (All-head (λ x. x < 2 ^ 64) n ns all) (dotted_ends ns) in
    let rest = dotted_whole k ns (omega arith) (All-tail (λ x. x < 2 ^ 64) n ns all) in
    dotted_next k 46 (decimal n ++ dotted ns) ∙ ap (λ o. option_and_then (λ (p : ℕ × List ℕ). option_map (λ ms. p.0 ∷ ms) (dotted_in k p.1)) o) first ∙ ap (λ o. option_map (λ ms. n ∷ ms) o) rest

pub record IsPath (bytes : List ℕ) (ns : List ℕ) (k : ℕ) : Type 0 where
  pub text : bytes ≡ dotted ns
  pub few : length ns ≤ k
  pub all : AreNumbers ns

dotted_sound : (k : ℕ) (bytes ns : List ℕ) → dotted_in k bytes ≡ Some ns → IsPath bytes ns k
dotted_sound k [] ns e =
    subst (λ ms. IsPath [] ms k) (some_eq [] ns (sym (dotted_end k) ∙ e)) (record { text = refl; few = omega arith; all = no_numbers })
dotted_sound zero (c ∷ cs) ns e = absurd (none_some ns (sym (dotted_full (c ∷ cs) (omega arith)) ∙ e))
dotted_sound (suc k) (c ∷ cs) ns e =
    let found = then_some (λ (p : ℕ × List ℕ). option_map (λ ms. p.0 ∷ ms) (dotted_in k p.1)) (dotted_number_in (c ∷ cs)) ns (sym (dotted_next k c cs) ∙ e) in
    let rest = map_some (λ ms. found.0.0 ∷ ms) (dotted_in k found.0.1) ns found.1.1 in
    let dot = then_some number_in (past 46 (c ∷ cs)) found.0 found.1.0 in
    let number = number_sound dot.0 found.0.0 found.0.1 dot.1.1 in
    let later = dotted_sound k found.0.1 rest.0 rest.1.0 in
    let whole : c ∷ cs ≡ dotted (found.0.0 ∷ rest.0) = past_sound 46 (c ∷ cs) dot.0 dot.1.0 ∙ ap (λ t. 46 ∷ t) (number.0 ∙ ap (λ t. decimal found.0.0 ++ t) later.text) in
    subst (λ ms. IsPath (c ∷ cs) ms (suc k)) rest.1.1 (record { text = whole; few = omega (arith, later.few); all = All-cons (λ x. x < 2 ^ 64) found.0.0 rest.0 number.1 later.all })

pub record IsPathText (bytes : List ℕ) (ns : List ℕ) : Type 0 where
  pub text : bytes ≡ path_text ns
  pub few : length ns ≤ 1024
  pub all : AreNumbers ns

numbers_whole : (n : ℕ) (ns : List ℕ) → length (n ∷ ns) ≤ 1024 → AreNumbers (n ∷ ns) → numbers_in (path_text (n ∷ ns)) ≡ Some (n ∷ ns)
numbers_whole n ns few all =
    let first = number_whole n (dotted ns) (All-head (λ x. x < 2 ^ 64) n ns all) (dotted_ends ns) in
    let rest = dotted_whole 1023 ns (omega arith) (All-tail (λ x. x < 2 ^ 64) n ns all) in
    ap (λ o. option_and_then (λ (p : ℕ × List ℕ). option_map (λ ms. p.0 ∷ ms) (dotted_in 1023 p.1)) o) first ∙ ap (λ o. option_map (λ ms. n ∷ ms) o) rest

numbers_sound : (bytes ns : List ℕ) → numbers_in bytes ≡ Some ns → IsPathText bytes ns
numbers_sound bytes ns e =
    let found = then_some (λ (p : ℕ × List ℕ). option_map (λ ms. p.0 ∷ ms) (dotted_in 1023 p.1)) (number_in bytes) ns e in
    let rest = map_some (λ ms. found.0.0 ∷ ms) (dotted_in 1023 found.0.1) ns found.1.1 in
    let number = number_sound bytes found.0.0 found.0.1 found.1.0 in
    let later = dotted_sound 1023 found.0.1 rest.0 rest.1.0 in
    subst (λ ms. IsPathText bytes ms) rest.1.1
    (record { text = number.0 ∙ ap (λ t. decimal found.0.0 ++ t) later.text; few = omega (arith, later.few); all = All-cons (λ x. x < 2 ^ 64) found.0.0 rest.0 number.1 later.all })

pub path_sound : (bytes ns : List ℕ) → path_in bytes ≡ Some ns → IsPathText bytes ns
path_sound bytes ns e = by (bytes_eq bytes (codes "-")) refl e
  where
    by : (b : Bool) → bytes_eq bytes (codes "-") ≡ b → (if b then Some [] else numbers_in bytes) ≡ Some ns → IsPathText bytes ns
    by true same k = subst (λ ms. IsPathText bytes ms) (some_eq [] ns k) (record { text = (bytes_decides bytes (codes "-")).0 same; few = omega arith; all = no_numbers })
    by false same k = numbers_sound bytes ns k

pub path_whole : (ns : List ℕ) → length ns ≤ 1024 → AreNumbers ns → path_in (path_text ns) ≡ Some ns
path_whole [] few all = refl
path_whole (n ∷ ns) few all = by (bytes_eq (path_text (n ∷ ns)) (codes "-")) refl (numbers_whole n ns few all)
  where
    by : (b : Bool) → bytes_eq (path_text (n ∷ ns)) (codes "-") ≡ b → numbers_in (path_text (n ∷ ns)) ≡ Some (n ∷ ns)
        → (if b then Some [] else numbers_in (path_text (n ∷ ns))) ≡ Some (n ∷ ns)
    by true same k = absurd (none_some (n ∷ ns) (ap numbers_in (sym ((bytes_decides (path_text (n ∷ ns)) (codes "-")).0 same)) ∙ k))
    by false same k = k
