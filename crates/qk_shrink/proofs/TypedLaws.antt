-- The candidates of a value have its type.
use Rattle.std.proofs.Common.{◌≡◌, ℕ, zero, suc, ◌+◌, ◌≤◌, ℤ, Bool, true, false, ◌&&◌, nat_eq, IsTrue, List, [], ◌∷◌, ◌++◌, map, take, drop, length, Option, Some, None, refl, sym, subst, arith, if◌then◌else◌}
use Rattle.std.proofs.lemmas.List.Elements.{All-nil, All-cons, All-append, All-map}
use Rattle.std.specs.List.{All}
use Rattle.qk_value.specs.Data.{Data, int, bool, list, pair, made, Datas, end, more, datas_of, listed_data}
use Rattle.qk_value.specs.Kinds.{MakerData, KindData, maker_of}
use Rattle.qk_value.specs.Types.{TypeData, int_type, bool_type, list_type, pair_type, made_type}
use Rattle.qk_value.specs.Typing.{has_type, all_have_type, are_parts, field_types}
use Rattle.qk_shrink.specs.Blocks.{blocks, without, removals}
use Rattle.qk_shrink.specs.Candidates.{value_candidates, items_in_place, parts_in_place, own_part, own_parts, is_made, fields_of}
use Rattle.qk_shrink.specs.Numbers.{number_candidates, truth_candidates}
use Rattle.qk_shrink.specs.declared.blocks.Block.{Block}
use Rattle.qk_shrink.proofs.SizeLaws.{each, again}

-- of the type
abbrev pub Has : List KindData → TypeData → Data → Type 0
Has kinds t d = IsTrue (has_type kinds t d)

abbrev AllHave : List KindData → TypeData → Datas → Type 0
AllHave kinds t ds = IsTrue (all_have_type kinds t ds)

abbrev AreParts : List KindData → List TypeData → Datas → Type 0
AreParts kinds ts ds = IsTrue (are_parts kinds (Some ts) ds)

pub both : (b c : Bool) → IsTrue (b && c) → IsTrue b × IsTrue c
both true true h = (h, h)
both true false h = cc
both false c h = cc

pub conj : (b c : Bool) → IsTrue b → IsTrue c → IsTrue (b && c)
conj true true h k = h
conj true false h k = cc
conj false c h k = cc

pub same_number : (k l : ℕ) → IsTrue (nat_eq k l) → k ≡ l
same_number k l h = grind arith

first_has : (kinds : List KindData) (t : TypeData) (d : Data) (ds : Datas) → AllHave kinds t (more d ds) → Has kinds t d × AllHave kinds t ds
first_has kinds t d ds h = both (has_type kinds t d) (all_have_type kinds t ds) h

typed_rest : (kinds : List KindData) (t : TypeData) (n : ℕ) (xs : List Data) → AllHave kinds t (datas_of xs) → AllHave kinds t (datas_of (drop n xs))
typed_rest kinds t zero xs h = h
typed_rest kinds t (suc n) [] h = h
typed_rest kinds t (suc n) (x ∷ xs) h = typed_rest kinds t n xs (first_has kinds t x (datas_of xs) h).1

typed_ends : (kinds : List KindData) (t : TypeData) (n m : ℕ) (xs : List Data) → n ≤ m → AllHave kinds t (datas_of xs) → AllHave kinds t (datas_of (take n xs ++ drop m xs))
typed_ends kinds t zero m xs below h = typed_rest kinds t m xs h
typed_ends kinds t (suc n) zero xs below h = absurd (omega arith)
typed_ends kinds t (suc n) (suc m) [] below h = h
typed_ends kinds t (suc n) (suc m) (x ∷ xs) below h =
    let parts = first_has kinds t x (datas_of xs) h in
    conj (has_type kinds t x) (all_have_type kinds t (datas_of (take n xs ++ drop m xs))) parts.0 (typed_ends kinds t n m xs (omega arith) parts.1)

typed_without : (kinds : List KindData) (t : TypeData) (xs : List Data) (bs : List Block) → AllHave kinds t (datas_of xs) → All (λ ys. AllHave kinds t (datas_of ys)) (map (without xs) bs)
typed_without kinds t xs [] h = All-nil (λ ys. AllHave kinds t (datas_of ys))
typed_without kinds t xs (b ∷ bs) h =
    All-cons (λ ys. AllHave kinds t (datas_of ys)) (without xs b) (map (without xs) bs) (typed_ends kinds t b.at (b.at + b.size) xs (omega arith) h) (typed_without kinds t xs bs h)

typed_removals : (kinds : List KindData) (t : TypeData) (ds : Datas) → AllHave kinds t ds → All (AllHave kinds t) (map datas_of (removals (listed_data ds)))
typed_removals kinds t ds h =
    let xs = listed_data ds in
    All-map (AllHave kinds t) datas_of (removals xs) (typed_without kinds t xs (blocks (length xs)) (subst (AllHave kinds t) (sym (again ds)) h))

typed_numbers : (kinds : List KindData) (ns : List ℤ) → All (Has kinds int_type) (map int ns)
typed_numbers kinds [] = All-nil (Has kinds int_type)
typed_numbers kinds (n ∷ ns) = All-cons (Has kinds int_type) (int n) (map int ns) refl (typed_numbers kinds ns)

typed_truths : (kinds : List KindData) (bs : List Bool) → All (Has kinds bool_type) (map bool bs)
typed_truths kinds [] = All-nil (Has kinds bool_type)
typed_truths kinds (b ∷ bs) = All-cons (Has kinds bool_type) (bool b) (map bool bs) refl (typed_truths kinds bs)

-- a field of the type's own has it
its_own : (kinds : List KindData) (k : ℕ) (t : TypeData) (d : Data) → IsTrue (is_made k t) → Has kinds t d → Has kinds (made_type k) d
its_own kinds k int_type d own h = cc
its_own kinds k bool_type d own h = cc
its_own kinds k (list_type t) d own h = cc
its_own kinds k (pair_type t u) d own h = cc
its_own kinds k (made_type l) d own h = subst (λ (n : ℕ). Has kinds (made_type n) d) (same_number l k own) h

typed_own_part : (kinds : List KindData) (k : ℕ) (t : TypeData) (d : Data) (b : Bool) → b ≡ is_made k t → Has kinds t d → All (Has kinds (made_type k)) (if b then d ∷ [] else [])
typed_own_part kinds k t d true is h = All-cons (Has kinds (made_type k)) d [] (its_own kinds k t d (sym is) h) (All-nil (Has kinds (made_type k)))
typed_own_part kinds k t d false is h = All-nil (Has kinds (made_type k))

first_part : (kinds : List KindData) (t : TypeData) (ts : List TypeData) (d : Data) (ds : Datas) → AreParts kinds (t ∷ ts) (more d ds) → Has kinds t d × AreParts kinds ts ds
first_part kinds t ts d ds h = both (has_type kinds t d) (are_parts kinds (Some ts) ds) h

typed_own : (kinds : List KindData) (k : ℕ) (ts : List TypeData) (ds : Datas) → AreParts kinds ts ds → All (Has kinds (made_type k)) (own_parts k ts ds)
typed_own kinds k [] ds h = All-nil (Has kinds (made_type k))
typed_own kinds k (t ∷ ts) end h = All-nil (Has kinds (made_type k))
typed_own kinds k (t ∷ ts) (more d ds) h =
    let parts = first_part kinds t ts d ds h in
    All-append (Has kinds (made_type k)) (own_part k t d) (own_parts k ts ds) (typed_own_part kinds k t d (is_made k t) refl parts.0) (typed_own kinds k ts ds parts.1)

-- a value of a user type, with what holds of its parts in place
typed_made : (kinds : List KindData) (k l m : ℕ) (maker : Option MakerData) → maker ≡ maker_of kinds l m → (ds : Datas)
    → ((ts : List TypeData) → AreParts kinds ts ds → All (AreParts kinds ts) (parts_in_place kinds ts ds)) → IsTrue (nat_eq k l) → IsTrue (are_parts kinds (field_types maker) ds)
    → All (Has kinds (made_type k)) (own_parts l (fields_of maker) ds ++ map (made l m) (parts_in_place kinds (fields_of maker) ds))
typed_made kinds k l m None is ds rest same h = cc
typed_made kinds k l m (Some maker) is ds rest same h =
    let Good : Data → Type 0 = Has kinds (made_type k) in
    let own = typed_own kinds l maker.fields ds h in
    All-append Good (own_parts l maker.fields ds) (map (made l m) (parts_in_place kinds maker.fields ds))
    (subst (λ (n : ℕ). All (Has kinds (made_type n)) (own_parts l maker.fields ds)) (sym (same_number k l same)) own)
    (All-map Good (made l m) (parts_in_place kinds maker.fields ds)
    (each (AreParts kinds maker.fields) (λ es. Good (made l m es))
    (λ es e. conj (nat_eq k l) (are_parts kinds (field_types (maker_of kinds l m)) es) same (subst (λ (o : Option MakerData). IsTrue (are_parts kinds (field_types o) es)) is e))
    (parts_in_place kinds maker.fields ds) (rest maker.fields h)))

mutual
  pub typed : (kinds : List KindData) (t : TypeData) (d : Data) → Has kinds t d → All (Has kinds t) (value_candidates kinds t d)
  typed kinds int_type (int n) h = typed_numbers kinds (number_candidates n)
  typed kinds bool_type (bool b) h = typed_truths kinds (truth_candidates b)
  typed kinds (list_type t) (list ds) h =
      let removed = map datas_of (removals (listed_data ds)) in
      All-map (Has kinds (list_type t)) list (removed ++ items_in_place kinds t ds)
      (All-append (AllHave kinds t) removed (items_in_place kinds t ds) (typed_removals kinds t ds h) (typed_items kinds t ds h))
  typed kinds (pair_type t u) (pair a b) h =
      let parts = both (has_type kinds t a) (has_type kinds u b) h in
      let Good : Data → Type 0 = Has kinds (pair_type t u) in
      All-append Good (map (λ c. pair c b) (value_candidates kinds t a)) (map (pair a) (value_candidates kinds u b))
      (All-map Good (λ c. pair c b) (value_candidates kinds t a)
      (each (Has kinds t) (λ c. Good (pair c b)) (λ c k. conj (has_type kinds t c) (has_type kinds u b) k parts.1) (value_candidates kinds t a) (typed kinds t a parts.0)))
      (All-map Good (pair a) (value_candidates kinds u b)
      (each (Has kinds u) (λ c. Good (pair a c)) (λ c k. conj (has_type kinds t a) (has_type kinds u c) parts.0 k) (value_candidates kinds u b) (typed kinds u b parts.1)))
  typed kinds (made_type k) (made l m ds) h =
      let parts = both (nat_eq k l) (are_parts kinds (field_types (maker_of kinds l m)) ds) h in
      typed_made kinds k l m (maker_of kinds l m) refl ds (λ ts are. typed_parts kinds ts ds are) parts.0 parts.1
  typed kinds t d h = All-nil (Has kinds t)

  typed_items : (kinds : List KindData) (t : TypeData) (ds : Datas) → AllHave kinds t ds → All (AllHave kinds t) (items_in_place kinds t ds)
  typed_items kinds t end h = All-nil (AllHave kinds t)
  typed_items kinds t (more d ds) h =
      let parts = first_has kinds t d ds h in
      All-append (AllHave kinds t) (map (λ c. more c ds) (value_candidates kinds t d)) (map (more d) (items_in_place kinds t ds))
      (All-map (AllHave kinds t) (λ c. more c ds) (value_candidates kinds t d)
      (each (Has kinds t) (λ c. AllHave kinds t (more c ds)) (λ c k. conj (has_type kinds t c) (all_have_type kinds t ds) k parts.1) (value_candidates kinds t d) (typed kinds t d parts.0)))
      (All-map (AllHave kinds t) (more d) (items_in_place kinds t ds)
      (each (AllHave kinds t) (λ es. AllHave kinds t (more d es)) (λ es k. conj (has_type kinds t d) (all_have_type kinds t es) parts.0 k) (items_in_place kinds t ds) (typed_items kinds t ds parts.1)))

  typed_parts : (kinds : List KindData) (ts : List TypeData) (ds : Datas) → AreParts kinds ts ds → All (AreParts kinds ts) (parts_in_place kinds ts ds)
  typed_parts kinds [] ds h = All-nil (AreParts kinds [])
  typed_parts kinds (t ∷ ts) end h = All-nil (AreParts kinds (t ∷ ts))
  typed_parts kinds (t ∷ ts) (more d ds) h =
      let parts = first_part kinds t ts d ds h in
      let Good : Datas → Type 0 = AreParts kinds (t ∷ ts) in
      All-append Good (map (λ c. more c ds) (value_candidates kinds t d)) (map (more d) (parts_in_place kinds ts ds))
      (All-map Good (λ c. more c ds) (value_candidates kinds t d)
      (each (Has kinds t) (λ c. Good (more c ds)) (λ c k. conj (has_type kinds t c) (are_parts kinds (Some ts) ds) k parts.1) (value_candidates kinds t d) (typed kinds t d parts.0)))
      (All-map Good (more d) (parts_in_place kinds ts ds)
      (each (AreParts kinds ts) (λ es. Good (more d es)) (λ es k. conj (has_type kinds t d) (are_parts kinds (Some ts) es) parts.0 k) (parts_in_place kinds ts ds) (typed_parts kinds ts ds parts.1)))
