-- The items are judged to declare names exactly where they declare them.
use Rattle.std.specs.Prelude.{nat_le, nat_lt}
use Rattle.std.proofs.Common.{◌≡◌, ◌∙◌, ℕ, ◌+◌, ◌≤◌, false, not, List, [], refl, sym, ap, subst, Option, Some, None, Ok}
use Rattle.qk_base.specs.declared.place.Place.{Place}
use Rattle.qk_syntax.specs.Places.{start}
use Rattle.qk_syntax.specs.PlainTrees.{PlainTree, number, name, list, PlainTrees, end, more, count}
use Rattle.qk_names.specs.Checks.{◌>>◌, check}
use Rattle.qk_names.specs.Names.{Declared, is_known, item_of, number_of, numbered, declare, named_maker, maker_names, inner_names, named_item, item_names, all_names, names_of}
use Rattle.qk_names.specs.Reserved.{Word}
use Rattle.qk_names.specs.declared.names.Item.{Item}
use Rattle.qk_names.specs.declared.names.Item.TheVariants as items
use Rattle.qk_names.specs.declared.names.Named.{Named}
use Rattle.qk_names.specs.declared.names.Named.TheVariants as named
use Rattle.qk_wellformed.specs.AreNames.{with_name, DeclareMakers, DeclareInner, DeclaresItem, DeclareItems, AreNames}
use Rattle.qk_wellformed.proofs.ArmsStand.{not_true}
use Rattle.qk_wellformed.proofs.Inversion.{ok_is, bound, held, after, passing}
use Rattle.qk_wellformed.proofs.PartsStand.{at_most, most_given, less, less_given}

declare_stands : (names : List Declared) (p : Place) (w : Word) (what : Named) (r : List Declared) → declare names p w what ≡ Ok r → (is_known names w ≡ false) × (r ≡ with_name names w what)
declare_stands names p w what r h = held (not (is_known names w)) 21 p (Ok (with_name names w what)) r _ (λ t k. (not_true _ t, ok_is _ _ _ k refl)) h

declare_given : (names : List Declared) (p : Place) (w : Word) (what : Named) → is_known names w ≡ false → declare names p w what ≡ Ok (with_name names w what)
declare_given names p w what h = passing (not (is_known names w)) 21 p (Ok (with_name names w what)) _ (ap not h) refl

maker_stands : (names : List Declared) (kind n : ℕ) (p q : Place) (w : Word) (fields : PlainTrees) (r : List Declared) → named_maker names kind n p q w fields ≡ Ok r
    → (is_known names w ≡ false) × (count fields ≤ 16) × (r ≡ with_name names w (named.Maker kind n))
maker_stands names kind n p q w fields r h =
    bound (declare names q w (named.Maker kind n)) (λ names. check (nat_le (count fields) 16) 23 p >> Ok names) r _
    (λ a e k. held (nat_le (count fields) 16) 23 p (Ok a) r _
    (λ le l. let d : (is_known names w ≡ false) × (a ≡ with_name names w (named.Maker kind n)) = declare_stands names q w (named.Maker kind n) a e in (d.0, at_most _ _ le, ok_is r a (Ok a) l refl ∙ d.1)) k) h

maker_given : (names : List Declared) (kind n : ℕ) (p q : Place) (w : Word) (fields : PlainTrees) → is_known names w ≡ false → count fields ≤ 16
    → named_maker names kind n p q w fields ≡ Ok (with_name names w (named.Maker kind n))
maker_given names kind n p q w fields h le =
    after (declare names q w (named.Maker kind n)) (λ names. check (nat_le (count fields) 16) 23 p >> Ok names) _ _ (declare_given names q w (named.Maker kind n) h)
    (passing (nat_le (count fields) 16) 23 p (Ok (with_name names w (named.Maker kind n))) _ (most_given _ _ le) refl)

makers_stand : (trees : PlainTrees) (names : List Declared) (kind n : ℕ) (r : List Declared) → maker_names names kind n trees ≡ Ok r → DeclareMakers names kind n trees r
makers_stand end names kind n r h = ok_is _ _ _ h refl
makers_stand (more (number p m) trees) names kind n r h = absurd (cc)
makers_stand (more (name p w) trees) names kind n r h = absurd (cc)
makers_stand (more (list p end) trees) names kind n r h = absurd (cc)
makers_stand (more (list p (more (number q m) us)) trees) names kind n r h = absurd (cc)
makers_stand (more (list p (more (list q vs) us)) trees) names kind n r h = absurd (cc)
makers_stand (more (list p (more (name q w) fields)) trees) names kind n r h =
    bound (named_maker names kind n p q w fields) (λ names. maker_names names kind (n + 1) trees) r _
    (λ mid e k. let m : (is_known names w ≡ false) × (count fields ≤ 16) × (mid ≡ with_name names w (named.Maker kind n)) = maker_stands names kind n p q w fields mid e in
    (m.0, m.1, subst (λ x. DeclareMakers x kind (n + 1) trees r) m.2 (makers_stand trees mid kind (n + 1) r k))) h

makers_given : (trees : PlainTrees) (names : List Declared) (kind n : ℕ) (r : List Declared) → DeclareMakers names kind n trees r → maker_names names kind n trees ≡ Ok r
makers_given end names kind n r h = ap Ok (sym h)
makers_given (more (number p m) trees) names kind n r h = absurd h
makers_given (more (name p w) trees) names kind n r h = absurd h
makers_given (more (list p end) trees) names kind n r h = absurd h
makers_given (more (list p (more (number q m) us)) trees) names kind n r h = absurd h
makers_given (more (list p (more (list q vs) us)) trees) names kind n r h = absurd h
makers_given (more (list p (more (name q w) fields)) trees) names kind n r (new, le, h) =
    after (named_maker names kind n p q w fields) (λ names. maker_names names kind (n + 1) trees) _ _ (maker_given names kind n p q w fields new le) (makers_given trees (with_name names w (named.Maker kind n)) kind (n + 1) r h)

inner_stands : (names : List Declared) (p : Place) (kind : ℕ) (item : Item) (parts : PlainTrees) (r : List Declared) → inner_names names p kind item parts ≡ Ok r → DeclareInner names kind item parts r
inner_stands names p kind items.Kind parts r h = held (nat_lt 0 (count parts)) 27 p (maker_names names kind 0 parts) r _ (λ some k. (less _ _ some, makers_stand parts names kind 0 r k)) h
inner_stands names p kind items.Function parts r h = ok_is _ _ _ h refl
inner_stands names p kind items.Generator parts r h = ok_is _ _ _ h refl
inner_stands names p kind items.Model parts r h = ok_is _ _ _ h refl
inner_stands names p kind items.Property parts r h = ok_is _ _ _ h refl

inner_given : (names : List Declared) (p : Place) (kind : ℕ) (item : Item) (parts : PlainTrees) (r : List Declared) → DeclareInner names kind item parts r → inner_names names p kind item parts ≡ Ok r
inner_given names p kind items.Kind parts r (some, h) = passing (nat_lt 0 (count parts)) 27 p (maker_names names kind 0 parts) _ (less_given _ _ some) (makers_given parts names kind 0 r h)
inner_given names p kind items.Function parts r h = ap Ok (sym h)
inner_given names p kind items.Generator parts r h = ap Ok (sym h)
inner_given names p kind items.Model parts r h = ap Ok (sym h)
inner_given names p kind items.Property parts r h = ap Ok (sym h)

module _ (names : List Declared) (p q r : Place) (x : Word) (parts : PlainTrees) (all : List Declared) where
  Goal : Option Item → Type 0
  Goal o = (item : Item) × (o ≡ Some item) × (is_known names x ≡ false) × DeclareInner (with_name names x (numbered item (number_of names item))) (number_of names items.Kind) item parts all

  named_stands : (o : Option Item) → named_item names p o (more (name r x) parts) ≡ Ok all → Goal o
  unfolding Goal
  named_stands None h = absurd (cc)
  named_stands (Some item) h =
      bound (declare names r x (numbered item (number_of names item))) (λ after. inner_names after p (number_of names items.Kind) item parts) all _
      (λ a e k. let d : (is_known names x ≡ false) × (a ≡ with_name names x (numbered item (number_of names item))) = declare_stands names r x (numbered item (number_of names item)) a e in
      (item, refl, d.0, subst (λ y. DeclareInner y (number_of names items.Kind) item parts all) d.1 (inner_stands a p (number_of names items.Kind) item parts all k))) h

  item_given_by : (o : Option Item) → Goal o → named_item names p o (more (name r x) parts) ≡ Ok all
  unfolding Goal
  item_given_by o (item, is, new, h) =
      ap (λ y. named_item names p y (more (name r x) parts)) is
      ∙ after (declare names r x (numbered item (number_of names item))) (λ after. inner_names after p (number_of names items.Kind) item parts) _ _ (declare_given names r x (numbered item (number_of names item)) new)
      (inner_given (with_name names x (numbered item (number_of names item))) p (number_of names items.Kind) item parts all h)

no_name : {A : Type 0} (names : List Declared) (p : Place) (o : Option Item) (q : Place) (parts : PlainTrees) (r : List Declared) → (named_item names p o parts ≡ Ok r) → ((item : Item) → named_item names p (Some item) parts ≡ Ok r → A) → A
no_name names p None q parts r h k = absurd (cc)
no_name names p (Some item) q parts r h k = k item h

item_stands : (names : List Declared) (tree : PlainTree) (r : List Declared) → item_names names tree ≡ Ok r → DeclaresItem names tree r
unfolding Goal
item_stands names (number p n) r h = absurd (cc)
item_stands names (name p w) r h = absurd (cc)
item_stands names (list p end) r h = absurd (cc)
item_stands names (list p (more (number q n) us)) r h = absurd (cc)
item_stands names (list p (more (list q vs) us)) r h = absurd (cc)
item_stands names (list p (more (name q w) end)) r h = no_name names p (item_of w) q end r h (λ item k. absurd (cc))
item_stands names (list p (more (name q w) (more (number s n) parts))) r h = no_name names p (item_of w) q (more (number s n) parts) r h (λ item k. absurd (cc))
item_stands names (list p (more (name q w) (more (list s us) parts))) r h = no_name names p (item_of w) q (more (list s us) parts) r h (λ item k. absurd (cc))
item_stands names (list p (more (name q w) (more (name s x) parts))) r h = named_stands names p q s x parts r (item_of w) h

item_given : (names : List Declared) (tree : PlainTree) (r : List Declared) → DeclaresItem names tree r → item_names names tree ≡ Ok r
unfolding Goal
item_given names (number p n) r h = absurd h
item_given names (name p w) r h = absurd h
item_given names (list p end) r h = absurd h
item_given names (list p (more (number q n) us)) r h = absurd h
item_given names (list p (more (list q vs) us)) r h = absurd h
item_given names (list p (more (name q w) end)) r h = absurd h
item_given names (list p (more (name q w) (more (number s n) parts))) r h = absurd h
item_given names (list p (more (name q w) (more (list s us) parts))) r h = absurd h
item_given names (list p (more (name q w) (more (name s x) parts))) r h = item_given_by names p q s x parts r (item_of w) h

items_stand : (trees : PlainTrees) (names r : List Declared) → all_names names trees ≡ Ok r → DeclareItems names trees r
items_stand end names r h = ok_is _ _ _ h refl
items_stand (more item trees) names r h = bound (item_names names item) (λ names. all_names names trees) r _ (λ mid e k. (mid, item_stands names item mid e, items_stand trees mid r k)) h

items_given : (trees : PlainTrees) (names r : List Declared) → DeclareItems names trees r → all_names names trees ≡ Ok r
items_given end names r h = ap Ok (sym h)
items_given (more item trees) names r (mid, h, hs) = after (item_names names item) (λ names. all_names names trees) mid _ (item_given names item mid h) (items_given trees mid r hs)

pub names_stand : (trees : PlainTrees) (names : List Declared) → names_of trees ≡ Ok names → AreNames trees names
names_stand trees names h =
    bound (all_names [] trees) (λ names. check (nat_lt 0 (number_of names items.Property)) 28 start >> Ok names) names _
    (λ all e k. held (nat_lt 0 (number_of all items.Property)) 28 start (Ok all) names _
    (λ some l. let same : all ≡ names = ok_is _ _ _ refl l in
    record { declared = subst (λ x. DeclareItems [] trees x) same (items_stand trees [] all e); some = less _ _ (ap (λ x. nat_lt 0 (number_of x items.Property)) (sym same) ∙ some) }) k) h

pub names_given : (trees : PlainTrees) (names : List Declared) → AreNames trees names → names_of trees ≡ Ok names
names_given trees names h =
    after (all_names [] trees) (λ names. check (nat_lt 0 (number_of names items.Property)) 28 start >> Ok names) names _ (items_given trees [] names h.declared)
    (passing (nat_lt 0 (number_of names items.Property)) 28 start (Ok names) _ (less_given _ _ h.some) refl)
