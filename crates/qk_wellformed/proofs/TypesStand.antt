-- A tree is a type exactly where it is judged to be that type.
use Rattle.std.proofs.Common.{◌≡◌, List, refl, sym, ap, Option, Some, None, Ok}
use Rattle.qk_base.specs.declared.place.Place.{Place}
use Rattle.qk_syntax.specs.PlainTrees.{PlainTree, number, name, list, PlainTrees, end, more}
use Rattle.qk_value.specs.Types.{TypeData, list_type, pair_type}
use Rattle.qk_names.specs.Checks.{◌>>=◌}
use Rattle.qk_names.specs.Names.{Declared, named_by}
use Rattle.qk_names.specs.Reserved.{Word}
use Rattle.qk_headers.specs.TypesOf.{type_at, formed_type, type_by_word, user_type, former}
use Rattle.qk_names.specs.declared.names.Named.{Named}
use Rattle.qk_names.specs.declared.names.Named.TheVariants as named
use Rattle.qk_headers.specs.declared.types_of.Former.{Former}
use Rattle.qk_headers.specs.declared.types_of.Former.TheVariants as formers
use Rattle.qk_wellformed.specs.IsType.{IsType, IsFormedType, NamesType, plain_type}
use Rattle.qk_wellformed.proofs.Inversion.{ok_is, bound, after}

user_stands : (p : Place) (what : Option Named) (t : TypeData) → user_type p what ≡ Ok t → NamesType None what t
user_stands p None t h = absurd (cc)
user_stands p (Some (named.Kind k)) t h = ok_is _ _ _ h refl
user_stands p (Some what) t h = absurd (cc)

user_given : (p : Place) (what : Option Named) (t : TypeData) → NamesType None what t → user_type p what ≡ Ok t
user_given p None t h = absurd h
user_given p (Some (named.Kind k)) t h = ap Ok (sym h)
user_given p (Some what) t h = absurd h

module _ (names : List Declared) where
  word_stands : (p : Place) (w : Word) (plain : Option TypeData) (t : TypeData) → type_by_word names p w plain ≡ Ok t → NamesType plain (named_by names w) t
  word_stands p w (Some u) t h = ok_is _ _ _ h refl
  word_stands p w None t h = user_stands p (named_by names w) t h

  word_given : (p : Place) (w : Word) (plain : Option TypeData) (t : TypeData) → NamesType plain (named_by names w) t → type_by_word names p w plain ≡ Ok t
  word_given p w (Some u) t h = ap Ok (sym h)
  word_given p w None t h = user_given p (named_by names w) t h

  mutual
    pub type_stands : (u : PlainTree) (t : TypeData) → type_at names u ≡ Ok t → IsType names u t
    type_stands (number p n) t h = absurd (cc)
    type_stands (name p w) t h = word_stands p w (plain_type w) t h
    type_stands (list p end) t h = absurd (cc)
    type_stands (list p (more (number q n) parts)) t h = absurd (cc)
    type_stands (list p (more (list q us) parts)) t h = absurd (cc)
    type_stands (list p (more (name q w) parts)) t h = formed_stands p (former w) parts t h

    formed_stands : (p : Place) (what : Option Former) (parts : PlainTrees) (t : TypeData) → formed_type names p what parts ≡ Ok t → IsFormedType names what parts t
    formed_stands p None parts t h = absurd (cc)
    formed_stands p (Some formers.List) end t h = absurd (cc)
    formed_stands p (Some formers.List) (more u end) t h = bound (type_at names u) (λ item. Ok (list_type item)) t _ (λ item e r. (item, type_stands u item e, ok_is _ _ _ r refl)) h
    formed_stands p (Some formers.List) (more u (more v us)) t h = absurd (cc)
    formed_stands p (Some formers.Pair) end t h = absurd (cc)
    formed_stands p (Some formers.Pair) (more u end) t h = absurd (cc)
    formed_stands p (Some formers.Pair) (more u (more v end)) t h =
        bound (type_at names u) (λ first. type_at names v >>= λ second. Ok (pair_type first second)) t _
        (λ first e r. bound (type_at names v) (λ second. Ok (pair_type first second)) t _ (λ second f k. (first, second, type_stands u first e, type_stands v second f, ok_is _ _ _ k refl)) r) h
    formed_stands p (Some formers.Pair) (more u (more v (more w us))) t h = absurd (cc)

  mutual
    pub type_given : (u : PlainTree) (t : TypeData) → IsType names u t → type_at names u ≡ Ok t
    type_given (number p n) t h = absurd h
    type_given (name p w) t h = word_given p w (plain_type w) t h
    type_given (list p end) t h = absurd h
    type_given (list p (more (number q n) parts)) t h = absurd h
    type_given (list p (more (list q us) parts)) t h = absurd h
    type_given (list p (more (name q w) parts)) t h = formed_given p (former w) parts t h

    formed_given : (p : Place) (what : Option Former) (parts : PlainTrees) (t : TypeData) → IsFormedType names what parts t → formed_type names p what parts ≡ Ok t
    formed_given p None parts t h = absurd h
    formed_given p (Some formers.List) end t h = absurd h
    formed_given p (Some formers.List) (more u end) t (item, h, is) = after _ _ item _ (type_given u item h) (ap Ok (sym is))
    formed_given p (Some formers.List) (more u (more v us)) t h = absurd h
    formed_given p (Some formers.Pair) end t h = absurd h
    formed_given p (Some formers.Pair) (more u end) t h = absurd h
    formed_given p (Some formers.Pair) (more u (more v end)) t (first, second, h, k, is) = after _ _ first _ (type_given u first h) (after _ _ second _ (type_given v second k) (ap Ok (sym is)))
    formed_given p (Some formers.Pair) (more u (more v (more w us))) t h = absurd h
