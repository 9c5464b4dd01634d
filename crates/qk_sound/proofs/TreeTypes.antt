-- What trees are as types has user types of the table alone.
use Rattle.std.specs.Prelude.{codes}
use Rattle.std.proofs.Common.{◌≡◌, ◌∙◌, ℕ, ◌<◌, List, [], ◌∷◌, ◌++◌, length, Option, Some, None, refl, sym, ap, subst, arith}
use Rattle.std.proofs.lemmas.List.{append_assoc, append-nil}
use Rattle.qk_headers.specs.Scopes.{Scope, types_of, bind, bind_all}
use Rattle.qk_headers.specs.TypesOf.{former}
use Rattle.qk_headers.specs.declared.types_of.Former.{Former}
use Rattle.qk_headers.specs.declared.types_of.Former.TheVariants as formers
use Rattle.qk_names.specs.Names.{Declared, named_by}
use Rattle.qk_names.specs.Reserved.{Word}
use Rattle.qk_names.specs.declared.names.Named.{Named}
use Rattle.qk_names.specs.declared.names.Named.TheVariants as named
use Rattle.qk_syntax.specs.PlainTrees.{PlainTree, number, name, list, PlainTrees, end, more}
use Rattle.qk_typed.specs.TypedExpressions.{IsType, AreTypes}
use Rattle.qk_typed.specs.WellTyped.{Each}
use Rattle.qk_value.specs.Kinds.{KindData}
use Rattle.qk_value.specs.Types.{TypeData, int_type, bool_type}
use Rattle.qk_wellformed.specs.AreHeaders.{AreTypes as AreTreeTypes}
use Rattle.qk_wellformed.specs.IsType.{IsType as IsTreeType, IsFormedType, NamesType, plain_type}
use Rattle.qk_sound.proofs.Found.{entry_holds}

-- the types of a scope with more variables
pub bound_types : (s : Scope) (w : Word) (t : TypeData) → types_of (bind s w t) ≡ types_of s ++ t ∷ []
bound_types [] w t = refl
bound_types (v ∷ s) w t = ap (λ us. v.ty ∷ us) (bound_types s w t)

pub all_bound_types : (s : Scope) (ws : List Word) (ts : List TypeData) → length ws ≡ length ts → types_of (bind_all s ws ts) ≡ types_of s ++ ts
all_bound_types s [] [] h = sym (append-nil (types_of s))
all_bound_types s [] (t ∷ ts) h = absurd (omega (arith, h))
all_bound_types s (w ∷ ws) [] h = absurd (omega (arith, h))
all_bound_types s (w ∷ ws) (t ∷ ts) h = all_bound_types (bind s w t) ws ts (omega (arith, h)) ∙ ap (λ us. us ++ ts) (bound_types s w t) ∙ append_assoc (types_of s) (t ∷ []) ts

module _ (names : List Declared) (kinds : List KindData) (stand : (w : Word) (k : ℕ) → named_by names w ≡ Some (named.Kind k) → k < length kinds) where
  named_type : (o : Option TypeData) (what : Option Named) (t : TypeData) → ((u : TypeData) → o ≡ Some u → IsType kinds u) → ((k : ℕ) → what ≡ Some (named.Kind k) → k < length kinds) → NamesType o what t → IsType kinds t
  named_type (Some u) what t own declared h = subst (IsType kinds) (sym h) (own u refl)
  named_type None (Some (named.Kind k)) t own declared h = subst (IsType kinds) (sym h) (declared k refl)
  named_type None what t own declared h = absurd h

  -- the types that have words of their own
  plain_types : Each (λ (e : Word × TypeData). IsType kinds e.1) ((codes "Int", int_type) ∷ (codes "Bool", bool_type) ∷ [])
  plain_types = (tt, (tt, tt))

  mutual
    pub is_type : (tree : PlainTree) (t : TypeData) → IsTreeType names tree t → IsType kinds t
    is_type (number p n) t h = absurd h
    is_type (name p w) t h = named_type (plain_type w) (named_by names w) t (λ u e. entry_holds (IsType kinds) ((codes "Int", int_type) ∷ (codes "Bool", bool_type) ∷ []) w u plain_types e) (λ k e. stand w k e) h
    is_type (list p (more (name q w) parts)) t h = formed_type (former w) parts t h
    is_type (list p parts) t h = absurd h

    formed_type : (o : Option Former) (parts : PlainTrees) (t : TypeData) → IsFormedType names o parts t → IsType kinds t
    formed_type (Some formers.List) (more u end) t h = subst (IsType kinds) (sym h.2) (is_type u h.0 h.1)
    formed_type (Some formers.Pair) (more u (more v end)) t h = subst (IsType kinds) (sym h.4) (is_type u h.0 h.2, is_type v h.1 h.3)
    formed_type o parts t h = absurd h

  pub are_types : (trees : PlainTrees) (ts : List TypeData) → AreTreeTypes names trees ts → AreTypes kinds ts
  are_types end [] h = tt
  are_types (more u us) (t ∷ ts) h = (is_type u t h.0, are_types us ts h.1)
  are_types trees ts h = absurd h
