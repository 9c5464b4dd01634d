-- What headers say is typed.
use Rattle.std.proofs.Common.{◌≡◌, ℕ, ◌<◌, List, [], ◌∷◌, ◌++◌, length, Some, sym, subst}
use Rattle.qk_headers.specs.Headers.{HeadersData, SignatureData, ModelTypesData, no_headers}
use Rattle.qk_headers.specs.Scopes.{Scope, types_of, bind}
use Rattle.qk_names.specs.Names.{Declared, named_by}
use Rattle.qk_names.specs.Reserved.{Word}
use Rattle.qk_names.specs.declared.names.Item.{Item}
use Rattle.qk_names.specs.declared.names.Item.TheVariants as items
use Rattle.qk_names.specs.declared.names.Named.TheVariants as named
use Rattle.qk_syntax.specs.PlainTrees.{PlainTree, name, list, PlainTrees, end, more}
use Rattle.qk_typed.specs.TypedExpressions.{IsType, AreTypes}
use Rattle.qk_typed.specs.WellTyped.{Each, IsTypedKind}
use Rattle.qk_value.specs.Kinds.{MakerData, KindData}
use Rattle.qk_value.specs.Types.{TypeData}
use Rattle.qk_wellformed.specs.AreHeaders.{AreMakers, AreParameters, IsSignature, IsModelPart, HasModelTypes, AddsHeader, IsHeader, HeadersFrom}
use Rattle.qk_sound.proofs.Found.{each_more}
use Rattle.qk_sound.proofs.TreeTypes.{is_type, are_types, bound_types}

pub record IsTypedSignature (kinds : List KindData) (s : SignatureData) : Type 0 where
  pub params : AreTypes kinds (types_of s.params)
  pub result : IsType kinds s.result

pub record AreModelTypes (kinds : List KindData) (m : ModelTypesData) : Type 0 where
  pub command : IsType kinds m.command
  pub abstract_ty : IsType kinds m.abstract_ty
  pub system_ty : IsType kinds m.system_ty

pub record TypedHeaders (kinds : List KindData) (h : HeadersData) : Type 0 where
  pub kinds_typed : Each (IsTypedKind kinds) h.kinds
  pub functions : Each (IsTypedSignature kinds) h.functions
  pub generators : Each (IsTypedSignature kinds) h.generators
  pub models : Each (AreModelTypes kinds) h.models

more_types : (kinds : List KindData) (ts : List TypeData) (t : TypeData) → AreTypes kinds ts → IsType kinds t → AreTypes kinds (ts ++ t ∷ [])
more_types kinds [] t h k = (k, tt)
more_types kinds (u ∷ ts) t h k = (h.0, more_types kinds ts t h.1 k)

module _ (names : List Declared) (kinds : List KindData) (stand : (w : Word) (k : ℕ) → named_by names w ≡ Some (named.Kind k) → k < length kinds) where
  makers_typed : (parts : PlainTrees) (makers : List MakerData) → AreMakers names parts makers → Each (λ (m : MakerData). AreTypes kinds m.fields) makers
  makers_typed end [] h = tt
  makers_typed (more (list p (more (name q w) fields)) trees) (m ∷ ms) h = (are_types names kinds stand fields m.fields h.1, makers_typed trees ms h.2)
  makers_typed parts makers h = absurd h

  parameters_typed : (trees : PlainTrees) (before after : Scope) → AreParameters names before trees after → AreTypes kinds (types_of before) → AreTypes kinds (types_of after)
  parameters_typed end before after h k = subst (λ (s : Scope). AreTypes kinds (types_of s)) (sym h) k
  parameters_typed (more (list p (more (name q w) (more u end))) trees) before after (t, free, is, rest) k =
      parameters_typed trees (bind before w t) after rest (subst (AreTypes kinds) (sym (bound_types before w t)) (more_types kinds (types_of before) t k (is_type names kinds stand u t is)))
  parameters_typed trees before after h k = absurd h

  signature_typed : (parts : PlainTrees) (s : SignatureData) → IsSignature names parts s → IsTypedSignature kinds s
  signature_typed (more (list q params) (more u (more body end))) s h = record { params = parameters_typed params [] s.params h.1 tt; result = is_type names kinds stand u s.result h.2 }
  signature_typed parts s h = absurd h

  part_typed : (head : Word) (n : ℕ) (tree : PlainTree) (t : TypeData) → IsModelPart names head n tree t → IsType kinds t
  part_typed head n (list p (more (name q w) (more u us))) t h = is_type names kinds stand u t h.2
  part_typed head n tree t h = absurd h

  model_types_typed : (parts : PlainTrees) (m : ModelTypesData) → HasModelTypes names parts m → AreModelTypes kinds m
  model_types_typed (more c (more s (more r end))) m h = record { command = part_typed _ 1 c m.command h.0; abstract_ty = part_typed _ 3 s m.abstract_ty h.1; system_ty = part_typed _ 3 r m.system_ty h.2 }
  model_types_typed parts m h = absurd h

  added_typed : (h after : HeadersData) (w : Word) (item : Item) (parts : PlainTrees) → AddsHeader names h w item parts after → TypedHeaders kinds h → TypedHeaders kinds after
  added_typed h after w items.Kind parts (makers, are, is) k =
      subst (TypedHeaders kinds) (sym is)
      (record { kinds_typed = each_more (IsTypedKind kinds) h.kinds (record { name = w; makers = makers }) k.kinds_typed (makers_typed parts makers are); functions = k.functions; generators = k.generators; models = k.models })
  added_typed h after w items.Function parts (s, are, is) k =
      subst (TypedHeaders kinds) (sym is)
      (record { kinds_typed = k.kinds_typed; functions = each_more (IsTypedSignature kinds) h.functions s k.functions (signature_typed parts s are); generators = k.generators; models = k.models })
  added_typed h after w items.Generator parts (s, are, is) k =
      subst (TypedHeaders kinds) (sym is)
      (record { kinds_typed = k.kinds_typed; functions = k.functions; generators = each_more (IsTypedSignature kinds) h.generators s k.generators (signature_typed parts s are); models = k.models })
  added_typed h after w items.Model parts (m, are, is) k =
      subst (TypedHeaders kinds) (sym is)
      (record { kinds_typed = k.kinds_typed; functions = k.functions; generators = k.generators; models = each_more (AreModelTypes kinds) h.models m k.models (model_types_typed parts m are) })
  added_typed h after w items.Property parts (shape, is) k = subst (TypedHeaders kinds) (sym is) k

  header_typed : (h after : HeadersData) (tree : PlainTree) → IsHeader names h tree after → TypedHeaders kinds h → TypedHeaders kinds after
  header_typed h after (list p (more (name q w) (more (name r x) parts))) (item, is, adds) k = added_typed h after x item parts adds k
  header_typed h after tree a k = absurd a

  pub headers_typed : (trees : PlainTrees) (h after : HeadersData) → HeadersFrom names h trees after → TypedHeaders kinds h → TypedHeaders kinds after
  headers_typed end h after a k = subst (TypedHeaders kinds) (sym a) k
  headers_typed (more tree trees) h after (between, a, rest) k = headers_typed trees between after rest (header_typed h between tree a k)

pub none_typed : (kinds : List KindData) → TypedHeaders kinds no_headers
none_typed kinds = record { kinds_typed = tt; functions = tt; generators = tt; models = tt }
