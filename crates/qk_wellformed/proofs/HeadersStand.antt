-- The headers of items are judged to say what they say.
use Rattle.std.specs.Prelude.{nat_le, nat_eq, codes, bytes_eq}
use Rattle.std.proofs.Common.{◌≡◌, ◌∙◌, ℕ, true, List, [], ◌∷◌, ◌++◌, map, refl, sym, ap, subst, Option, Some, None, Ok}
use Rattle.std.proofs.lemmas.List.{append_assoc, append-nil}
use Rattle.qk_base.specs.declared.place.Place.{Place}
use Rattle.qk_syntax.specs.PlainTrees.{PlainTree, number, name, list, PlainTrees, end, more, count}
use Rattle.qk_value.specs.Kinds.{MakerData}
use Rattle.qk_value.specs.Types.{TypeData}
use Rattle.qk_names.specs.Checks.{◌>>=◌, ◌>>◌, check, refuse}
use Rattle.qk_headers.specs.Headers.{SignatureData, ModelTypesData, HeadersData, named_maker, makers_after, named_parameter, parameters_at, parameter_list, signature_at, model_part, model_types, forall_parts, property_shape, item_header, header_at, headers_after}
use Rattle.qk_names.specs.Names.{Declared, item_of}
use Rattle.qk_names.specs.Reserved.{Word}
use Rattle.qk_headers.specs.Scopes.{Scope, bind, new_variable}
use Rattle.qk_wellformed.specs.IsType.{IsType}
use Rattle.qk_headers.specs.TypesOf.{type_at, types_after}
use Rattle.qk_names.specs.declared.names.Item.{Item}
use Rattle.qk_names.specs.declared.names.Item.TheVariants as items
use Rattle.qk_wellformed.specs.AreHeaders.{AreTypes, AreMakers, AreParameters, IsSignature, IsModelPart, HasModelTypes, IsForall, AddsHeader, IsHeader, HeadersFrom}
use Rattle.qk_wellformed.specs.IsVariable.{MayBeBound}
use Rattle.qk_wellformed.proofs.ArmsStand.{as_many, so_many}
use Rattle.qk_wellformed.proofs.Inversion.{ok_is, bound, followed, held, test_held, holds, after, next_after, passing}
use Rattle.qk_wellformed.proofs.PartsStand.{at_most, most_given}
use Rattle.qk_wellformed.proofs.SameTypes.{both, both_hold}
use Rattle.qk_wellformed.proofs.TypesStand.{type_stands, type_given}
use Rattle.qk_wellformed.proofs.VariablesStand.{new_stands, new_given}

module _ (names : List Declared) where
  types_stand : (us : PlainTrees) (before r : List TypeData) → types_after names before us ≡ Ok r → (new : List TypeData) × (r ≡ before ++ new) × AreTypes names us new
  types_stand end before r h = ([], ok_is _ _ _ h refl ∙ sym (append-nil before), tt)
  types_stand (more u us) before r h =
      bound (type_at names u) (λ t. types_after names (before ++ t ∷ []) us) r _
      (λ t e k. let rest : (new : List TypeData) × (r ≡ before ++ t ∷ [] ++ new) × AreTypes names us new = types_stand us (before ++ t ∷ []) r k in
      (t ∷ rest.0, rest.1 ∙ append_assoc before (t ∷ []) rest.0, (type_stands names u t e, rest.2))) h

  types_given : (us : PlainTrees) (before new : List TypeData) → AreTypes names us new → types_after names before us ≡ Ok (before ++ new)
  types_given end before [] h = ap Ok (sym (append-nil before))
  types_given end before (t ∷ ts) h = absurd h
  types_given (more u us) before [] h = absurd h
  types_given (more u us) before (t ∷ ts) (h, hs) =
      after (type_at names u) (λ t. types_after names (before ++ t ∷ []) us) t _ (type_given names u t h) (types_given us (before ++ t ∷ []) ts hs ∙ ap Ok (append_assoc before (t ∷ []) ts))

  makers_stand : (us : PlainTrees) (before r : List MakerData) → makers_after names before us ≡ Ok r → (new : List MakerData) × (r ≡ before ++ new) × AreMakers names us new
  makers_stand end before r h = ([], ok_is _ _ _ h refl ∙ sym (append-nil before), tt)
  makers_stand (more (number p n) us) before r h = absurd (cc)
  makers_stand (more (name p w) us) before r h = absurd (cc)
  makers_stand (more (list p end) us) before r h = absurd (cc)
  makers_stand (more (list p (more (number q n) vs)) us) before r h = absurd (cc)
  makers_stand (more (list p (more (list q ws) vs)) us) before r h = absurd (cc)
  makers_stand (more (list p (more (name q w) fields)) us) before r h =
      bound (named_maker names w fields) (λ m. makers_after names (before ++ m ∷ []) us) r _
      (λ m e k. bound (types_after names [] fields) (λ types. Ok (record { name = w; fields = types })) m _
      (λ ts f l. let rest : (new : List MakerData) × (r ≡ before ++ m ∷ [] ++ new) × AreMakers names us new = makers_stand us (before ++ m ∷ []) r k in
      let types : (new : List TypeData) × (ts ≡ new) × AreTypes names fields new = types_stand fields [] ts f in
      let same : m ≡ record { name = w; fields = ts } = ok_is _ _ _ l refl in
      (m ∷ rest.0, rest.1 ∙ append_assoc before (m ∷ []) rest.0, (ap (λ y. y.name) same, subst (λ y. AreTypes names fields y) (sym types.1 ∙ ap (λ y. y.fields) (sym same)) types.2, rest.2))) e) h

  makers_given : (us : PlainTrees) (before new : List MakerData) → AreMakers names us new → makers_after names before us ≡ Ok (before ++ new)
  makers_given end before [] h = ap Ok (sym (append-nil before))
  makers_given end before (m ∷ ms) h = absurd h
  makers_given (more (list p (more (name q w) fields)) us) before (m ∷ ms) (is, types, hs) =
      after (named_maker names w fields) (λ m. makers_after names (before ++ m ∷ []) us) m _
      (after (types_after names [] fields) (λ types. Ok (record { name = w; fields = types })) m.fields _ (types_given fields [] m.fields types) (λ i. Ok (record { name = sym is i; fields = m.fields })))
      (makers_given us (before ++ m ∷ []) ms hs ∙ ap Ok (append_assoc before (m ∷ []) ms))
  makers_given us before ms h = absurd h

  parameters_stand : (us : PlainTrees) (before r : Scope) → parameters_at names before us ≡ Ok r → AreParameters names before us r
  parameters_stand end before r h = ok_is _ _ _ h refl
  parameters_stand (more (list p (more (name q w) (more u end))) us) before r h =
      bound (named_parameter names before q w u) (λ next. parameters_at names next us) r _
      (λ next e k. bound (new_variable (map (λ v. v.name) before) q w) (λ x. type_at names u >>= λ t. Ok (bind before x t)) next _
      (λ x f l. bound (type_at names u) (λ t. Ok (bind before x t)) next _
      (λ t g m. let free : (w ≡ x) × MayBeBound (map (λ v. v.name) before) w = new_stands _ q w x f in
      (t, free.1, type_stands names u t g, subst (λ y. AreParameters names y us r) (ok_is _ _ _ m refl ∙ ap (λ y. bind before y t) (sym free.0)) (parameters_stand us next r k))) l) e) h
  parameters_stand (more u us) before r h = absurd (cc)

  parameters_given : (us : PlainTrees) (before r : Scope) → AreParameters names before us r → parameters_at names before us ≡ Ok r
  parameters_given end before r h = ap Ok (sym h)
  parameters_given (more (list p (more (name q w) (more u end))) us) before r (t, free, it, h) =
      after (named_parameter names before q w u) (λ next. parameters_at names next us) (bind before w t) _
      (after (new_variable (map (λ v. v.name) before) q w) (λ x. type_at names u >>= λ t. Ok (bind before x t)) w _ (new_given _ q w w refl free)
      (after (type_at names u) (λ t. Ok (bind before w t)) t _ (type_given names u t it) refl))
      (parameters_given us (bind before w t) r h)
  parameters_given (more u us) before r h = absurd h

  signature_stands : (p : Place) (parts : PlainTrees) (r : SignatureData) → signature_at names p parts ≡ Ok r → IsSignature names parts r
  signature_stands p (more (list q ts) (more u (more b end))) r h =
      bound (parameter_list names p (list q ts)) (λ params. type_at names u >>= λ t. Ok (record { params = params; result = t })) r _
      (λ params e k. held (nat_le (count ts) 16) 23 p (parameters_at names [] ts) params _
      (λ le f. bound (type_at names u) (λ t. Ok (record { params = params; result = t })) r _
      (λ t g l. let same : record { params = params; result = t } ≡ r = ok_is _ _ _ refl l in
      (at_most _ _ le, subst (λ y. AreParameters names [] ts y) (ap (λ y. y.params) same) (parameters_stand ts [] params f), subst (λ y. IsType names u y) (ap (λ y. y.result) same) (type_stands names u t g))) k) e) h
  signature_stands p end r h = absurd (cc)
  signature_stands p (more a end) r h = absurd (cc)
  signature_stands p (more a (more u end)) r h = absurd (cc)
  signature_stands p (more (number q n) (more u (more b end))) r h = absurd (cc)
  signature_stands p (more (name q w) (more u (more b end))) r h = absurd (cc)
  signature_stands p (more a (more u (more b (more c us)))) r h = absurd (cc)

  signature_given : (p : Place) (parts : PlainTrees) (r : SignatureData) → IsSignature names parts r → signature_at names p parts ≡ Ok r
  signature_given p (more (list q ts) (more u (more b end))) r (le, h, it) =
      after (parameter_list names p (list q ts)) (λ params. type_at names u >>= λ t. Ok (record { params = params; result = t })) r.params _
      (passing (nat_le (count ts) 16) 23 p (parameters_at names [] ts) _ (most_given _ _ le) (parameters_given ts [] r.params h))
      (after (type_at names u) (λ t. Ok (record { params = r.params; result = t })) r.result _ (type_given names u r.result it) refl)
  signature_given p parts r h = absurd h

  part_stands : (head : Word) (n : ℕ) (tree : PlainTree) (t : TypeData) → model_part names head n tree ≡ Ok t → IsModelPart names head n tree t
  part_stands head n (number p m) t h = absurd (cc)
  part_stands head n (name p w) t h = absurd (cc)
  part_stands head n (list p end) t h = absurd (cc)
  part_stands head n (list p (more (number q m) us)) t h = absurd (cc)
  part_stands head n (list p (more (list q vs) us)) t h = absurd (cc)
  part_stands head n (list p (more (name q w) end)) t h = held (bytes_eq w head) 20 p (refuse 23 p) t _ (λ is k. absurd (cc)) h
  part_stands head n (list p (more (name q w) (more u us))) t h =
      held (bytes_eq w head) 20 p (check (nat_eq (count us) n) 23 p >> type_at names u) t _ (λ is k. held (nat_eq (count us) n) 23 p (type_at names u) t _ (λ m l. (is, as_many _ _ m, type_stands names u t l)) k) h

  part_given : (head : Word) (n : ℕ) (tree : PlainTree) (t : TypeData) → IsModelPart names head n tree t → model_part names head n tree ≡ Ok t
  part_given head n (number p m) t h = absurd h
  part_given head n (name p w) t h = absurd h
  part_given head n (list p end) t h = absurd h
  part_given head n (list p (more (number q m) us)) t h = absurd h
  part_given head n (list p (more (list q vs) us)) t h = absurd h
  part_given head n (list p (more (name q w) end)) t h = absurd h
  part_given head n (list p (more (name q w) (more u us))) t (is, m, it) =
      passing (bytes_eq w head) 20 p (check (nat_eq (count us) n) 23 p >> type_at names u) _ is (passing (nat_eq (count us) n) 23 p (type_at names u) _ (so_many _ _ m) (type_given names u t it))

  model_stands : (p : Place) (parts : PlainTrees) (m : ModelTypesData) → model_types names p parts ≡ Ok m → HasModelTypes names parts m
  model_stands p end m h = absurd (cc)
  model_stands p (more c end) m h = absurd (cc)
  model_stands p (more c (more s end)) m h = absurd (cc)
  model_stands p (more c (more s (more r (more x us)))) m h = absurd (cc)
  model_stands p (more c (more s (more r end))) m h =
      bound (model_part names (codes "command") 1 c) (λ c. model_part names (codes "abstract") 3 s >>= λ s. model_part names (codes "system") 3 r >>= λ r. Ok (record { command = c; abstract_ty = s; system_ty = r })) m _
      (λ a e k. bound (model_part names (codes "abstract") 3 s) (λ s. model_part names (codes "system") 3 r >>= λ r. Ok (record { command = a; abstract_ty = s; system_ty = r })) m _
      (λ b f l. bound (model_part names (codes "system") 3 r) (λ r. Ok (record { command = a; abstract_ty = b; system_ty = r })) m _
      (λ d g n. let same : record { command = a; abstract_ty = b; system_ty = d } ≡ m = ok_is _ _ _ refl n in
      subst (λ y. HasModelTypes names (more c (more s (more r end))) y) same (part_stands (codes "command") 1 c a e, part_stands (codes "abstract") 3 s b f, part_stands (codes "system") 3 r d g)) l) k) h

  model_given : (p : Place) (parts : PlainTrees) (m : ModelTypesData) → HasModelTypes names parts m → model_types names p parts ≡ Ok m
  model_given p end m h = absurd h
  model_given p (more c end) m h = absurd h
  model_given p (more c (more s end)) m h = absurd h
  model_given p (more c (more s (more r (more x us)))) m h = absurd h
  model_given p (more c (more s (more r end))) m (ic, is, ir) =
      after (model_part names (codes "command") 1 c) (λ c. model_part names (codes "abstract") 3 s >>= λ s. model_part names (codes "system") 3 r >>= λ r. Ok (record { command = c; abstract_ty = s; system_ty = r })) m.command _ (part_given (codes "command") 1 c m.command ic)
      (after (model_part names (codes "abstract") 3 s) (λ s. model_part names (codes "system") 3 r >>= λ r. Ok (record { command = m.command; abstract_ty = s; system_ty = r })) m.abstract_ty _ (part_given (codes "abstract") 3 s m.abstract_ty is)
      (after (model_part names (codes "system") 3 r) (λ r. Ok (record { command = m.command; abstract_ty = m.abstract_ty; system_ty = r })) m.system_ty _ (part_given (codes "system") 3 r m.system_ty ir) refl))

forall_stands : (p : Place) (parts : PlainTrees) (u : Unit {0}) → property_shape p parts ≡ Ok u → IsForall parts
forall_stands p end u h = absurd (cc)
forall_stands p (more t (more v us)) u h = absurd (cc)
forall_stands p (more (number q n) end) u h = absurd (cc)
forall_stands p (more (name q w) end) u h = absurd (cc)
forall_stands p (more (list q end) end) u h = absurd (cc)
forall_stands p (more (list q (more (number r n) us)) end) u h = absurd (cc)
forall_stands p (more (list q (more (list r vs) us)) end) u h = absurd (cc)
forall_stands p (more (list q (more (name r w) end)) end) u h = held (bytes_eq w (codes "forall")) 20 q (forall_parts q end) u _ (λ is k. absurd (cc)) h
forall_stands p (more (list q (more (name r w) (more (number s n) cl))) end) u h = held (bytes_eq w (codes "forall")) 20 q (forall_parts q (more (number s n) cl)) u _ (λ is k. absurd (cc)) h
forall_stands p (more (list q (more (name r w) (more (name s x) cl))) end) u h = held (bytes_eq w (codes "forall")) 20 q (forall_parts q (more (name s x) cl)) u _ (λ is k. absurd (cc)) h
forall_stands p (more (list q (more (name r w) (more (list s bs) cl))) end) u h =
    held (bytes_eq w (codes "forall")) 20 q (forall_parts q (more (list s bs) cl)) u _
    (λ is k. let many : (nat_le 1 (count bs) ≡ true) × (nat_le (count bs) 16 ≡ true) = both _ _ (test_held _ 23 q u k) in (is, at_most _ _ many.0, at_most _ _ many.1)) h

forall_given : (p : Place) (parts : PlainTrees) → IsForall parts → property_shape p parts ≡ Ok tt
forall_given p (more (list q (more (name r w) (more (list s bs) cl))) end) (is, some, few) =
    passing (bytes_eq w (codes "forall")) 20 q (forall_parts q (more (list s bs) cl)) _ is (holds _ 23 q (both_hold _ _ (most_given _ _ some) (most_given _ _ few)))
forall_given p parts h = absurd h

module _ (names : List Declared) (h : HeadersData) (p : Place) (w : Word) (parts : PlainTrees) (r : HeadersData) where
  adds_stands : (item : Item) → item_header names h p w (Some item) parts ≡ Ok r → AddsHeader names h w item parts r
  adds_stands items.Kind k =
      bound (makers_after names [] parts) (λ makers. Ok (record h { kinds = h.kinds ++ record { name = w; makers = makers } ∷ [] })) r _
      (λ ms e l. let made : (new : List MakerData) × (ms ≡ new) × AreMakers names parts new = makers_stand names parts [] ms e in (ms, subst (λ y. AreMakers names parts y) (sym made.1) made.2, ok_is r _ _ l refl)) k
  adds_stands items.Function k = bound (signature_at names p parts) (λ s. Ok (record h { functions = h.functions ++ s ∷ [] })) r _ (λ s e l. (s, signature_stands names p parts s e, ok_is r _ _ l refl)) k
  adds_stands items.Generator k = bound (signature_at names p parts) (λ s. Ok (record h { generators = h.generators ++ s ∷ [] })) r _ (λ s e l. (s, signature_stands names p parts s e, ok_is r _ _ l refl)) k
  adds_stands items.Model k = bound (model_types names p parts) (λ m. Ok (record h { models = h.models ++ m ∷ [] })) r _ (λ m e l. (m, model_stands names p parts m e, ok_is r _ _ l refl)) k
  adds_stands items.Property k = followed (property_shape p parts) (Ok h) r _ (λ u e l. (forall_stands p parts u e, ok_is r _ _ l refl)) k

  adds_given : (item : Item) → AddsHeader names h w item parts r → item_header names h p w (Some item) parts ≡ Ok r
  adds_given items.Kind (ms, are, is) = after (makers_after names [] parts) (λ makers. Ok (record h { kinds = h.kinds ++ record { name = w; makers = makers } ∷ [] })) ms _ (makers_given names parts [] ms are) (ap Ok (sym is))
  adds_given items.Function (s, k, is) = after (signature_at names p parts) (λ s. Ok (record h { functions = h.functions ++ s ∷ [] })) s _ (signature_given names p parts s k) (ap Ok (sym is))
  adds_given items.Generator (s, k, is) = after (signature_at names p parts) (λ s. Ok (record h { generators = h.generators ++ s ∷ [] })) s _ (signature_given names p parts s k) (ap Ok (sym is))
  adds_given items.Model (m, k, is) = after (model_types names p parts) (λ m. Ok (record h { models = h.models ++ m ∷ [] })) m _ (model_given names p parts m k) (ap Ok (sym is))
  adds_given items.Property (k, is) = next_after (property_shape p parts) (Ok h) tt _ (forall_given p parts k) (ap Ok (sym is))

  header_by : (o : Option Item) → item_header names h p w o parts ≡ Ok r → (item : Item) × (o ≡ Some item) × AddsHeader names h w item parts r
  header_by None k = absurd (cc)
  header_by (Some item) k = (item, refl, adds_stands item k)

module _ (names : List Declared) where
  header_stands : (h : HeadersData) (tree : PlainTree) (r : HeadersData) → header_at names h tree ≡ Ok r → IsHeader names h tree r
  header_stands h (list p (more (name q w) (more (name s x) parts))) r k = header_by names h p x parts r (item_of w) k
  header_stands h tree r k = absurd (cc)

  header_given : (h : HeadersData) (tree : PlainTree) (r : HeadersData) → IsHeader names h tree r → header_at names h tree ≡ Ok r
  header_given h (list p (more (name q w) (more (name s x) parts))) r (item, is, k) = ap (λ o. item_header names h p x o parts) is ∙ adds_given names h p x parts r item k
  header_given h tree r k = absurd k

  pub headers_stand : (trees : PlainTrees) (h r : HeadersData) → headers_after names h trees ≡ Ok r → HeadersFrom names h trees r
  headers_stand end h r k = ok_is _ _ _ k refl
  headers_stand (more item trees) h r k = bound (header_at names h item) (λ h. headers_after names h trees) r _ (λ mid e l. (mid, header_stands h item mid e, headers_stand trees mid r l)) k

  pub headers_given : (trees : PlainTrees) (h r : HeadersData) → HeadersFrom names h trees r → headers_after names h trees ≡ Ok r
  headers_given end h r k = ap Ok (sym k)
  headers_given (more item trees) h r (mid, k, ks) = after (header_at names h item) (λ h. headers_after names h trees) mid _ (header_given h item mid k) (headers_given trees mid r ks)
