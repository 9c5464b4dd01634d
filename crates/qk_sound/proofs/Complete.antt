-- A match with all patterns of a type is complete.
use Rattle.std.specs.Prelude.{find, bytes_eq}
use Rattle.std.specs.List.{list_any}
use Rattle.std.proofs.Common.{◌≡◌, ◌∙◌, Bool, true, false, ◌||◌, List, [], ◌∷◌, inl, inr, Some, refl, sym, ap, subst}
use Rattle.std.proofs.lemmas.Slice.Eq.{bytes_eq-Decides}
use Rattle.qk_core.specs.ExprData.{cases_of}
use Rattle.qk_core.specs.declared.expr.Pattern.{Pattern}
use Rattle.qk_expressions.specs.Patterns.{Shape, shapes_of, is_among}
use Rattle.qk_headers.specs.Scopes.{Scope}
use Rattle.qk_names.specs.Reserved.{Word}
use Rattle.qk_syntax.specs.PlainTrees.{name, list, PlainTrees, end, more}
use Rattle.qk_typed.specs.PatternTypes.{HasCase, IsComplete}
use Rattle.qk_typed.specs.WellTyped.{Each}
use Rattle.qk_typing.specs.Operators.{Tables}
use Rattle.qk_value.specs.Types.{TypeData}
use Rattle.qk_wellformed.proofs.ArmsStand.{head_is}
use Rattle.qk_wellformed.specs.IsExpression.{AreArms, AreAll, Arm, heads_of, cases_in}
use Rattle.qk_sound.proofs.Found.{find_holds, all_pass, same_some}
use Rattle.qk_sound.proofs.Shapes.{Found, pattern_found, is_matched}
use Rattle.qk_sound.proofs.Stands.{HasNewMakers}

-- the shape of an arm is the first under some word
abbrev IsFirst : List Shape → Arm → Type 0
IsFirst shapes arm = (w : Word) × (find (λ x. bytes_eq w x.head) shapes ≡ Some arm.shape)

arms_first : (d : Tables) (s : Scope) (shapes : List Shape) (t : TypeData) (cases : PlainTrees) (arms : List Arm) → AreArms d s shapes t cases arms → Each (IsFirst shapes) arms
arms_first d s shapes t end [] h = tt
arms_first d s shapes t (more (list p (more (list q (more (name r w) xs)) (more b end))) cases) (arm ∷ arms) h = ((w, h.0), arms_first d s shapes t cases arms h.3)
arms_first d s shapes t cases arms h = absurd h

-- .. so it is the one under its own head
same_shape : (shapes : List Shape) (arm : Arm) (shape : Shape) → IsFirst shapes arm → find (λ x. bytes_eq shape.head x.head) shapes ≡ Some shape → bytes_eq shape.head arm.shape.head ≡ true → arm.shape ≡ shape
same_shape shapes arm shape h first same =
    let word : h.0 ≡ shape.head = head_is h.0 shapes arm.shape h.1 ∙ sym ((bytes_eq-Decides shape.head arm.shape.head).0 same) in
    same_some arm.shape shape (sym h.1 ∙ ap (λ (w : Word). find (λ x. bytes_eq w x.head) shapes) word ∙ first)

case_by : (shapes : List Shape) (shape : Shape) (arm : Arm) (arms : List Arm) (b : Bool) → bytes_eq shape.head arm.shape.head ≡ b → IsFirst shapes arm → find (λ x. bytes_eq shape.head x.head) shapes ≡ Some shape
    → (list_any (bytes_eq shape.head) (heads_of arms) ≡ true → HasCase shape.pattern (cases_of (cases_in arms))) → (b || list_any (bytes_eq shape.head) (heads_of arms)) ≡ true → HasCase shape.pattern (cases_of (cases_in (arm ∷ arms)))
case_by shapes shape arm arms true same h first rest some = inl (ap (λ (x : Shape). x.pattern) (same_shape shapes arm shape h first same))
case_by shapes shape arm arms false other h first rest some = inr (rest some)

has_case : (shapes : List Shape) (shape : Shape) (arms : List Arm) → Each (IsFirst shapes) arms → find (λ x. bytes_eq shape.head x.head) shapes ≡ Some shape → list_any (bytes_eq shape.head) (heads_of arms) ≡ true
    → HasCase shape.pattern (cases_of (cases_in arms))
has_case shapes shape [] h first some = cc
has_case shapes shape (arm ∷ arms) h first some =
    case_by shapes shape arm arms (bytes_eq shape.head arm.shape.head) refl h.0 first (λ k. has_case shapes shape arms h.1 first k) some

pub complete : (d : Tables) (s : Scope) (u t : TypeData) (cases : PlainTrees) (arms : List Arm) → Each HasNewMakers d.headers.kinds → AreArms d s (shapes_of d.headers u) t cases arms → AreAll (shapes_of d.headers u) arms
    → IsComplete d.headers.kinds u (cases_of (cases_in arms))
complete d s u t cases arms new are all = (
  is_matched d.headers u all.some,
  λ p ts b. let found : Found d.headers u p = pattern_found d.headers new p u ts b in
      let some : is_among (heads_of arms) found.shape.head ≡ true =
      find_holds (λ (x : Shape). is_among (heads_of arms) x.head ≡ true) (λ x. bytes_eq found.shape.head x.head) (shapes_of d.headers u) found.shape
      (all_pass (λ (x : Shape). is_among (heads_of arms) x.head) (shapes_of d.headers u) all.each) found.first in
      subst (λ (q : Pattern). HasCase q (cases_of (cases_in arms))) found.is (has_case (shapes_of d.headers u) found.shape arms (arms_first d s (shapes_of d.headers u) t cases arms are) found.first some),
)
