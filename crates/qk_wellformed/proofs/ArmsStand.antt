-- One case of a match beside those before it.
use Rattle.std.specs.Prelude.{find, bytes_eq, unwrap_or}
use Rattle.std.specs.Option.{option_or}
use Rattle.std.proofs.Common.{◌≡◌, ◌∙◌, ℕ, Bool, true, false, not, cond, nat_eq, List, [], ◌∷◌, ◌++◌, length, refl, sym, ap, subst, arith, Option, Some, None, Ok}
use Rattle.std.proofs.lemmas.Bool.Decides.{nat_tests}
use Rattle.std.proofs.lemmas.List.{append_assoc, append-nil}
use Rattle.std.proofs.lemmas.Slice.Eq.{bytes_eq-Decides}
use Rattle.qk_base.specs.declared.place.Place.{Place}
use Rattle.qk_core.specs.ExprData.{ExprData}
use Rattle.qk_core.specs.declared.expr.Pattern.{Pattern}
use Rattle.qk_syntax.specs.PlainTrees.{PlainTree, name, list, PlainTrees, end, more, count}
use Rattle.qk_typing.specs.Operators.{Tables, Typed}
use Rattle.qk_expressions.specs.Patterns.{Shape, Cases, agrees, with_case, is_among}
use Rattle.qk_names.specs.Reserved.{Word}
use Rattle.qk_headers.specs.Scopes.{Scope, bind_all}
use Rattle.qk_value.specs.Types.{TypeData, int_type}
use Rattle.qk_wellformed.specs.IsExpression.{IsExpression, AreArms, Arm, heads_of, cases_in, AreNew, AreAll}
use Rattle.qk_wellformed.specs.IsVariable.{AreVariables}
use Rattle.qk_wellformed.proofs.SameTypes.{has, given}

pub as_many : (m n : ℕ) → nat_eq m n ≡ true → m ≡ n
as_many m n h = grind (arith, nat_tests)

pub so_many : (m n : ℕ) → m ≡ n → nat_eq m n ≡ true
so_many m n h = grind (arith, nat_tests)

pub not_true : (b : Bool) → not b ≡ true → b ≡ false
not_true true h = absurd (cc)
not_true false h = refl

found_by : {A : Type 0} (b : Bool) (test : A → Bool) (y x : A) (o : Option A) → test y ≡ b → (o ≡ Some x → test x ≡ true) → cond b (Some y) o ≡ Some x → test x ≡ true
found_by true test y x o is k h = let same : y ≡ x = cc in ap test (sym same) ∙ is
found_by false test y x o is k h = k h

found_passes : {A : Type 0} (test : A → Bool) (xs : List A) (x : A) → find test xs ≡ Some x → test x ≡ true
found_passes test [] x h = absurd (cc)
found_passes test (y ∷ ys) x h = found_by (test y) test y x (find test ys) refl (found_passes test ys x) h

-- the head that is found under a word is that word
pub head_is : (w : Word) (shapes : List Shape) (shape : Shape) → find (λ s. bytes_eq w s.head) shapes ≡ Some shape → w ≡ shape.head
head_is w shapes shape h = (bytes_eq-Decides w shape.head).0 (found_passes (λ s. bytes_eq w s.head) shapes shape h)

agree_by : (o : Option TypeData) (heads : List Word) (cases : List (Pattern × ExprData)) (body : Typed) (t : TypeData) (u : Unit {0})
    → agrees (record { ty = o; heads = heads; cases = cases }) body ≡ Ok u → ((x : TypeData) → option_or o (Some body.ty) ≡ Some x → x ≡ t) → (body.ty ≡ t) × ((x : TypeData) → o ≡ Some x → x ≡ t)
agree_by None heads cases body t u h k = (k body.ty refl, λ x e. absurd (cc))
agree_by (Some y) heads cases body t u h k = let same : y ≡ body.ty = has y body u h in (sym same ∙ k y refl, λ x e. k x e)

pub agree_stands : (before : Cases) (body : Typed) (t : TypeData) (u : Unit {0}) → agrees before body ≡ Ok u → ((x : TypeData) → option_or before.ty (Some body.ty) ≡ Some x → x ≡ t)
    → (body.ty ≡ t) × ((x : TypeData) → before.ty ≡ Some x → x ≡ t)
agree_stands before body t u h k = agree_by before.ty before.heads before.cases body t u h k

agree_from : (o : Option TypeData) (heads : List Word) (cases : List (Pattern × ExprData)) (body : Typed) → ((x : TypeData) → o ≡ Some x → x ≡ body.ty) → agrees (record { ty = o; heads = heads; cases = cases }) body ≡ Ok tt
agree_from None heads cases body k = refl
agree_from (Some y) heads cases body k = given y body (k y refl)

pub agree_given : (before : Cases) (body : Typed) → ((x : TypeData) → before.ty ≡ Some x → x ≡ body.ty) → agrees before body ≡ Ok tt
agree_given before body k = agree_from before.ty before.heads before.cases body k

pub still : (o : Option TypeData) (t : TypeData) → ((x : TypeData) → o ≡ Some x → x ≡ t) → (x : TypeData) → option_or o (Some t) ≡ Some x → x ≡ t
still None t k x h = cc
still (Some y) t k x h = k x h

-- the type of the bodies, once these cases have come
abbrev pub type_after : Option TypeData → TypeData → List Arm → Option TypeData
type_after o t [] = o
type_after o t (arm ∷ arms) = type_after (option_or o (Some t)) t arms

type_stays : (t : TypeData) (arms : List Arm) → type_after (Some t) t arms ≡ Some t
type_stays t [] = refl
type_stays t (arm ∷ arms) = type_stays t arms

pub type_is : (shapes : List Shape) (t : TypeData) (arms : List Arm) → AreAll shapes arms → unwrap_or (type_after None t arms) int_type ≡ t
type_is shapes t (arm ∷ arms) h = ap (λ o. unwrap_or o int_type) (type_stays t arms)
type_is [] t [] h = let none : false ≡ true = h.some in absurd (cc)
type_is (shape ∷ shapes) t [] h = let none : false ≡ true = h.each in absurd (cc)

-- what cases after these come to
pub record ArmsAfter (d : Tables) (s : Scope) (shapes : List Shape) (before : Cases) (cases : PlainTrees) (r : Cases) (t : TypeData) : Type 0 where
  pub arms : List Arm
  pub are : AreArms d s shapes t cases arms
  pub new : AreNew before.heads (heads_of arms)
  pub heads : r.heads ≡ before.heads ++ heads_of arms
  pub made : r.cases ≡ before.cases ++ cases_in arms
  pub agree : (x : TypeData) → before.ty ≡ Some x → x ≡ t

module _ (d : Tables) (s : Scope) (shapes : List Shape) (before : Cases) where
  pub no_arm : (r : Cases) (t : TypeData) → before ≡ r → ((x : TypeData) → r.ty ≡ Some x → x ≡ t) → ArmsAfter d s shapes before end r t
  no_arm r t same k =
      record {
        arms = [];
        are = tt;
        new = tt;
        heads = ap (λ c. c.heads) (sym same) ∙ sym (append-nil before.heads);
        made = ap (λ c. c.cases) (sym same) ∙ sym (append-nil before.cases);
        agree = λ x e. k x (ap (λ c. c.ty) (sym same) ∙ e);
      }

  pub arm_more : (p q v : Place) (w : Word) (xs : PlainTrees) (b : PlainTree) (cases : PlainTrees) (r : Cases) (t : TypeData) (shape : Shape) (ws : List Word) (body : Typed) (u : Unit {0})
      → find (λ s. bytes_eq w s.head) shapes ≡ Some shape → nat_eq (count xs) (length shape.fields) ≡ true → not (is_among before.heads w) ≡ true → AreVariables [] xs ws
      → IsExpression d (bind_all s ws shape.fields) b body.ty body.expr → agrees before body ≡ Ok u → ArmsAfter d s shapes (with_case before shape body) cases r t
      → ArmsAfter d s shapes before (more (list p (more (list q (more (name v w) xs)) (more b end))) cases) r t
  arm_more p q v w xs b cases r t shape ws body u found n fresh vars is ag rest =
      let agreed : (body.ty ≡ t) × ((x : TypeData) → before.ty ≡ Some x → x ≡ t) = agree_stands before body t u ag rest.agree in
      record {
        arms = record { shape = shape; body = body.expr } ∷ rest.arms;
        are = (found, as_many _ _ n, (ws, vars, subst (λ y. IsExpression d (bind_all s ws shape.fields) b y body.expr) agreed.0 is), rest.are);
        new = (ap (is_among before.heads) (sym (head_is w shapes shape found)) ∙ not_true _ fresh, rest.new);
        heads = rest.heads ∙ append_assoc before.heads (shape.head ∷ []) (heads_of rest.arms);
        made = rest.made ∙ append_assoc before.cases ((shape.pattern, body.expr) ∷ []) (cases_in rest.arms);
        agree = agreed.1;
      }
