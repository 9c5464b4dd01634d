-- Which clauses a property has: givens, then one check, then marks.
use Rattle.std.specs.Prelude.{◌≡◌, ◌≤◌, ℕ, zero, suc, pos, true, false, List, [], ◌∷◌, bytes_eq, Option, Some}
use Rattle.qk_core.specs.ExprData.{ExprData}
use Rattle.qk_core.specs.Properties.{BinderData, commands, CheckData, expression as holds, runs, MarkData, label, collect, classify, tabulate, cover}
use Rattle.qk_syntax.specs.PlainTrees.{PlainTree, number, name, list, PlainTrees, end, more}
use Rattle.qk_value.specs.Types.{TypeData, bool_type}
use Rattle.qk_clauses.specs.Binders.{scope_of}
use Rattle.qk_clauses.specs.Clauses.{Head, given, checks, checks_runs, labels, collects, classifies, tabulates, covers, head_of}
use Rattle.qk_typing.specs.Operators.{Tables}
use Rattle.qk_names.specs.Reserved.{Word}
use Rattle.qk_wellformed.specs.IsExpression.{IsExpression}

-- an expression over the binders that is true or false
abbrev pub IsTruth : Tables → List BinderData → PlainTree → ExprData → Type 0
IsTruth d bs tree e = IsExpression d (scope_of bs) tree bool_type e

-- .. and of some type
abbrev pub HasSomeType : Tables → List BinderData → PlainTree → ExprData → Type 0
HasSomeType d bs tree e = (t : TypeData) × IsExpression d (scope_of bs) tree t e

-- the first binder of that name stands at that index, and draws commands
abbrev pub DrawsCommands : List BinderData → Word → ℕ → Type 0
DrawsCommands [] w i = ⊥
DrawsCommands (b ∷ bs) w zero = (bytes_eq b.name w ≡ true) × ((m : ℕ) × (b.draw ≡ commands m))
DrawsCommands (b ∷ bs) w (suc i) = (bytes_eq b.name w ≡ false) × DrawsCommands bs w i

abbrev pub GivenBy : Tables → List BinderData → Option Head → PlainTrees → ExprData → Type 0
GivenBy d bs (Some given) (more a end) e = IsTruth d bs a e
GivenBy d bs head parts e = ⊥

abbrev pub CheckBy : Tables → List BinderData → Option Head → PlainTrees → CheckData → Type 0
CheckBy d bs (Some checks) (more a end) c = (e : ExprData) × IsTruth d bs a e × (c ≡ holds e)
CheckBy d bs (Some checks_runs) (more (name p w) end) c = (i : ℕ) × DrawsCommands bs w i × (c ≡ runs i)
CheckBy d bs head parts c = ⊥

abbrev pub MarkBy : Tables → List BinderData → Option Head → PlainTrees → MarkData → Type 0
MarkBy d bs (Some labels) (more (name p w) end) m = m ≡ label w
MarkBy d bs (Some collects) (more a end) m = (e : ExprData) × HasSomeType d bs a e × (m ≡ collect e)
MarkBy d bs (Some classifies) (more a (more (name p w) end)) m = (e : ExprData) × IsTruth d bs a e × (m ≡ classify e w)
MarkBy d bs (Some tabulates) (more (name p w) (more a end)) m = (e : ExprData) × HasSomeType d bs a e × (m ≡ tabulate w e)
MarkBy d bs (Some covers) (more (number p n) (more a (more (name q w) end))) m =
    (percent : ℕ) × (e : ExprData) × (n ≡ pos percent) × (percent ≤ 100) × IsTruth d bs a e × (m ≡ cover percent e w)
MarkBy d bs head parts m = ⊥

abbrev pub IsGiven : Tables → List BinderData → PlainTree → ExprData → Type 0
IsGiven d bs (list p (more (name q w) parts)) e = GivenBy d bs (head_of w) parts e
IsGiven d bs tree e = ⊥

abbrev pub IsCheck : Tables → List BinderData → PlainTree → CheckData → Type 0
IsCheck d bs (list p (more (name q w) parts)) c = CheckBy d bs (head_of w) parts c
IsCheck d bs tree c = ⊥

abbrev pub IsMark : Tables → List BinderData → PlainTree → MarkData → Type 0
IsMark d bs (list p (more (name q w) parts)) m = MarkBy d bs (head_of w) parts m
IsMark d bs tree m = ⊥

abbrev pub AreMarks : Tables → List BinderData → PlainTrees → List MarkData → Type 0
AreMarks d bs end [] = Unit {0}
AreMarks d bs (more u us) (m ∷ ms) = IsMark d bs u m × AreMarks d bs us ms
AreMarks d bs us ms = ⊥

abbrev pub AreClauses : Tables → List BinderData → PlainTrees → List ExprData → CheckData → List MarkData → Type 0
AreClauses d bs end givens c ms = ⊥
AreClauses d bs (more u us) [] c ms = IsCheck d bs u c × AreMarks d bs us ms
AreClauses d bs (more u us) (e ∷ givens) c ms = IsGiven d bs u e × AreClauses d bs us givens c ms
