-- The data that binders stand for while a property is checked.
use Rattle.std.specs.Prelude.{◌≡◌, ◌∷◌, ◌++◌, Bool, false, [], List, codes, bytes_eq}
use Rattle.qk_syntax.specs.PlainTrees.{PlainTree, name, list, more}
use Rattle.qk_value.specs.View.{view_type}
use Rattle.qk_core.specs.Properties.{BinderData}
use Rattle.qk_core.specs.PropertyView.{view_draw}
use Rattle.qk_clauses.specs.Binders.{TypedDraw, scope_of, commands_of}
use Rattle.qk_names.specs.Checks.{Checked, refuse, place_of}
use Rattle.qk_typing.specs.Operators.{Tables}
use Rattle.qk_headers.specs.TypesOf.{parts_after}
use Rattle.qk_clauses.specs.declared.binders.Bound.{Bound}
use Rattle.qk_clauses.specs.declared.draws.TypedDraw.{TypedDraw as CodeDraw}

abbrev pub draw_in : CodeDraw → TypedDraw
draw_in d = record { ty = view_type d.ty; draw = view_draw d.draw }

-- a list that `commands` heads
abbrev pub is_commands : PlainTree → Bool
is_commands (list p (more (name q w) parts)) = bytes_eq w (codes "commands")
is_commands t = false

-- what such a list draws, by what stands after its head
abbrev pub headed_commands : Tables → PlainTree → Checked TypedDraw
headed_commands d (list p parts) = commands_of d p (parts_after parts)
headed_commands d t = refuse 20 (place_of t)

-- the scope is that of the binders
abbrev pub Sees : Bound → Type 0
Sees b = b.scope.items ≡ scope_of b.binders.items

abbrev pub KeepsBound : Bound → Bound → Type 0
KeepsBound before after = (after.binders.items ≡ before.binders.items) × (after.scope.items ≡ before.scope.items)

-- one more binder
abbrev pub AddsBinder : List BinderData → BinderData → List BinderData → Type 0
AddsBinder before b after = after ≡ before ++ b ∷ []
