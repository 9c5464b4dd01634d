-- The variables that an expression sees, with their types, the outermost first.
use Rattle.std.specs.Prelude.{ℕ, ◌+◌, Bool, not, ◌||◌, List, [], ◌∷◌, ◌++◌, map, codes, bytes_eq, Option, Some, None, Ok, if◌then◌else◌}
use Rattle.std.specs.List.{list_any}
use Rattle.std.specs.Option.{option_or}
use base.Stored.{Coded, coded×, coded_list, coded_ℕ, coded_via}
use Rattle.qk_base.specs.declared.place.Place.{Place}
use Rattle.qk_syntax.specs.PlainTrees.{PlainTree, number, name, list}
use Rattle.qk_value.specs.Code.{type_code}
use Rattle.qk_value.specs.Types.{TypeData}
use Rattle.qk_names.specs.Checks.{Checked, ◌>>=◌, ◌>>◌, refuse, check}
use Rattle.qk_names.specs.Reserved.{Word}

pub record VariableData : Type 0 where
  pub name : Word
  pub ty : TypeData

abbrev pub variable_code : Coded VariableData
variable_code = coded_via (coded× (coded_list coded_ℕ) type_code) (λ v. (v.name, v.ty)) (λ a b e i. record { name = (e i).0; ty = (e i).1 })

abbrev pub Scope : Type 0
Scope = List VariableData

abbrev pub bind : Scope → Word → TypeData → Scope
bind s w t = s ++ record { name = w; ty = t } ∷ []

-- variables of these names and types, as far as there are both
abbrev pub bind_all : Scope → List Word → List TypeData → Scope
bind_all s (w ∷ ws) (t ∷ ts) = bind_all (bind s w t) ws ts
bind_all s ws ts = s

abbrev pub types_of : Scope → List TypeData
types_of s = map (λ v. v.ty) s

-- a variable, by its index in the environment
pub record Found : Type 0 where
  pub index : ℕ
  pub ty : TypeData

abbrev pub variable_after : ℕ → Scope → Word → Option Found
variable_after before [] w = None
variable_after before (v ∷ vs) w = option_or (variable_after (before + 1) vs w) (if bytes_eq v.name w then Some (record { index = before; ty = v.ty }) else None)

-- the innermost variable of that name
abbrev pub variable_of : Scope → Word → Option Found
variable_of s w = variable_after 0 s w

abbrev pub is_truth_word : Word → Bool
is_truth_word w = bytes_eq w (codes "true") || bytes_eq w (codes "false")

-- no name of a variable is `true`, `false` or one of these
abbrev pub new_variable : List Word → Place → Word → Checked Word
new_variable before p w = do
  check (not (is_truth_word w || list_any (bytes_eq w) before)) 21 p
  Ok w

-- the variable that a tree names, after these
abbrev pub variable_at : List Word → PlainTree → Checked Word
variable_at before (name p w) = new_variable before p w
variable_at before (number p n) = refuse 20 p
variable_at before (list p ts) = refuse 20 p
