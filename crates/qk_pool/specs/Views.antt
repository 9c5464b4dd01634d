-- What a pass knows.
use Rattle.std.specs.Prelude.{ℕ, Bool, List, [], ◌∷◌, ◌++◌}
use Rattle.qk_pool.specs.declared.taken.Taken.{Taken}
use Rattle.qk_pool.specs.declared.view.RelayView.{RelayView}

abbrev pub known : Bool → ℕ → List Taken → List Taken → RelayView
known feeds parts put taken = record { feeds = feeds; parts = parts; put = put; taken = taken }

abbrev pub parts_of : RelayView → ℕ
parts_of v = v.parts

-- the view with one more entry
abbrev pub with_put : RelayView → Taken → RelayView
with_put v x = record v { put = v.put ++ x ∷ [] }

abbrev pub with_taken : RelayView → Taken → RelayView
with_taken v x = record v { taken = v.taken ++ x ∷ [] }
