-- What a search for a member by its number comes to.
use Rattle.std.specs.Prelude.{ℕ, zero, suc, List, [], ◌∷◌}
use Rattle.qk_shrink.specs.declared.sought.Sought.{Sought}
use Rattle.qk_shrink.specs.declared.sought.Sought.TheVariants.{Here, Past}

-- the member of that number, counted from 0, or how far the number lies past the end
abbrev pub sought : {X : Type 0} → List X → ℕ → Sought X
sought [] k = Past k
sought (x ∷ xs) zero = Here x
sought (x ∷ xs) (suc k) = sought xs k

-- the search among what f makes of the members
abbrev pub map_sought : {X Y : Type 0} → (X → Y) → Sought X → Sought Y
map_sought f (Here x) = Here (f x)
map_sought f (Past k) = Past k

-- goes on past the end
abbrev pub or_past : {X : Type 0} → Sought X → (ℕ → Sought X) → Sought X
or_past (Here x) go = Here x
or_past (Past k) go = go k

-- what holds of the member, if there is one
abbrev pub IfHere : {X : Type 0} → Sought X → (X → Type 0) → Type 0
IfHere (Here x) holds = holds x
IfHere (Past k) holds = Unit {0}
