-- Checks in their order: what one finds is handed to those after it, and the first that does not hold decides.
use Rattle.std.specs.Prelude.{ℕ, Bool, true, false, Result, Ok, Err}
use Rattle.qk_base.specs.declared.place.Place.{Place}
use Rattle.qk_base.specs.declared.place.Refusal.{Refusal}
use Rattle.qk_syntax.specs.PlainTrees.{PlainTree, number, name, list}

abbrev pub Checked : Type 0 → Type 0
Checked A = Result A Refusal

infixl 10 ◌>>=◌
abbrev pub ◌>>=◌ : {A B : Type 0} → Checked A → (A → Checked B) → Checked B
◌>>=◌ (Ok a) next = next a
◌>>=◌ (Err r) next = Err r

infixl 10 ◌>>◌
abbrev pub ◌>>◌ : {A B : Type 0} → Checked A → Checked B → Checked B
◌>>◌ (Ok a) next = next
◌>>◌ (Err r) next = Err r

abbrev pub refuse : {A : Type 0} → ℕ → Place → Checked A
refuse code p = Err (record { code = code; place = p })

-- that the test holds: else this code at this place
abbrev pub check : Bool → ℕ → Place → Checked (Unit {0})
check true code p = Ok tt
check false code p = refuse code p

abbrev pub place_of : PlainTree → Place
place_of (number p n) = p
place_of (name p w) = p
place_of (list p ts) = p
