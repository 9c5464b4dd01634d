-- What is left of a list behind a place.
use Rattle.std.proofs.Common.{◌≡◌, ◌∙◌, ℕ, ◌+◌, ◌<◌, List, ◌∷◌, drop, length, get_or, sym, ap, add-one}
use Rattle.std.proofs.Math.Seq.{drop-cons}

pub next : {X : Type 0} (xs : List X) (i : ℕ) (x : X) → i < length xs → x ≡ get_or xs i x → drop i xs ≡ x ∷ drop (i + 1) xs
next xs i x h is = rw add-one (drop-cons xs i x h) ∙ ap (λ y. y ∷ drop (i + 1) xs) (sym is)
