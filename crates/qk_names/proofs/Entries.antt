-- Entries that are not under a word.
use Rattle.std.proofs.Common.{◌≡◌, ◌∙◌, Bool, true, false, List, ◌∷◌, refl, sym, ap, Some, bytes_eq, if◌then◌else◌}
use Rattle.std.proofs.lemmas.Slice.Eq.{bytes_eq-Decides}
use Rattle.std.specs.Bool.{Decides}
use Rattle.qk_names.specs.Reserved.{Word, entry_of}

other : (b c : Bool) (v w : Word) → Decides b (v ≡ w) → Decides c (w ≡ v) → c ≡ false → b ≡ false
other true c v w d e h = sym (e.1 (sym (d.0 refl))) ∙ h
other false c v w d e h = refl

-- the word was tested against this one, and is not it
pub skip : {A : Type 0} (e : Word × A) (es : List (Word × A)) (w k : Word) (b : Bool) → b ≡ bytes_eq w k → k ≡ e.0 → b ≡ false → entry_of (e ∷ es) w ≡ entry_of es w
skip e es w k b tested same failed =
    let apart : bytes_eq w e.0 ≡ false = ap (bytes_eq w) (sym same) ∙ sym tested ∙ failed in
    ap (λ x. if x then Some e.1 else entry_of es w) (other (bytes_eq e.0 w) (bytes_eq w e.0) e.0 w (bytes_eq-Decides e.0 w) (bytes_eq-Decides w e.0) apart)
