-- One more count is raised.
use Rattle.std.proofs.Common.{◌≡◌, ℕ, ◌+◌, ◌<◌, Bool, true, false, if◌then◌else◌, List, ◌∷◌, ◌++◌, length, take, drop, All, get_or, set, refl, arith, append_assoc, add-one}
use Rattle.std.proofs.lemmas.List.{take_more_set, drop-set-lt}
use Rattle.std.proofs.lemmas.List.Elements.{All-rest}
use Rattle.std.proofs.Math.Seq.{drop-cons}
use Rattle.qk_schedule.specs.Counts.{raised}
use mir.Val.{bool_byte}

pub raised_next : (counts : List ℕ) (covers : List Bool) (i y : ℕ) → i < length counts → i < length covers
    → y ≡ get_or counts i 0 + (if get_or covers i false then 1 else 0)
    → take (i + 1) (set counts i y) ++ raised (drop (i + 1) (set counts i y)) (drop (i + 1) covers) ≡ take i counts ++ raised (drop i counts) (drop i covers)
raised_next counts covers i y below within e =
    let first : drop i counts ≡ get_or counts i 0 ∷ drop (i + 1) counts = rw add-one (drop-cons counts i 0 below) in
    let cover : drop i covers ≡ get_or covers i false ∷ drop (i + 1) covers = rw add-one (drop-cons covers i false within) in
    let less : i < i + 1 = omega arith in
    rw (take_more_set counts i y below, drop-set-lt (i + 1) counts i y less, append_assoc, first, cover, e) refl

pub room_next : (P : ℕ → Type 0) (counts : List ℕ) (i y : ℕ) → i < length counts → All P (drop i counts) → All P (drop (i + 1) (set counts i y))
room_next P counts i y below room =
    let first : drop i counts ≡ get_or counts i 0 ∷ drop (i + 1) counts = rw add-one (drop-cons counts i 0 below) in
    let less : i < i + 1 = omega arith in
    rw (drop-set-lt (i + 1) counts i y less) (All-rest P (get_or counts i 0) (drop (i + 1) counts) (drop i counts) first room)

-- a truth value as a number
pub byte_of : (b : Bool) → bool_byte b ≡ (if b then 1 else 0)
byte_of true = refl
byte_of false = refl
