-- Trees at places: every tree is one, and apart from its places it stays what it is.
use Rattle.std.proofs.Common.{◌≡◌, refl, ap, ◌∙◌}
use Rattle.qk_base.specs.declared.place.Place.{Place}
use Rattle.qk_syntax.specs.Places.{start}
use Rattle.qk_syntax.specs.PlainTrees.{PlainTree, number, name, list, PlainTrees, end, more, bare, bares, Bare, bare_number, bare_name, bare_list, Bares, bare_end, bare_more}

-- the places of a tree and of the trees beside it
pub data Spots : Type 0 where
  nowhere : Spots
  spots : Place → Spots → Spots → Spots

abbrev pub place_in : Spots → Place
place_in nowhere = start
place_in (spots p inner others) = p

abbrev pub inner : Spots → Spots
inner nowhere = nowhere
inner (spots p is os) = is

abbrev pub others : Spots → Spots
others nowhere = nowhere
others (spots p is os) = os

abbrev mutual
  pub at : Spots → Bare → PlainTree
  at s (bare_number n) = number (place_in s) n
  at s (bare_name w) = name (place_in s) w
  at s (bare_list bs) = list (place_in s) (all_at (inner s) bs)

  pub all_at : Spots → Bares → PlainTrees
  all_at s bare_end = end
  all_at s (bare_more b bs) = more (at (inner s) b) (all_at (others s) bs)

-- every tree is one at places
mutual
  pub placed : (t : PlainTree) → (s : Spots) × (at s (bare t) ≡ t)
  placed (number p n) = (spots p nowhere nowhere, refl)
  placed (name p w) = (spots p nowhere nowhere, refl)
  placed (list p ts) = let k = all_placed ts in (spots p k.0 nowhere, ap (list p) k.1)

  pub all_placed : (ts : PlainTrees) → (s : Spots) × (all_at s (bares ts) ≡ ts)
  all_placed end = (nowhere, refl)
  all_placed (more t ts) = let k = placed t in let ks = all_placed ts in (spots start k.0 ks.0, ap (λ u. more u (all_at ks.0 (bares ts))) k.1 ∙ ap (more t) ks.1)

-- .. and the places go away again
mutual
  pub unplaced : (b : Bare) (s : Spots) → bare (at s b) ≡ b
  unplaced (bare_number n) s = refl
  unplaced (bare_name w) s = refl
  unplaced (bare_list bs) s = ap bare_list (all_unplaced bs (inner s))

  pub all_unplaced : (bs : Bares) (s : Spots) → bares (all_at s bs) ≡ bs
  all_unplaced bare_end s = refl
  all_unplaced (bare_more b bs) s = ap (λ c. bare_more c (bares (all_at (others s) bs))) (unplaced b (inner s)) ∙ ap (bare_more b) (all_unplaced bs (others s))
