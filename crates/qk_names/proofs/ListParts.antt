-- Two lists side by side.
use Rattle.std.proofs.Common.{◌≡◌, ℕ, ◌≤◌, ◌<◌, min, Bool, true, false, nat_le, ◌⊎◌, inl, inr, refl, arith}

le_true : (n i : ℕ) → nat_le n i ≡ true → n ≤ i
le_true n i h = grind arith

le_false : (n i : ℕ) → nat_le n i ≡ false → i < n
le_false n i h = grind arith

shorter : (b : Bool) (n m i : ℕ) → nat_le n i ≡ b → min n m ≤ i → (n ≤ i) ⊎ (m ≤ i)
shorter true n m i e h = inl (le_true n i e)
shorter false n m i e h = let more = le_false n i e in inr (omega arith)

-- one of two lists ends where the shorter does
pub either : (n m i : ℕ) → min n m ≤ i → (n ≤ i) ⊎ (m ≤ i)
either n m i h = shorter (nat_le n i) n m i refl h
