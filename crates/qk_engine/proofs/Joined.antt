-- Texts that are added one after another.
use Rattle.std.proofs.Common.{◌≡◌, ◌∙◌, ℕ, List, ◌++◌, ap, append_assoc}

pub two : (old a b now next : List ℕ) → now ≡ old ++ a → next ≡ now ++ b → next ≡ old ++ (a ++ b)
two old a b now next first second = second ∙ ap (λ t. t ++ b) first ∙ append_assoc old a b

pub three : (old a b c now next last : List ℕ) → now ≡ old ++ a → next ≡ now ++ b → last ≡ next ++ c → last ≡ old ++ ((a ++ b) ++ c)
three old a b c now next last first second third = two old (a ++ b) c next last (two old a b now next first second) third
