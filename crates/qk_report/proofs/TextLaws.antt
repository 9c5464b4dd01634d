-- Texts that are added one after another.
use Rattle.std.proofs.Common.{◌≡◌, ℕ, List, ◌++◌, sym, ap, ◌∙◌, append_assoc, Result, OnOk}
use Rattle.std.proofs.lemmas.Result.{on_ok_weaker}

pub added : {T E : Type 0} (r : Result T E) (old mid new a b : List ℕ) → mid ≡ old ++ a → OnOk r (new ≡ mid ++ b) → OnOk r (new ≡ old ++ (a ++ b))
added r old mid new a b first last = on_ok_weaker r (λ e. e ∙ ap (λ t. t ++ b) first ∙ append_assoc old a b) last

pub join : (old mid new a b : List ℕ) → mid ≡ old ++ a → new ≡ mid ++ b → new ≡ old ++ (a ++ b)
join old mid new a b first last = last ∙ ap (λ t. t ++ b) first ∙ append_assoc old a b

-- .. which are one text
pub added_as : {T E : Type 0} (r : Result T E) (old mid new a b whole : List ℕ) → mid ≡ old ++ a → OnOk r (new ≡ mid ++ b) → a ++ b ≡ whole → OnOk r (new ≡ old ++ whole)
added_as r old mid new a b whole first last is = on_ok_weaker r (λ e. e ∙ ap (λ t. old ++ t) is) (added r old mid new a b first last)
