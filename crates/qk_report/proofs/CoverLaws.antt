-- One more cover line.
use Rattle.std.proofs.Common.{◌≡◌, ◌∙◌, ◌+◌, ◌<◌, ℕ, List, ◌∷◌, ◌++◌, add-one, ap, append_assoc, drop, drop-cons, get_or, length, map, sym}
use Rattle.qk_base.specs.Judged.{Judged}
use Rattle.qk_report.specs.TableLines.{cover_line, cover_lines}
use Rattle.qk_report.specs.Tables.{Text, Wanted, covered, passing}

module _ {X : Type 0} (f : X → Wanted) (xs : List X) (i : ℕ) (d : X) (outcomes : List Judged) where
  left : i < length xs → drop i xs ≡ get_or xs i d ∷ drop (i + 1) xs
  left within = rw (add-one, drop-cons xs i d)

  pub next_cover : (text new whole : Text) (count total : ℕ) → i < length xs → count ≡ covered i outcomes → length (passing outcomes) ≡ total → new ≡ text ++ cover_line count total (f (get_or xs i d))
      → text ++ cover_lines i (map f (drop i xs)) outcomes ≡ whole → new ++ cover_lines (i + 1) (map f (drop (i + 1) xs)) outcomes ≡ whole
  next_cover text new whole count total within is of e h =
      ap (λ t. t ++ cover_lines (i + 1) (map f (drop (i + 1) xs)) outcomes) (e ∙ (λ k. text ++ cover_line (is k) (sym of k) (f (get_or xs i d))))
      ∙ append_assoc text (cover_line (covered i outcomes) (length (passing outcomes)) (f (get_or xs i d))) (cover_lines (i + 1) (map f (drop (i + 1) xs)) outcomes)
      ∙ ap (λ ys. text ++ cover_lines i (map f ys) outcomes) (sym (left within)) ∙ h
