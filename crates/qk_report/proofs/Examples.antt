-- Tables that were worked out by hand.
use Rattle.std.proofs.Common.{◌≡◌, ◌++◌, ◌∷◌, [], List, Bool, true, false, refl}
use Rattle.std.specs.Prelude.{codes}
use Rattle.qk_base.specs.Judged.{Judged, Marked}
use Rattle.qk_base.specs.declared.outcome.Verdict.{Verdict}
use Rattle.qk_base.specs.declared.outcome.Verdict.TheVariants.{Pass, Discard}
use Rattle.qk_report.specs.TableLines.{is_missed, percentage}
use Rattle.qk_report.specs.Tables.{Row, Text, covered, distinct, labels_of, passing, rows_of, texts_under, true_names}

abbrev labelled : Verdict → Text → Judged
labelled verdict text = record { verdict = verdict; marks = record { label = text; classes = []; entries = []; covers = true ∷ [] } }

-- two attempts of 10, one of 2, one without a text, and one that was discarded
abbrev outcomes : List Judged
outcomes = labelled Pass (codes "2") ∷ labelled Pass (codes "10") ∷ labelled Discard (codes "2") ∷ labelled Pass [] ∷ labelled Pass (codes "10") ∷ labelled Pass (codes "7") ∷ []

-- the greatest count first, and at one count `2` before `7`
rows : rows_of (labels_of outcomes) ≡ record { count = 2; text = codes "10" } ∷ record { count = 1; text = codes "2" } ∷ record { count = 1; text = codes "7" } ∷ []
rows = refl

-- texts of one count go by their bytes, so `10` stands before `2`
by_bytes : rows_of (codes "2" ∷ codes "10" ∷ []) ≡ record { count = 1; text = codes "10" } ∷ record { count = 1; text = codes "2" } ∷ []
by_bytes = refl

cover : covered 0 outcomes ≡ 5
cover = refl

-- two true clauses of one name count once
classes : distinct (true_names (codes "small" ∷ codes "odd" ∷ codes "small" ∷ []) (true ∷ false ∷ true ∷ [])) ≡ codes "small" ∷ []
classes = refl

-- each clause of a table gives a text
entries : texts_under (codes "sides") (codes "sides" ∷ codes "ends" ∷ codes "sides" ∷ []) (codes "l" ∷ codes "x" ∷ codes "r" ∷ []) ≡ codes "l" ∷ codes "r" ∷ []
entries = refl

-- 3 of 250 are 1.2 percent, 2 of 3 are 66.6 percent
small : percentage 3 250 ≡ 1
small = refl

whole : percentage 2 3 ≡ 66
whole = refl

-- 2 of 3 miss 67 percent; nothing is missed of nothing
missed : is_missed 2 3 67 ≡ true
missed = refl

met : is_missed 2 3 66 ≡ false
met = refl

nothing : is_missed 0 0 50 ≡ false
nothing = refl
