-- The rule of a path table, over its words and the views of its walkers.
-- Word 0 is the base word. Word 2 * e + 1 is the path word of level e, and word 2 * e + 2 its claim word.
use Rattle.std.specs.Prelude.{◌≡◌, ℕ, suc, ◌+◌, ◌-◌, ◌*◌, ◌<◌, ◌≤◌, Bool, List, take, length, slice_index, Some}
use mathlib.Core.Option.{some}
use lib.ListN.{get_elem?}
use Rattle.qk_totals.specs.Totals.{total, times, EachBelow}
use Rattle.qk_path.specs.declared.view.PathView.{PathView}
use Rattle.qk_path.specs.Points.{Leads, width}
use Rattle.qk_path.specs.Paths.{IsPrefix, AllPrefixes, path_word}
use Rattle.qk_path.specs.Views.{draws_of, dones_of, parts_of, full_of, past, IsEmptyView, Tidy, IsOthers}

module _ {F P : Type 0} where
  -- What holds between any two steps, where the places are the path words that are not 0, each less 1. A walker that stands for no
  -- walker is spent.
  pub record KeptAt (children : F → P → List P) (failing : F → P → Bool) (f : F) (p : P) (walkers limit : ℕ) (words : List ℕ) (views : List (PathView F P)) (places : List ℕ) : Type 0 where
    pub shape : length words ≡ 2 * limit + 1
    -- the path words that are not 0 are a prefix of all path words, and the places lead from the start
    pub short : length places ≤ limit
    pub marks : (e : ℕ) → e < limit → slice_index words (2 * e + 1) ≡ path_word places e
    pub leads : Leads (children f) (failing f) p places
    -- each walker's path is a prefix of the places, and one walker's path is all of them
    pub prefixes : (id : ℕ) (v : PathView F P) → get_elem? views id ≡ some v → IsPrefix v.path places
    pub absorbed : (id : ℕ) (v : PathView F P) → get_elem? views id ≡ some v → AllPrefixes v.absorbed places
    pub whole : 0 < total (full_of (length places)) views
    -- the draws of level e over all walkers are the numbers below its claim word, each once
    pub draws : (e : ℕ) → EachBelow (slice_index words (2 * e + 2)) (λ x. total (draws_of e x) views)
    -- the step of a level was drawn there, and by none of the walkers that are still at that level
    pub claimed : (e j : ℕ) → path_word places e ≡ suc j → j < slice_index words (2 * e + 2)
    pub others : (id : ℕ) (v : PathView F P) → get_elem? views id ≡ some v → IsOthers places v
    -- a walker has draws only at levels up to its own
    pub levels : (id : ℕ) (v : PathView F P) → get_elem? views id ≡ some v → Tidy v
    -- it is done at a level as often as one of its draws there is at or above the number of candidates, and at most as often as it
    -- stands for walkers
    pub dones : (id : ℕ) (v : PathView F P) → get_elem? views id ≡ some v → (e : ℕ) → e ≤ length places → times e v.done ≡ past e (width (children f) p (take e places)) v.draws
    pub overs : (e : ℕ) → e ≤ length places → total (dones_of e) views ≡ slice_index words (2 * e + 2) - width (children f) p (take e places)
    pub within : (id : ℕ) (v : PathView F P) → get_elem? views id ≡ some v → (e : ℕ) → times e v.done ≤ v.parts
    -- together the walkers stand for the number of walkers that was given to make
    pub parts : total parts_of views ≡ walkers
    pub idle : (id : ℕ) (v : PathView F P) → get_elem? views id ≡ some v → v.parts ≡ 0 → IsEmptyView v
    -- all walkers have one start
    pub same : (id : ℕ) (v : PathView F P) → get_elem? views id ≡ some v → 0 < v.parts → v.start ≡ Some (f, p)

  abbrev pub Kept : (F → P → List P) → (F → P → Bool) → F → P → ℕ → ℕ → List ℕ → List (PathView F P) → Type 0
  Kept children failing f p walkers limit words views = (places : List ℕ) × KeptAt children failing f p walkers limit words views places
