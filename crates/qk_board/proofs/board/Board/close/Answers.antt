use Rattle.std.proofs.Common.{◌≡◌, ◌+◌, ◌-◌, ◌<◌, ◌≤◌, min, ℕ, ◌⊎◌, List, get_or, ◌∙◌, subst, ap}
use Rattle.std.specs.Mem.Slots.{slots_items}
use Rattle.qk_totals.specs.Totals.{total, EachBelow}
use Rattle.qk_board.specs.Views.{draws_of, dries_of, lowers_of, sights_of, length_at}
use Rattle.qk_board.specs.Rule.{IsLeast}
use Rattle.qk_board.specs.Seats.{view_of}
use Rattle.qk_board.proofs.Closing.{final_draws, final_bound, final_dries, final_seen, read}
use Rattle.qk_board.proofs.board.Board.close.Goals as goal

pub returns-clause-bound : goal.returns-clause-bound
returns-clause-bound g c =
    let f = c.close_with-shut.ensures.values.2 in let k = c.args.self.table.shared.key in let ws = slots_items c.close_with-shut.result.words in
    let F : ℕ → ℕ = λ n. total (λ s. lowers_of n (view_of s)) c.args.seats.items in
    let least = final_bound k.limit k.seats k.lengths.items f.0.words f.0.views f.1.0 c.gather-all.result.id c.gather-all.result.me.0 f.1.1 (c.gather-all.ensures.parts ∙ c.requires.all) F c.gather-all.ensures.lowered in
    let word : get_or f.0.words 0 0 ≡ c.word-bound.result = ap (λ l. get_or l 0 0) f.2 ∙ read ws 0 c.word-bound.result 0 c.word-bound.ensures in
    subst (λ l. IsLeast l F c.word-bound.result) c.args.self.planned.0 (subst (λ b. IsLeast k.limit F b) word least)

pub returns-clause-words : goal.returns-clause-words
returns-clause-words g c =
    let f = c.close_with-shut.ensures.values.2 in let k = c.args.self.table.shared.key in let ws = slots_items c.close_with-shut.result.words in
    let F : ℕ → ℕ → ℕ = λ r x. total (λ s. draws_of r x (view_of s)) c.args.seats.items in
    let draws = final_draws k.limit k.seats k.lengths.items f.0.words f.0.views f.1.0 c.gather-all.result.id c.gather-all.result.me.0 f.1.1 (c.gather-all.ensures.parts ∙ c.requires.all) F c.gather-all.ensures.draws in
    let E : ℕ → ℕ = λ r. total (λ s. dries_of r (view_of s)) c.args.seats.items in
    let dries = final_dries k.limit k.seats k.lengths.items f.0.words f.0.views f.1.0 c.gather-all.result.id c.gather-all.result.me.0 f.1.1 (c.gather-all.ensures.parts ∙ c.requires.all) E c.gather-all.ensures.dries in (
      ws,
      subst (λ (l : List ℕ). (r : ℕ) → EachBelow (min (get_or ws (r + 1) 0) (length_at l r)) (λ x. F r x)) c.args.self.planned.1
          (subst (λ (u : List ℕ). (r : ℕ) → EachBelow (min (get_or u (r + 1) 0) (length_at k.lengths.items r)) (λ x. F r x)) f.2 draws),
      subst (λ (l : List ℕ). (r : ℕ) → E r ≡ get_or ws (r + 1) 0 - length_at l r) c.args.self.planned.1
          (subst (λ (u : List ℕ). (r : ℕ) → E r ≡ get_or u (r + 1) 0 - length_at k.lengths.items r) f.2 dries),
      c.dry_bits-dry.ensures.dry,
    )

pub returns-clause-seen : goal.returns-clause-seen
returns-clause-seen g c =
    let f = c.close_with-shut.ensures.values.2 in let k = c.args.self.table.shared.key in let ws = slots_items c.close_with-shut.result.words in
    let F : ℕ → ℕ = λ n. total (λ s. sights_of n (view_of s)) c.args.seats.items in
    let G : ℕ → ℕ = λ n. total (λ s. lowers_of n (view_of s)) c.args.seats.items in
    let seen = final_seen k.limit k.seats k.lengths.items f.0.words f.0.views f.1.0 c.gather-all.result.id c.gather-all.result.me.0 f.1.1 (c.gather-all.ensures.parts ∙ c.requires.all) F G c.gather-all.ensures.seen c.gather-all.ensures.lowered in
    let word : get_or f.0.words 0 0 ≡ c.word-bound.result = ap (λ l. get_or l 0 0) f.2 ∙ read ws 0 c.word-bound.result 0 c.word-bound.ensures in
    subst (λ l. (n : ℕ) → 0 < F n → (c.word-bound.result ≤ n) × ((n ≡ l) ⊎ (0 < G n))) c.args.self.planned.0 (subst (λ b. (n : ℕ) → 0 < F n → (b ≤ n) × ((n ≡ k.limit) ⊎ (0 < G n))) word seen)
