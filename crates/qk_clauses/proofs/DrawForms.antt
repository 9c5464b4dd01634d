-- What a binder draws, by whether `commands` heads it.
use Rattle.std.proofs.Common.{◌≡◌, ◌∙◌, true, false, refl, ap, if◌then◌else◌}
use Rattle.qk_syntax.specs.PlainTrees.{PlainTree, number, name, list, end, more}
use Rattle.qk_clauses.specs.Binders.{draw_at, drawn_by}
use Rattle.qk_clauses.specs.BoundView.{is_commands, headed_commands}
use Rattle.qk_typing.specs.Operators.{Tables}
use Rattle.qk_headers.specs.Scopes.{Scope}

by_head : (d : Tables) (s : Scope) (t : PlainTree) → draw_at d s t ≡ (if is_commands t then headed_commands d t else drawn_by d s t)
by_head d s (number p n) = refl
by_head d s (name p w) = refl
by_head d s (list p end) = refl
by_head d s (list p (more (number q n) ts)) = refl
by_head d s (list p (more (name q w) ts)) = refl
by_head d s (list p (more (list q us) ts)) = refl

pub commands_drawn : (d : Tables) (s : Scope) (t : PlainTree) → is_commands t ≡ true → draw_at d s t ≡ headed_commands d t
commands_drawn d s t h = by_head d s t ∙ ap (λ b. if b then headed_commands d t else drawn_by d s t) h

pub others_drawn : (d : Tables) (s : Scope) (t : PlainTree) → is_commands t ≡ false → draw_at d s t ≡ drawn_by d s t
others_drawn d s t h = by_head d s t ∙ ap (λ b. if b then headed_commands d t else drawn_by d s t) h
