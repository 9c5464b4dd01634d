use Rattle.std.proofs.Common.{◌++◌, ◌∷◌, [], ◌∙◌, ap, map, refl, sym, subst}
use Rattle.std.proofs.lemmas.List.{map_push}
use Rattle.qk_command.specs.NotesView.{StandsFor, note_in}
use Rattle.qk_command.specs.declared.noting.Note.{Note}
use Rattle.qk_command.proofs.Notes.{class_added, entry_added, cover_added}
use Rattle.qk_command.proofs.marking.Notes.add.Goals as goal

pub returns-in_ok-add-in-Classified : goal.returns-in_ok-add-in-Classified
returns-in_ok-add-in-Classified c ns so_far =
    let after = record c.args.self.now { classes = c.add.new.self } in
    subst (λ (n : Note). StandsFor after (ns ++ note_in n ∷ [])) (sym c.in-Classified.is)
    (class_added c.args.self.now after ns c.in-Classified.holds so_far refl refl c.in_ok-add-in-Classified.ensures.ok refl refl)

pub returns-in_ok-add-in-Entered : goal.returns-in_ok-add-in-Entered
returns-in_ok-add-in-Entered c ns so_far =
    let after = record c.args.self.now { entries = c.add-in-Entered.new.self } in
    subst (λ (n : Note). StandsFor after (ns ++ note_in n ∷ [])) (sym c.in-Entered.is)
    (entry_added c.args.self.now after ns c.in-Entered.text.items so_far refl refl refl
    (ap (map (λ entry. entry.items)) c.in_ok-add-in-Entered.ensures.ok ∙ map_push (λ entry. entry.items) c.args.self.now.entries.items c.in-Entered.text) refl)

pub returns-in_ok-add-in-Covered : goal.returns-in_ok-add-in-Covered
returns-in_ok-add-in-Covered c ns so_far =
    let after = record c.args.self.now { covers = c.add-in-Covered.new.self } in
    subst (λ (n : Note). StandsFor after (ns ++ note_in n ∷ [])) (sym c.in-Covered.is)
    (cover_added c.args.self.now after ns c.in-Covered.holds so_far refl refl refl refl c.in_ok-add-in-Covered.ensures.ok)
