use Rattle.std.proofs.Common.{◌∙◌, ◌++◌, ap, refl}
use Rattle.qk_command.proofs.Notes.{text_added}
use Rattle.qk_command.proofs.marking.Notes.add_text.Goals as goal

pub returns : goal.returns
returns c ns so_far = text_added c.args.self.now record { label = c.append.new.self; labelled = _; classes = c.args.self.now.classes; entries = c.args.self.now.entries; covers = c.args.self.now.covers } ns c.args.text.now so_far (c.in_ok-append.ensures.ok ∙ ap (λ l. l ++ c.args.text.now) c.in_ok-separate.ensures) refl refl refl refl
