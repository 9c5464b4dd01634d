use Rattle.std.proofs.Common.{Ok}
use Rattle.qk_syntax.specs.Stacks.{stack_of}
use Rattle.qk_syntax.proofs.ReadingLaws.{reading_word}
use Rattle.qk_syntax.proofs.open_lists.OpenLists.take_word.Goals as goal

pub returns-in-Ok-clause-ok : goal.returns-in-Ok-clause-ok
returns-in-Ok-clause-ok c =
    let e = reading_word c.args.bytes.now c.args.from.at c.args.from.place c.word_at-word.result.now (stack_of c.args.self.now) (Ok (stack_of c.put_word.new.self)) c.requires.inside c.requires.word c.word_at-word.ensures.word c.in-Ok.ensures.ok in
    cc
