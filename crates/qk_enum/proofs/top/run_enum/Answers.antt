use Rattle.std.proofs.Common.{rules, List, ℕ, take, inl, inr, subst}
use Rattle.qk_base.specs.Gains.{Gains}
use Rattle.qk_enum.proofs.top.run_enum.Goals as goal

pub returns-in-Err-clause-answers : goal.returns-in-Err-clause-answers
returns-in-Err-clause-answers g c no_read no_write = inr (c.in-Err.ensures.answers no_read)

pub returns-in-Err-clause-completes : goal.returns-in-Err-clause-completes
returns-in-Err-clause-completes g c bytes told may no_read no_write = inr (c.in-Err.ensures.answers no_read)

pub returns-in-Ok-store-clause-completes : goal.returns-in-Ok-store-clause-completes
returns-in-Ok-store-clause-completes g c bytes told may no_read no_write = inl (c.in-Ok.ensures.completes bytes told may)

pub returns-in-Ok-store-clause-replies : goal.returns-in-Ok-store-clause-replies
returns-in-Ok-store-clause-replies g c reply bytes told = (c.in-Ok.made.text.items, c.in-Ok.ensures.replies.1 bytes told, search rules)

pub returns-clause-front : goal.returns-clause-front
returns-clause-front g c fault bytes told =
    let said = c.in-Ok.ensures.replies in
    let gained = c.in-Err-store.ensures.err in (
      c.in-Ok.made.status,
      c.in-Ok.made.text.items,
      gained.0,
      said.0,
      said.1 bytes told,
      subst (λ (b : List ℕ). Gains (g.K.Sink.written c.args.sink.now) (g.K.Sink.written c.store.new.sink) (take gained.0 b)) c.as_slice.ensures gained.1,
    )
