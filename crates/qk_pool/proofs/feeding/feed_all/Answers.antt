use Rattle.std.proofs.Common.{◌∙◌, Result, Ok, Err, OnOk}
use Rattle.qk_base.specs.declared.loading.LoadFault.{LoadFault}
use Rattle.qk_totals.specs.Totals.{times, EachBelow}
use Rattle.qk_pool.specs.Numbers.{numbers_of}
use Rattle.qk_pool.proofs.Counts.{each_ended}
use Rattle.qk_pool.specs.Tokens.{put_of}
use Rattle.qk_pool.proofs.Backing.{strays_ended, strays_same, ends_ended}
use Rattle.qk_pool.proofs.feeding.feed_all.Goals as goal

pub returns-clause-feeder : goal.returns-clause-feeder
returns-clause-feeder g c = (c.end.ensures.feeder, ends_ended (put_of c.fill-fed.new.feeder) (put_of c.end.new.feeder) c.args.relay.now.takers c.end.ensures.put c.fill-fed.ensures.feeder.1)

pub returns-clause-each : goal.returns-clause-each
returns-clause-each g c = all_put c.fill-fed.result c.fill-fed.ensures.each
  where
    all_put : (r : Result Unit LoadFault) → OnOk r (EachBelow c.args.count (λ n. times n (numbers_of (put_of c.fill-fed.new.feeder)))) → OnOk r (EachBelow c.args.count (λ n. times n (numbers_of (put_of c.end.new.feeder))))
    all_put (Ok x) h = each_ended c.args.count (put_of c.fill-fed.new.feeder) (put_of c.end.new.feeder) c.args.relay.now.takers c.end.ensures.put h
    all_put (Err x) h = tt

pub returns-clause-told : goal.returns-clause-told
returns-clause-told g c =
    strays_same (g.F.Feed.inputs c.fill-fed.new.feed) (g.F.Feed.inputs c.args.feed.now) c.fill-fed.ensures.inputs (put_of c.end.new.feeder)
    ∙ strays_ended (g.F.Feed.inputs c.args.feed.now) (put_of c.fill-fed.new.feeder) (put_of c.end.new.feeder) c.args.relay.now.takers c.end.ensures.put c.fill-fed.ensures.told
