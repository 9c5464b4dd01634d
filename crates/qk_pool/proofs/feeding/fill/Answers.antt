use Rattle.std.proofs.Common.{arith, ◌≡◌, ◌++◌, [], ◌∷◌, length, length-append, ap, ◌∙◌, le_trans}
use Rattle.qk_totals.specs.Totals.{total}
use Rattle.qk_totals.proofs.Totals.{total_append}
use Rattle.qk_pool.specs.declared.taken.Taken.TheVariants.{Job}
use Rattle.qk_pool.specs.Numbers.{numbers_of, is_end, ends_of}
use Rattle.qk_pool.specs.Serving.{stray, strays}
use Rattle.qk_pool.specs.Tokens.{put_of}
use Rattle.qk_pool.proofs.Counts.{each_more, job_number}
use Rattle.qk_pool.proofs.Backing.{no_stray, one_more}
use Rattle.qk_pool.proofs.feeding.fill.Goals as goal

pub loop-number-preserved : goal.loop-number-preserved
loop-number-preserved g c =
    let inv = c.loop-number.invariant in let old = put_of c.loop-number.feeder in let new = put_of c.put.new.feeder in
    let n = c.loop-number.number in let i = c.in_ok-input.input in
    let is : new ≡ old ++ Job n i ∷ [] = c.put.ensures.put in
    let sum = ap ends_of is ∙ total_append is_end old (Job n i ∷ []) in
    let len = ap length is ∙ length-append old (Job n i ∷ []) in
    let inputs = g.F.Feed.inputs c.args.feed.now in
    let none : stray (inputs n) i.items ≡ 0 = no_stray (inputs n) i.items (λ l e. c.in_ok-input.ensures.told l (inv.inputs n ∙ e)) in
    record {
      feeder = c.put.ensures.feeder;
      going = omega (arith, inv.going);
      place = omega (arith, inv.place);
      each = each_more n (numbers_of old) (numbers_of new) (job_number old new n i is) inv.each;
      told = ap (total (strays inputs)) is ∙ one_more (strays inputs) old (Job n i) inv.told none;
      counts = λ m. le_trans (inv.counts m) (c.next.ensures.counts m);
      made = c.next.ensures.made ∙ inv.made;
      inputs = λ m. c.next.ensures.inputs m ∙ inv.inputs m;
    }
