use Rattle.std.specs.Str.{bytes_eq}
use Rattle.qk_typing.proofs.ScopeLaws.{later_found, later_within}
use Rattle.std.proofs.Common.{length, arith}
use Rattle.qk_typing.proofs.scopes.innermost.Goals as goal

pub loop-index-preserved : goal.loop-index-preserved
loop-index-preserved c =
    let s = c.args.scope.now in
    let v = c.index-scope-index.result in
    record {
      found = later_found s c.args.name.now c.loop-index.index c.loop-index.found c.later-found.result v (omega arith) c.index-scope-index.is c.later-found.ensures _ c.loop-index.invariant.found;
      within = later_within (bytes_eq v.name c.args.name.now) c.loop-index.index (length s) c.loop-index.found c.later-found.result c.later-found.ensures (omega arith) c.loop-index.invariant.within;
    }
