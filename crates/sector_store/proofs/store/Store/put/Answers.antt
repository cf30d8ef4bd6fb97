use Rattle.std.proofs.Common.{◌<◌, ◌/◌, ◌∙◌, ℕ, List, length, arith}
use Rattle.sector_store.proofs.Putting.{put-next, chunk-of}
use Rattle.sector_store.proofs.store.Store.put.Goals as goal

pub loop-i-preserved : goal.loop-i-preserved
loop-i-preserved c =
    let old : List ℕ = c.args.self.now in
    let from : List ℕ = c.args.from.now in
    let i = c.loop-i.i in
    let first = c.args.first in
    let lt : i < length from / 512 = let t = c.loop-i-test.true in let f = c.as_chunks.ensures.front_len in omega (arith, t, f) in
    record {
      now = put-next old c.loop-i.self _ from _ first i c.put_one.ensures.now c.loop-i.invariant.now (chunk-of _ (length from / 512) from i _ c.as_chunks.ensures.front lt) c.requires.fits lt;
      long = c.put_one.ensures.long ∙ c.loop-i.invariant.long;
    }
