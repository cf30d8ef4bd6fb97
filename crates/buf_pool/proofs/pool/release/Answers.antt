use Rattle.std.proofs.Common.{get_or}
use Rattle.std.proofs.lemmas.List.{get_or_default}
use Rattle.buf_pool.proofs.Keeps.{seen_release}
use Rattle.buf_pool.proofs.pool.release.Goals as goal

pub returns : goal.returns
returns c =
    let now = c.args.seats.now in let was = c.index-seats-seat.result in let s = get_or now c.args.seat was in
    seen_release now c.args.seat s c.args.at c.of.result c.of.ensures c.requires (get_or_default now c.args.seat was s c.requires)
