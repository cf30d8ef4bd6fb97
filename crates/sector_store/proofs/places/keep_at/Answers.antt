use Rattle.std.proofs.Common.{◌≡◌, length, arith}
use Rattle.sector_store.proofs.Keeping.{set-keeps}
use Rattle.sector_store.proofs.places.keep_at.Goals as goal

pub returns-clause-keeps : goal.returns-clause-keeps
returns-clause-keeps c =
    let r = c.reach.ensures in
    let long : length c.args.sector.now ≡ 512 = search in
    set-keeps c.args.kept.now.items c.reach.new.kept.items c.args.place c.args.sector.now r.whole long (let l = r.long in let k = c.reach.new.kept.ok.0 in omega (arith, l, k)) r.old r.longer
