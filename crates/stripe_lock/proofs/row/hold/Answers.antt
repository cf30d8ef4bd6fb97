use Rattle.std.proofs.Common.{◌<◌, length, get_or, take, arith, length-take}
use Rattle.std.proofs.lemmas.List.Elements.{Contains-get_or}
use Rattle.stripe_lock.proofs.Growing.{grows_on, still_free, few_before}
use Rattle.stripe_lock.proofs.row.hold.Goals as goal

pub put-requires-clause-free : goal.put-requires-clause-free
put-requires-clause-free c =
    let stripes = c.args.stripes.now in
    let within : c.loop-i.i < length stripes = omega arith in
    still_free c.args.rows.now.items c.loop-i.rows.items c.args.owner (get_or stripes c.loop-i.i 0) stripes (take c.loop-i.i stripes) c.args.mode c.requires.free c.loop-i.invariant.grows (Contains-get_or stripes c.loop-i.i 0 within)

pub put-requires-clause-room : goal.put-requires-clause-room
put-requires-clause-room c =
    let within : c.loop-i.i < length c.args.stripes.now = omega arith in
    let few = few_before c.args.rows.now.items c.args.owner c.requires.owner c.requires.sound c.requires.none in
    let more = c.loop-i.invariant.grows.long in
    let taken = length-take c.loop-i.i c.args.stripes.now in
    let counted = c.loop-i.rows.ok.0 in
    let room = c.loop-i.invariant.room in
    let all = c.requires.room in
    let most = c.requires.few in
    omega arith

pub loop-i-preserved : goal.loop-i-preserved
loop-i-preserved c =
    let within : c.loop-i.i < length c.args.stripes.now = omega arith in
    let before = c.loop-i.invariant.room in
    let after = c.put.ensures.room in
    record {
      grows = grows_on c.args.rows.now.items c.loop-i.rows.items c.put.new.rows.items c.args.owner c.loop-i.i c.args.stripes.now c.args.mode within c.loop-i.invariant.grows c.put.ensures.grows;
      room = omega arith;
    }
