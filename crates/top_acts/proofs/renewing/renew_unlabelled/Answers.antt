use Rattle.std.proofs.Common.{None, arith}
use Rattle.eng_cols.specs.Stripes.{states_of}
use Rattle.raid_recon.specs.Array.{Failed}
use Rattle.raid_recon.specs.Ends.{MayRewrite}
use Rattle.top_rounds.proofs.RoundLaws.{any_death}
use Rattle.top_acts.specs.Sweeps.{sweep_of}
use Rattle.top_acts.proofs.Backs.{array_after}
use Rattle.top_acts.proofs.Having.{have_of}
use Rattle.top_acts.proofs.Named.{apart_in, loses_of}
use Rattle.top_acts.proofs.Renews.{renewed_plain}
use Rattle.top_acts.proofs.renewing.renew_unlabelled.Goals as goal

pub settle-requires-clause-devices : goal.settle-requires-clause-devices
settle-requires-clause-devices g c =
    let y = g.L.Layout.shape c.args.layout.now in
    let columns = c.args.hand.now.ending.columns.items in
    let mid = c.sweep_and_judge-count.new.hand.ending.columns.items in
    let old = c.args.devices.now in
    let dev = c.sweep_and_judge-count.new.devices in
    let s = c.sweep_and_judge-count.ensures.swept in
    have_of g.D.Disk y mid dev (array_after g.D.Disk y (Failed g.D.Disk (states_of y columns) old dev) (MayRewrite g.D.Disk (sweep_of c.args.kind) y columns old) columns mid old dev s.dies (apart_in g.D.Disk None columns mid old dev (loses_of g.D.Disk y None columns mid old dev s.dies)) c.requires.columns.filling s.frame c.requires.array)

pub returns-clause-renewed : goal.returns-clause-renewed
returns-clause-renewed g c =
    let y = g.L.Layout.shape c.args.layout.now in
    let s = c.sweep_and_judge-count in
    let e = c.settle in
    let columns = c.args.hand.now.ending.columns.items in
    let fewer = c.deaths_bring_no_unit_back.ensures.filling columns s.new.hand.ending.columns.items (any_death (Failed g.D.Disk (states_of y columns) c.args.devices.now s.new.devices) columns s.new.hand.ending.columns.items s.ensures.swept.dies) in
    renewed_plain g.D.Disk c.args.kind y c.args.hand.now.ending.columns.items s.new.hand.ending.columns.items e.new.hand.ending.columns.items c.args.devices.now s.new.devices e.new.devices e.new.hand.ending.lost s.result c.done.result
    (g.met.L.Layout.is_layout c.args.layout.now).checks_most (omega (arith, fewer, c.requires.columns.filling)) c.done.ensures e.ensures.lost s.ensures.swept e.ensures.settled e.ensures.last
