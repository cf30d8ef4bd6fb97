use Rattle.std.proofs.Common.{◌∙◌, ap}
use Rattle.top_rounds.specs.Labels.{seating_in, with_round}
use Rattle.top_close.specs.Stage.{DiesIn}
use Rattle.top_acts.proofs.Counted.{counted_rounds}
use Rattle.top_acts.proofs.Ended.{clean_lost, rounds_of, still_lost}
use Rattle.top_acts.proofs.Named.{apart_in}
use Rattle.top_acts.proofs.ending.write_lost.Goals as goal

pub returns-clause-lost : goal.returns-clause-lost
returns-clause-lost g c =
    let y = g.L.Layout.shape c.args.layout.now in
    let columns = c.args.hand.now.ending.columns.items in
    let after = c.round.new.hand.ending.columns.items in
    let old = c.args.devices.now in
    let new = c.round.new.devices in
    let r = rounds_of g.D.Disk c.round.new.hand.ending.lost c.args.label.now c.round.new.label columns after old new c.round.ensures.rounds in
    let dies = (counted_rounds g.D.Disk c.round.new.hand.ending.lost c.args.label.now c.round.new.label columns r.0 after old new r.1).stage.dies in
    still_lost y (DiesIn g.D.Disk c.round.new.hand.ending.lost columns old new) columns after c.args.hand.now.ending.lost c.round.new.hand.ending.lost dies (apart_in g.D.Disk c.round.new.hand.ending.lost columns after old new dies) c.requires.columns.filling c.requires.by c.requires.lost c.round.ensures.lost

pub returns-clause-label : goal.returns-clause-label
returns-clause-label g c =
    c.round.ensures.label ∙ ap (λ k. with_round c.args.label.now c.round.new.label.counter k (seating_in c.round.new.label)) (clean_lost c.round.new.hand.ending.lost c.args.label.now.clean (returns-clause-lost g c))
