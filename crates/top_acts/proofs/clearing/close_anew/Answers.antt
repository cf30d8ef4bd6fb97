use Rattle.std.proofs.Common.{refl, subst, sym, true}
use Rattle.eng_cols.specs.Settable.{IsSettable}
use Rattle.top_acts.proofs.Counted.{counted-none}
use Rattle.top_acts.proofs.Ended.{closed_lost}
use Rattle.top_acts.proofs.InTurn.{in_turn-none}
use Rattle.top_acts.proofs.clearing.close_anew.Goals as goal

pub loss_of-hand-requires-clause-columns : goal.loss_of-hand-requires-clause-columns
loss_of-hand-requires-clause-columns g c = subst (IsSettable (g.L.Layout.shape c.args.layout.now)) (sym c.deref.ensures.value) c.requires.columns

pub returns-then-is_some-clause-closed : goal.returns-then-is_some-clause-closed
returns-then-is_some-clause-closed g c =
    let label = c.args.label.now in
    let columns = c.args.hand.now.ending.columns.items in
    let old = c.args.devices.now in
    let w = c.write_lost in
    closed_lost g.D.Disk true true w.new.hand.ending.lost label w.new.label columns columns w.new.hand.ending.columns.items old old w.new.devices c.requires.array.have.apart (in_turn-none g.D.Disk true columns old) w.ensures.lost (counted-none g.D.Disk label columns old) w.ensures.label (λ k d live tells. refl) w.ensures.rounds
