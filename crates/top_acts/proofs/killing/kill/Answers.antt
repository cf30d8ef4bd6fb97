use Rattle.std.proofs.Common.{ap, sym}
use Rattle.top_acts.specs.Done.{unless_lost}
use Rattle.top_acts.specs.declared.done.Done.TheVariants as done
use Rattle.top_acts.proofs.Held.{held_after}
use Rattle.top_acts.proofs.Without.{labels, settable}
use Rattle.top_acts.proofs.killing.kill.Goals as goal

pub settle_and_close-requires-clause-array : goal.settle_and_close-requires-clause-array
settle_and_close-requires-clause-array g c =
    labels (g.L.Layout.shape c.args.layout.now) c.args.hand.now.ending.columns.items c.lose_column.new.hand.ending.columns.items c.args.column c.lose_column.ensures.without g.D.Disk c.args.devices.now c.requires.array

pub settle_and_close-requires-clause-columns : goal.settle_and_close-requires-clause-columns
settle_and_close-requires-clause-columns g c =
    settable (g.L.Layout.shape c.args.layout.now) c.args.hand.now.ending.columns.items c.lose_column.new.hand.ending.columns.items c.args.column c.lose_column.ensures.without c.requires.columns

pub settle_and_close-requires-clause-held : goal.settle_and_close-requires-clause-held
settle_and_close-requires-clause-held g c =
    held_after c.args.hand.now.ending.columns.items c.lose_column.new.hand.ending.columns.items c.args.label.now c.lose_column.ensures.without.entries c.requires.held

pub returns-in-Some-clause-killed : goal.returns-in-Some-clause-killed
returns-in-Some-clause-killed g c = record {
  told = sym (ap (λ o. unless_lost o (done.Killed c.args.column)) c.in-Some.is);
  left = c.lose_column.new.hand.ending.columns.items;
  entries = c.lose_column.ensures.without.entries;
  kept = c.lose_column.ensures.without.kept;
  mid = c.settle_and_close.ensures.ends.mid;
  dev = c.settle_and_close.ensures.ends.dev;
  before = c.settle_and_close.ensures.ends.before;
  settles = c.settle_and_close.ensures.ends.settles;
  before_is = c.settle_and_close.ensures.ends.lost_is;
  ends = c.settle_and_close.ensures.ends.ends;
  lost_is = c.settle_and_close.ensures.lost;
}

pub returns-in-None-clause-killed : goal.returns-in-None-clause-killed
returns-in-None-clause-killed g c = record {
  told = sym (ap (λ o. unless_lost o (done.Killed c.args.column)) c.in-None.is);
  left = c.lose_column.new.hand.ending.columns.items;
  entries = c.lose_column.ensures.without.entries;
  kept = c.lose_column.ensures.without.kept;
  mid = c.settle_and_close.ensures.ends.mid;
  dev = c.settle_and_close.ensures.ends.dev;
  before = c.settle_and_close.ensures.ends.before;
  settles = c.settle_and_close.ensures.ends.settles;
  before_is = c.settle_and_close.ensures.ends.lost_is;
  ends = c.settle_and_close.ensures.ends.ends;
  lost_is = c.settle_and_close.ensures.lost;
}
