use Rattle.std.proofs.Common.{refl, inl, true, false, None}
use Rattle.blk_disk.proofs.DeviceLaws.{changes_sector}
use Rattle.top_close.proofs.SettledLaws.{device_within}
use Rattle.top_close.specs.Stage.{DiesIn}
use Rattle.top_rounds.proofs.RoundLaws.{can-after}
use Rattle.top_acts.proofs.Closes.{closed_then}
use Rattle.top_acts.proofs.Counted.{counted-none}
use Rattle.top_acts.proofs.Ended.{closed_lost, counted_settled}
use Rattle.top_acts.proofs.Held.{held_after}
use Rattle.top_acts.proofs.InTurn.{in_turn-none, in_turn-settles}
use Rattle.top_acts.proofs.ending.settle_and_end.Goals as goal
use Rattle.top_rounds.proofs.Words.{IsFirstInUse}

pub write_lost-requires-clause-array : goal.write_lost-requires-clause-array
write_lost-requires-clause-array g c =
    let columns = c.args.hand.now.ending.columns.items in
    let mid = c.settle.new.hand.ending.columns.items in
    let old = c.args.devices.now in
    let dev = c.settle.new.devices in
    let was = counted_settled g.D.Disk c.args.label.now columns mid old dev c.settle.ensures.settled in
    can-after g.D.Disk (DiesIn g.D.Disk None columns old dev) (IsFirstInUse columns) columns mid old dev was.stage.dies was.stage.frame c.requires.array

pub write_lost-requires-clause-held : goal.write_lost-requires-clause-held
write_lost-requires-clause-held g c = held_after c.args.hand.now.ending.columns.items c.settle.new.hand.ending.columns.items c.args.label.now c.settle.ensures.settled.dies.count c.requires.held

pub close-requires-clause-held : goal.close-requires-clause-held
close-requires-clause-held g c = held_after c.args.hand.now.ending.columns.items c.settle.new.hand.ending.columns.items c.args.label.now c.settle.ensures.settled.dies.count c.requires.held

pub close-requires-clause-array : goal.close-requires-clause-array
close-requires-clause-array g c =
    let columns = c.args.hand.now.ending.columns.items in
    let mid = c.settle.new.hand.ending.columns.items in
    let old = c.args.devices.now in
    let dev = c.settle.new.devices in
    let was = counted_settled g.D.Disk c.args.label.now columns mid old dev c.settle.ensures.settled in
    can-after g.D.Disk (DiesIn g.D.Disk None columns old dev) (IsFirstInUse columns) columns mid old dev was.stage.dies was.stage.frame c.requires.array

pub returns-then-is_some-clause-closed : goal.returns-then-is_some-clause-closed
returns-then-is_some-clause-closed g c =
    let label = c.args.label.now in
    let columns = c.args.hand.now.ending.columns.items in
    let mid = c.settle.new.hand.ending.columns.items in
    let old = c.args.devices.now in
    let dev = c.settle.new.devices in
    let w = c.write_lost in
    let was = counted_settled g.D.Disk label columns mid old dev c.settle.ensures.settled in
    closed_lost g.D.Disk false true w.new.hand.ending.lost label w.new.label columns mid w.new.hand.ending.columns.items old dev w.new.devices c.requires.array.have.apart
    (in_turn-settles g.D.Disk columns mid old dev (λ k d live. c.settle.ensures.settled.once k d (device_within columns k d live) live)) w.ensures.lost was w.ensures.label
    (λ k d live tells. changes_sector g.D.Disk (λ _ _. ⊥) old dev d 0 c.settle.ensures.settled.frame tells (λ never. never)) w.ensures.rounds

pub returns-else-is_some-clause-closed : goal.returns-else-is_some-clause-closed
returns-else-is_some-clause-closed g c =
    let label = c.args.label.now in
    let columns = c.args.hand.now.ending.columns.items in
    let mid = c.settle.new.hand.ending.columns.items in
    let old = c.args.devices.now in
    let dev = c.settle.new.devices in
    let was = counted_settled g.D.Disk label columns mid old dev c.settle.ensures.settled in
    closed_then g.D.Disk label label c.close.new.label columns mid c.close.new.hand.ending.columns.items old dev c.close.new.devices was refl false c.close.new.hand.ending.lost c.requires.array.have.apart
    (in_turn-settles g.D.Disk columns mid old dev (λ k d live. c.settle.ensures.settled.once k d (device_within columns k d live) live))
    (λ k d live tells. inl (changes_sector g.D.Disk (λ _ _. ⊥) old dev d 0 c.settle.ensures.settled.frame tells (λ never. never))) c.close.ensures.closed

pub returns-then-is_some-clause-first : goal.returns-then-is_some-clause-first
returns-then-is_some-clause-first g c =
    let label = c.args.label.now in
    let mid = c.settle.new.hand.ending.columns.items in
    let dev = c.settle.new.devices in
    let columns = c.args.hand.now.ending.columns.items in
    let old = c.args.devices.now in
    let was = counted_settled g.D.Disk label columns mid old dev c.settle.ensures.settled in
    let w = c.write_lost in
    record {
      mid = mid;
      dev = dev;
      settles = c.settle.ensures.settled;
      closes =
          closed_lost g.D.Disk true true w.new.hand.ending.lost label w.new.label mid mid w.new.hand.ending.columns.items dev dev w.new.devices (can-after g.D.Disk (DiesIn g.D.Disk None columns old dev) (IsFirstInUse columns) columns mid old dev was.stage.dies was.stage.frame c.requires.array).have.apart
          (in_turn-none g.D.Disk true mid dev) w.ensures.lost (counted-none g.D.Disk label mid dev) w.ensures.label (λ k d live tells. refl) w.ensures.rounds;
    }

pub returns-else-is_some-clause-first : goal.returns-else-is_some-clause-first
returns-else-is_some-clause-first g c = record {
  mid = c.settle.new.hand.ending.columns.items;
  dev = c.settle.new.devices;
  settles = c.settle.ensures.settled;
  closes = c.close.ensures.closed;
}
