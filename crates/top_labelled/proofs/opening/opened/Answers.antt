use Rattle.std.proofs.Common.{Bool, None, ◌∙◌, ap, subst, sym, arith}
use Rattle.std.specs.Prelude.{◌&&◌, ◌||◌, not, if◌then◌else◌}
use Rattle.top_close.specs.Dying.{AnyCause}
use Rattle.top_labelled.specs.Begun.{IsColumnWithin, is_in_place, sweeps_in}
use Rattle.top_labelled.specs.Words.{notice_in}
use Rattle.top_labelled.proofs.Openings.{begins-bounded, begins-die}
use Rattle.top_labelled.proofs.Without.{alone-later}
use Rattle.top_labelled.proofs.opening.opened.Goals as goal

pub fail_asked-requires-clause-within : goal.fail_asked-requires-clause-within
fail_asked-requires-clause-within g c =
    let b = c.begin_unless_lost in
    let columns = c.args.hand.now.ending.columns.items in
    let mid = b.new.hand.ending.columns.items in
    let dies = begins-die g.D.Disk (notice_in c.args.asked.keeps c.args.maps.now.marks) (sweeps_in c.args.label.now c.args.maps.now.union) (g.L.Layout.shape c.args.layout.now) c.args.label.now b.new.label columns mid c.args.devices.now b.new.devices b.new.hand.ending.lost
    b.ensures.begun.0 c.args.hand.now.ending.lost b.ensures.begun.1 in
    subst (λ n. IsColumnWithin c.args.asked.start n) (sym dies.count) c.requires.within

pub fail_asked-requires-clause-alone : goal.fail_asked-requires-clause-alone
fail_asked-requires-clause-alone g c =
    let b = c.begin_unless_lost in
    let columns = c.args.hand.now.ending.columns.items in
    let mid = b.new.hand.ending.columns.items in
    let dies = begins-die g.D.Disk (notice_in c.args.asked.keeps c.args.maps.now.marks) (sweeps_in c.args.label.now c.args.maps.now.union) (g.L.Layout.shape c.args.layout.now) c.args.label.now b.new.label columns mid c.args.devices.now b.new.devices b.new.hand.ending.lost
    b.ensures.begun.0 c.args.hand.now.ending.lost b.ensures.begun.1 in
    alone-later c.args.asked.start AnyCause columns mid dies c.requires.alone

pub fail_asked-requires-clause-counter : goal.fail_asked-requires-clause-counter
fail_asked-requires-clause-counter g c =
    let b = c.begin_unless_lost in
    let bound = begins-bounded g.D.Disk (notice_in c.args.asked.keeps c.args.maps.now.marks) (sweeps_in c.args.label.now c.args.maps.now.union) (g.L.Layout.shape c.args.layout.now) c.args.label.now b.new.label c.args.hand.now.ending.columns.items b.new.hand.ending.columns.items
    c.args.devices.now b.new.devices b.new.hand.ending.lost b.ensures.begun.0 c.args.hand.now.ending.lost b.ensures.begun.1 in
    omega (arith, bound, c.requires.counter)

pub returns-clause-opened : goal.returns-clause-opened
returns-clause-opened g c =
    let b = c.begin_unless_lost in
    let asked = c.args.asked in
    record {
      opened = b.new.devices;
      begun = b.new.hand.ending.columns.items;
      first = b.new.label;
      before = b.new.hand.ending.lost;
      found = b.ensures.begun.0;
      has = b.ensures.begun.1;
      was_lost = b.ensures.lost;
      fails = c.fail_asked.ensures.ends;
      lost_is = c.fail_asked.ensures.lost;
      began_is = c.unless_failed.ensures ∙ ap (λ (is : Bool). if asked.failed || (asked.was_in_place && not is) then None else asked.start) (c.is_in_place-is.ensures ∙ ap (is_in_place asked.start) c.deref.ensures.value);
    }
