use Rattle.std.proofs.Common.{◌∙◌, ap, length, None, subst, sym}
use Rattle.eng_cols.specs.Settable.{IsSettable}
use Rattle.raid_map.specs.Marking.{CanBeMarked}
use Rattle.raid_map.specs.Reading.{AreRead}
use Rattle.top_close.specs.Stage.{DiesIn}
use Rattle.top_rounds.specs.Labels.{given_up}
use Rattle.top_rounds.specs.Rounds.{in_end}
use Rattle.top_rounds.proofs.RoundLaws.{any_death, given_death, whole_slice}
use Rattle.top_acts.specs.Begun.{CanAct}
use Rattle.top_acts.proofs.Having.{marks_of}
use Rattle.top_acts.proofs.Looked.{acts_given, acts_read, read_dies}
use Rattle.top_acts.proofs.maps.look_at_maps.Goals as goal

pub read_maps-requires : goal.read_maps-requires
read_maps-requires g c = subst (λ l. CanBeMarked g.D.Disk l c.args.devices.now) (sym c.as_mut_slice.ensures.value) (marks_of g.D.Disk (g.L.Layout.shape c.args.layout.now) c.args.hand.now.ending.columns.items c.args.devices.now c.requires.can)

pub judge_end-requires-clause-columns : goal.judge_end-requires-clause-columns
judge_end-requires-clause-columns g c =
    let y = g.L.Layout.shape c.args.layout.now in
    let e = c.args.hand.now.ending in
    let columns = e.columns.items in
    let r = c.read_maps in
    let old = c.args.devices.now in
    let own = sym e.columns.ok.0 in
    let same = whole_slice e.columns.len r.new.columns columns own (r.auto.columns ∙ (ap length c.as_mut_slice.ensures.value ∙ own)) in
    let reads = subst (λ l. AreRead g.D.Disk (length l) l r.new.columns old r.new.devices) c.as_mut_slice.ensures.value r.ensures.read in
    let dies = any_death (DiesIn g.D.Disk None columns old r.new.devices) columns r.new.columns (read_dies g.D.Disk y columns r.new.columns old r.new.devices reads) in
    subst (IsSettable y) (sym same) (acts_read g.D.Disk y columns r.new.columns old r.new.devices (c.deaths_bring_no_unit_back.ensures.filling columns r.new.columns dies) (c.deaths_bring_no_unit_back.ensures.spread columns r.new.columns dies) reads c.requires.can).settable

pub returns-clause-looks : goal.returns-clause-looks
returns-clause-looks g c =
    let y = g.L.Layout.shape c.args.layout.now in
    let e = c.args.hand.now.ending in
    let r = c.read_maps in
    let own = sym e.columns.ok.0 in
    let same = whole_slice e.columns.len r.new.columns e.columns.items own (r.auto.columns ∙ (ap length c.as_mut_slice.ensures.value ∙ own)) in
    record {
      any = r.result;
      read = r.new.columns;
      reads = subst (λ l. AreRead g.D.Disk (length l) l r.new.columns c.args.devices.now r.new.devices) c.as_mut_slice.ensures.value r.ensures.read;
      grows = r.ensures.grows;
      union_is = λ told. r.ensures.union told y (sym c.requires.map);
      after_is = c.judge_end.ensures.columns ∙ ap (in_end c.judge_end.new.hand.ending.lost) same;
      lost_is = c.judge_end.ensures.lost;
    }

pub returns-clause-can : goal.returns-clause-can
unfolding returns-clause-looks
returns-clause-can g c =
    let y = g.L.Layout.shape c.args.layout.now in
    let e = c.args.hand.now.ending in
    let columns = e.columns.items in
    let r = c.read_maps in
    let read = r.new.columns in
    let old = c.args.devices.now in
    let lost = c.judge_end.new.hand.ending.lost in
    let looks = returns-clause-looks g c in
    let dies = any_death (DiesIn g.D.Disk None columns old r.new.devices) columns read (read_dies g.D.Disk y columns read old r.new.devices looks.reads) in
    let can = acts_read g.D.Disk y columns read old r.new.devices (c.deaths_bring_no_unit_back.ensures.filling columns read dies) (c.deaths_bring_no_unit_back.ensures.spread columns read dies) looks.reads c.requires.can in
    subst (λ l. CanAct g.D.Disk y l r.new.devices) (sym looks.after_is)
    (acts_given g.D.Disk y lost read r.new.devices (c.deaths_bring_no_unit_back.ensures.filling read (given_up read) (given_death read)) (c.deaths_bring_no_unit_back.ensures.spread read (given_up read) (given_death read)) can)
