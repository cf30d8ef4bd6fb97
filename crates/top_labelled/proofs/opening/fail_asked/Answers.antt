use Rattle.std.proofs.Common.{List, length, sym, ◌∙◌, subst}
use Rattle.eng_cols.specs.declared.column.Column.{Column}
use Rattle.top_acts.specs.Failed.{EndsFailed}
use Rattle.top_labelled.specs.Begun.{without}
use Rattle.top_labelled.proofs.Alone.{without-is}
use Rattle.top_labelled.proofs.Opened.{not-failed}
use Rattle.top_labelled.proofs.Without.{anew-alone, anew-within, without-anew, without-none}
use Rattle.top_labelled.proofs.opening.fail_asked.Goals as goal

pub fail_column-requires-clause-within : goal.fail_column-requires-clause-within
fail_column-requires-clause-within g c = anew-within c.args.start (length c.args.hand.now.ending.columns.items) c.in-Some.column (sym c.anew.ensures ∙ c.in-Some.is) c.requires.within

pub returns-in-Some-clause-ends : goal.returns-in-Some-clause-ends
returns-in-Some-clause-ends g c =
    let columns = c.args.hand.now.ending.columns.items in
    let col = c.in-Some.column in
    let is = sym c.anew.ensures ∙ c.in-Some.is in
    let within = anew-within c.args.start (length columns) col is c.requires.within in
    let e = c.fail_column.ensures.ends in
    subst (λ (cs : List Column). EndsFailed g.D.Disk c.args.hand.now.ending.lost c.fail_column.new.hand.ending.lost c.args.label.now c.fail_column.new.label cs c.fail_column.new.hand.ending.columns.items c.args.devices.now c.fail_column.new.devices)
    (without-is (g.L.Layout.shape c.args.layout.now) columns e.0 col e.1 within (anew-alone c.args.start columns col is c.requires.alone) ∙ sym (without-anew c.args.start columns col is)) e.2

pub returns-in-None-clause-ends : goal.returns-in-None-clause-ends
returns-in-None-clause-ends g c =
    not-failed g.D.Disk c.args.label.now c.args.hand.now.ending.columns.items (without c.args.start c.args.hand.now.ending.columns.items) c.args.devices.now
    (without-none c.args.start c.args.hand.now.ending.columns.items (sym c.anew.ensures ∙ c.in-None.is)) c.args.hand.now.ending.lost
