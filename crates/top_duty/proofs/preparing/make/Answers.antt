use Rattle.std.specs.Prelude.{◌≡◌, ◌<◌, ◌≤◌, ℕ, Some, List, length}
use Rattle.std.proofs.Common.{◌∙◌, ap, arith, subst, sym}
use Rattle.lay_core.specs.Layout.{Shape, blocks_in}
use Rattle.eng_array.specs.Starts.{column_of}
use Rattle.eng_cols.specs.Cols.{IsFor}
use Rattle.eng_cols.specs.declared.column.Column.{Column}
use Rattle.raid_conf.specs.Layouts.{shape_in, shape_lawful, shape_of}
use Rattle.raid_conf.proofs.TableLaws.{shape-columns, shape-unit}
use Rattle.top_bay.specs.Views.{asked_seen}
use Rattle.top_open.specs.declared.plan.Needs.{Needs}
use Rattle.top_open.specs.Opening.{opened_seen}
use Rattle.top_words.specs.Views.{action_seen}
use Rattle.top_duty.specs.Opening.{needs_of}
use Rattle.top_duty.specs.Views.{drawn_by, views_of}
use Rattle.top_duty.proofs.Tables.{few_blocks, some_blocks}
use Rattle.top_duty.proofs.Wanting.{after_if, done_if, goes_same, if_same}
use Rattle.top_duty.proofs.preparing.make.Goals as goal

pub join_unless_refused-requires-clause-columns : goal.join_unless_refused-requires-clause-columns
join_unless_refused-requires-clause-columns c =
    ap (λ (l : List Column). length l) c.deref.ensures.value
    ∙ (c.requires.columns ∙ (sym (shape-columns c.args.asked.now.conf c.args.opened.now.rows c.requires.asked.conf) ∙ sym (ap (λ (y : Shape). y.columns) c.in-Ok.ensures.shape)))

pub join_unless_refused-requires-clause-dead : goal.join_unless_refused-requires-clause-dead
join_unless_refused-requires-clause-dead c = λ i e.
    let is : (needs_of (asked_seen c.args.asked.now)).excused ≡ Some i = sym (ap (λ (q : Needs). q.excused) c.needs_of-dead.ensures) ∙ e in
    let lt : i < c.args.asked.now.conf.columns = c.requires.dead i is in
    omega (arith, lt, c.requires.columns, ap (λ (l : List Column). length l) c.deref.ensures.value)

pub draw-requires-clause-blocks : goal.draw-requires-clause-blocks
draw-requires-clause-blocks c = subst (λ (n : ℕ). 0 < n) (sym c.blocks-2.ensures) (some_blocks (shape_in c.in-Ok.layout) (shape_lawful c.in-Ok.layout))

pub draw-requires-clause-most : goal.draw-requires-clause-most
draw-requires-clause-most c = subst (λ (n : ℕ). n ≤ 4294967296) (sym c.blocks-2.ensures) (few_blocks (shape_in c.in-Ok.layout) (shape_lawful c.in-Ok.layout))

pub join_unless_refused-requires-clause-few : goal.join_unless_refused-requires-clause-few
join_unless_refused-requires-clause-few c = omega (arith, c.requires.columns, c.requires.asked.conf.columns_most, ap (λ (l : List Column). length l) c.deref.ensures.value)

pub join_unless_refused-requires-clause-start : goal.join_unless_refused-requires-clause-start
join_unless_refused-requires-clause-start c = λ s e.
    let lt : column_of s < c.args.asked.now.conf.columns = c.requires.start s e in
    omega (arith, lt, c.requires.columns, ap (λ (l : List Column). length l) c.deref.ensures.value)

pub returns-in-Err-join_unless_refused-clause-refused : goal.returns-in-Err-join_unless_refused-clause-refused
returns-in-Err-join_unless_refused-clause-refused c =
    let k = asked_seen c.args.asked.now in
    let z = shape_of c.args.asked.now.conf c.args.opened.now.rows in
    after_if k (opened_seen c.args.opened.now) c.args.start c.requires.named c.in-Err-join_unless_refused.status
    (if_same _ z k c.needs_of-dead.result.excused (needs_of k).excused c.deref.result.now c.args.opened.now.columns.items c.args.start
    c.in-Ok.ensures.shape (ap (λ (q : Needs). q.excused) c.needs_of-dead.ensures) c.deref.ensures.value c.in-Err-join_unless_refused.status c.in-Err-join_unless_refused.ensures.refused)

pub returns-in-Ok-room_for-clause-may : goal.returns-in-Ok-room_for-clause-may
returns-in-Ok-room_for-clause-may c =
    let k = asked_seen c.args.asked.now in
    let z = shape_of c.args.asked.now.conf c.args.opened.now.rows in
    let views = views_of c.in-Ok-join_unless_refused.joined.items in
    done_if k (opened_seen c.args.opened.now) c.args.start c.requires.named views
    (goes_same _ z k c.needs_of-dead.result.excused (needs_of k).excused c.deref.result.now c.args.opened.now.columns.items c.args.start
    c.in-Ok.ensures.shape (ap (λ (q : Needs). q.excused) c.needs_of-dead.ensures) c.deref.ensures.value views c.in-Ok-join_unless_refused.ensures.goes)

pub returns-in-Ok-room_for-clause-made : goal.returns-in-Ok-room_for-clause-made
returns-in-Ok-room_for-clause-made c = record {
  shape = c.in-Ok.ensures.shape;
  drawn = c.in-Ok-draw.ensures.value ∙ ap (λ (n : ℕ). drawn_by (action_seen c.args.asked.now.command.action) n) (c.blocks-2.ensures ∙ ap (λ (y : Shape). blocks_in y) c.in-Ok.ensures.shape);
  asked = c.in-Ok-draw.ensures.asked;
  few = c.in-Ok-draw.ensures.few;
  judge = subst (λ (y : Shape). IsFor y c.join_unless_refused.new.judge) c.in-Ok.ensures.shape c.join_unless_refused.ensures.judge;
  room = omega (arith, c.in-Ok-room_for.ensures.room, shape-unit c.args.asked.now.conf c.args.opened.now.rows c.requires.asked.conf);
}
