use Rattle.std.proofs.Common.{◌≡◌, List, Option, length, refl, sym, ◌∙◌, ap, subst, arith, ℕ, Some, None}
use Rattle.std.specs.Prelude.{option_map, slice_get}
use Rattle.lay_core.specs.Layout.{Shape}
use Rattle.eng_cols.specs.declared.column.Column.{Column}
use Rattle.eng_cols.specs.declared.spot.Loss.{Loss}
use Rattle.eng_array.specs.declared.start.Start.{Start}
use Rattle.eng_array.specs.Starts.{column_of}
use Rattle.top_run.specs.Work.{Service}
use Rattle.top_run.specs.declared.service.Line.{Line}
use Rattle.top_run.specs.declared.service.Told.{Told}
use Rattle.top_run.proofs.Settled.{lent-back}
use Rattle.top_labelled.specs.Between.{HasEnded}
use Rattle.top_labelled.specs.Words.{line_at_end, line_kept, line_of}
use Rattle.top_labelled.proofs.Ending.{told-once}
use Rattle.top_labelled.proofs.Steps.{ended-so}
use Rattle.top_labelled.proofs.closing.ended.Goals as goal

-- the line is told at once
line-is : (y : Shape) (start : Option Start) (device : Option ℕ) (kept : List Column) (lost : Option Loss) → line_at_end lost (line_kept y start device kept) ≡ line_of y start device kept lost
line-is y None device kept lost = refl
line-is y (Some how) device kept lost =
    let line : Told → Line = λ t. record { column = column_of how; device = device; told = t } in
    ap (λ (t : Told). Some (line t)) (told-once y kept lost (column_of how) (slice_get kept (column_of how)))

pub returns : goal.returns
returns g c =
    let devices = c.args.closed.devices in
    let new = c.end_mapped.new.devices in
    let lost = c.end_mapped.new.hand.ending.lost in
    let columns = c.args.closed.columns.items in
    let a : length new ≡ devices.len = omega (arith, c.end_mapped.auto.devices, ap length c.as_mut_slice-slice.ensures.value, c.as_mut_slice-slice.ensures.len) in
    let kept = subst (λ (cs : List Column). c.line_kept-line.result ≡ line_kept (g.L.Layout.shape c.args.closed.layout) c.args.asked c.args.device cs) c.deref.ensures.value c.line_kept-line.ensures in
    let line = c.line_at_end-line.ensures ∙ (ap (λ (l : Option Line). line_at_end lost l) kept ∙ line-is (g.L.Layout.shape c.args.closed.layout) c.args.asked c.args.device columns lost) in
    let v : Service = record {
      clients = c.args.closed.clients.items;
      replies = c.args.closed.replies.items;
      sectors = c.args.closed.sectors;
      history = c.args.closed.history.items;
      trace = c.args.closed.trace.items;
      line = c.line_at_end-line.result;
      ending = record { columns = c.end_mapped.new.hand.ending.columns.items; lost = lost };
    } in
    let clear = option_map (λ m. m.now) c.args.clear in
    subst (λ back. HasEnded g.L.Layout g.D.Disk c.args.closed c.args.label clear c.args.asked c.args.device v back) (sym (lent-back devices.items new devices.len a))
    (ended-so g.L.Layout g.D.Disk c.args.closed c.args.label c.end_mapped.new.label clear c.args.asked c.args.device v c.as_mut_slice-slice.result.now new refl line c.as_mut_slice-slice.ensures.value c.end_mapped.ensures.ends c.end_mapped.ensures.first c.end_mapped.ensures.left c.end_mapped.ensures.steps c.end_mapped.ensures.lost)
