use Rattle.std.specs.Prelude.{◌≡◌, ◌⊎◌, List, Ok, Err, length}
use Rattle.std.proofs.Common.{◌∙◌, ap, inl, inr, sym}
use Rattle.eng_cols.specs.declared.column.Column.{Column}
use Rattle.raid_conf.specs.Layouts.{shape_of}
use Rattle.top_bay.specs.Views.{asked_seen}
use Rattle.top_open.specs.declared.fault.OpenFault.TheVariants as fault
use Rattle.top_open.specs.Opening.{Opened, opened_seen}
use Rattle.top_rounds.proofs.RoundLaws.{whole_slice}
use Rattle.top_status.specs.Refusals.{only}
use Rattle.top_duty.specs.Opening.{filling_at, fronted_by, opened_by, status_of}
use Rattle.top_duty.specs.Steps.{left_at}
use Rattle.top_duty.proofs.Deadened.{left_length}
use Rattle.top_duty.proofs.Opens.{opened_is, opened_not}
use Rattle.top_duty.proofs.opening.open.Goals as goal

pub judge_filling-requires-clause-entries : goal.judge_filling-requires-clause-entries
judge_filling-requires-clause-entries c = ap (λ (l : List Column). length l) c.as_mut_slice.ensures.value ∙ c.in-Ok.ensures.columns

pub returns-in-Err : goal.returns-in-Err
returns-in-Err c = go c.in-Err.ensures.opened
  where
    go : (c.in-Err.fault ≡ fault.Memory) ⊎ (fronted_by (asked_seen c.args.asked.now) c.args.sizes.now c.args.fronts.now ≡ Err (only (status_of c.in-Err.fault)))
        → (c.in-Err.fault ≡ fault.Memory) ⊎ (opened_by (asked_seen c.args.asked.now) c.args.sizes.now c.args.fronts.now ≡ Err (only (status_of c.in-Err.fault)))
    go (inl memory) = inl memory
    go (inr h) = inr (opened_not (asked_seen c.args.asked.now) c.args.sizes.now c.args.fronts.now (only (status_of c.in-Err.fault)) h)

pub returns-in-Ok-judge_filling : goal.returns-in-Ok-judge_filling
returns-in-Ok-judge_filling c =
    let k = asked_seen c.args.asked.now in
    let f : Opened = opened_seen c.in-Ok.opened in
    let y = shape_of c.args.asked.now.conf f.rows in
    let columns = c.in-Ok.opened.columns in
    let new = c.judge_filling.new.columns in
    let value = c.as_mut_slice.ensures.value in
    let judged : new ≡ left_at y f.columns (filling_at f.columns) = c.in-Ok-judge_filling.ensures.judged ∙ ap (λ (l : List Column). left_at y l (filling_at l)) value in
    let own : length columns.items ≡ columns.len = sym columns.ok.0 in
    let many : length new ≡ columns.len = ap (λ (l : List Column). length l) judged ∙ (left_length y f.columns (filling_at f.columns) ∙ own) in
    opened_is k c.args.sizes.now c.args.fronts.now f c.in-Ok.ensures.opened
    ∙ ap (λ (l : List Column). Ok (record f { columns = l })) (sym (whole_slice columns.len new columns.items own many ∙ judged))
