use Rattle.std.proofs.Common.{◌∙◌, sym, length, subst, arith, List}
use Rattle.std.specs.Prelude.{All}
use Rattle.std.proofs.lemmas.List.{length-map}
use Rattle.blk_disk.proofs.DeviceLaws.{changes-refl}
use Rattle.eng_cols.specs.declared.column.Column.{Column}
use Rattle.top_close.specs.Dying.{AnyCause}
use Rattle.top_rounds.specs.Labels.{IsLabelFor, IsNumbered, given_up, unless_filling}
use Rattle.top_rounds.specs.Passes.{CanBeLabelled}
use Rattle.top_rounds.proofs.RoundLaws.{can-after, given_death}
use Rattle.top_rounds.proofs.pass.last_round.Goals as goal

pub write_all-requires-clause-array : goal.write_all-requires-clause-array
write_all-requires-clause-array g c =
    let columns = c.args.columns.now in
    let devices = c.args.devices.now in
    subst (λ (l : List Column). CanBeLabelled g.D.Disk l devices) (sym c.give_up.ensures)
    (can-after g.D.Disk AnyCause (λ _ _. ⊥) columns (given_up columns) devices devices (given_death columns) (changes-refl g.D.Disk (λ _ _. ⊥) devices) c.requires.array)

pub begin-requires-clause-numbered : goal.begin-requires-clause-numbered
begin-requires-clause-numbered g c =
    let columns = c.args.columns.now in
    let devices = c.args.devices.now in
    let can = can-after g.D.Disk AnyCause (λ _ _. ⊥) columns (given_up columns) devices devices (given_death columns) (changes-refl g.D.Disk (λ _ _. ⊥) devices) c.requires.array in
    subst (λ (l : List Column). All (IsNumbered (length l)) l) (sym c.give_up.ensures) can.numbered

pub begin-requires-clause-held : goal.begin-requires-clause-held
begin-requires-clause-held g c =
    let h = c.requires.held.held in
    subst (λ (l : List Column). IsLabelFor l (record c.args.label.now { clean = 0 })) (sym c.give_up.ensures)
    (record {
      held = record { version = h.version; clean = omega arith; filling = h.filling; done = h.done; first = h.first };
      count = c.requires.held.count ∙ sym (length-map c.args.columns.now unless_filling);
    })
