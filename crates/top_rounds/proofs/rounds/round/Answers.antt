use Rattle.std.proofs.Common.{◌≡◌, ◌∙◌, ℕ, ap, length, Some, subst, sym, true, false}
use Rattle.std.specs.Prelude.{is_some}
use Rattle.std.proofs.lemmas.List.{length-map}
use Rattle.raid_label.specs.declared.label.Label.{Label}
use Rattle.top_rounds.specs.Labels.{given_up, seating_in, unless_filling}
use Rattle.eng_cols.specs.declared.spot.Loss.{Loss}
use Rattle.eng_cols.specs.Stripes.{states_of}
use Rattle.top_close.specs.Ended.{IsLossBy}
use Rattle.top_rounds.specs.Rounds.{AreRounds, HaveRounds}
use Rattle.top_rounds.proofs.RoundLaws.{gives_up, no_loss_of, none_given_in, rounds_are, rounds_there, tried-none, whole_slice}
use Rattle.top_rounds.proofs.rounds.round.Goals as goal
use Rattle.eng_cols.specs.Cols.{HasDeviceOn}

pub returns-then-is_some-clause-rounds : goal.returns-then-is_some-clause-rounds
returns-then-is_some-clause-rounds g c =
    let e = c.args.hand.now.ending in
    let is = c.last_round.ensures.label in
    let old = c.as_mut_slice-columns.result.now in
    let new = c.last_round.new.columns in
    let value : old ≡ e.columns.items = c.as_mut_slice-columns.ensures.value in
    let own : length e.columns.items ≡ e.columns.len = sym e.columns.ok.0 in
    let same = whole_slice e.columns.len new e.columns.items own (c.last_round.ensures.pass.dies.count ∙ (length-map old unless_filling ∙ (ap length value ∙ own))) in
    let some : is_some e.lost ≡ true = cc in
    let apart : (k m d : ℕ) → HasDeviceOn old k d → HasDeviceOn old m d → k ≡ m = subst (λ l. (k m d : ℕ) → HasDeviceOn l k d → HasDeviceOn l m d → k ≡ m) (sym value) c.requires.array.have.apart in
    let are : (l : Loss) → e.lost ≡ Some l → AreRounds g.D.Disk (Some l) c.args.label.now c.last_round.new.label old (given_up old) new c.args.devices.now c.last_round.new.devices = λ l is-lost. rounds_are g.D.Disk (Some l) c.args.label.now c.args.label.now c.last_round.new.label old old (given_up old) new c.args.devices.now c.args.devices.now c.last_round.new.devices
    (tried-none g.D.Disk c.args.label.now old c.args.devices.now) (gives_up l old) _ c.last_round.ensures.pass apart (sym (length-map old unless_filling)) (ap (λ (l : Label). l.counter) is) (ap seating_in is) (none_given_in (Some l) old) in
    subst (λ l. HaveRounds g.D.Disk e.lost c.args.label.now c.last_round.new.label e.columns.items l c.args.devices.now c.last_round.new.devices) (sym same)
    (subst (λ l. HaveRounds g.D.Disk e.lost c.args.label.now c.last_round.new.label l new c.args.devices.now c.last_round.new.devices) value
    (rounds_there g.D.Disk e.lost c.args.label.now c.last_round.new.label old (given_up old) new c.args.devices.now c.last_round.new.devices some are))

pub returns-else-is_some-clause-lost : goal.returns-else-is_some-clause-lost
returns-else-is_some-clause-lost g c =
    let y = g.L.Layout.shape c.args.layout.now in
    let e = c.args.hand.now.ending in
    let r = c.rounds_of_kept-hand in
    let value = ap length c.as_mut_slice-columns.ensures.value in
    let own : length e.columns.items ≡ e.columns.len = sym e.columns.ok.0 in
    let same = whole_slice e.columns.len r.new.columns e.columns.items own (r.auto.columns ∙ (value ∙ own)) in
    let none : is_some e.lost ≡ false = cc in
    subst (λ l. IsLossBy y e.lost (states_of y l) r.result) (sym same)
    (subst (λ o. IsLossBy y o (states_of y r.new.columns) r.result) (sym (no_loss_of e.lost none)) r.ensures.lost)
