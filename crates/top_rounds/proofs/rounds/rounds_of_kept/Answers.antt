use Rattle.std.proofs.Common.{◌∙◌, ap, arith, refl, sym, Some}
use Rattle.std.proofs.lemmas.List.{length-map}
use Rattle.eng_cols.specs.Lost.{NotLost}
use Rattle.eng_cols.proofs.DeathLaws.{dies-then}
use Rattle.raid_label.specs.declared.label.Label.{Label}
use Rattle.top_close.specs.Dying.{AnyCause}
use Rattle.top_close.proofs.DyingLaws.{dies_unfilled}
use Rattle.eng_cols.specs.Stripes.{states_of}
use Rattle.top_rounds.specs.Labels.{given_up, seating_in, unless_filling, with_round}
use Rattle.top_rounds.proofs.RoundLaws.{any_death, can-after, given_death, gives_up, lost_clean, none_given_in, none_left, round_again, rounds_are, rounds_lost, settable_after}
use Rattle.top_rounds.proofs.rounds.rounds_of_kept.Goals as goal
use Rattle.top_rounds.proofs.Words.{IsFirstInUse}
use Rattle.eng_cols.specs.Deaths.{LosesDevice}

pub last_round-requires-clause-array : goal.last_round-requires-clause-array
last_round-requires-clause-array g c =
    let t = c.if-try_rounds.ensures.tried refl in
    can-after g.D.Disk (LosesDevice g.D.Disk c.args.columns.now c.args.devices.now c.try_rounds.new.devices) (IsFirstInUse c.args.columns.now) c.args.columns.now c.try_rounds.new.columns c.args.devices.now c.try_rounds.new.devices t.dies t.frame c.requires.array

pub loss_of-requires-clause-columns : goal.loss_of-requires-clause-columns
loss_of-requires-clause-columns g c =
    let t = c.if-try_rounds.ensures.tried refl in
    let old = c.args.columns.now in
    let mid = c.try_rounds.new.columns in
    let new = c.last_round.new.columns in
    let behind = dies-then AnyCause mid (given_up mid) new (given_death mid) (any_death _ _ _ c.last_round.ensures.pass.dies) in
    let dies = dies-then AnyCause old mid new (any_death _ _ _ t.dies) behind in
    settable_after (g.L.Layout.shape c.args.layout.now) old new dies (c.deaths_bring_no_unit_back.ensures.filling old new dies) (c.deaths_bring_no_unit_back.ensures.spread old new dies) c.requires.columns

pub returns-clause-label : goal.returns-clause-label
returns-clause-label g c =
    let y = g.L.Layout.shape c.args.layout.now in
    let t = c.if-try_rounds.ensures.tried refl in
    let mid = c.try_rounds.new.columns in
    let new = c.last_round.new.columns in
    let behind = dies-then AnyCause mid (given_up mid) new (given_death mid) (any_death _ _ _ c.last_round.ensures.pass.dies) in
    let apart = dies_unfilled AnyCause mid new behind (none_left _ mid new c.last_round.ensures.pass.dies) in
    let die = c.deaths_bring_no_unit_back.ensures.columns y mid new behind apart (omega (arith, c.deaths_bring_no_unit_back.ensures.filling c.args.columns.now mid (any_death _ _ _ t.dies), c.requires.columns.filling)) in
    let lost : NotLost y (states_of y new) → ⊥ = λ kept. c.if-try_rounds.ensures.lost refl (c.deaths_bring_no_unit_back.ensures.lost y (states_of y mid) (states_of y new) die kept) in
    round_again c.args.label.now c.try_rounds.new.label c.last_round.new.label c.args.label.now.clean _ 0 _ c.if-try_rounds.ensures.label c.last_round.ensures.label
    ∙ ap (λ k. with_round c.args.label.now c.last_round.new.label.counter k (seating_in c.last_round.new.label)) (lost_clean y (states_of y new) c.loss_of.result c.args.label.now.clean c.loss_of.ensures.lost lost)

pub returns-clause-rounds : goal.returns-clause-rounds
returns-clause-rounds g c =
    let y = g.L.Layout.shape c.args.layout.now in
    let t = c.if-try_rounds.ensures.tried refl in
    let mid = c.try_rounds.new.columns in
    let new = c.last_round.new.columns in
    let behind = dies-then AnyCause mid (given_up mid) new (given_death mid) (any_death _ _ _ c.last_round.ensures.pass.dies) in
    let apart = dies_unfilled AnyCause mid new behind (none_left _ mid new c.last_round.ensures.pass.dies) in
    let die = c.deaths_bring_no_unit_back.ensures.columns y mid new behind apart (omega (arith, c.deaths_bring_no_unit_back.ensures.filling c.args.columns.now mid (any_death _ _ _ t.dies), c.requires.columns.filling)) in
    let lost : NotLost y (states_of y new) → ⊥ = λ kept. c.if-try_rounds.ensures.lost refl (c.deaths_bring_no_unit_back.ensures.lost y (states_of y mid) (states_of y new) die kept) in
    let is = c.last_round.ensures.label in
    rounds_lost g.D.Disk y (states_of y new) c.loss_of.result c.args.label.now c.last_round.new.label c.args.columns.now (given_up mid) new c.args.devices.now c.last_round.new.devices c.loss_of.ensures.lost lost
    (λ l e. rounds_are g.D.Disk (Some l) c.args.label.now c.try_rounds.new.label c.last_round.new.label c.args.columns.now mid (given_up mid) new c.args.devices.now c.try_rounds.new.devices c.last_round.new.devices t (gives_up l mid) _ c.last_round.ensures.pass c.requires.array.have.apart
    (sym (length-map mid unless_filling)) (ap (λ (l : Label). l.counter) is) (ap seating_in is) (none_given_in (Some l) mid))
