use Rattle.std.proofs.Common.{◌∙◌, refl, ap, sym, false}
use Rattle.std.specs.Prelude.{is_some}
use Rattle.eng_cols.specs.Stripes.{states_of}
use Rattle.top_rounds.specs.Labels.{seating_in, with_round}
use Rattle.top_acts.proofs.Counted.{counted-none}
use Rattle.top_acts.proofs.Ended.{clean_lost, closed_lost, kept_loss, left_lost, no_loss}
use Rattle.top_acts.proofs.InTurn.{in_turn-none}
use Rattle.top_acts.proofs.ending.end_labelled.Goals as goal

pub returns-then-is_some-clause-closed : goal.returns-then-is_some-clause-closed
returns-then-is_some-clause-closed g c =
    let label = c.args.label.now in
    let next = c.round.new.label in
    let lost = c.round.new.hand.ending.lost in
    let columns = c.args.hand.now.ending.columns.items in
    let after = c.round.new.hand.ending.columns.items in
    let old = c.args.devices.now in
    let some = kept_loss (g.L.Layout.shape c.args.layout.now) (states_of (g.L.Layout.shape c.args.layout.now) after) c.args.hand.now.ending.lost lost (sym c.is_some.ensures ∙ c.if-is_some.true) c.round.ensures.lost in
    closed_lost g.D.Disk false false lost label next columns columns after old old c.round.new.devices c.requires.array.have.apart (in_turn-none g.D.Disk false columns old) some (counted-none g.D.Disk label columns old)
    (c.round.ensures.label ∙ ap (λ k. with_round label next.counter k (seating_in next)) (clean_lost lost label.clean some)) (λ k d live tells. refl) c.round.ensures.rounds

pub returns-then-is_some-clause-first : goal.returns-then-is_some-clause-first
returns-then-is_some-clause-first g c e = no_loss (ap is_some (sym e) ∙ (sym c.is_some.ensures ∙ c.if-is_some.true))

pub returns-then-is_some-clause-left : goal.returns-then-is_some-clause-left
returns-then-is_some-clause-left g c loss e =
    let y = g.L.Layout.shape c.args.layout.now in
    let r = c.round in
    let after = r.new.hand.ending.columns.items in
    left_lost g.D.Disk y (states_of y after) c.args.label.now r.new.label c.args.hand.now.ending.columns.items after c.args.devices.now r.new.devices c.args.hand.now.ending.lost r.new.hand.ending.lost r.ensures.lost r.ensures.label r.ensures.rounds loss e

pub returns-else-is_some-clause-left : goal.returns-else-is_some-clause-left
returns-else-is_some-clause-left g c loss e = no_loss (sym c.if-is_some.false ∙ (c.is_some.ensures ∙ ap is_some e))
