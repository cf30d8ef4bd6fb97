use Rattle.std.proofs.Common.{◌≡◌, ◌∙◌, refl, ap, subst, sym, true, false, arith, None}
use Rattle.std.proofs.lemmas.Bool.{eqb-true, eq-eqb}
use Rattle.eng_cols.specs.Stripes.{states_of}
use Rattle.top_close.specs.Ended.{IsLossBy}
use Rattle.top_rounds.specs.Labels.{seating_in, with_round}
use Rattle.top_close.specs.Stage.{DiesIn, device_count}
use Rattle.top_rounds.specs.Rounds.{HaveRounds, clean_in_end}
use Rattle.top_rounds.proofs.RoundLaws.{can-after}
use Rattle.top_acts.proofs.Counted.{counted-none, counted_rounds}
use Rattle.top_acts.proofs.Ended.{clean_lost, closed_lost, rounds_of}
use Rattle.top_acts.proofs.Held.{held_after}
use Rattle.top_acts.proofs.InTurn.{in_turn-none}
use Rattle.top_acts.proofs.Tried.{none_of, tried}
use Rattle.top_acts.proofs.closing.try_close.Goals as goal
use Rattle.top_rounds.proofs.Words.{IsFirstInUse}

pub returns-clause-tried : goal.returns-clause-tried
returns-clause-tried g c =
    let y = g.L.Layout.shape c.args.layout.now in
    let label = c.args.label.now in
    let next = c.round.new.label in
    let columns = c.args.hand.now.ending.columns.items in
    let mid = c.round.new.hand.ending.columns.items in
    let after = c.settle.new.hand.ending.columns.items in
    let old = c.args.devices.now in
    let dev = c.round.new.devices in
    let none : c.round.new.hand.ending.lost ≡ None = none_of c.round.new.hand.ending.lost (sym c.is_some.ensures ∙ c.if-is_some.false) in
    let rounds = subst (λ o. HaveRounds g.D.Disk o label next columns mid old dev) none c.round.ensures.rounds in
    let kept = subst (λ o. IsLossBy y None (states_of y mid) o) none c.round.ensures.lost in
    let is = c.round.ensures.label ∙ ap (λ k. with_round label next.counter k (seating_in next)) (ap (λ o. clean_in_end o label.clean) none) in
    let can = can-after g.D.Disk (DiesIn g.D.Disk None columns old dev) (IsFirstInUse columns) columns mid old dev rounds.began rounds.frame c.requires.array in
    tried g.D.Disk y label next columns mid after old dev c.settle.new.devices c.settle.new.hand.ending.lost rounds is can.have kept
    (subst (λ o. IsLossBy y o (states_of y after) c.settle.new.hand.ending.lost) none c.settle.ensures.lost)
    c.requires.array.have.apart c.settle.ensures.settled c.settle.ensures.last _
    (λ e. omega (arith, eqb-true c.count_devices.result c.count_devices-had.result e, c.count_devices.ensures, c.count_devices-had.ensures, ap device_count c.deref.ensures.value, ap device_count c.deref-2.ensures.value))
    (λ e same.
    let equal : c.count_devices.result ≡ c.count_devices-had.result = omega (arith, same, c.count_devices.ensures, c.count_devices-had.ensures, ap device_count c.deref.ensures.value, ap device_count c.deref-2.ensures.value) in
    let z : false ≡ true = sym e ∙ eq-eqb c.count_devices.result c.count_devices-had.result equal in absurd (let u : ⊥ = cc in u))

pub returns-then-is_some-clause-tried : goal.returns-then-is_some-clause-tried
returns-then-is_some-clause-tried g c =
    let label = c.args.label.now in
    let next = c.round.new.label in
    let lost = c.round.new.hand.ending.lost in
    let columns = c.args.hand.now.ending.columns.items in
    let old = c.args.devices.now in
    let some = sym c.is_some.ensures ∙ c.if-is_some.true in
    closed_lost g.D.Disk true true lost label next columns columns c.round.new.hand.ending.columns.items old old c.round.new.devices c.requires.array.have.apart (in_turn-none g.D.Disk true columns old) some (counted-none g.D.Disk label columns old)
    (c.round.ensures.label ∙ ap (λ k. with_round label next.counter k (seating_in next)) (clean_lost lost label.clean some)) (λ k d live tells. refl) c.round.ensures.rounds

pub settle-requires-clause-devices : goal.settle-requires-clause-devices
settle-requires-clause-devices g c =
    let label = c.args.label.now in
    let columns = c.args.hand.now.ending.columns.items in
    let mid = c.round.new.hand.ending.columns.items in
    let old = c.args.devices.now in
    let dev = c.round.new.devices in
    let r = rounds_of g.D.Disk c.round.new.hand.ending.lost label c.round.new.label columns mid old dev c.round.ensures.rounds in
    let counted = counted_rounds g.D.Disk c.round.new.hand.ending.lost label c.round.new.label columns r.0 mid old dev r.1 in
    (can-after g.D.Disk (DiesIn g.D.Disk c.round.new.hand.ending.lost columns old dev) (IsFirstInUse columns) columns mid old dev counted.stage.dies counted.stage.frame c.requires.array).have

pub returns-clause-held : goal.returns-clause-held
returns-clause-held g c = held_after c.round.new.hand.ending.columns.items c.settle.new.hand.ending.columns.items c.round.new.label c.settle.ensures.settled.dies.count c.round.ensures.held
