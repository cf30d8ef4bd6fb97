use Rattle.std.proofs.Common.{◌≡◌, arith, ap, length, sym, subst, ◌∙◌}
use Rattle.std.specs.Prelude.{IfOk}
use Rattle.raid_conf.specs.Layouts.{shape_of}
use Rattle.raid_map.specs.Marking.{CanBeMarked}
use Rattle.top_bay.specs.Views.{asked_seen}
use Rattle.top_open.specs.Opening.{opened_seen}
use Rattle.top_run.proofs.Settled.{lent-back}
use Rattle.top_words.specs.Views.{action_seen}
use Rattle.raid_top.specs.declared.came.Came.TheVariants as came
use Rattle.raid_top.specs.Does.{ShowsArray}
use Rattle.raid_top.specs.Shown.{MapIs}
use Rattle.raid_top.specs.Views.{outcome_seen}
use Rattle.raid_top.proofs.MapsShown.{fit_marked, found_if, shows_array}
use Rattle.raid_top.proofs.performing.show_array.Goals as goal

pub show-shown-requires : goal.show-shown-requires
show-shown-requires g c = record {
  can = subst (λ ds. CanBeMarked g.D.Disk c.args.opened.columns.items ds) (sym c.as_mut_slice-slice.ensures.value)
      (fit_marked g.D.Disk (asked_seen c.args.asked) (opened_seen c.args.opened) c.args.devices.items c.requires.fit);
}

pub returns-clause-does : goal.returns-clause-does
returns-clause-does g c =
    let k = asked_seen c.args.asked in
    let o = opened_seen c.args.opened in
    let old = c.args.devices in
    let fronts = c.args.fronts.items in
    let s = c.show-shown.result in
    let e = c.show-shown.ensures in
    let new = c.show-shown.new.devices in
    let many : length new ≡ old.len = omega (arith, c.show-shown.auto.devices, ap length c.as_mut_slice-slice.ensures.value, c.as_mut_slice-slice.ensures.len) in
    let said = c.say-2.ensures in
    let r = c.say-2.result in
    subst (λ x. IfOk x (λ shown. ShowsArray g.D.Disk k o fronts old.items r.served.devices.items (outcome_seen (action_seen r.action) r.conf shown))) (sym said.came)
    (subst (λ ds. ShowsArray g.D.Disk k o fronts old.items ds.items (outcome_seen (action_seen r.action) r.conf (came.Shows s))) (sym said.devices)
    (subst (λ back. ShowsArray g.D.Disk k o fronts old.items back (outcome_seen (action_seen r.action) r.conf (came.Shows s))) (sym (lent-back old.items new old.len many))
    (subst (λ action. ShowsArray g.D.Disk k o fronts old.items new (outcome_seen (action_seen action) r.conf (came.Shows s))) (sym said.action)
    (subst (λ conf. ShowsArray g.D.Disk k o fronts old.items new (outcome_seen k.command.action conf (came.Shows s))) (sym said.conf)
    (shows_array g.D.Disk k o (opened_seen s.opened) s.sizes.items fronts s.fronts.items s.map old.items new
    (found_if g.D.Disk (shape_of k.conf o.rows) o.newest c.in-Ok.map o.columns s.opened.columns.items old.items new s.map c.in-Ok.ensures.map
    (subst (λ ds. MapIs g.D.Disk c.in-Ok.map o.columns s.opened.columns.items ds new s.map) c.as_mut_slice-slice.ensures.value e.found))
    e.opened (ap (λ v. v.items) e.sizes.0 ∙ c.requires.sizes) (ap (λ v. v.items) e.sizes.1))))))
