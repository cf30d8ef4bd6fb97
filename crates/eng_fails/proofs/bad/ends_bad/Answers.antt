use Rattle.std.proofs.Common.{◌≡◌, ◌∙◌, ℕ, subst, sym, ap, Some}
use Rattle.blk_plain.specs.declared.op.OpId.{OpId}
use Rattle.blk_plain.specs.declared.op.Outcome.TheVariants.{Bad}
use Rattle.eng_cols.specs.declared.spot.Spot.{Spot}
use Rattle.eng_world.specs.declared.item.Traced.TheVariants as event
use Rattle.eng_state.specs.declared.array.Array.{Array}
use Rattle.eng_log.specs.Log.{Logged, noted}
use Rattle.eng_state.specs.Room.{HasRoom}
use Rattle.eng_state.specs.Sound.{IsSound}
use Rattle.eng_state.specs.Steps.{Follows}
use Rattle.eng_state.specs.Moves.{id_of, CameHome}
use Rattle.eng_state.specs.Bad.{FailedIfAlive, CallBack}
use Rattle.eng_fails.specs.Called.{CallCameBack}
use Rattle.eng_fails.proofs.FinishingBad.{failed-sound_if, back-kept, bad-sound, bad-stays, bad-follows, log-kept}
use Rattle.eng_state.proofs.GoingOn.{goes-logged, goes-ended, goes-further, came-seats, goes-if-alive}
use Rattle.eng_state.specs.Out.{OthersStay}
use Rattle.eng_fails.proofs.HomeStays.{if-alive-stays}
use Rattle.eng_state.proofs.SlotsHome.{came-slots, mid-slots, alive-slots}
use Rattle.eng_fails.proofs.bad.ends_bad.Goals as goal

pub bad_home-requires-clause-sound : goal.bad_home-requires-clause-sound
bad_home-requires-clause-sound g c = failed-sound_if g.L.Layout g.D.Disk c.args.array.now c.fail_if_alive.new.array c.in-Some.at.column c.requires.sound c.fail_if_alive.ensures

pub bad_home-requires-clause-back : goal.bad_home-requires-clause-back
bad_home-requires-clause-back g c = let r = c.requires.back.came in record {
  first = r.first;
  count = r.count;
  outcome = r.outcome;
  back = (back-kept g.L.Layout g.D.Disk c.args.array.now c.args.client c.args.node c.args.coming.disk r.first r.count c.args.coming.buffer r.outcome c.in-Some.at.column c.fail_if_alive.new.array c.fail_if_alive.ensures r.back).0;
}

-- the call came home to the core whose column failed
back : (g : _) (c : goal.After-note g) → (b : CallBack g.L.Layout g.D.Disk c.fail_if_alive.new.array c.args.client c.args.node c.args.coming.disk c.requires.back.came.first c.args.coming.buffer c.requires.back.came.count c.requires.back.came.outcome) × (b.buf ≡ c.requires.back.came.back.buf) × (b.at ≡ c.requires.back.came.back.at)
back g c = let r = c.requires.back.came in
    back-kept g.L.Layout g.D.Disk c.args.array.now c.args.client c.args.node c.args.coming.disk r.first r.count c.args.coming.buffer r.outcome c.in-Some.at.column c.fail_if_alive.new.array c.fail_if_alive.ensures r.back

came : (g : _) (c : goal.After-note g) → CameHome c.fail_if_alive.new.array c.args.client c.args.node (back g c).0.buf (back g c).0.at c.args.coming.disk c.args.coming.buffer Bad c.bad_home.new.array
came g c = let r = c.requires.back.came in c.bad_home.ensures (record { first = r.first; count = r.count; outcome = r.outcome; back = (back g c).0 })

pub note-requires : goal.note-requires
note-requires g c =
    let r = c.requires.back.came in
    let b : CallCameBack g.L.Layout g.D.Disk c.fail_if_alive.new.array c.args.client c.args.node c.args.coming.disk c.args.coming.buffer = record {
      first = r.first;
      count = r.count;
      outcome = r.outcome;
      back = (back-kept g.L.Layout g.D.Disk c.args.array.now c.args.client c.args.node c.args.coming.disk r.first r.count c.args.coming.buffer r.outcome c.in-Some.at.column c.fail_if_alive.new.array c.fail_if_alive.ensures r.back).0;
    } in
    subst HasRoom (sym ((c.bad_home.ensures b).log ∙ log-kept g.L.Layout c.args.array.now c.fail_if_alive.new.array c.in-Some.at.column c.fail_if_alive.ensures)) c.requires.room

pub returns-clause-home : goal.returns-clause-home
returns-clause-home g c =
    let old : Array g.row.L.Denot g.row.D.Denot = c.args.array.now in
    let mid : Array g.row.L.Denot g.row.D.Denot = c.fail_if_alive.new.array in
    let fin : Array g.row.L.Denot g.row.D.Denot = c.bad_home.new.array in
    let first = c.requires.back.came.first in
    let count = c.requires.back.came.count in
    let outcome = c.requires.back.came.outcome in
    let r = c.requires.back.came.back in
    let same : Some c.in-Some.at ≡ Some r.at = sym c.in-Some.is ∙ (c.spot.ensures ∙ r.spot) in
    let at_is : c.in-Some.at ≡ r.at = cc in
    let failed : FailedIfAlive g.L.Layout old r.at.column mid = subst (λ (a : Spot). FailedIfAlive g.L.Layout old a.column mid) at_is c.fail_if_alive.ensures in
    let s = failed-sound_if g.L.Layout g.D.Disk old mid c.in-Some.at.column c.requires.sound c.fail_if_alive.ensures in
    let b = back g c in
    let h = came g c in
    let home : CameHome mid c.args.client c.args.node r.buf r.at c.args.coming.disk c.args.coming.buffer Bad fin =
    subst (λ (a : Spot). CameHome mid c.args.client c.args.node r.buf a c.args.coming.disk c.args.coming.buffer Bad fin) b.2
    (subst (λ (a : ℕ). CameHome mid c.args.client c.args.node a b.0.at c.args.coming.disk c.args.coming.buffer Bad fin) b.1 h) in
    record {
      step = subst (Follows g.L.Layout g.D.Disk old (event.Bad (id_of old.clients c.args.client) c.args.node)) (sym c.note.ensures)
          (subst (λ (id : OpId). Follows g.L.Layout g.D.Disk old (event.Bad (id_of old.clients c.args.client) c.args.node) (record fin { log = noted fin.log (event.Bad id c.args.node) })) (sym c.id-id.ensures)
          (bad-follows g.L.Layout g.D.Disk old mid fin c.args.client c.args.node c.args.coming.disk first count c.args.coming.buffer outcome c.requires.sound c.requires.not_lost c.requires.standing r c.requires.back.ends c.stands.ensures home failed));
      sound = subst (IsSound g.L.Layout g.D.Disk) (sym c.note.ensures)
          (bad-sound g.L.Layout g.D.Disk mid c.args.client c.args.node c.args.coming.disk first count c.args.coming.buffer outcome s b.0 fin _ h);
      goes = goes-logged old fin c.note.new.self _ c.note.ensures
          (goes-further old mid fin (goes-if-alive g.L.Layout old mid c.in-Some.at.column c.fail_if_alive.ensures)
          (goes-ended g.L.Layout g.D.Disk mid fin c.args.client c.args.node s b.0.out Bad h.clients h.layout h.graphs h.spare (came-seats h)));
      devices = ap (λ (a : Array g.row.L.Denot g.row.D.Denot). a.devices.slots) c.note.ensures
          ∙ came-slots old.devices fin.devices c.args.coming.disk r.at _
          (mid-slots old.devices fin.devices c.args.coming.disk r.at mid.devices b.0.at h.devices b.2
          (alive-slots old mid g.L.Layout c.in-Some.at.column c.fail_if_alive.ensures)) r.spot;
      stays = subst (λ (a : Array g.row.L.Denot g.row.D.Denot). OthersStay g.D.Disk g.L.Layout c.args.client c.args.node old a) (sym c.note.ensures)
          (λ job other o. bad-stays g.L.Layout g.D.Disk mid c.args.client c.args.node c.args.coming.disk first count c.args.coming.buffer outcome s b.0 fin fin.log h job other (if-alive-stays g.L.Layout g.D.Disk old mid c.in-Some.at.column c.fail_if_alive.ensures job o));
    }

pub returns-clause-trace : goal.returns-clause-trace
returns-clause-trace g c =
    let kept = log-kept g.L.Layout c.args.array.now c.fail_if_alive.new.array c.in-Some.at.column c.fail_if_alive.ensures in
    ap (λ (s : Array g.row.L.Denot g.row.D.Denot). s.log) c.note.ensures
    ∙ (ap (λ (id : OpId). noted c.bad_home.new.array.log (event.Bad id c.args.node)) c.id-id.ensures
    ∙ ap (λ (l : Logged). noted l (event.Bad (id_of c.args.array.now.clients c.args.client) c.args.node)) ((came g c).log ∙ kept))
