use Rattle.std.proofs.Common.{◌≡◌, ◌∙◌, ℕ, subst, sym, ap, Some, arith}
use Rattle.blk_plain.specs.declared.op.OpId.{OpId}
use Rattle.blk_plain.specs.declared.op.Outcome.TheVariants.{Bad}
use Rattle.eng_cols.specs.declared.spot.Spot.{Spot}
use Rattle.eng_world.specs.declared.item.Traced.TheVariants as event
use Rattle.eng_state.specs.declared.array.Array.{Array}
use Rattle.eng_log.specs.Log.{Logged, noted}
use Rattle.eng_state.specs.Room.{HasRoom}
use Rattle.eng_state.specs.Sound.{IsSound}
use Rattle.eng_state.specs.Steps.{Follows}
use Rattle.eng_state.specs.Moves.{id_of, CameHome}
use Rattle.eng_state.specs.Bad.{CallBack, struck_lost}
use Rattle.eng_fails.specs.Called.{CallCameBack}
use Rattle.eng_fails.proofs.EndingBad as ending
use Rattle.eng_fails.proofs.FinishingBad.{bad-sound, bad-stays}
use Rattle.eng_fails.proofs.LosingBad.{back-at, sound-at, lost-follows}
use Rattle.eng_state.proofs.GoingOn.{goes-logged, goes-ended, goes-further, came-seats, goes-struck}
use Rattle.eng_state.specs.Out.{OthersStay}
use Rattle.eng_fails.proofs.HomeStays.{struck-stays}
use Rattle.eng_state.proofs.SlotsHome.{came-slots, mid-slots, struck-slots}
use Rattle.eng_fails.proofs.bad.comes_bad.Goals as goal

pub spot-requires-clause-node : goal.spot-requires-clause-node
spot-requires-clause-node g c =
    let came = c.requires.back.came in
    let w = ending.well g.L.Layout g.D.Disk c.args.array.now c.args.client c.args.node c.args.coming.disk came.first came.count c.args.coming.buffer came.outcome c.requires.sound came.back in
    let lt = ending.node g.L.Layout g.D.Disk c.args.array.now c.args.client c.args.node c.args.coming.disk came.first came.count c.args.coming.buffer came.outcome c.requires.sound came.back in
    let few = w.few in omega (arith, lt, few)

-- the place at which the code found its unit is the one where it stood
struck : (g : _) (c : goal.After-note-arg-1 g) → c.strike.new.array ≡ struck_lost c.args.array.now c.requires.back.came.back.at
struck g c =
    let same : Some c.in-Some.at ≡ Some c.requires.back.came.back.at = sym c.in-Some.is ∙ (c.spot.ensures ∙ c.requires.back.came.back.spot) in
    let e : c.in-Some.at ≡ c.requires.back.came.back.at = cc in
    c.strike.ensures ∙ ap (λ (a : Spot). struck_lost c.args.array.now a) e

back : (g : _) (c : goal.After-note-arg-1 g) → (b : CallBack g.L.Layout g.D.Disk c.strike.new.array c.args.client c.args.node c.args.coming.disk c.requires.back.came.first c.args.coming.buffer c.requires.back.came.count c.requires.back.came.outcome) × (b.buf ≡ c.requires.back.came.back.buf) × (b.at ≡ c.requires.back.came.back.at)
back g c = let came = c.requires.back.came in
    back-at g.L.Layout g.D.Disk c.args.array.now c.args.client c.args.node c.args.coming.disk came.first came.count c.args.coming.buffer came.outcome c.requires.sound came.back (c.requires.on came.back.at came.back.spot) c.strike.new.array (struck g c)

came_back : (g : _) (c : goal.After-note-arg-1 g) → CameHome c.strike.new.array c.args.client c.args.node (back g c).0.buf (back g c).0.at c.args.coming.disk c.args.coming.buffer Bad c.bad_home.new.array
came_back g c = let came = c.requires.back.came in c.bad_home.ensures (record { first = came.first; count = came.count; outcome = came.outcome; back = (back g c).0 })

pub bad_home-requires-clause-sound : goal.bad_home-requires-clause-sound
bad_home-requires-clause-sound g c =
    let came = c.requires.back.came in
    let r = came.back in
    let same : Some c.in-Some.at ≡ Some r.at = sym c.in-Some.is ∙ (c.spot.ensures ∙ r.spot) in
    let e : c.in-Some.at ≡ r.at = cc in
    sound-at g.L.Layout g.D.Disk c.args.array.now c.args.client c.args.node c.args.coming.disk came.first came.count c.args.coming.buffer came.outcome c.requires.sound r (c.requires.on r.at r.spot) c.strike.new.array (c.strike.ensures ∙ ap (λ (a : Spot). struck_lost c.args.array.now a) e)

pub bad_home-requires-clause-back : goal.bad_home-requires-clause-back
bad_home-requires-clause-back g c =
    let came = c.requires.back.came in
    let r = came.back in
    let same : Some c.in-Some.at ≡ Some r.at = sym c.in-Some.is ∙ (c.spot.ensures ∙ r.spot) in
    let e : c.in-Some.at ≡ r.at = cc in
    record {
      first = came.first;
      count = came.count;
      outcome = came.outcome;
      back = (back-at g.L.Layout g.D.Disk c.args.array.now c.args.client c.args.node c.args.coming.disk came.first came.count c.args.coming.buffer came.outcome c.requires.sound r (c.requires.on r.at r.spot) c.strike.new.array (c.strike.ensures ∙ ap (λ (a : Spot). struck_lost c.args.array.now a) e)).0;
    }

pub note-requires : goal.note-requires
note-requires g c = subst HasRoom (sym ((came_back g c).log ∙ ap (λ (m : Array g.row.L.Denot g.row.D.Denot). m.log) (struck g c))) c.requires.room

pub returns-clause-home : goal.returns-clause-home
returns-clause-home g c =
    let old : Array g.row.L.Denot g.row.D.Denot = c.args.array.now in
    let mid : Array g.row.L.Denot g.row.D.Denot = c.strike.new.array in
    let fin : Array g.row.L.Denot g.row.D.Denot = c.bad_home.new.array in
    let first = c.requires.back.came.first in
    let count = c.requires.back.came.count in
    let outcome = c.requires.back.came.outcome in
    let r = c.requires.back.came.back in
    let same : Some c.in-Some.at ≡ Some r.at = sym c.in-Some.is ∙ (c.spot.ensures ∙ r.spot) in
    let e : c.in-Some.at ≡ r.at = cc in
    let is : mid ≡ struck_lost old r.at = c.strike.ensures ∙ ap (λ (a : Spot). struck_lost old a) e in
    let on = c.requires.on r.at r.spot in
    let s = sound-at g.L.Layout g.D.Disk old c.args.client c.args.node c.args.coming.disk first count c.args.coming.buffer outcome c.requires.sound r on mid is in
    let b = back-at g.L.Layout g.D.Disk old c.args.client c.args.node c.args.coming.disk first count c.args.coming.buffer outcome c.requires.sound r on mid is in
    let h : CameHome mid c.args.client c.args.node b.0.buf b.0.at c.args.coming.disk c.args.coming.buffer Bad fin = c.bad_home.ensures (record { first = first; count = count; outcome = outcome; back = b.0 }) in
    let home : CameHome mid c.args.client c.args.node r.buf r.at c.args.coming.disk c.args.coming.buffer Bad fin =
    subst (λ (a : Spot). CameHome mid c.args.client c.args.node r.buf a c.args.coming.disk c.args.coming.buffer Bad fin) b.2
    (subst (λ (a : ℕ). CameHome mid c.args.client c.args.node a b.0.at c.args.coming.disk c.args.coming.buffer Bad fin) b.1 h) in
    let struck_home = subst (λ (m : Array g.row.L.Denot g.row.D.Denot). CameHome m c.args.client c.args.node r.buf r.at c.args.coming.disk c.args.coming.buffer Bad fin) is home in
    record {
      step = subst (Follows g.L.Layout g.D.Disk old (event.Bad (id_of old.clients c.args.client) c.args.node)) (sym c.note.ensures)
          (subst (λ (id : OpId). Follows g.L.Layout g.D.Disk old (event.Bad (id_of old.clients c.args.client) c.args.node) (record fin { log = noted fin.log (event.Bad id c.args.node) })) (sym c.id-id.ensures)
          (lost-follows g.L.Layout g.D.Disk old c.args.client c.args.node c.args.coming.disk first count c.args.coming.buffer outcome c.requires.sound r on fin c.requires.lost.0 c.requires.lost.1 c.requires.back.ends struck_home));
      sound = subst (IsSound g.L.Layout g.D.Disk) (sym c.note.ensures)
          (bad-sound g.L.Layout g.D.Disk mid c.args.client c.args.node c.args.coming.disk first count c.args.coming.buffer outcome s b.0 fin _ h);
      goes = goes-logged old fin c.note.new.self _ c.note.ensures
          (goes-further old mid fin (goes-struck old mid r.at is)
          (goes-ended g.L.Layout g.D.Disk mid fin c.args.client c.args.node s b.0.out Bad h.clients h.layout h.graphs h.spare (came-seats h)));
      devices = ap (λ (a : Array g.row.L.Denot g.row.D.Denot). a.devices.slots) c.note.ensures
          ∙ came-slots old.devices fin.devices c.args.coming.disk r.at _
          (mid-slots old.devices fin.devices c.args.coming.disk r.at mid.devices b.0.at h.devices b.2
          (struck-slots old mid r.at is)) r.spot;
      stays = subst (λ (a : Array g.row.L.Denot g.row.D.Denot). OthersStay g.D.Disk g.L.Layout c.args.client c.args.node old a) (sym c.note.ensures)
          (λ job other o. bad-stays g.L.Layout g.D.Disk mid c.args.client c.args.node c.args.coming.disk first count c.args.coming.buffer outcome s b.0 fin fin.log h job other (struck-stays g.L.Layout g.D.Disk old mid r.at is job o));
    }

pub returns-clause-trace : goal.returns-clause-trace
returns-clause-trace g c =
    let old : Array g.row.L.Denot g.row.D.Denot = c.args.array.now in
    let mid : Array g.row.L.Denot g.row.D.Denot = c.strike.new.array in
    let came = c.requires.back.came in
    let r = came.back in
    let same : Some c.in-Some.at ≡ Some r.at = sym c.in-Some.is ∙ (c.spot.ensures ∙ r.spot) in
    let e : c.in-Some.at ≡ r.at = cc in
    let is : mid ≡ struck_lost old r.at = c.strike.ensures ∙ ap (λ (a : Spot). struck_lost old a) e in
    let b = back-at g.L.Layout g.D.Disk old c.args.client c.args.node c.args.coming.disk came.first came.count c.args.coming.buffer came.outcome c.requires.sound r (c.requires.on r.at r.spot) mid is in
    let back : CallCameBack g.L.Layout g.D.Disk mid c.args.client c.args.node c.args.coming.disk c.args.coming.buffer = record { first = came.first; count = came.count; outcome = came.outcome; back = b.0 } in
    ap (λ (s : Array g.row.L.Denot g.row.D.Denot). s.log) c.note.ensures
    ∙ (ap (λ (id : OpId). noted c.bad_home.new.array.log (event.Bad id c.args.node)) c.id-id.ensures
    ∙ ap (λ (l : Logged). noted l (event.Bad (id_of old.clients c.args.client) c.args.node)) ((c.bad_home.ensures back).log ∙ ap (λ (m : Array g.row.L.Denot g.row.D.Denot). m.log) is))
