use Rattle.std.proofs.Common.{sym, subst, ◌∙◌, ap}
use Rattle.blk_plain.specs.declared.op.OpId.{OpId}
use Rattle.eng_world.specs.declared.item.Traced.TheVariants as event
use Rattle.eng_state.specs.declared.array.Array.{Array}
use Rattle.eng_log.specs.Log.{noted}
use Rattle.eng_state.specs.Moves.{id_of}
use Rattle.eng_state.specs.Steps.{Follows}
use Rattle.eng_state.specs.Sound.{IsSound}
use Rattle.eng_state.proofs.Ending.{ends-good}
use Rattle.eng_fails.proofs.LosingPlain.{nothing-follows, nothing-sound, nothing-stays}
use Rattle.blk_plain.specs.declared.op.Outcome.TheVariants.{Good}
use Rattle.eng_state.proofs.GoingOn.{goes-logged, goes-ended, same-seats}
use Rattle.eng_state.specs.Out.{OthersStay}
use Rattle.eng_parts.specs.Shelf.{Shelved}
use Rattle.eng_fails.proofs.lost.nothing_comes.Goals as goal

pub plain_home-requires-clause-can : goal.plain_home-requires-clause-can
plain_home-requires-clause-can g c = ends-good g.L.Layout g.D.Disk c.args.array.now c.args.client c.args.node c.requires.sound c.requires.out

pub returns-clause-home : goal.returns-clause-home
returns-clause-home g c =
    let old : Array g.row.L.Denot g.row.D.Denot = c.args.array.now in
    let mid : Array g.row.L.Denot g.row.D.Denot = c.plain_home.new.self in
    let e = event.Good (id_of old.clients c.args.client) c.args.node in
    let h = c.plain_home.ensures in
    record {
      step = subst (λ (s : Array g.row.L.Denot g.row.D.Denot). Follows g.L.Layout g.D.Disk old e s) (sym c.note.ensures)
          (subst (λ (id : OpId). Follows g.L.Layout g.D.Disk old e (record mid { log = noted mid.log (event.Good id c.args.node) })) (sym c.id-id.ensures)
          (nothing-follows g.L.Layout g.D.Disk old mid c.args.client c.args.node c.requires.lost.0 c.requires.sound c.requires.lost.1 c.requires.out c.requires.kind h));
      sound = subst (λ (s : Array g.row.L.Denot g.row.D.Denot). IsSound g.L.Layout g.D.Disk s) (sym c.note.ensures)
          (subst (λ (id : OpId). IsSound g.L.Layout g.D.Disk (record mid { log = noted mid.log (event.Good id c.args.node) })) (sym c.id-id.ensures)
          (nothing-sound g.L.Layout g.D.Disk old mid c.args.client c.args.node c.requires.lost.0 c.requires.sound c.requires.lost.1 c.requires.out c.requires.kind h));
      goes = goes-logged old mid c.note.new.self _ c.note.ensures
          (goes-ended g.L.Layout g.D.Disk old mid c.args.client c.args.node c.requires.sound c.requires.out Good h.clients h.layout h.graphs h.spare (same-seats h.pool));
      devices = ap (λ (s : Array g.row.L.Denot g.row.D.Denot). s.devices.slots) c.note.ensures ∙ ap (λ (s : Shelved g.row.D.Denot). s.slots) h.devices;
      stays = subst (λ (s : Array g.row.L.Denot g.row.D.Denot). OthersStay g.D.Disk g.L.Layout c.args.client c.args.node old s) (sym c.note.ensures)
          (nothing-stays g.L.Layout g.D.Disk old mid c.args.client c.args.node c.requires.lost.0 c.requires.sound c.requires.lost.1 c.requires.out c.requires.kind h);
    }
