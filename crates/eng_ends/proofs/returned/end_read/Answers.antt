use Rattle.std.proofs.Common.{◌≡◌, ℕ, List, sym, subst, ap, ◌∙◌}
use Rattle.blk_plain.specs.declared.op.OpId.{OpId}
use Rattle.eng_world.specs.declared.item.Reply.TheVariants as reply
use Rattle.eng_world.specs.declared.item.Traced.TheVariants as event
use Rattle.eng_state.specs.declared.array.Array.{Array}
use Rattle.eng_log.specs.Log.{Logged, noted, with_bytes}
use Rattle.eng_state.specs.Moves.{id_of, Terminated}
use Rattle.eng_state.specs.Sound.{IsSound, IsOutOf}
use Rattle.eng_clients.specs.Desk.{desk_at}
use Rattle.graph_mean.specs.Graph.{kind_at}
use Rattle.graph_mean.specs.declared.graph.Node.TheVariants.{Trm}
use Rattle.eng_ends.proofs.Rebuilding.{stripe-sound}
use Rattle.eng_ends.proofs.EndingData.{data-follows, data-sound}
use Rattle.eng_ends.proofs.EndingPlain.{all-home}
use Rattle.blk_plain.specs.declared.op.Outcome.TheVariants.{Good}
use Rattle.eng_state.proofs.GoingOn.{goes-terminated}
use Rattle.eng_ends.proofs.Over.{over-stays}
use Rattle.eng_parts.specs.Shelf.{Shelved}
use Rattle.eng_ends.proofs.GoodHome.{home-noted}
use Rattle.std.proofs.Common.{None}
use Rattle.eng_ends.proofs.returned.end_read.Goals as goal

pub copy_returns-requires-clause-home : goal.copy_returns-requires-clause-home
copy_returns-requires-clause-home g c = all-home g.L.Layout g.D.Disk c.args.array.now c.args.client c.args.node c.requires.sound c.requires.out c.requires.end

pub terminate-requires-clause-sound : goal.terminate-requires-clause-sound
terminate-requires-clause-sound g c = subst (λ (s : Array g.row.L.Denot g.row.D.Denot). IsSound g.L.Layout g.D.Disk s) (sym c.copy_returns.ensures.rest) (stripe-sound g.L.Layout g.D.Disk c.args.array.now c.requires.sound c.args.array.now.cols _ c.requires.sound.seated)

pub terminate-requires-clause-out : goal.terminate-requires-clause-out
terminate-requires-clause-out g c = subst (λ (s : Array g.row.L.Denot g.row.D.Denot). IsOutOf (desk_at s.clients c.args.client) c.args.node) (sym c.copy_returns.ensures.rest) c.requires.out

pub terminate-requires-clause-end : goal.terminate-requires-clause-end
terminate-requires-clause-end g c = subst (λ (s : Array g.row.L.Denot g.row.D.Denot). kind_at (desk_at s.clients c.args.client).run.graph c.args.node ≡ Trm) (sym c.copy_returns.ensures.rest) c.requires.end

pub returns-clause-trace : goal.returns-clause-trace
returns-clause-trace g c =
    let old : Array g.row.L.Denot g.row.D.Denot = c.args.array.now in
    let mid : Array g.row.L.Denot g.row.D.Denot = c.copy_returns.new.array in
    let ev = event.Good (id_of old.clients c.args.client) c.args.node in
    let now : c.note.new.self.log ≡ noted (with_bytes old.log mid.log.handed.bytes) ev =
    ap (λ (s : Array g.row.L.Denot g.row.D.Denot). s.log) c.note.ensures
    ∙ (ap (λ (id : OpId). noted c.terminate.new.array.log (event.Good id c.args.node)) c.id-id.ensures
    ∙ ap (λ (l : Logged). noted l ev) (c.terminate.ensures.log ∙ ap (λ (s : Array g.row.L.Denot g.row.D.Denot). s.log) c.copy_returns.ensures.rest)) in
    now ∙ ap (λ (b : List ℕ). noted (with_bytes old.log b) ev) (sym (ap (λ (l : Logged). l.handed.bytes) now))

pub returns-clause-home : goal.returns-clause-home
returns-clause-home g c =
    let old : Array g.row.L.Denot g.row.D.Denot = c.args.array.now in
    let mid : Array g.row.L.Denot g.row.D.Denot = c.copy_returns.new.array in
    let end : Array g.row.L.Denot g.row.D.Denot = c.terminate.new.array in
    let log = with_bytes old.log mid.log.handed.bytes in
    let span = c.read_span-span.result in
    let reads = c.read_span-span.ensures in
    let copied = c.copy_returns.ensures in
    let t = subst (λ (s : Array g.row.L.Denot g.row.D.Denot). Terminated s c.args.client c.args.node reply.Data end) copied.rest c.terminate.ensures in
    home-noted g.L.Layout g.D.Disk old end c.note.new.self c.args.client c.args.node c.id-id.result None c.note.ensures c.id-id.ensures
    (data-follows g.L.Layout g.D.Disk old end mid.log.handed.bytes c.args.client c.args.node c.requires.sound c.requires.not_lost c.requires.out c.requires.end span reads.0 reads.1 c.requires.laid c.stands.ensures copied.copied t)
    (data-sound g.L.Layout g.D.Disk old end mid.log.handed.bytes c.args.client c.args.node c.requires.sound c.requires.not_lost c.requires.out c.requires.end span reads.0 reads.1 c.requires.laid c.stands.ensures copied.copied t)
    (goes-terminated g.L.Layout g.D.Disk old end c.args.client c.args.node c.requires.sound c.requires.out Good reply.Data t.clients t.layout t.graphs t.spare t.pool.seats)
    (ap (λ (s : Shelved g.row.D.Denot). s.slots) t.devices)
    (over-stays g.L.Layout g.D.Disk (record old { cols = old.cols; log = log }) end c.args.client c.args.node reply.Data (stripe-sound g.L.Layout g.D.Disk old c.requires.sound old.cols log c.requires.sound.seated) c.requires.out c.requires.end t end.log)
