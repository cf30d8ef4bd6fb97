use Rattle.std.proofs.Common.{◌≡◌, ℕ, sym, ap, ◌∙◌, Bool, true, ◌&&◌, not, refl}
use denote.Enum.Bare.{sameb}
use Rattle.graph_mean.specs.contracts.step.Status.{the_type}
use Rattle.graph_mean.specs.declared.step.Status.{Status}
use Rattle.graph_mean.specs.declared.step.Status.TheVariants.{Idle, Out, Good, Bad, Skipped}
use Rattle.eng_cols.specs.Changes.{killed}
use Rattle.eng_cols.specs.Seats.{is_available}
use Rattle.graph_mean.specs.Graph.{kind_at}
use Rattle.graph_mean.specs.Steps.{is_good, reads}
use Rattle.graph_mean.specs.declared.graph.Node.TheVariants.{Rd}
use Rattle.eng_one.specs.Control.{mark_of}
use Rattle.eng_state.specs.declared.array.Array.{Array}
use Rattle.eng_clients.specs.Desk.{Desk, desk_at}
use Rattle.eng_state.specs.Failing.{dying}
use Rattle.eng_state.proofs.Running.{runs_below, read_buf, read_unit}
use Rattle.eng_fails.proofs.Dying.{read-dies}
use Rattle.eng_fails.proofs.fails.node_reads.Goals as goal

good-same : (s : Status) → sameb the_type s Good ≡ is_good s
good-same Idle = refl
good-same Out = refl
good-same Good = refl
good-same Bad = refl
good-same Skipped = refl

pub stripe_of-stripe-requires-clause-buf : goal.stripe_of-stripe-requires-clause-buf
stripe_of-stripe-requires-clause-buf g c =
    let sound = c.requires.sound in
    let w = (sound.well.each c.args.client (runs_below _ _ _ _ c.args.client sound.well c.requires.runs)).runs c.requires.runs in
    (read_buf _ _ _ _ w c.args.node c.in-Rd.unit c.in-Rd.buf c.requires.node (sym c.node.ensures ∙ c.in-Rd.is)).below

pub dies-requires-clause-unit : goal.dies-requires-clause-unit
dies-requires-clause-unit g c =
    let sound = c.requires.sound in
    let w = (sound.well.each c.args.client (runs_below _ _ _ _ c.args.client sound.well c.requires.runs)).runs c.requires.runs in
    read_unit _ _ _ _ w c.args.node c.in-Rd.unit c.in-Rd.buf c.requires.node (sym c.node.ensures ∙ c.in-Rd.is)

pub returns-then-dies : goal.returns-then-dies
returns-then-dies g c =
    let sound = c.requires.sound in
    let core : Array g.row.L.Denot g.row.D.Denot = c.args.array.now in
    let d : Desk = desk_at core.clients c.args.client in
    let y = g.L.Layout.shape core.layout in
    let w = (sound.well.each c.args.client (runs_below _ _ _ _ c.args.client sound.well c.requires.runs)).runs c.requires.runs in
    let kind : kind_at d.run.graph c.args.node ≡ Rd c.in-Rd.unit c.in-Rd.buf = sym c.node.ensures ∙ c.in-Rd.is in
    let buf = read_buf _ _ _ _ w c.args.node c.in-Rd.unit c.in-Rd.buf c.requires.node kind in
    let unit = read_unit _ _ _ _ w c.args.node c.in-Rd.unit c.in-Rd.buf c.requires.node kind in
    let same = read-dies y core.cols.states c.args.column d c.args.node c.in-Rd.unit c.in-Rd.buf kind buf.stripe unit in
    let reading : reads d.run.graph (kind_at d.run.graph c.args.node) (dying y core.cols.states c.args.column d) ≡ true = same ∙ (sym (ap (λ (s : ℕ). is_available y core.cols.states s c.in-Rd.unit && not (is_available y (killed core.cols.states c.args.column) s c.in-Rd.unit)) c.stripe_of-stripe.ensures.stripe) ∙ (sym c.dies.ensures ∙ c.if-dies.true)) in
    c.ne.ensures ∙ (ap not (good-same c.status.result) ∙ (ap (λ (s : Status). not (is_good s)) c.status.ensures
    ∙ sym (ap (λ (b : Bool). b && not (is_good (mark_of d.run c.args.node))) reading)))
