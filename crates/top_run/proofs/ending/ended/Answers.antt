use Rattle.std.proofs.Common.{◌≡◌, length, None, refl, sym, ap, subst, arith}
use Rattle.top_run.specs.Work.{Service}
use Rattle.top_run.specs.Ends.{RunIsEnded}
use Rattle.top_run.proofs.Settled.{lent-back, is-ended}
use Rattle.top_run.proofs.ending.ended.Goals as goal

pub returns : goal.returns
returns g c =
    let devices = c.args.closed.devices in
    let new = c.settle.new.devices in
    let a : length new ≡ devices.len = omega (arith, c.settle.auto.devices, ap length c.as_mut_slice.ensures.value, c.as_mut_slice.ensures.len) in
    let v : Service = record {
      clients = c.args.closed.clients.items;
      replies = c.args.closed.replies.items;
      sectors = c.args.closed.sectors;
      history = c.args.closed.history.items;
      trace = c.args.closed.trace.items;
      line = None;
      ending = record { columns = c.settle.new.hand.ending.columns.items; lost = c.settle.new.hand.ending.lost };
    } in
    subst (λ back. RunIsEnded g.L.Layout c.args.closed g.D.Disk v back) (sym (lent-back devices.items new devices.len a))
    (is-ended g.L.Layout c.args.closed g.D.Disk v c.as_mut_slice.result.now new (g.met.L.Layout.is_layout c.args.closed.layout) refl c.as_mut_slice.ensures.value c.settle.ensures.settled c.settle.ensures.last c.settle.ensures.lost)
