use Rattle.std.proofs.Common.{ℕ, refl, subst, ap, ◌∙◌}
use Rattle.eng_log.specs.Handed.{Handout}
use Rattle.eng_events.proofs.HandingBack.{back-count, back-absent, back-devices}
use Rattle.eng_events.proofs.closes.close.Goals as goal
use Rattle.eng_clients.specs.Replied.{AreClosed}

pub returns : goal.returns
returns g c = record {
  layout = refl;
  count = back-count g.L.Layout g.D.Disk c.args.array c.requires.sound c.requires.none_out c.close-home.result.items c.close-home.ensures;
  absent = back-absent g.L.Layout g.D.Disk c.args.array c.requires.sound c.requires.none_out c.close-home.result.items c.close-home.ensures;
  devices = back-devices g.L.Layout g.D.Disk c.args.array c.requires.sound c.requires.none_out c.close-home.result.items c.close-home.ensures;
  columns = c.list_columns.ensures;
  clients = subst (λ (n : ℕ). AreClosed c.args.array.lost c.args.array.clients n c.close-told.result.0.items c.close-told.result.1.items) c.lists-given.ensures.clients.0 c.close-told.ensures;
  history = c.close-left.ensures.history;
  trace = c.close-left.ensures.trace;
  lost = refl;
  rebuilt = c.close-left.ensures.rebuilt;
  sectors = c.close-handed.ensures.bytes ∙ ap (λ (h : Handout). h.bytes) c.close-left.ensures.handed;
  regions = c.close-handed.ensures.regions ∙ ap (λ (h : Handout). h.regions) c.close-left.ensures.handed;
}
