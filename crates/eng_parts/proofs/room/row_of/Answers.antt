use Rattle.std.proofs.Common.{sym, ap, ◌∙◌, length, refl}
use Rattle.std.proofs.lemmas.Option.{slice_get_past, slice_get_read}
use Rattle.eng_log.specs.Given.{items_in}
use Rattle.eng_plan.specs.Pooled.{row_leases}
use Rattle.eng_plan.proofs.Pooling.{row-none}
use Rattle.eng_parts.proofs.room.row_of.Goals as goal

pub returns-in-None : goal.returns-in-None
returns-in-None g c =
    let past = slice_get_past c.args.clients.now c.args.client c.in-None.ensures.lookup.3 in
    row-none (g.L.Layout.shape c.args.layout.now) c.args.graphs.now _ (ap items_in past)

pub returns-in-Some : goal.returns-in-Some
returns-in-Some g c =
    let there = slice_get_read c.args.clients.now (length c.args.clients.now) c.args.client c.in-Some.items.now refl c.in-Some.ensures.lookup.3.0 c.in-Some.ensures.lookup.1 in
    c.row_leases.ensures ∙ ap (row_leases (g.L.Layout.shape c.args.layout.now) c.args.graphs.now) (ap items_in (sym there))
