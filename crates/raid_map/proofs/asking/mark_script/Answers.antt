use Rattle.std.proofs.Common.{◌≡◌, ◌∙◌, length, Some, sym, ap, subst, arith}
use Rattle.std.proofs.lemmas.Option.{slice_get-get_or}
use Rattle.item_list.specs.ItemList.{ItemList}
use Rattle.raid_map.specs.Asking.{file_of, SomeMayWrite, MarksAlso}
use Rattle.raid_map.proofs.Spans.{FirstOnes, firsts-none, firsts-more, firsts-clients}
use Rattle.raid_map.proofs.asking.mark_script.Goals as goal

pub mark_items-requires-clause-map : goal.mark_items-requires-clause-map
mark_items-requires-clause-map g c = c.loop-c.invariant.stripes_same ∙ c.requires.map

pub loop-c-init : goal.loop-c-init
loop-c-init g c = firsts-none (λ (v : ItemList). SomeMayWrite (g.L.Layout.shape c.args.layout.now) (file_of c.args.graphs.now) v.items) c.args.clients.now c.args.map.now

pub loop-c-preserved : goal.loop-c-preserved
loop-c-preserved g c =
    firsts-more (λ (v : ItemList). SomeMayWrite (g.L.Layout.shape c.args.layout.now) (file_of c.args.graphs.now) v.items) c.args.clients.now c.loop-c.c c.index-clients-c.result c.args.map.now c.loop-c.map c.mark_items.new.map
    (slice_get-get_or c.args.clients.now c.loop-c.c c.index-clients-c.result c.loop-c-test.true ∙ ap Some (sym c.index-clients-c.is)) c.loop-c.invariant c.mark_items.ensures

pub returns : goal.returns
returns g c =
    let end : c.loop-c.c ≡ length c.args.clients.now = omega arith in
    firsts-clients (g.L.Layout.shape c.args.layout.now) (file_of c.args.graphs.now) c.args.clients.now c.args.map.now c.loop-c.map
    (subst (λ n. MarksAlso (FirstOnes (λ (v : ItemList). SomeMayWrite (g.L.Layout.shape c.args.layout.now) (file_of c.args.graphs.now) v.items) c.args.clients.now n) c.args.map.now c.loop-c.map) end c.loop-c.invariant)
