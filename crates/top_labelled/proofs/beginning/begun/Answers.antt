use Rattle.std.proofs.Common.{◌≡◌, ◌∙◌, ℕ, List, Bool, Option, length, refl, sym, ap, subst, arith}
use Rattle.std.specs.Prelude.{All}
use Rattle.graph_mean.specs.Graph.{Held}
use Rattle.eng_cols.specs.declared.column.Column.{Column}
use Rattle.item_list.specs.ItemList.{ItemList}
use Rattle.eng_array.specs.declared.start.Start.{Start}
use Rattle.raid_map.specs.Asking.{IsSpanned, file_of}
use Rattle.raid_map.specs.Regions.{Marks as Map}
use Rattle.top_close.specs.Stage.{DiesIn}
use Rattle.top_acts.proofs.Looked.{looks_dies}
use Rattle.top_run.proofs.Settled.{lent-back}
use Rattle.top_labelled.specs.Begun.{IsAlone, IsColumnWithin, is_in_place, is_kept}
use Rattle.top_labelled.specs.Words.{notice_in, writes_maps, MarksAsked}
use Rattle.top_labelled.specs.Between.{HasOpened, asked_of}
use Rattle.top_labelled.specs.declared.opening.AskedOpening.{AskedOpening}
use Rattle.top_labelled.specs.Ran.{onto}
use Rattle.top_labelled.proofs.Beginnings.{all-spanned, begun-so, can-act}
use Rattle.top_labelled.proofs.Restart.{rebuilds-alone, rebuilds-within}
use Rattle.top_labelled.proofs.Without.{alone-later}
use Rattle.top_labelled.proofs.beginning.begun.Goals as goal

pub look_at_maps-requires-clause-can : goal.look_at_maps-requires-clause-can
look_at_maps-requires-clause-can g c = can-act g.L.Layout g.D.Disk c.args.labelled c.requires.can c.as_mut_slice-slice.result.now c.as_mut_slice-slice.ensures.value

pub mark_asked-requires-clause-spans : goal.mark_asked-requires-clause-spans
mark_asked-requires-clause-spans g c =
    subst (λ (clients : List ItemList). All (λ (v : ItemList). All IsSpanned v.items) clients) (sym c.deref-4.ensures.value) (all-spanned g.L.Layout g.D.Disk c.args.labelled.setup c.requires.can.setup)

pub opened-began-requires-clause-within : goal.opened-began-requires-clause-within
opened-began-requires-clause-within g c =
    let k = c.look_at_maps in
    let l = c.args.labelled in
    let columns = l.setup.columns.items in
    let read = k.new.hand.ending.columns.items in
    let dies = looks_dies g.D.Disk (g.L.Layout.shape l.setup.layout) k.new.hand.ending.lost c.args.maps.union k.new.union columns read c.as_mut_slice-slice.result.now k.new.devices k.ensures.looks in
    subst (λ (o : Option Start). IsColumnWithin o (length read)) (sym (ap (λ (a : AskedOpening). a.start) c.asked_of-asked.ensures))
    (subst (λ (n : ℕ). IsColumnWithin l.start n) (sym dies.count) (rebuilds-within g.L.Layout g.D.Disk l.setup l.start c.requires.can.rebuilds))

pub opened-began-requires-clause-alone : goal.opened-began-requires-clause-alone
opened-began-requires-clause-alone g c =
    let k = c.look_at_maps in
    let columns = c.args.labelled.setup.columns.items in
    let read = k.new.hand.ending.columns.items in
    let lent = c.as_mut_slice-slice.result.now in
    let lost = k.new.hand.ending.lost in
    subst (λ (o : Option Start). IsAlone o read) (sym (ap (λ (a : AskedOpening). a.start) c.asked_of-asked.ensures))
    (alone-later c.args.labelled.start (DiesIn g.D.Disk lost columns lent k.new.devices) columns read
    (looks_dies g.D.Disk (g.L.Layout.shape c.args.labelled.setup.layout) lost c.args.maps.union k.new.union columns read lent k.new.devices k.ensures.looks)
    (rebuilds-alone g.L.Layout g.D.Disk c.args.labelled.setup c.args.labelled.start c.requires.can.rebuilds))

pub returns : goal.returns
returns g c =
    let l = c.args.labelled in
    let y = g.L.Layout.shape l.setup.layout in
    let k = c.look_at_maps in
    let o = c.opened-began in
    let devices = l.setup.devices in
    let columns = l.setup.columns.items in
    let lent = c.as_mut_slice-slice.result.now in
    let read = k.new.hand.ending.columns.items in
    let marks = c.mark_asked.new.maps.marks in
    let keeps : Bool = is_kept l.map l.label in
    let a : length o.new.devices ≡ devices.len = omega (arith, o.auto.devices, k.auto.devices, ap length c.as_mut_slice-slice.ensures.value, c.as_mut_slice-slice.ensures.len) in
    let asked : c.asked_of-asked.result ≡ asked_of l.start l.failed keeps columns = c.asked_of-asked.ensures ∙ ap (asked_of l.start l.failed keeps) c.deref-2.ensures.value in
    let kept : c.asked_of-asked.result.keeps ≡ keeps = ap (λ (a : AskedOpening). a.keeps) asked in
    let clears : c.writes_maps.result ≡ writes_maps keeps k.new.union =
    c.writes_maps.ensures ∙ (ap (λ (b : Bool). writes_maps b o.new.maps.union) kept ∙ ap (writes_maps keeps) (o.ensures.maps.0 ∙ c.mark_asked.ensures.rest.0)) in
    let device = subst (λ (cs : List Column). c.onto-device.result ≡ onto l.start cs) c.deref.ensures.value c.onto-device.ensures in
    let opens = subst
    (λ (m : Map). HasOpened g.D.Disk y (asked_of l.start l.failed keeps columns) (notice_in keeps marks) m k.new.hand.ending.lost l.label o.new.label read o.new.hand.ending.columns.items k.new.devices o.new.devices o.new.hand.ending.lost o.result)
    c.mark_asked.ensures.rest.0
    (subst (λ (a : AskedOpening). HasOpened g.D.Disk y a (notice_in a.keeps marks) c.mark_asked.new.maps.union k.new.hand.ending.lost l.label o.new.label read o.new.hand.ending.columns.items k.new.devices o.new.devices o.new.hand.ending.lost o.result) asked o.ensures.opened) in
    begun-so g.L.Layout g.D.Disk l _ lent k.new.devices o.new.devices read k.new.hand.ending.lost c.args.maps.union c.args.maps.marks k.new.union marks keeps (is_in_place l.start columns) c.as_mut_slice-slice.ensures.value (lent-back devices.items o.new.devices devices.len a)
    c.requires.maps.union c.requires.maps.marks (o.ensures.maps.0 ∙ c.mark_asked.ensures.rest.0) o.ensures.maps.1 refl refl refl refl device k.ensures.looks
    (λ is.
    subst (λ (cs : List Column). MarksAsked y (file_of l.setup.graphs.items) l.setup.clients.items cs l.start k.new.union c.args.maps.marks marks) c.deref-5.ensures.value
    (subst (λ (clients : List ItemList). MarksAsked y (file_of l.setup.graphs.items) clients c.deref-5.result.now l.start k.new.union c.args.maps.marks marks) c.deref-4.ensures.value
    (subst (λ (graphs : List Held). MarksAsked y (file_of graphs) c.deref-4.result.now c.deref-5.result.now l.start k.new.union c.args.maps.marks marks) c.deref-3.ensures.value (c.mark_asked.ensures.marked (kept ∙ is)))))
    c.mark_asked.ensures.same.1 opens clears o.ensures.maps.2 o.ensures.can o.ensures.held o.ensures.judge (g.met.L.Layout.is_layout l.setup.layout)
