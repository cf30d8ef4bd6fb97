-- A core from its opening over a setup to its close at rest, and the run of worlds that lies between.
use Rattle.std.proofs.Common.{◌≡◌, ◌≢◌, ◌++◌, ◌+◌, inl, inr, ℕ, zero, suc, ◌≤◌, List, [], ◌∷◌, length, Option, Some, None, false, refl, sym, ◌∙◌, ap, subst, arith}
use Rattle.std.proofs.lemmas.Bool.{cases_lt}
use Rattle.std.proofs.lemmas.Option.{slice_get_past}
use Rattle.std.proofs.lemmas.List.{append-nil, get_or_past}
use Rattle.blk_disk.specs.declared.disk.Disk.{Ghosts as DiskGhosts}
use Rattle.lay_core.specs.Layout.{Shape, IsLayout}
use Rattle.lay_core.specs.declared.layout.Layout.{Ghosts as LayoutGhosts}
use Rattle.eng_cols.specs.Cols.{Columns}
use Rattle.eng_cols.specs.Stripes.{leading}
use Rattle.eng_world.specs.declared.item.Item.{Item}
use Rattle.eng_world.specs.declared.item.Traced.{Traced}
use Rattle.eng_world.specs.World.{World}
use Rattle.eng_world.specs.Planning.{Graphs, Promises}
use Rattle.eng_world.specs.Rebuilding.{GoesOntoBy, IsFrontOn, OneRebuilds, Rebuilds, SpreadAlike}
use Rattle.eng_world.specs.Step.{IsOpening, EventsLead}
use Rattle.item_list.specs.ItemList.{ItemList}
use Rattle.eng_rest.specs.Left.{IsOwn}
use Rattle.eng_parts.specs.declared.setup.Setup.{Setup}
use Rattle.eng_parts.specs.declared.setup.Closed.{Closed}
use Rattle.eng_clients.specs.Desk.{Desk, desk_at, no_desk}
use Rattle.eng_log.specs.Handed.{AreRegions}
use Rattle.eng_log.specs.Given.{items_in, items_at}
use Rattle.eng_state.specs.declared.array.Array.{Array}
use Rattle.eng_events.specs.Opened.{IsSetup, IsOpened, NoneOut, OpensWorlds}
use Rattle.eng_choice.specs.Picked.{IsResting}
use Rattle.eng_starts.specs.Rebuilding.{added, with_items}
use Rattle.eng_state.specs.Shows.{Shows}
use Rattle.eng_state.specs.Steps as steps
use Rattle.eng_state.proofs.Shown.{desk-else}
use Rattle.eng_array.specs.declared.start.Start.{Start}
use Rattle.eng_array.specs.declared.start.Start.TheVariants as at
use Rattle.eng_array.specs.Steady.{IsSteady}
use Rattle.eng_array.specs.Tickets.{AllOf, items_of, Goes, Same, After}
use Rattle.eng_array.proofs.Chains.{goes-append, goes-same, goes-leads}
use Rattle.eng_array.proofs.Promised.{library-promises}
use Rattle.top_serve.specs.Judged.{HasStarted, IsClosedBy}
use Rattle.top_serve.specs.Served.{BeginsBy}
use Rattle.top_serve.specs.Setups.{shape_in, states_in, graphs_in, MayStart, SectorsAreLong}
use Rattle.top_serve.proofs.Columns.{AreOwn}
use Rattle.top_serve.proofs.Alike.{AreBegun}
use Rattle.top_serve.proofs.Starting.{first_of, opens-behind, started-columns, run-append}

-- a rebuild onto a device goes as far as it asked
abbrev pub GoesSoFar : Type 0
GoesSoFar = (y : Shape) (graphs : Graphs) (opening now : World) (events : List Traced) (c device count : ℕ) → IsLayout y → Promises graphs → IsOpening y opening → Rebuilds c events → EventsLead y graphs opening events now
    → now.lost ≡ None → length (now.clients 16).replies ≡ length (now.clients 16).items → GoesOntoBy opening events c device count → 1 ≤ count → now.failed device ≡ false
    → IsFrontOn y opening.columns c → OneRebuilds now → SpreadAlike opening.columns now.columns → leading y now.columns c ≡ leading y opening.columns c + count

-- the core of an opening; behind the start of a rebuild, where one starts; at rest after events of the clients alone; and closed
pub record Between {L D : Type 0} (lay : LayoutGhosts L) (disk : DiskGhosts D) (setup : Setup L D) (how : Option Start) (first last : Array L D) (closed : Closed L D) : Type 0 where
  pub given : IsSetup lay disk setup
  pub may : MayStart lay disk setup how
  pub opened : IsOpened lay disk setup first
  pub worlds : OpensWorlds lay disk first
  pub begun : Array L D
  pub begins : HasStarted lay disk first how begun
  pub after : After lay disk begun last
  pub steady : IsSteady lay disk last
  pub home : NoneOut last.clients
  pub rest : IsResting last
  pub closes : IsClosedBy lay last how closed
  pub regions : AreRegions last.log.handed
  pub long : SectorsAreLong disk
  pub far : GoesSoFar

-- each of the events is an operation's
pub all-own : (events : List Traced) → AllOf IsOwn events → AreOwn events
all-own [] all e (n, within, is) = absurd (omega (arith, within))
all-own (x ∷ events) all e (zero, within, is) = subst IsOwn is all.0
all-own (x ∷ events) all e (suc n, within, is) = all-own events all.1 e (n, omega (arith, within), is)

-- what is handed in past the last client
pub no-items : (given : List ItemList) (c : ℕ) → length given ≤ c → items_at given c ≡ []
no-items given c past = ap items_in (slice_get_past given c past)

module _ {L D : Type 0} (lay : LayoutGhosts L) (disk : DiskGhosts D) where
  -- own events leave each client's items
  pub goes-items : (old new : Array L D) (events : List Traced) → AllOf IsOwn events → Goes lay disk old events new → (c : ℕ) → items_of new c ≡ items_of old c
  goes-items old new [] own g c = ap (λ (core : Array L D). items_of core c) g
  goes-items old new (e ∷ events) own g c = g.2.items own.0 c ∙ goes-items old g.0 events own.1 g.1 c

  -- the start of a rebuild is a chain
  goes-first : (how : Option Start) (old new : Array L D) → HasStarted lay disk old how new → Goes lay disk old (first_of how (added new)) new
  goes-first None old new h = h
  goes-first (Some how) old new h = (old, refl, h.0)

  -- it leaves each client's items, but for those of client 16
  first-items : (how : Option Start) (old new : Array L D) → HasStarted lay disk old how new → (c : ℕ) → c ≢ 16 → items_of new c ≡ items_of old c
  first-items None old new h c ne = ap (λ (core : Array L D). items_of core c) h
  first-items (Some how) old new h c ne = ap (λ (core : Array L D). items_of core c) h.1.is ∙ ap (λ (d : Desk). d.items) (desk-else old.clients 16 c (with_items (desk_at old.clients 16) h.1.items) ne)

begins-by : (how : Option Start) (count : ℕ) (own : List Traced) → AllOf IsOwn own → BeginsBy how count (own ++ first_of how count)
begins-by None count own all = subst (AllOf IsOwn) (sym (append-nil own)) all
begins-by (Some how) count own all = (own, refl, all)

module _ {L D : Type 0} (lay : LayoutGhosts L) (disk : DiskGhosts D) (setup : Setup L D) (how : Option Start) (first last : Array L D) (closed : Closed L D) (p : Between lay disk setup how first last closed) where
  abbrev y : Shape
  y = shape_in lay setup

  abbrev graphs : Graphs
  graphs = graphs_in setup

  abbrev own : List Traced
  own = p.after.events

  -- the events by which the rebuild starts
  abbrev firsts : List Traced
  firsts = first_of how (added p.begun)

  abbrev events : List Traced
  events = own ++ firsts

  abbrev start : World
  start = p.worlds.one.0

  goes-begun : Goes lay disk first firsts p.begun
  goes-begun = goes-first lay disk how first p.begun p.begins

  goes : Goes lay disk first events last
  goes = goes-append lay disk first p.begun last firsts own goes-begun p.after.goes

  same : Same lay disk first last
  same = goes-same lay disk first last events goes

  same-begun : Same lay disk first p.begun
  same-begun = goes-same lay disk first p.begun firsts goes-begun

  shape-first : lay.shape first.layout ≡ y
  shape-first = ap (λ l. lay.shape l) p.opened.layout

  shape-last : lay.shape last.layout ≡ y
  shape-last = same.shape ∙ shape-first

  graphs-first : steps.graphs_of first.graphs.items ≡ graphs
  graphs-first = ap (λ gs. steps.graphs_of gs.items) p.opened.graphs

  lead-begun : (x : World) × Shows disk p.begun x × EventsLead (lay.shape first.layout) (steps.graphs_of first.graphs.items) start firsts x
  lead-begun = goes-leads lay disk first p.begun firsts goes-begun start p.worlds.one.1

  abbrev mid : World
  mid = lead-begun.0

  lead : (x : World) × Shows disk last x × EventsLead (lay.shape p.begun.layout) (steps.graphs_of p.begun.graphs.items) mid own x
  lead = goes-leads lay disk p.begun last own p.after.goes mid lead-begun.1

  abbrev now : World
  now = lead.0

  run-begun : EventsLead y graphs start firsts mid
  run-begun = subst (λ (s : Shape). EventsLead s graphs start firsts mid) shape-first (subst (λ (gs : Graphs). EventsLead (lay.shape first.layout) gs start firsts mid) graphs-first lead-begun.2)

  run-own : EventsLead y graphs mid own now
  run-own = subst (λ (s : Shape). EventsLead s graphs mid own now) (same-begun.shape ∙ shape-first) (subst (λ (gs : Graphs). EventsLead (lay.shape p.begun.layout) gs mid own now) (same-begun.graphs ∙ graphs-first) lead.2)

  run : EventsLead y graphs start events now
  run = run-append y graphs start mid now firsts own run-begun run-own

  opening : IsOpening y start
  opening = subst (λ (s : Shape). IsOpening s start) shape-first p.worlds.one.2

  layout : IsLayout y
  layout = subst (λ (s : Shape). IsLayout s) shape-last p.steady.sound.layout

  promises : Promises graphs
  promises = library-promises setup.graphs.items

  opening-begun : IsOpening y mid
  opening-begun = opens-behind y graphs layout promises start opening how (added p.begun) mid run-begun

  start-columns : start.columns ≡ states_in lay setup
  start-columns = p.worlds.one.1.columns ∙ ap (λ (v : Columns). v.states) p.opened.cols

  begun-columns : AreBegun y.stripes how start.columns mid.columns
  begun-columns = by how mid run-begun
    where
      by : (how : Option Start) (w : World) → EventsLead y graphs start (first_of how (added p.begun)) w → AreBegun y.stripes how start.columns w.columns
      by None w r = ap (λ (v : World). v.columns) r
      by (Some (at.Fill c device most)) w r = started-columns y graphs layout promises start opening (at.Fill c device most) (added p.begun) w r
      by (Some (at.Resume c most)) w r = started-columns y graphs layout promises start opening (at.Resume c most) (added p.begun) w r
      by (Some (at.Spread c)) w r = started-columns y graphs layout promises start opening (at.Spread c) (added p.begun) w r

  -- ## Items

  few-clients : length setup.clients.items ≤ 16
  few-clients = p.opened.laid.few

  opened-items : (c : ℕ) → (desk_at first.clients c).items ≡ items_at setup.clients.items c
  opened-items c = elim (cases_lt c 17) [
    | inl lt ↦ ap (λ (d : Desk). d.items) (p.opened.clients c lt)
    | inr past ↦
        let count = p.opened.count in
        let few = few-clients in
        ap (λ (d : Desk). d.items) (get_or_past first.clients c no_desk (omega (arith, past, count))) ∙ sym (no-items setup.clients.items c (omega (arith, past, few)))
  ]

  last-begun : (c : ℕ) → (desk_at last.clients c).items ≡ (desk_at p.begun.clients c).items
  last-begun c = goes-items lay disk p.begun last own p.after.own p.after.goes c

  rebuilds-many : length (now.clients 16).items ≡ added p.begun
  rebuilds-many = ap (λ (l : List Item). length l) ((lead.1.clients 16).items ∙ last-begun 16)

  last-items : (c : ℕ) → c ≢ 16 → (desk_at last.clients c).items ≡ items_at setup.clients.items c
  last-items c ne = last-begun c ∙ (first-items lay disk how first p.begun p.begins c ne ∙ opened-items c)

  start-items : (c : ℕ) → (start.clients c).items ≡ items_at setup.clients.items c
  start-items c = (p.worlds.one.1.clients c).items ∙ opened-items c

  now-items : (c : ℕ) → c ≢ 16 → (now.clients c).items ≡ items_at setup.clients.items c
  now-items c ne = (lead.1.clients c).items ∙ last-items c ne

-- All of it: the worlds of the opening, of the start and of the close, and the runs that led from one to the next.
pub record Course {L D : Type 0} (lay : LayoutGhosts L) (disk : DiskGhosts D) (setup : Setup L D) (how : Option Start) (first last : Array L D) (closed : Closed L D) : Type 0 where
  pub between : Between lay disk setup how first last closed
  pub start : World
  pub mid : World
  pub own : List Traced
  pub now : World
  pub shows_start : Shows disk first start
  pub shows_mid : Shows disk between.begun mid
  pub shows_now : Shows disk last now
  pub count : ℕ
  pub goes : Goes lay disk first (own ++ first_of how count) last
  pub begins : BeginsBy how (length (now.clients 16).items) (own ++ first_of how count)
  pub are_own : AreOwn own
  pub run_begun : EventsLead (shape_in lay setup) (graphs_in setup) start (first_of how count) mid
  pub run_own : EventsLead (shape_in lay setup) (graphs_in setup) mid own now
  pub run : EventsLead (shape_in lay setup) (graphs_in setup) start (own ++ first_of how count) now
  pub opening : IsOpening (shape_in lay setup) start
  pub opening_begun : IsOpening (shape_in lay setup) mid
  pub layout : IsLayout (shape_in lay setup)
  pub promises : Promises (graphs_in setup)
  pub columns : start.columns ≡ states_in lay setup
  pub begun_columns : AreBegun (shape_in lay setup).stripes how start.columns mid.columns
  pub start_items : (c : ℕ) → (start.clients c).items ≡ items_at setup.clients.items c
  pub now_items : (c : ℕ) → c ≢ 16 → (now.clients c).items ≡ items_at setup.clients.items c
  pub last_items : (c : ℕ) → c ≢ 16 → (desk_at last.clients c).items ≡ items_at setup.clients.items c
  pub last_begun : (c : ℕ) → (desk_at last.clients c).items ≡ (desk_at between.begun.clients c).items
  pub few : length setup.clients.items ≤ 16
  pub many : length (now.clients 16).items ≡ count
  pub shape_last : lay.shape last.layout ≡ shape_in lay setup
  pub same : Same lay disk first last

pub course : {L D : Type 0} (lay : LayoutGhosts L) (disk : DiskGhosts D) (setup : Setup L D) (how : Option Start) (first last : Array L D) (closed : Closed L D) → Between lay disk setup how first last closed → Course lay disk setup how first last closed
course lay disk setup how first last closed p = record {
  between = p;
  start = p.worlds.one.0;
  mid = mid lay disk setup how first last closed p;
  own = p.after.events;
  now = now lay disk setup how first last closed p;
  shows_start = p.worlds.one.1;
  shows_mid = (lead-begun lay disk setup how first last closed p).1;
  shows_now = (lead lay disk setup how first last closed p).1;
  count = added p.begun;
  goes = goes lay disk setup how first last closed p;
  begins = subst (λ n. BeginsBy how n (p.after.events ++ first_of how (added p.begun))) (sym (rebuilds-many lay disk setup how first last closed p)) (begins-by how (added p.begun) p.after.events p.after.own);
  are_own = all-own p.after.events p.after.own;
  run_begun = run-begun lay disk setup how first last closed p;
  run_own = run-own lay disk setup how first last closed p;
  run = run lay disk setup how first last closed p;
  opening = opening lay disk setup how first last closed p;
  opening_begun = opening-begun lay disk setup how first last closed p;
  layout = layout lay disk setup how first last closed p;
  promises = promises lay disk setup how first last closed p;
  columns = start-columns lay disk setup how first last closed p;
  begun_columns = begun-columns lay disk setup how first last closed p;
  start_items = start-items lay disk setup how first last closed p;
  now_items = now-items lay disk setup how first last closed p;
  last_items = last-items lay disk setup how first last closed p;
  last_begun = last-begun lay disk setup how first last closed p;
  few = few-clients lay disk setup how first last closed p;
  many = rebuilds-many lay disk setup how first last closed p;
  shape_last = shape-last lay disk setup how first last closed p;
  same = same lay disk setup how first last closed p;
}
