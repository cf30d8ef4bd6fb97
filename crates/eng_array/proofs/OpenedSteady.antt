-- An opened core is steady.
use Rattle.std.proofs.Common.{◌≡◌, ℕ, ◌<◌, ◌≤◌, ◌+◌, List, [], length, subst, sym, ap, ◌∙◌, arith, Bool, true, Option, Some, None}
use Rattle.std.specs.Prelude.{slice_get, if◌then◌else◌}
use Rattle.std.proofs.lemmas.Option.{slice_get_within}
use Rattle.blk_plain.specs.declared.op.Op.{Op}
use Rattle.blk_disk.specs.declared.disk.Disk.{Ghosts as DiskGhosts}
use Rattle.lay_core.specs.Layout.{Shape}
use Rattle.lay_core.specs.declared.layout.Layout.{Ghosts as LayoutGhosts}
use Rattle.graph_mean.specs.Graph.{Held}
use Rattle.eng_cols.specs.Cols.{ColumnState, Columns}
use Rattle.eng_world.specs.declared.item.Item.{Item}
use Rattle.eng_world.specs.declared.item.Item.TheVariants as item
use Rattle.eng_world.specs.World.{World}
use Rattle.eng_world.specs.Step.{IsOpening}
use Rattle.item_list.specs.ItemList.{ItemList}
use Rattle.eng_rest.specs.Left.{below, alive}
use Rattle.eng_rest.proofs.Summing.{below-le}
use Rattle.eng_parts.specs.declared.setup.Setup.{Setup}
use Rattle.eng_state.specs.declared.array.Array.{Array}
use Rattle.eng_state.specs.Beginning.{AllAsked}
use Rattle.eng_clients.specs.Desk.{Desk, desk_at}
use Rattle.eng_array.specs.Fitting.{most_in, item_events, row_events, opening_events, FitsTrace}
use Rattle.eng_log.specs.Given.{items_at}
use Rattle.eng_log.specs.Laid.{items_before}
use Rattle.eng_log.specs.Log.{Logged}
use Rattle.eng_cols.specs.Stripes.{states_of}
use Rattle.eng_events.specs.Opened.{IsSetup, IsOpened, OpensWorlds}
use Rattle.eng_events.specs.Opened as opened
use Rattle.eng_array.specs.Serving.{AreServing, most_for}
use Rattle.eng_array.specs.Serving as serving
use Rattle.eng_state.specs.Shows.{Shows}
use Rattle.eng_state.specs.Sound.{IsSound}
use Rattle.eng_state.specs.Steps.{graphs_of}
use Rattle.eng_ends.specs.Copied.{AreLaid}
use Rattle.eng_plan.specs.Pooled.{row_leases}
use Rattle.eng_parts.specs.Fresh.{all_leases, stocked}
use Rattle.eng_array.specs.Steady.{events_left, HasPlaces, HasStock, IsSteady}
use Rattle.eng_log.proofs.FewItems.{none-past}
use Rattle.eng_log.proofs.Laying.{below-none, below-one}
use Rattle.eng_events.proofs.OpeningDesks.{item-of, not-runs}
use Rattle.eng_array.proofs.SteadyOpen.{unbegun-left, open-steady}
use Rattle.eng_array.proofs.Stocked.{wanted, min-grows}

-- a graph that is one of so many is one of them
named-one : (n : ℕ) (graphs : List Held) → n ≡ length graphs → (i : Item) → opened.NamesGraph n i → serving.NamesGraph graphs i
named-one n graphs count (item.Run op None) is = tt
named-one n graphs count (item.Run op (Some g)) is = omega (arith, count, is)
named-one n graphs count (item.Fail column) is = tt

module _ {L D : Type 0} (lay : LayoutGhosts L) (disk : DiskGhosts D) (setup : Setup L D) (core : Array L D) (can : IsSetup lay disk setup) (o : IsOpened lay disk setup core) (few : items_before setup.clients.items 16 ≤ 65536) (fits : FitsTrace lay setup) (sound : IsSound lay disk core) (asked : AllAsked lay core) (worlds : OpensWorlds lay disk core) (laid : AreLaid core.log.handed core.clients) where
  abbrev y : Shape
  y = lay.shape core.layout

  abbrev graphs : List Held
  graphs = core.graphs.items

  abbrev given : List ItemList
  given = setup.clients.items

  abbrev columns : List ColumnState
  columns = states_of (lay.shape setup.layout) setup.columns.items

  abbrev w : World
  w = worlds.one.0

  shows : Shows disk core w
  shows = worlds.one.1

  opening : IsOpening y w
  opening = worlds.one.2

  same-graphs : graphs ≡ setup.graphs.items
  same-graphs = ap (λ v. v.items) o.graphs

  item-was : (c n : ℕ) (i : Item) → slice_get (desk_at core.clients c).items n ≡ Some i → slice_get (items_at given c) n ≡ Some i
  item-was = item-of core.clients (items_at given) o.count o.clients

  are-serving : AreServing lay core
  are-serving c = record {
    asked = asked c;
    named = λ n i at. named-one (length setup.graphs.items) graphs (sym (ap (λ (l : List Held). length l) same-graphs)) i (can.asked c n i (item-was c n i at)).2;
    runs = λ r. absurd (not-runs core.clients (items_at given) o.count o.clients c r);
  }

  -- ## Room

  abbrev most : ℕ → ℕ → ℕ
  most c n = most_in y graphs (slice_get (items_at given c) n)

  bound : (c n : ℕ) (op : Op) (file : Option ℕ) → slice_get (desk_at core.clients c).items n ≡ Some (item.Run op file) → most_for y graphs op file ≤ most c n
  bound c n op file at = let e : most c n ≡ most_for y graphs op file = ap (most_in y graphs) (item-was c n (item.Run op file) at) in omega (arith, e)

  columns-seen : w.columns ≡ columns
  columns-seen = shows.columns ∙ ap (λ (v : Columns). v.states) o.cols

  items-seen : (c : ℕ) → c < 17 → (w.clients c).items ≡ items_at given c
  items-seen c lt = (shows.clients c).items ∙ ap (λ (d : Desk). d.items) (o.clients c lt)

  -- what is left of a client's items before any has begun, in the world's words and in the setup's
  abbrev seen-row : ℕ → ℕ
  seen-row c = below (λ i. item_events (alive w.columns) (most c i)) (length (w.clients c).items)

  abbrev row : ℕ → ℕ
  row c = row_events y graphs (alive columns) (items_at given c)

  rows-same : (c : ℕ) → c < 17 → seen-row c ≡ row c
  rows-same c lt =
      ap (λ (l : List Item). below (λ i. item_events (alive w.columns) (most c i)) (length l)) (items-seen c lt)
      ∙ ap (λ (n : ℕ). below (λ i. item_events n (most c i)) (length (items_at given c))) (ap alive columns-seen)

  last-row : row 16 ≡ 0
  last-row = ap (row_events y graphs (alive columns)) (none-past given o.laid.few 16 (omega arith)) ∙ below-none (λ i. item_events (alive columns) (most_in y graphs (slice_get [] i)))

  all-left : events_left most w ≤ opening_events y graphs columns given
  all-left =
      let a : events_left most w ≤ below seen-row 17 + alive w.columns = unbegun-left most w opening.unbegun in
      let b : below seen-row 17 ≤ below row 17 = below-le row seen-row 17 (λ c lt. let e = rows-same c lt in omega (arith, e)) in
      let n : alive w.columns ≡ alive columns = ap alive columns-seen in
      let s : below row 17 ≡ below row 16 + row 16 = below-one row 16 in
      let z = last-row in
      omega (arith, a, b, n, s, z)

  trace-fits : setup.trace ≡ true → opening_events y graphs columns given ≤ 1048576 + 2 + (lay.shape setup.layout).columns
  trace-fits on =
      subst (λ (v : Shape). opening_events v graphs columns given ≤ 1048576 + 2 + (lay.shape setup.layout).columns) (sym (ap lay.shape o.layout))
      (subst (λ (g : List Held). opening_events (lay.shape setup.layout) g columns given ≤ 1048576 + 2 + (lay.shape setup.layout).columns) (sym same-graphs) (fits on))

  unnoted : core.log.trace ≡ []
  unnoted = ap (λ (l : Logged). l.trace) o.log

  trace-room : core.log.keeps ≡ true → length core.log.trace + events_left most w ≤ core.log.trace_room
  trace-room on =
      let keeps : setup.trace ≡ true = sym (ap (λ (l : Logged). l.keeps) o.log) ∙ on in
      let room : core.log.trace_room ≡ 1048576 + 2 + (lay.shape setup.layout).columns = ap (λ (l : Logged). l.trace_room) o.log ∙ ap (λ (b : Bool). if b then 1048576 + 2 + (lay.shape setup.layout).columns else 0) keeps in
      let none : length core.log.trace ≡ 0 = ap (λ l. length l) unnoted in
      let a = all-left in
      let f = trace-fits keeps in
      omega (arith, room, none, a, f)

  history-room : below (λ c. length (desk_at core.clients c).items) 17 ≤ core.log.history_room
  history-room =
      let a : below (λ c. length (desk_at core.clients c).items) 17 ≤ below (λ c. length (items_at given c)) 17 = below-le (λ c. length (items_at given c)) (λ c. length (desk_at core.clients c).items) 17 (λ c lt. let e = ap (λ (d : Desk). length d.items) (o.clients c lt) in omega (arith, e)) in
      let s : below (λ c. length (items_at given c)) 17 ≡ below (λ c. length (items_at given c)) 16 + length (items_at given 16) = below-one (λ c. length (items_at given c)) 16 in
      let z : length (items_at given 16) ≡ 0 = ap (λ (l : List Item). length l) (none-past given o.laid.few 16 (omega arith)) in
      let r : core.log.history_room ≡ 65536 + (lay.shape setup.layout).stripes = ap (λ (l : Logged). l.history_room) o.log in
      omega (arith, a, s, z, r, few)

  places : HasPlaces lay disk core w
  places = record { most = most; bound = bound; trace = trace-room; history = history-room }

  -- ## The buffers that are there

  stock : HasStock lay disk core
  stock = record {
    own = λ n i at.
        let none : slice_get (items_at given 16) n ≡ Some i = item-was 16 n i at in
        let past : slice_get [] n ≡ Some i = ap (λ (l : List Item). slice_get l n) (sym (none-past given o.laid.few 16 (omega arith))) ∙ none in
        absurd (let lt = slice_get_within [] n i past in let u : ⊥ = omega (arith, lt) in u);
    there =
        let rows = below-le (λ c. row_leases y graphs (items_at given c)) (λ c. row_leases y graphs (desk_at core.clients c).items) 16 (λ c lt. let e = ap (λ (d : Desk). row_leases y graphs d.items) (o.clients c (omega (arith, lt))) in omega (arith, e)) in
        let fewer = min-grows (wanted y graphs core.clients) (all_leases y graphs given) (omega (arith, rows)) in
        let there : length core.pool.seats ≡ stocked y graphs given = o.pool.seats ∙ (ap (λ (v : Shape). stocked v setup.graphs.items given) (sym (ap lay.shape o.layout)) ∙ ap (λ (v : List Held). stocked y v given) (sym same-graphs)) in
        omega (arith, fewer, there);
  }

  pub opened-steady : IsSteady lay disk core
  opened-steady = open-steady lay disk core w sound opening o.pool.free shows unnoted are-serving places laid (subst (λ (v : List Held). opened.FitThePool (graphs_of v)) (sym same-graphs) can.fit) stock
