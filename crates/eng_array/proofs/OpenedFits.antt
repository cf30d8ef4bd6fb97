-- A rebuild fits an opened core where it fits its setup.
use Rattle.std.proofs.Common.{◌≡◌, ℕ, ◌<◌, ◌≤◌, ◌+◌, List, [], length, sym, ap, subst, ◌∙◌, arith, Bool, true}
use Rattle.std.specs.Prelude.{slice_index_or, if◌then◌else◌}
use Rattle.std.proofs.lemmas.List.{length-replicate}
use Rattle.blk_disk.specs.declared.disk.Disk.{Ghosts as DiskGhosts}
use Rattle.lay_core.specs.Layout.{Shape}
use Rattle.lay_core.specs.declared.layout.Layout.{Ghosts as LayoutGhosts}
use Rattle.graph_mean.specs.Graph.{Held}
use Rattle.eng_cols.specs.Cols.{ColumnState, Columns}
use Rattle.item_list.specs.ItemList.{ItemList}
use Rattle.eng_rest.specs.Left.{below, alive}
use Rattle.eng_rest.proofs.Summing.{below-le}
use Rattle.eng_log.specs.declared.region.Region.{Region}
use Rattle.eng_parts.specs.declared.setup.Setup.{Setup}
use Rattle.eng_state.specs.declared.array.Array.{Array}
use Rattle.eng_clients.specs.Desk.{Desk, desk_at}
use Rattle.eng_array.specs.Fitting.{row_events, rebuild_events, BeginsAtMost, FitsRebuild, FitsRebuilding}
use Rattle.eng_log.specs.Given.{items_at}
use Rattle.eng_log.specs.Handed.{no_region}
use Rattle.eng_log.specs.Laid.{items_before}
use Rattle.eng_log.specs.Log.{Logged}
use Rattle.eng_cols.specs.Stripes.{states_of}
use Rattle.eng_events.specs.Opened.{IsOpened}

module _ {L D : Type 0} (lay : LayoutGhosts L) (disk : DiskGhosts D) (setup : Setup L D) (core : Array L D) (o : IsOpened lay disk setup core) (few : items_before setup.clients.items 16 ≤ 65536) where
  abbrev y : Shape
  y = lay.shape setup.layout

  abbrev given : List ItemList
  given = setup.clients.items

  abbrev columns : List ColumnState
  columns = states_of y setup.columns.items

  shape : lay.shape core.layout ≡ y
  shape = ap lay.shape o.layout

  graphs : core.graphs.items ≡ setup.graphs.items
  graphs = ap (λ v. v.items) o.graphs

  module _ (cols : List ColumnState) (column asked : ℕ) where
    abbrev row : ℕ → ℕ
    row c = row_events (lay.shape core.layout) core.graphs.items (alive cols) (desk_at core.clients c).items

    abbrev setup-row : ℕ → ℕ
    setup-row c = row_events y setup.graphs.items (alive cols) (items_at given c)

    rows-same : (c : ℕ) → c < 16 → row c ≡ setup-row c
    rows-same c lt =
        ap (λ (d : Desk). row_events (lay.shape core.layout) core.graphs.items (alive cols) d.items) (o.clients c (omega (arith, lt)))
        ∙ (ap (λ (v : Shape). row_events v core.graphs.items (alive cols) (items_at given c)) shape
        ∙ ap (λ (g : List Held). row_events y g (alive cols) (items_at given c)) graphs)

    rebuilds-same : (rebuilds : ℕ) → rebuild_events (lay.shape core.layout) (alive cols) rebuilds ≡ rebuild_events y (alive cols) rebuilds
    rebuilds-same rebuilds = ap (λ (v : Shape). rebuild_events v (alive cols) rebuilds) shape

    -- as many are begun
    few-same : (rebuilds : ℕ) → BeginsAtMost y cols column asked rebuilds → BeginsAtMost (lay.shape core.layout) cols column asked rebuilds
    few-same rebuilds few = subst (λ (v : Shape). BeginsAtMost v cols column asked rebuilds) (sym shape) few

  pub opened-fits : (cols : List ColumnState) (column asked : ℕ) → FitsRebuilding lay setup cols column asked → FitsRebuild lay core cols column asked
  opened-fits cols column asked fits = record {
    trace = λ on.
        let keeps : setup.trace ≡ true = sym (ap (λ (l : Logged). l.keeps) o.log) ∙ on in
        let room : core.log.trace_room ≡ 1048576 + 2 + y.columns = ap (λ (l : Logged). l.trace_room) o.log ∙ ap (λ (b : Bool). if b then 1048576 + 2 + y.columns else 0) keeps in
        let none : length core.log.trace ≡ 0 = ap (λ (l : Logged). length l.trace) o.log in
        let rows : below (row cols column asked) 16 ≤ below (setup-row cols column asked) 16 = below-le (setup-row cols column asked) (row cols column asked) 16 (λ c lt. let e = rows-same cols column asked c lt in omega (arith, e)) in
        let f = fits keeps in
        let r = rebuilds-same cols column asked f.0 in
        let fit = f.2 in
        (f.0, few-same cols column asked f.0 f.1, omega (arith, room, none, rows, fit, r));
    history =
        let items : below (λ c. length (desk_at core.clients c).items) 16 ≤ below (λ c. length (items_at given c)) 16 = below-le (λ c. length (items_at given c)) (λ c. length (desk_at core.clients c).items) 16 (λ c lt. let e = ap (λ (d : Desk). length d.items) (o.clients c (omega (arith, lt))) in omega (arith, e)) in
        let room : core.log.history_room ≡ 65536 + y.stripes = ap (λ (l : Logged). l.history_room) o.log in
        let s : (lay.shape core.layout).stripes ≡ y.stripes = ap (λ (v : Shape). v.stripes) shape in
        omega (arith, items, room, s, few);
    regions =
        let row : length (slice_index_or core.log.handed.regions 16 []) ≡ y.stripes = ap (λ (l : List Region). length l) o.laid.own_row ∙ length-replicate y.stripes no_region in
        let s : (lay.shape core.layout).stripes ≡ y.stripes = ap (λ (v : Shape). v.stripes) shape in
        omega (arith, row, s);
  }
