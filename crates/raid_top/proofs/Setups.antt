-- What was admitted may be served.
use Rattle.std.specs.Prelude.{◌≡◌, ◌+◌, ◌*◌, ◌<◌, ◌≤◌, ◌&&◌, ℕ, zero, suc, Bool, true, false, List, [], ◌∷◌, ◌++◌, length, map, All, Option, Some, None, Ok, nat_lt, count_by, slice_get}
use Rattle.std.specs.Option.{ForSome}
use Rattle.std.proofs.Common.{arith, refl, sym, ap, subst, inl, inr, ◌∙◌}
use Rattle.std.proofs.lemmas.Bool.{cases_lt, lt-ltb}
use Rattle.std.proofs.lemmas.Option.{slice_get_within, get_or_from_slice_get}
use Rattle.blk_plain.specs.declared.op.Op.TheVariants as op
use Rattle.blk_disk.specs.declared.disk.Disk.{Ghosts}
use Rattle.lay_core.specs.Layout.{Shape}
use Rattle.lay_core.specs.declared.layout.Layout.{Ghosts as LayoutGhosts}
use Rattle.eng_cols.specs.declared.column.Column.{Column}
use Rattle.eng_cols.specs.declared.column.Column.TheVariants as column
use Rattle.eng_cols.specs.Cols.{Columns, Filling, HasDevice, Spread, is_set_filling, is_set_spread, none_done, state_set}
use Rattle.eng_array.specs.Fitting.{BeginsAtMost, FitsRebuilding}
use Rattle.eng_array.specs.Starts.{begun_by, column_of, most_of}
use Rattle.eng_array.specs.declared.start.Start.{Start}
use Rattle.eng_array.specs.declared.start.Start.TheVariants as start
use Rattle.eng_cols.specs.Laws.{HaveSpares}
use Rattle.eng_state.specs.Beginning as begin
use Rattle.eng_cols.specs.Stripes.{filled_in, states_of}
use Rattle.eng_events.specs.Opened.{IsSetup, NamesGraph}
use Rattle.eng_log.specs.Given.{items_at, items_in}
use Rattle.eng_parts.specs.declared.setup.Setup.{Setup}
use Rattle.eng_world.specs.declared.item.Item.{Item}
use Rattle.eng_world.specs.declared.item.Item.TheVariants as item
use Rattle.eng_world.specs.Step.{MayBeAsked}
use Rattle.item_list.specs.ItemList.{ItemList}
use Rattle.raid_script.specs.Asked.{AreFew, IsAsked, seen}
use Rattle.top_bound.specs.Bound.{trace_sum}
use Rattle.top_bound.specs.Words.{rebuilds_sum}
use Rattle.top_bound.specs.Laws.{IsSmall, asked_of}
use Rattle.top_bound.proofs.Counted.{what-fits, what-fits-rebuilt}
use Rattle.top_bound.specs.Traced.{AreScriptAndGraphs}
use Rattle.top_bound.proofs.Limits.{few-have-room, graphs-fit}
use Rattle.top_bound.proofs.Patched.{asked-few, has-blocks}
use Rattle.std.proofs.lemmas.List.{length-append, length-set}
use Rattle.lay_core.specs.Layout.{blocks_in}
use Rattle.eng_cols.specs.Lost.{NotLost}
use Rattle.raid_conf.specs.Layouts.{shape_of}
use Rattle.raid_script.specs.Asked.{Asked as Asks}
use Rattle.top_bay.specs.Asked.{Asked, names_of}
use Rattle.top_bay.specs.Views.{IsWithinLimits}
use Rattle.top_open.specs.Opening.{Opened}
use Rattle.top_open.specs.declared.fronts.Front.{Front}
use Rattle.top_duty.specs.Duty.{rebuilds_by}
use Rattle.top_duty.specs.Steps.{ComesOfJoins, clients_by, with_dead, admitted_with, traces}
use Rattle.top_duty.specs.Fit.{IsFit, IsStart, IsStartIf, begun_in}
use Rattle.top_duty.specs.Opening.{needs_of}
use Rattle.top_duty.specs.Views.{IsReady, drawn_by, graphs_with}
use Rattle.top_join.proofs.Fitting.{joined_count, joined_small}
use Rattle.graph_mean.specs.Graph.{View}
use Rattle.top_duty.proofs.Drawing.{either_asked, either_few}
use Rattle.top_duty.proofs.Fits.{fit_apart, fit_labelled, fit_there}
use Rattle.raid_conf.proofs.TableLaws.{shape-columns}
use Rattle.raid_label.specs.declared.label.Label.{Label}
use Rattle.eng_cols.specs.Settable.{IsSettable}
use Rattle.top_rounds.specs.Labels.{IsLabelFor}
use Rattle.top_rounds.specs.Passes.{CanBeLabelled}
use Rattle.top_labelled.specs.Given as given
use Rattle.top_serve.specs.Setups.{columns_in}
use Rattle.top_labelled.specs.Given.{RebuildsIf}
use Rattle.raid_top.specs.Served.{MayLabelIf, MayServe}
use Rattle.raid_top.proofs.Rebuilds.{columns_before, kept_as_opened, may_rebuild}
use Rattle.graph_text.specs.Format.{Named}
use Rattle.graph_text.specs.FormatForm.{AreGraphs}
use Rattle.top_duty.proofs.Words.{rebuilds_of}

-- ## Items

named : (graphs : ℕ) (g : Option ℕ) (o : _) → ForSome g (λ x. x < graphs) → NamesGraph graphs (item.Run o g)
named graphs None o h = tt
named graphs (Some g) o h = h g refl

may_run : (y : Shape) (columns graphs : ℕ) (i : Item) → columns ≡ y.columns → IsAsked columns graphs (seen i) → begin.IsAsked y i × MayBeAsked y i × NamesGraph graphs i
may_run y columns graphs (item.Run (op.Write span pattern) g) same h = (h.1, tt, named graphs g (op.Write span pattern) h.2)
may_run y columns graphs (item.Run (op.Writes patches) g) same h =
    let few = asked-few columns graphs patches g h in
    let blocks = has-blocks patches few.0 few.1 in
    (blocks, blocks.0, named graphs g (op.Writes patches) few.2)
may_run y columns graphs (item.Run (op.Read span) g) same h = (h.1, tt, named graphs g (op.Read span) h.2)
may_run y columns graphs (item.Run (op.Sync stripe) None) same h = (tt, tt, tt)
may_run y columns graphs (item.Run (op.Sync stripe) (Some g)) same h = absurd h
may_run y columns graphs (item.Run (op.Rebuild stripe) g) same h = absurd h
may_run y columns graphs (item.Fail c) same h = let P : ℕ → Type 0 = λ n. c < n in let lt = subst P same h in (lt, lt, tt)

-- an element of all
all_at : {X : Type 0} (P : X → Type 0) (xs : List X) (n : ℕ) (x : X) → All P xs → slice_get xs n ≡ Some x → P x
all_at P xs n x all at = subst P (get_or_from_slice_get xs n x x at) (all n x (slice_get_within xs n x at))

map_at : {X Z : Type 0} (f : X → Z) (xs : List X) (n : ℕ) (x : X) → slice_get xs n ≡ Some x → slice_get (map f xs) n ≡ Some (f x)
map_at f [] n x e = cc e
map_at f (y ∷ xs) zero x e = ap (λ o. Some o) (ap f (cc e))
map_at f (y ∷ xs) (suc n) x e = map_at f xs n x e

item_is : (columns graphs : ℕ) (given : List ItemList) (c n : ℕ) (i : Item) → All (All (IsAsked columns graphs)) (asked_of given) → slice_get (items_at given c) n ≡ Some i → IsAsked columns graphs (seen i)
item_is columns graphs given c n i all at = of (slice_get given c) refl at
  where
    of : (o : Option ItemList) → slice_get given c ≡ o → slice_get (items_in o) n ≡ Some i → IsAsked columns graphs (seen i)
    of None e h = cc h
    of (Some v) e h =
        let row = all_at (All (IsAsked columns graphs)) (asked_of given) c (map seen v.items) all (map_at (λ (w : ItemList). map seen w.items) given c v e) in
        all_at (IsAsked columns graphs) (map seen v.items) n (seen i) row (map_at seen v.items n i h)

length-mapped : {X Z : Type 0} (f : X → Z) (xs : List X) → length (map f xs) ≡ length xs
length-mapped f [] = refl
length-mapped f (x ∷ xs) = ap suc (length-mapped f xs)

-- ## The trace

within_bound : (t : Bool) (n : ℕ) → t ≡ true → (t && nat_lt 1048576 n) ≡ false → n ≤ 1048576
within_bound true n e h = elim (cases_lt 1048576 n) [
  | inl lt ↦ let more : nat_lt 1048576 n ≡ true = lt-ltb 1048576 n lt in cc (more, h)
  | inr le ↦ le
]
within_bound false n e h = cc e

-- with so many rebuilds
within_sum : (y z : Shape) (book : List View) (n more : ℕ) (rows others : List (List Asks)) (t : Bool) → y ≡ z → rows ≡ others → t ≡ true
    → (t && nat_lt 1048576 (trace_sum z book n others + rebuilds_sum z n more)) ≡ false → trace_sum y book n rows + rebuilds_sum y n more ≤ 1048576
within_sum y z book n more rows others t one two kept h =
    subst (λ (x : Shape). trace_sum x book n rows + rebuilds_sum x n more ≤ 1048576) (sym one)
    (subst (λ (r : List (List Asks)). trace_sum z book n r + rebuilds_sum z n more ≤ 1048576) (sym two) (within_bound t (trace_sum z book n others + rebuilds_sum z n more) kept h))

-- ## Graphs

-- there are as many as those of the file and the join lines
graph_count : (k : Asked) (o : Opened) (start : Option Start) (views : List View) → ComesOfJoins (admitted_with k o start views) (Ok views) → length (graphs_with k views) ≡ length k.book + length k.joins
graph_count k o start views joins =
    length-append (map (λ (n : Named). n.graph) k.book) views
    ∙ (ap (λ (n : ℕ). n + length views) (length-mapped (λ (n : Named). n.graph) k.book)
    ∙ ap (λ (n : ℕ). length k.book + n) (joined_count (shape_of k.conf o.rows) k.book k.clients (length k.book) k.joins views joins))

-- ## The setup

abbrev IsThere : {D : Type 0} → Ghosts D → List (Option D) → Shape → List Column → Type 0
IsThere {D} disk devices z columns = (c device : ℕ) → HasDevice (states_of z columns) c device → (x : D) × (slice_get devices device ≡ Some (Some x)) × (64 + z.rows * z.unit_sectors ≤ disk.size x)

abbrev IsApart : Shape → List Column → Type 0
IsApart z columns = (c e device : ℕ) → HasDevice (states_of z columns) c device → HasDevice (states_of z columns) e device → c ≡ e

module _ {L D : Type 0} (lay : LayoutGhosts L) (disk : Ghosts D) (setup : Setup L D) where
  is_setup : (columns : ℕ) (book : List Named) (views : List View) (k : Asked) (o : Opened)
      → columns ≡ (lay.shape setup.layout).columns
      → IsWithinLimits k → IsFit disk k o setup.devices.items → k.conf.columns ≡ columns
      → lay.shape setup.layout ≡ shape_of k.conf o.rows → setup.columns.items ≡ o.columns
      → All (All (IsAsked columns (length (map (λ n. n.graph) book ++ views)))) (asked_of setup.clients.items)
      → AreGraphs book → All IsSmall views → map (λ g. g.drawn) setup.graphs.items ≡ map (λ n. n.graph) book ++ views
      → IsSetup lay disk setup
  is_setup columns book views k o same within fit many shape cols asked graphs small are =
      let y = lay.shape setup.layout in
      let all = map (λ (n : Named). n.graph) book ++ views in
      let as_many : length all ≡ length setup.graphs.items = ap (λ l. length l) (sym are) ∙ length-mapped (λ g. g.drawn) setup.graphs.items in
      record {
        entries = ap (λ (l : List Column). length l) cols ∙ (fit.entries ∙ (many ∙ same));
        filling = subst (λ (l : List Column). count_by is_set_filling l ≤ 1) (sym cols) fit.filling;
        spread = subst (λ (l : List Column). count_by is_set_spread l ≤ 1) (sym cols) fit.spread;
        spares = subst (λ (z : Shape). HaveSpares z (states_of z setup.columns.items)) (sym shape) (subst (λ (l : List Column). HaveSpares (shape_of k.conf o.rows) (states_of (shape_of k.conf o.rows) l)) (sym cols) fit.spares);
        there = subst (λ (z : Shape). IsThere disk setup.devices.items z setup.columns.items) (sym shape) (subst (λ (l : List Column). IsThere disk setup.devices.items (shape_of k.conf o.rows) l) (sym cols) (λ c d h. fit_there disk k o setup.devices.items fit within.conf (shape_of k.conf o.rows) c d h));
        one_column = subst (λ (z : Shape). IsApart z setup.columns.items) (sym shape) (subst (λ (l : List Column). IsApart (shape_of k.conf o.rows) l) (sym cols) (λ c e d one other. fit_apart disk k o setup.devices.items fit (shape_of k.conf o.rows) c e d one other));
        asked = λ c n i at. subst (λ (j : ℕ). begin.IsAsked y i × MayBeAsked y i × NamesGraph j i) as_many (may_run y columns (length all) i same (item_is columns (length all) setup.clients.items c n i asked at));
        fit = graphs-fit book views setup.graphs.items graphs small are;
      }

  -- what was admitted may be served
  pub may_serve : (k : Asked) (o : Opened) (start : Option Start) (views : List View) (sizes : List ℕ) (fronts : List Front) → IsWithinLimits k → IsReady k sizes fronts o start views → IsFit disk k o setup.devices.items
      → lay.shape setup.layout ≡ shape_of k.conf o.rows → setup.columns.items ≡ o.columns → length setup.devices.items ≡ length (names_of k.conf)
      → asked_of setup.clients.items ≡ clients_by k.command.action k.clients (blocks_in (shape_of k.conf o.rows))
      → All (All (IsAsked k.conf.columns (length (graphs_with k views)))) (drawn_by k.command.action (blocks_in (shape_of k.conf o.rows)))
      → AreFew (drawn_by k.command.action (blocks_in (shape_of k.conf o.rows)))
      → map (λ g. g.drawn) setup.graphs.items ≡ graphs_with k views
      → setup.trace ≡ traces k.command.action
      → MayServe lay disk setup
  may_serve k o start views sizes fronts within ready fit shape columns many clients drawn_asked drawn_few graphs trace =
      let y = lay.shape setup.layout in
      let blocks = blocks_in (shape_of k.conf o.rows) in
      let conf = within.conf in
      let asked = subst (λ (rows : List (List Asks)). All (All (IsAsked k.conf.columns (length (graphs_with k views)))) rows) (sym clients)
      (either_asked k.conf.columns (length (graphs_with k views)) k.command.action k.clients blocks
      (subst (λ (n : ℕ). All (All (IsAsked k.conf.columns n)) k.clients) (sym (graph_count k o start views ready.may.joins)) within.asked) drawn_asked) in
      let few = subst (λ (rows : List (List Asks)). AreFew rows) (sym clients) (either_few k.command.action k.clients blocks within.few drawn_few) in
      let room = few-have-room setup.clients.items few in
      let same : k.conf.columns ≡ y.columns = sym (shape-columns k.conf o.rows conf) ∙ sym (ap (λ (z : Shape). z.columns) shape) in
      let entries : length setup.columns.items ≡ k.conf.columns = ap (λ (l : List Column). length l) columns ∙ fit.entries in
      let names : length (names_of k.conf) ≡ k.conf.columns + k.conf.spares = length-append k.conf.disks k.conf.spare_names ∙ (ap (λ (n : ℕ). n + length k.conf.spare_names) conf.disk_count ∙ ap (λ (n : ℕ). k.conf.columns + n) conf.spare_count) in
      let alive : NotLost (shape_of k.conf o.rows) (states_of (shape_of k.conf o.rows) o.columns) = kept_as_opened (shape_of k.conf o.rows) (needs_of k).excused (states_of (shape_of k.conf o.rows) o.columns) ready.may.kept in
      record {
        opens = is_setup k.conf.columns k.book views k o same within fit refl shape columns asked within.graphs (joined_small (shape_of k.conf o.rows) k.book k.clients (length k.book) k.joins views ready.may.joins) graphs;
        few = record { clients = room.clients; items = room.items; sectors = room.sectors; devices = omega (arith, many, names, conf.columns_most, conf.spares_most) };
        trace = λ kept. what-fits lay setup (graphs_with k views) (length (names_of k.conf)) k.conf.columns (entries ∙ same) (omega (arith, same, names))
            (record { clients = room.clients; asked = asked; graphs_are = graphs })
            (let all = within_sum (lay.shape setup.layout) (shape_of k.conf o.rows) (graphs_with k views) (length (names_of k.conf)) (rebuilds_of (admitted_with k o start views)) (asked_of setup.clients.items) (clients_by k.command.action k.clients blocks) (traces k.command.action) shape clients (sym trace ∙ kept) ready.may.bound in omega (arith, all)) kept;
        kept = subst (λ (z : Shape). NotLost z (states_of z setup.columns.items)) (sym shape) (subst (λ (l : List Column). NotLost (shape_of k.conf o.rows) (states_of (shape_of k.conf o.rows) l)) (sym columns) alive);
      }

-- ## A rebuild

dead_length : (e : Option ℕ) (columns : List Column) → length (with_dead e columns) ≡ length columns
dead_length None columns = refl
dead_length (Some c) columns = length-set columns c column.Dead

begun_length : (cols : Columns) (s : Start) → length (begun_by cols s) ≡ length cols.states
begun_length cols (start.Fill c d most) = length-set cols.states c (Filling d (none_done cols.stripes))
begun_length cols (start.Resume c most) = refl
begun_length cols (start.Spread c) = length-set cols.states c (Spread (none_done cols.stripes))

-- as the rebuild begins with these columns, a trace that is kept has room for it
module _ {L D : Type 0} (lay : LayoutGhosts L) (setup : Setup L D) where
  fits_with : (k : Asked) (o : Opened) (s : Start) (views : List View) (sizes : List ℕ) (fronts : List Front) → IsWithinLimits k → IsReady k sizes fronts o (Some s) views → length o.columns ≡ k.conf.columns
      → BeginsAtMost (shape_of k.conf o.rows) (begun_in k o s) (column_of s) (most_of s) (rebuilds_by (shape_of k.conf o.rows) (with_dead (needs_of k).excused o.columns) (Some s))
      → lay.shape setup.layout ≡ shape_of k.conf o.rows → setup.columns.items ≡ with_dead (needs_of k).excused o.columns
      → asked_of setup.clients.items ≡ clients_by k.command.action k.clients (blocks_in (shape_of k.conf o.rows))
      → AreScriptAndGraphs k.conf.columns (graphs_with k views) setup.graphs.items setup.clients.items
      → setup.trace ≡ traces k.command.action
      → FitsRebuilding lay setup (begun_by (columns_in lay setup) s) (column_of s) (most_of s)
  fits_with k o s views sizes fronts within ready count few shape columns clients script trace kept =
      let y = lay.shape setup.layout in
      let z = shape_of k.conf o.rows in
      let dead = with_dead (needs_of k).excused o.columns in
      let n = length (names_of k.conf) in
      let conf = within.conf in
      let others = clients_by k.command.action k.clients (blocks_in z) in
      let rebuilds = rebuilds_by z dead (Some s) in
      let same : k.conf.columns ≡ y.columns = sym (shape-columns k.conf o.rows conf) ∙ sym (ap (λ (x : Shape). x.columns) shape) in
      let entries : length setup.columns.items ≡ k.conf.columns = ap (λ (l : List Column). length l) columns ∙ (dead_length (needs_of k).excused o.columns ∙ count) in
      let names : n ≡ k.conf.columns + k.conf.spares = length-append k.conf.disks k.conf.spare_names ∙ (ap (λ (m : ℕ). m + length k.conf.spare_names) conf.disk_count ∙ ap (λ (m : ℕ). k.conf.columns + m) conf.spare_count) in
      let most : BeginsAtMost y (begun_by (columns_in lay setup) s) (column_of s) (most_of s) rebuilds =
      subst (λ (x : Shape). BeginsAtMost x (begun_by (record { states = states_of x setup.columns.items; stripes = x.stripes }) s) (column_of s) (most_of s) rebuilds) (sym shape)
      (subst (λ (l : List Column). BeginsAtMost z (begun_by (record { states = states_of z l; stripes = z.stripes }) s) (column_of s) (most_of s) rebuilds) (sym columns) few) in
      let long : length (begun_by (columns_in lay setup) s) ≡ y.columns = begun_length (columns_in lay setup) s ∙ (length-mapped (state_set y.stripes (filled_in y setup.columns.items)) setup.columns.items ∙ (entries ∙ same)) in
      what-fits-rebuilt lay setup (graphs_with k views) (begun_by (columns_in lay setup) s) n k.conf.columns (column_of s) (most_of s) rebuilds (entries ∙ same) (omega (arith, same, names)) script long most
      (within_sum y z (graphs_with k views) n rebuilds (asked_of setup.clients.items) others (traces k.command.action) shape clients (sym trace ∙ kept) ready.may.bound) kept

module _ {L D : Type 0} (lay : LayoutGhosts L) (disk : Ghosts D) (setup : Setup L D) where
  -- a trace that is kept has room for the rebuild of this column
  fits_so : (k : Asked) (o : Opened) (s : Start) (views : List View) (sizes : List ℕ) (fronts : List Front) → IsWithinLimits k → IsReady k sizes fronts o (Some s) views → length o.columns ≡ k.conf.columns → IsStart disk k o setup.devices.items s
      → lay.shape setup.layout ≡ shape_of k.conf o.rows → (given.before_start setup s).columns.items ≡ with_dead (needs_of k).excused o.columns
      → asked_of setup.clients.items ≡ clients_by k.command.action k.clients (blocks_in (shape_of k.conf o.rows))
      → AreScriptAndGraphs k.conf.columns (graphs_with k views) setup.graphs.items setup.clients.items
      → setup.trace ≡ traces k.command.action
      → FitsRebuilding lay (given.before_start setup s) (begun_by (columns_in lay (given.before_start setup s)) s) (column_of s) (most_of s)
  fits_so k o (start.Fill c d most) views sizes fronts within ready count h shape columns clients script trace =
      fits_with lay (given.with_dead setup c) k o (start.Fill c d most) views sizes fronts within ready count h.few shape columns clients script trace
  fits_so k o (start.Resume c most) views sizes fronts within ready count h shape columns clients script trace =
      fits_with lay setup k o (start.Resume c most) views sizes fronts within ready count h.few shape columns clients script trace
  fits_so k o (start.Spread c) views sizes fronts within ready count h shape columns clients script trace =
      fits_with lay (given.with_dead setup c) k o (start.Spread c) views sizes fronts within ready count h.few shape columns clients script trace

  -- a column that was admitted to be rebuilt may be, if one was
  pub may_rebuild_if : (k : Asked) (o : Opened) (start : Option Start) (views : List View) (sizes : List ℕ) (fronts : List Front) → IsWithinLimits k → IsReady k sizes fronts o start views → IsFit disk k o setup.devices.items → IsStartIf disk k o setup.devices.items start
      → lay.shape setup.layout ≡ shape_of k.conf o.rows → setup.columns.items ≡ o.columns
      → asked_of setup.clients.items ≡ clients_by k.command.action k.clients (blocks_in (shape_of k.conf o.rows))
      → All (All (IsAsked k.conf.columns (length (graphs_with k views)))) (drawn_by k.command.action (blocks_in (shape_of k.conf o.rows)))
      → AreFew (drawn_by k.command.action (blocks_in (shape_of k.conf o.rows)))
      → map (λ g. g.drawn) setup.graphs.items ≡ graphs_with k views
      → setup.trace ≡ traces k.command.action
      → RebuildsIf lay disk setup start
  may_rebuild_if k o None views sizes fronts within ready fit h shape columns clients drawn_asked drawn_few graphs trace = tt
  may_rebuild_if k o (Some s) views sizes fronts within ready fit h shape columns clients drawn_asked drawn_few graphs trace =
      let blocks = blocks_in (shape_of k.conf o.rows) in
      let asked = subst (λ (rows : List (List Asks)). All (All (IsAsked k.conf.columns (length (graphs_with k views)))) rows) (sym clients)
      (either_asked k.conf.columns (length (graphs_with k views)) k.command.action k.clients blocks
      (subst (λ (n : ℕ). All (All (IsAsked k.conf.columns n)) k.clients) (sym (graph_count k o (Some s) views ready.may.joins)) within.asked) drawn_asked) in
      let few = subst (λ (rows : List (List Asks)). AreFew rows) (sym clients) (either_few k.command.action k.clients blocks within.few drawn_few) in
      let script : AreScriptAndGraphs k.conf.columns (graphs_with k views) setup.graphs.items setup.clients.items = record { clients = (few-have-room setup.clients.items few).clients; asked = asked; graphs_are = graphs } in
      may_rebuild lay disk setup k o within fit columns shape s h ready.may.kept
      (fits_so k o s views sizes fronts within ready fit.entries h shape (columns_before lay disk setup k o within fit columns shape s h.may) clients script trace)

-- ## Labels

module _ {L D : Type 0} (lay : LayoutGhosts L) (disk : Ghosts D) (setup : Setup L D) where
  -- the labels that it has may be written anew, and a column may be rebuilt
  pub may_label : (k : Asked) (o : Opened) (start : Option Start) (newest : Option Label) → IsWithinLimits k → IsFit disk k o setup.devices.items → (needs_of k).writes ≡ true → setup.columns.items ≡ o.columns → o.newest ≡ newest
      → RebuildsIf lay disk setup start → (o.newest ≡ None → start ≡ None) → MayLabelIf lay disk setup start newest
  may_label k o start None within fit writes columns is rebuilds unlabelled = unlabelled is
  may_label k o start (Some l) within fit writes columns is rebuilds unlabelled = record {
    array = subst (λ (cols : List Column). CanBeLabelled disk cols setup.devices.items) (sym columns) (fit_labelled disk k o setup.devices.items fit within.conf);
    held = subst (λ (cols : List Column). IsLabelFor cols l) (sym columns) (fit.newest l is).0;
    counter = (fit.newest l is).1 writes;
    rebuilds = rebuilds;
  }

-- columns that may be settled
pub settable : {D : Type 0} (disk : Ghosts D) (k : Asked) (o : Opened) (devices : List (Option D)) (y : Shape) → IsWithinLimits k → IsFit disk k o devices → y ≡ shape_of k.conf o.rows → IsSettable y o.columns
settable disk k o devices y within fit shape = record {
  entries = fit.entries ∙ (sym (shape-columns k.conf o.rows within.conf) ∙ sym (ap (λ (z : Shape). z.columns) shape));
  filling = fit.filling;
  spread = fit.spread;
}
