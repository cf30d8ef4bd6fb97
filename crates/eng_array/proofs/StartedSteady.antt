-- A core is steady as the rebuild of a dead column starts.
use Rattle.std.proofs.Common.{◌≡◌, ℕ, zero, suc, ◌<◌, ◌≤◌, ◌+◌, ◌*◌, List, [], ◌∷◌, ◌++◌, length, get_or, subst, refl, sym, ap, ◌∙◌, arith, inl, inr, Bool, true, false, Option, Some, None}
use Rattle.std.specs.Prelude.{slice_get, slice_set, slice_index_or, option_map, if◌then◌else◌}
use Rattle.std.proofs.lemmas.Bool.{cases_eq}
use Rattle.std.proofs.lemmas.List.{length-set, length-map, length_push}
use Rattle.std.proofs.lemmas.Option.{slice_get-map, slice_get-get_or, slice_get_within}
use Rattle.blk_plain.specs.declared.op.Op.{Op}
use Rattle.blk_plain.specs.declared.op.Op.TheVariants as op
use Rattle.blk_disk.specs.declared.disk.Disk.{Ghosts as DiskGhosts}
use Rattle.lay_core.specs.Layout.{Shape}
use Rattle.lay_core.specs.declared.layout.Layout.{Ghosts as LayoutGhosts}
use Rattle.graph_mean.specs.Graph.{Held}
use Rattle.eng_cols.specs.Cols.{ColumnState, Dead}
use Rattle.eng_world.specs.declared.item.Item.{Item}
use Rattle.eng_world.specs.declared.item.Item.TheVariants as item
use Rattle.eng_world.specs.declared.item.Traced.{Traced}
use Rattle.eng_world.specs.World.{World}
use Rattle.eng_world.specs.Serving.{IsUnbegun}
use Rattle.eng_rest.specs.Left.{below, is_alive, alive}
use Rattle.eng_rest.proofs.Summing.{below-le}
use Rattle.eng_clients.specs.declared.stage.Stage.{Stage}
use Rattle.eng_clients.specs.declared.stage.Stage.TheVariants.{Nothing, Runs}
use Rattle.eng_state.specs.declared.array.Array.{Array}
use Rattle.eng_state.specs.Beginning.{IsAsked}
use Rattle.eng_ends.specs.Copied.{AreLaid}
use Rattle.eng_clients.specs.Desk.{Desk, desk_at}
use Rattle.eng_array.specs.Fitting.{most_in, item_events, row_events, rebuild_events, BeginsAtMost, FitsRebuild}
use Rattle.eng_clients.specs.Listing.{rebuild}
use Rattle.eng_log.specs.Log.{noted}
use Rattle.eng_starts.specs.Rebuilding.{CanRebuild, Started, with_items}
use Rattle.eng_state.specs.Room.{HasRoom}
use Rattle.eng_array.specs.Serving.{NamesGraph, most_for_unit, most_for, IsServing, AreServing}
use Rattle.eng_state.specs.Shows.{Shows, ShowsCurrent}
use Rattle.eng_state.specs.Sound.{IsSound}
use Rattle.eng_plan.specs.Pooled.{own_leases, LeasesAtMost}
use Rattle.eng_plan.proofs.Pooling.{own-no-more}
use Rattle.eng_array.specs.Steady.{events_left, HasPlaces, HasStock, IsSteady}
use Rattle.eng_state.specs.Steps.{Follows}
use Rattle.eng_log.proofs.Laying.{below-grows, below-one}
use Rattle.eng_array.proofs.OneServing.{each-set}
use Rattle.eng_state.proofs.Shown.{desk-set, desk-else, replies-shown}
use Rattle.eng_array.proofs.Steady.{notes-of}
use Rattle.eng_array.proofs.SteadyOpen.{unbegun-left, room-steady}
use Rattle.eng_array.proofs.Stocked.{stock-with}

-- where a dead column comes alive, one more is
pub alive-more : (cols : List ColumnState) (c : ℕ) (x : ColumnState) → slice_get cols c ≡ Some Dead → is_alive x ≡ 1 → alive (slice_set cols c x) ≡ alive cols + 1
alive-more [] c x dead one = let z : None ≡ Some Dead = dead in absurd (let u : ⊥ = cc in u)
alive-more (k ∷ ks) zero x dead one = let z : Some k ≡ Some Dead = dead in let e : k ≡ Dead = cc in let none : is_alive k ≡ 0 = ap is_alive e in omega (arith, none, one)
alive-more (k ∷ ks) (suc c) x dead one = let r = alive-more ks c x dead one in omega (arith, r)

-- the trace has room for the start
pub start-room : {L D : Type 0} (lay : LayoutGhosts L) (core : Array L D) (cols : List ColumnState) (c asked : ℕ) → FitsRebuild lay core cols c asked → HasRoom core.log
start-room lay core cols c asked fits keeps = let a = (fits.trace keeps).2 in omega (arith, a)

module _ {L D : Type 0} (lay : LayoutGhosts L) (disk : DiskGhosts D) (old new : Array L D) (c asked : ℕ) (states : List ColumnState) (e : ℕ → Traced) (steady : IsSteady lay disk old) (can : CanRebuild lay disk old) (fits : FitsRebuild lay old states c asked) (f : Started lay old c asked states e new) where
  abbrev y : Shape
  y = lay.shape old.layout

  -- the event
  abbrev came : Traced
  came = e (length f.items)

  abbrev graphs : List Held
  graphs = old.graphs.items

  abbrev now : Desk
  now = with_items (desk_at old.clients 16) f.items

  abbrev desks : List Desk
  desks = slice_set old.clients 16 now

  abbrev plain : Array L D
  plain = record old { cols = record old.cols { states = states }; clients = desks; rebuilds = record { items = []; room = 0 }; log = noted old.log came }

  to-new : (P : Array L D → Type 0) → P plain → P new
  to-new P h = subst P (sym f.is) h

  below-all : 16 < length old.clients
  below-all = let all = steady.sound.well.all in omega (arith, all)

  -- ## The rebuilds

  abbrev stripes : List ℕ
  stripes = f.rebuilds.stripes

  count : length f.items ≡ length stripes
  count = ap (λ (l : List Item). length l) f.rebuilds.is ∙ length-map stripes rebuild

  item-is : (n : ℕ) → n < length stripes → slice_get f.items n ≡ Some (rebuild (get_or stripes n 0))
  item-is n lt = ap (λ (l : List Item). slice_get l n) f.rebuilds.is ∙ (slice_get-map rebuild stripes n ∙ ap (option_map rebuild) (slice_get-get_or stripes n 0 lt))

  -- what is so of each rebuild is so of each item
  as-rebuild : (P : Item → Type 0) → ((s : ℕ) → P (rebuild s)) → (n : ℕ) (i : Item) → slice_get f.items n ≡ Some i → P i
  as-rebuild P each n i at =
      let lt = slice_get_within f.items n i at in
      let k = count in
      let z : Some (rebuild (get_or stripes n 0)) ≡ Some i = sym (item-is n (omega (arith, lt, k))) ∙ at in
      let same : rebuild (get_or stripes n 0) ≡ i = cc in
      subst P same (each (get_or stripes n 0))

  -- ## What is kept

  fresh : (k : ℕ) → ((desk_at desks k).replies ≡ []) × ((desk_at desks k).stage ≡ Nothing)
  fresh = each-set (λ (d : Desk). (d.replies ≡ []) × (d.stage ≡ Nothing)) old.clients 16 now below-all (can.unbegun 16) can.unbegun

  unbegun : (w : World) → Shows disk plain w → IsUnbegun w
  unbegun w s k = (
    replies-shown disk plain w s can.not_lost k ∙ (fresh k).0,
    subst (λ (t : Stage). ShowsCurrent disk.tells old.pool t (desk_at desks k) (w.clients k).current) (fresh k).1 (s.clients k).current,
  )

  are-serving : AreServing lay plain
  are-serving = each-set (IsServing y graphs) old.clients 16 now below-all
      (record {
        asked = as-rebuild (IsAsked y) (λ s. tt);
        named = as-rebuild (NamesGraph graphs) (λ s. tt);
        runs = λ r. let z : Nothing ≡ Runs = sym (can.unbegun 16).1 ∙ r in absurd (let u : ⊥ = cc in u);
      })
      steady.serving

  laid : AreLaid old.log.handed old.clients → AreLaid old.log.handed desks
  laid h = record {
    clients = let a = h.clients in let l = length-set old.clients 16 now in omega (arith, a, l);
    items = λ k lt. elim (cases_eq k 16) [
      | inl is ↦ subst (λ (j : ℕ). length (desk_at desks j).items ≤ length (slice_index_or old.log.handed.regions j [])) (sym is)
          (let d = ap (λ (q : Desk). length q.items) (desk-set old.clients 16 now below-all) in let n = count in let m = f.rebuilds.few in let r = fits.regions in omega (arith, d, n, m, r))
      | inr ne ↦ let d = ap (λ (q : Desk). length q.items) (desk-else old.clients 16 k now ne) in let l = length-set old.clients 16 now in let a = h.items k (omega (arith, lt, l)) in omega (arith, d, a)
    ];
    reads = λ k i span file at. elim (cases_eq k 16) [
      | inl is ↦
          let there : slice_get f.items i ≡ Some (item.Run (op.Read span) file) = sym (ap (λ (j : ℕ). slice_get (desk_at desks j).items i) is ∙ ap (λ (q : Desk). slice_get q.items i) (desk-set old.clients 16 now below-all)) ∙ at in
          absurd (as-rebuild Reads-none (λ s. tt) i (item.Run (op.Read span) file) there)
      | inr ne ↦ h.reads k i span file (sym (ap (λ (q : Desk). slice_get q.items i) (desk-else old.clients 16 k now ne)) ∙ at)
    ];
  }
    where
      none-of : Op → Type 0
      none-of (op.Write span pattern) = Unit {0}
      none-of (op.Writes patches) = Unit {0}
      none-of (op.Read span) = ⊥
      none-of (op.Rebuild stripe) = Unit {0}
      none-of (op.Sync stripe) = Unit {0}

      Reads-none : Item → Type 0
      Reads-none (item.Run o file) = none-of o
      Reads-none (item.Fail column) = Unit {0}

  -- ## Room

  abbrev most : ℕ → ℕ → ℕ
  most k n = most_in y graphs (slice_get (desk_at desks k).items n)

  bound : (k n : ℕ) (o : Op) (file : Option ℕ) → slice_get (desk_at desks k).items n ≡ Some (item.Run o file) → most_for y graphs o file ≤ most k n
  bound k n o file at = let is : most k n ≡ most_for y graphs o file = ap (most_in y graphs) at in omega (arith, is)

  abbrev row : ℕ → ℕ
  row k = row_events y graphs (alive states) (desk_at desks k).items

  abbrev old-row : ℕ → ℕ
  old-row k = row_events y graphs (alive states) (desk_at old.clients k).items

  abbrev one : ℕ → ℕ
  one s = item_events (alive states) (most_for_unit y)

  not-last : (k : ℕ) → k < 16 → k ≡ 16 → ⊥
  not-last k lt is = let u : ⊥ = omega (arith, lt, is) in u

  rows-old : (k : ℕ) → k < 16 → row k ≤ old-row k
  rows-old k lt =
      let same : row k ≡ old-row k = ap (λ (d : Desk). row_events y graphs (alive states) d.items) (desk-else old.clients 16 k now (not-last k lt)) in
      omega (arith, same)

  -- no graph of a rebuild has more nodes than one for a unit may have
  most-rebuild : (n : ℕ) → n < length f.items → most_in y graphs (slice_get f.items n) ≡ most_for_unit y
  most-rebuild n lt =
      let k = count in
      ap (most_in y graphs) (item-is n (omega (arith, lt, k)))

  -- there are no more rebuilds than are asked, and no more than are left
  few-rebuilds : (rebuilds : ℕ) → BeginsAtMost y states c asked rebuilds → length f.items ≤ rebuilds
  few-rebuilds rebuilds (inl few) = let a = f.rebuilds.within in let b = count in omega (arith, a, b, few)
  few-rebuilds rebuilds (inr few) =
      let a = few stripes f.rebuilds.ascending (λ s there. (f.rebuilds.only s there).1) in
      let b = count in
      omega (arith, a, b)

  last-row : (rebuilds : ℕ) → BeginsAtMost y states c asked rebuilds → row 16 ≤ rebuild_events y (alive states) rebuilds
  last-row rebuilds few =
      let is : row 16 ≡ row_events y graphs (alive states) f.items = ap (λ (d : Desk). row_events y graphs (alive states) d.items) (desk-set old.clients 16 now below-all) in
      let a : row_events y graphs (alive states) f.items ≤ below one (length f.items) = below-le one (λ i. item_events (alive states) (most_in y graphs (slice_get f.items i))) (length f.items) (λ i lt. let q = ap (item_events (alive states)) (most-rebuild i lt) in omega (arith, q)) in
      let b : below one (length f.items) ≤ below one rebuilds = below-grows one (length f.items) rebuilds (few-rebuilds rebuilds few) in
      omega (arith, is, a, b)

  all-left : (w : World) (rebuilds : ℕ) → Shows disk plain w → BeginsAtMost y states c asked rebuilds → events_left most w ≤ below old-row 16 + rebuild_events y (alive states) rebuilds + alive states
  all-left w rebuilds s few =
      let a : events_left most w ≤ below seen-row 17 + alive w.columns = unbegun-left most w (unbegun w s) in
      let b : below seen-row 17 ≤ below row 17 = below-le row seen-row 17 (λ k lt. let q = rows-same k in omega (arith, q)) in
      let n : alive w.columns ≡ alive states = ap alive s.columns in
      let t : below row 17 ≡ below row 16 + row 16 = below-one row 16 in
      let o : below row 16 ≤ below old-row 16 = below-le old-row row 16 rows-old in
      let l = last-row rebuilds few in
      omega (arith, a, b, n, t, o, l)
    where
      seen-row : ℕ → ℕ
      seen-row k = below (λ i. item_events (alive w.columns) (most k i)) (length (w.clients k).items)

      rows-same : (k : ℕ) → seen-row k ≡ row k
      rows-same k =
          ap (λ (l : List Item). below (λ i. item_events (alive w.columns) (most k i)) (length l)) (s.clients k).items
          ∙ ap (λ (n : ℕ). below (λ i. item_events n (most k i)) (length (desk_at desks k).items)) (ap alive s.columns)

  trace-room : (w : World) → Shows disk plain w → old.log.keeps ≡ true → length (noted old.log came).trace + events_left most w ≤ old.log.trace_room
  trace-room w s keeps =
      let longer : length (noted old.log came).trace ≡ length old.log.trace + 1 = ap (λ (b : Bool). length (if b then old.log.trace ++ came ∷ [] else old.log.trace)) keeps ∙ length_push old.log.trace came in
      let fit = fits.trace keeps in
      let a = all-left w fit.0 s fit.1 in
      let r = fit.2 in
      omega (arith, longer, a, r)

  history-room : below (λ k. length (desk_at desks k).items) 17 ≤ old.log.history_room
  history-room =
      let a : below (λ k. length (desk_at desks k).items) 17 ≡ below (λ k. length (desk_at desks k).items) 16 + length (desk_at desks 16).items = below-one (λ k. length (desk_at desks k).items) 16 in
      let b : below (λ k. length (desk_at desks k).items) 16 ≤ below (λ k. length (desk_at old.clients k).items) 16 = below-le (λ k. length (desk_at old.clients k).items) (λ k. length (desk_at desks k).items) 16 (λ k lt. let q = ap (λ (d : Desk). length d.items) (desk-else old.clients 16 k now (not-last k lt)) in omega (arith, q)) in
      let d = ap (λ (q : Desk). length q.items) (desk-set old.clients 16 now below-all) in
      let n = count in
      let m = f.rebuilds.few in
      let r = fits.history in
      omega (arith, a, b, d, n, m, r)

  places : (w : World) → Shows disk plain w → HasPlaces lay disk plain w
  places w s = record { most = most; bound = bound; trace = trace-room w s; history = history-room }

  -- each rebuild leases as much as is kept for it
  stock : HasStock lay disk plain
  stock = stock-with lay disk old plain refl refl refl (λ k lt. ap (λ (q : Desk). q.items) (desk-else old.clients 16 k now (not-last k lt))) steady.stock
      (λ n i at. as-rebuild (LeasesAtMost y graphs (own_leases y)) (λ s. own-no-more y steady.sound.layout graphs s) n i (sym (ap (λ (q : Desk). slice_get q.items n) (desk-set old.clients 16 now below-all)) ∙ at))

  -- so is what is handed out
  pub started-laid : AreLaid old.log.handed old.clients → AreLaid new.log.handed new.clients
  started-laid h = to-new (λ (k : Array L D). AreLaid k.log.handed k.clients) (laid h)

  pub started-steady : IsSound lay disk new → Follows lay disk old came new → IsSteady lay disk new
  started-steady sound follows = room-steady lay disk old new came steady sound follows (ap (λ (k : Array L D). k.layout) f.is) (ap (λ (k : Array L D). k.graphs) f.is) (notes-of old.log came new.log (ap (λ (k : Array L D). k.log) f.is))
      (to-new (AreServing lay) are-serving)
      (to-new (λ (k : Array L D). (w : World) → Shows disk k w → HasPlaces lay disk k w) places)
      (started-laid steady.laid)
      (to-new (HasStock lay disk) stock)
