-- The opening of the tests may be made.
use Rattle.std.proofs.Common.{◌≡◌, ◌<◌, ◌≤◌, ◌+◌, ◌*◌, ℕ, zero, suc, List, [], ◌∷◌, length, refl, sym, ◌∙◌, ap, subst, arith, inl, inr, Option, Some, None, All}
use Rattle.std.specs.Prelude.{slice_get, slice_index_or, count_by}
use Rattle.std.proofs.lemmas.Option.{get_or_from_slice_get, slice_get_within}
use Rattle.blk_plain.specs.declared.op.Op.{Op}
use Rattle.blk_plain.specs.declared.op.Op.TheVariants as op
use Rattle.blk_disk.specs.declared.disk.Disk.{Ghosts as DiskGhosts}
use Rattle.lay_core.specs.Layout.{Shape}
use Rattle.lay_core.specs.declared.layout.Layout.{Ghosts as LayoutGhosts}
use Rattle.lay_plain.specs.LeftSymmetric.{left_symmetric}
use Rattle.graph_mean.specs.Graph.{Held}
use Rattle.eng_cols.specs.declared.column.Column.{Column}
use Rattle.eng_cols.specs.declared.column.Column.TheVariants as set
use Rattle.eng_cols.specs.Cols.{ColumnState, Live, Filling, Spread, HasDevice, is_set_filling, is_set_spread}
use Rattle.eng_world.specs.declared.item.Item.{Item}
use Rattle.eng_world.specs.declared.item.Item.TheVariants as item
use Rattle.eng_world.specs.Step.{MayBeAsked}
use Rattle.item_list.specs.ItemList.{ItemList}
use Rattle.eng_rest.specs.Left.{below}
use Rattle.eng_parts.specs.declared.setup.Setup.{Setup}
use Rattle.eng_state.specs.Beginning.{IsAsked}
use Rattle.eng_log.specs.Given.{items_in, items_at}
use Rattle.eng_log.specs.Laid.{item_sectors, sectors_in, sectors_at, row_sectors, sectors_before, items_before}
use Rattle.eng_cols.specs.Stripes.{states_of}
use Rattle.eng_events.specs.Opened.{NamesGraph, FitThePool, IsSetup}
use Rattle.eng_state.specs.Steps.{graphs_of}
use Rattle.eng_plan.specs.Asked.{no_graph}
use Rattle.crew_tests.specs.Trial.{IsSmallOp, IsSmall, AreSmall}

-- ## Sums

abbrev times : ℕ → ℕ → ℕ
times zero m = 0
times (suc n) m = m + times n m

times-four : (n : ℕ) → times n 4 ≤ 4 * n
times-four zero = omega arith
times-four (suc n) = let a = times-four n in omega (arith, a)

below-times : (f : ℕ → ℕ) (m : ℕ) → ((k : ℕ) → f k ≤ m) → (n : ℕ) → below f n ≤ times n m
unfolding below
below-times f m h zero = omega arith
below-times f m h (suc n) = let a = h n in let b = below-times f m h n in omega (arith, a, b)

-- ## Items

small-at : {A : Type 0} (P : A → Type 0) (xs : List A) (n : ℕ) (x : A) → All P xs → slice_get xs n ≡ Some x → P x
small-at P xs n x all is = subst (λ a. P a) (get_or_from_slice_get xs n x x is) (all n x (slice_get_within xs n x is))

few-in-op : (o : Op) → IsSmallOp o → item_sectors (item.Run o None) ≤ 4
few-in-op (op.Write span pattern) s = omega arith
few-in-op (op.Writes patches) s = omega arith
few-in-op (op.Read span) s = s.1
few-in-op (op.Rebuild stripe) s = absurd s
few-in-op (op.Sync stripe) s = absurd s

few-in-item : (i : Item) → IsSmall i → item_sectors i ≤ 4
few-in-item (item.Run o None) s = few-in-op o s
few-in-item (item.Run o (Some graph)) s = absurd s
few-in-item (item.Fail column) s = absurd s

few-sectors : (o : Option Item) → ((i : Item) → o ≡ Some i → IsSmall i) → sectors_in o ≤ 4
few-sectors None h = omega arith
few-sectors (Some i) h = few-in-item i (h i refl)

small-in : (o : Option ItemList) → ((v : ItemList) → o ≡ Some v → AreSmall v) → (length (items_in o) ≤ 4096) × All IsSmall (items_in o)
small-in None h = (omega arith, λ k d lt. absurd (omega (arith, lt)))
small-in (Some v) h = h v refl

module _ (given : List ItemList) (small : All AreSmall given) where
  given-small : (c : ℕ) → (length (items_at given c) ≤ 4096) × All IsSmall (items_at given c)
  given-small c = small-in (slice_get given c) (λ v is. small-at AreSmall given c v small is)

  row-few : (c : ℕ) → row_sectors given c ≤ 16384
  row-few c =
      let items = items_at given c in
      let a = below-times (sectors_at items) 4 (λ k. few-sectors (slice_get items k) (λ i is. small-at IsSmall items k i (given-small c).1 is)) (length items) in
      let b = times-four (length items) in
      let n = (given-small c).0 in
      omega (arith, a, b, n)

  pub items-few : items_before given 16 ≤ 65536
  items-few = below-times (λ k. length (items_at given k)) 4096 (λ k. (given-small k).0) 16

  pub sectors-few : sectors_before given 16 ≤ 262144
  sectors-few = below-times (row_sectors given) 16384 row-few 16

  asked-op : (y : Shape) (o : Op) → IsSmallOp o → IsAsked y (item.Run o None) × MayBeAsked y (item.Run o None)
  asked-op y (op.Write span pattern) s = (s, tt)
  asked-op y (op.Writes patches) s = (s, s.0)
  asked-op y (op.Read span) s = (s.0, tt)
  asked-op y (op.Rebuild stripe) s = absurd s
  asked-op y (op.Sync stripe) s = absurd s

  asked-item : (y : Shape) (graphs : ℕ) (i : Item) → IsSmall i → IsAsked y i × MayBeAsked y i × NamesGraph graphs i
  asked-item y graphs (item.Run o None) s = let a = asked-op y o s in (a.0, a.1, tt)
  asked-item y graphs (item.Run o (Some graph)) s = absurd s
  asked-item y graphs (item.Fail column) s = absurd s

  given-asked : (y : Shape) (graphs : ℕ) (c n : ℕ) (i : Item) → slice_get (items_at given c) n ≡ Some i → IsAsked y i × MayBeAsked y i × NamesGraph graphs i
  given-asked y graphs c n i is = asked-item y graphs i (small-at IsSmall (items_at given c) n i (given-small c).1 is)

-- ## Graphs

fit-none : (graphs : List Held) → graphs ≡ [] → FitThePool (graphs_of graphs)
fit-none graphs e n = subst (λ (l : List Held). length (slice_index_or l n no_graph).drawn.bufs ≤ 2048) (sym e) (omega arith)

-- ## Columns

abbrev both : List ColumnState
both = Live 0 ∷ Live 1 ∷ []

live-at : (c : ℕ) (x : ColumnState) → slice_get both c ≡ Some x → (c < 2) × (x ≡ Live c)
live-at zero x is = (omega arith, cc)
live-at (suc zero) x is = (omega arith, cc)
live-at (suc (suc c)) x is = let z : None ≡ Some x = is in cc

has-live : (c device : ℕ) → HasDevice both c device → (c < 2) × (device ≡ c)
has-live c device (inl is) = let h = live-at c (Live device) is in let e : Live device ≡ Live c = h.1 in (h.0, cc)
has-live c device (inr has) = let h = live-at c (Filling device has.0) has.1 in let e : Filling device has.0 ≡ Live c = h.1 in cc

module _ {L D : Type 0} (lay : LayoutGhosts L) (disk : DiskGhosts D) where
  pub device-there : (first second : D) → 128 ≤ disk.size first → 128 ≤ disk.size second → (device : ℕ) → device < 2 → (x : D) × (slice_get (Some first ∷ Some second ∷ []) device ≡ Some (Some x)) × (128 ≤ disk.size x)
  device-there first second one two zero lt = (first, refl, one)
  device-there first second one two (suc zero) lt = (second, refl, two)
  device-there first second one two (suc (suc device)) lt = absurd (omega (arith, lt))

  module _ (setup : Setup L D) (first second : D) (shape : lay.shape setup.layout ≡ left_symmetric 2 1 64) (columns : setup.columns.items ≡ set.Live 0 ∷ set.Live 1 ∷ []) (devices : setup.devices.items ≡ Some first ∷ Some second ∷ []) (one : 128 ≤ disk.size first) (two : 128 ≤ disk.size second) (small : All AreSmall setup.clients.items) (graphs : setup.graphs.items ≡ []) where
    states : states_of (lay.shape setup.layout) setup.columns.items ≡ both
    states = ap (λ (l : List Column). states_of (lay.shape setup.layout) l) columns

    live : (c device : ℕ) → HasDevice (states_of (lay.shape setup.layout) setup.columns.items) c device → (c < 2) × (device ≡ c)
    live c device has = has-live c device (subst (λ (l : List ColumnState). HasDevice l c device) states has)

    pub is-setup : IsSetup lay disk setup
    is-setup = record {
      entries = ap (λ (l : List Column). length l) columns ∙ sym (ap (λ (y : Shape). y.columns) shape);
      filling = let e : count_by is_set_filling setup.columns.items ≡ 0 = ap (λ (l : List Column). count_by is_set_filling l) columns in omega (arith, e);
      spread = let e : count_by is_set_spread setup.columns.items ≡ 0 = ap (λ (l : List Column). count_by is_set_spread l) columns in omega (arith, e);
      spares = λ c s done is lt. let h = live-at c (Spread done) (subst (λ (l : List ColumnState). slice_get l c ≡ Some (Spread done)) states is) in let e : Spread done ≡ Live c = h.1 in cc;
      there = λ c device has.
          let h = live c device has in
          let lt : device < 2 = let e = h.1 in let l = h.0 in omega (arith, e, l) in
          let x = device-there first second one two device lt in (
            x.0,
            subst (λ (l : List (Option D)). slice_get l device ≡ Some (Some x.0)) (sym devices) x.1,
            subst (λ (y : Shape). 64 + y.rows * y.unit_sectors ≤ disk.size x.0) (sym shape) x.2,
          );
      one_column = λ c k device a b. sym (live c device a).1 ∙ (live k device b).1;
      asked = given-asked setup.clients.items small (lay.shape setup.layout) (length setup.graphs.items);
      fit = fit-none setup.graphs.items graphs;
    }
