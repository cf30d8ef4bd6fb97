-- The array of three columns of which two fail may be run over.
use Rattle.std.proofs.Common.{◌≡◌, ◌<◌, ◌≤◌, ◌+◌, ◌*◌, ℕ, zero, suc, List, [], ◌∷◌, length, refl, sym, ◌∙◌, ap, subst, arith, inl, inr, Option, Some, None, true, false, All}
use Rattle.std.specs.Prelude.{slice_get, slice_index_or, count_by}
use Rattle.std.proofs.lemmas.List.Elements.{All-nil, All-push}
use Rattle.blk_disk.specs.declared.disk.Disk.{Ghosts as DiskGhosts}
use Rattle.lay_core.specs.Layout.{Shape}
use Rattle.lay_core.specs.declared.layout.Layout.{Ghosts as LayoutGhosts}
use Rattle.lay_plain.specs.LeftSymmetric.{left_symmetric}
use Rattle.graph_mean.specs.Graph.{Held}
use Rattle.eng_array.specs.declared.start.Start.{Start}
use Rattle.eng_cols.specs.declared.column.Column.{Column}
use Rattle.eng_cols.specs.declared.column.Column.TheVariants as set
use Rattle.eng_cols.specs.Cols.{ColumnState, Live, Filling, Spread, HasDevice, IsFor, is_set_filling, is_set_spread}
use Rattle.eng_cols.specs.Lost.{NotLost}
use Rattle.eng_world.specs.declared.item.Item.{Item}
use Rattle.eng_world.specs.declared.item.Item.TheVariants as item
use Rattle.eng_world.specs.Step.{MayBeAsked}
use Rattle.item_list.specs.ItemList.{ItemList}
use Rattle.eng_rest.specs.Left.{below}
use Rattle.eng_parts.specs.declared.setup.Setup.{Setup}
use Rattle.eng_log.specs.Given.{items_at}
use Rattle.eng_log.specs.Laid.{row_sectors, sectors_at, sectors_before, items_before}
use Rattle.eng_state.specs.Beginning.{IsAsked}
use Rattle.eng_cols.specs.Stripes.{states_of}
use Rattle.eng_events.specs.Opened.{NamesGraph, IsSetup}
use Rattle.eng_plan.specs.Asked.{no_graph}
use Rattle.raid_label.specs.Bytes.{IsHeld}
use Rattle.top_rounds.specs.Labels.{IsNumbered}
use Rattle.top_labelled.specs.declared.labelled.Labelled.{Labelled}
use Rattle.top_labelled.specs.Given.{CanRunLabelled, RebuildsIf}
use Rattle.top_labelled.proofs.Arrays.{labels-of}

-- ## Columns

abbrev three : List ColumnState
three = Live 0 ∷ Live 1 ∷ Live 2 ∷ []

live-at : (c : ℕ) (x : ColumnState) → slice_get three c ≡ Some x → (c < 3) × (x ≡ Live c)
live-at zero x is = (omega arith, cc)
live-at (suc zero) x is = (omega arith, cc)
live-at (suc (suc zero)) x is = (omega arith, cc)
live-at (suc (suc (suc c))) x is = let z : None ≡ Some x = is in cc

has-live : (c device : ℕ) → HasDevice three c device → (c < 3) × (device ≡ c)
has-live c device (inl is) = let h = live-at c (Live device) is in let e : Live device ≡ Live c = h.1 in (h.0, cc)
has-live c device (inr has) = let h = live-at c (Filling device has.0) has.1 in let e : Filling device has.0 ≡ Live c = h.1 in cc

three-numbered : All (IsNumbered 3) (set.Live 0 ∷ set.Live 1 ∷ set.Live 2 ∷ [])
three-numbered = All-push (IsNumbered 3) (set.Live 0 ∷ set.Live 1 ∷ []) (set.Live 2) (All-push (IsNumbered 3) (set.Live 0 ∷ []) (set.Live 1) (All-push (IsNumbered 3) [] (set.Live 0) (All-nil (IsNumbered 3)) (omega arith)) (omega arith)) (omega arith)

-- ## Items

abbrev fails : List Item
fails = item.Fail 0 ∷ item.Fail 1 ∷ []

abbrev MayAsk : Shape → ℕ → Item → Type 0
MayAsk y graphs i = IsAsked y i × MayBeAsked y i × NamesGraph graphs i

-- the column is the layout's
fail-asked : (y : Shape) (graphs column : ℕ) (i : Item) → y.columns ≡ 3 → column < 3 → item.Fail column ≡ i → MayAsk y graphs i
fail-asked y graphs column i many lt is = let there : column < y.columns = omega (arith, many, lt) in subst (λ (j : Item). MayAsk y graphs j) is (there, there, tt)

some-asked : (y : Shape) (graphs column : ℕ) (i : Item) → y.columns ≡ 3 → column < 3 → Some (item.Fail column) ≡ Some i → MayAsk y graphs i
some-asked y graphs column i many lt is = fail-asked y graphs column i many lt cc

fails-asked : (y : Shape) (graphs n : ℕ) (i : Item) → y.columns ≡ 3 → slice_get fails n ≡ Some i → MayAsk y graphs i
fails-asked y graphs zero i many is = some-asked y graphs 0 i many (omega arith) is
fails-asked y graphs (suc zero) i many is = some-asked y graphs 1 i many (omega arith) is
fails-asked y graphs (suc (suc n)) i many is = let z : None ≡ Some i = is in absurd (let u : ⊥ = cc in u)

module _ (v : ItemList) (is_fails : v.items ≡ fails) where
  given-asked : (y : Shape) (graphs c n : ℕ) (i : Item) → y.columns ≡ 3 → slice_get (items_at (v ∷ []) c) n ≡ Some i → MayAsk y graphs i
  given-asked y graphs zero n i many is = fails-asked y graphs n i many (subst (λ (l : List Item). slice_get l n ≡ Some i) is_fails is)
  given-asked y graphs (suc c) n i many is = let z : None ≡ Some i = is in absurd (let u : ⊥ = cc in u)

  given-items : (c : ℕ) → length (items_at (v ∷ []) c) ≤ 2
  given-items zero = let e = ap (λ (l : List Item). length l) is_fails in omega (arith, e)
  given-items (suc c) = omega arith

  fail-sectors : (n : ℕ) → sectors_at fails n ≡ 0
  fail-sectors zero = refl
  fail-sectors (suc zero) = refl
  fail-sectors (suc (suc n)) = refl

  at-sectors : (c n : ℕ) → sectors_at (items_at (v ∷ []) c) n ≡ 0
  at-sectors zero n = ap (λ (l : List Item). sectors_at l n) is_fails ∙ fail-sectors n
  at-sectors (suc c) n = refl

  below-most : (f : ℕ → ℕ) (m : ℕ) → ((k : ℕ) → f k ≤ m) → (n : ℕ) → below f n ≤ n * m
  unfolding below
  below-most f m h zero = omega arith
  below-most f m h (suc n) = let a = h n in let b = below-most f m h n in omega (arith, a, b)

  below-none : (f : ℕ → ℕ) → ((k : ℕ) → f k ≡ 0) → (n : ℕ) → below f n ≡ 0
  unfolding below
  below-none f h zero = refl
  below-none f h (suc n) = let a = h n in let b = below-none f h n in omega (arith, a, b)

  few-items : items_before (v ∷ []) 16 ≤ 65536
  few-items = let a = below-most (λ k. length (items_at (v ∷ []) k)) 2 given-items 16 in omega (arith, a)

  few-sectors : sectors_before (v ∷ []) 16 ≤ 262144
  few-sectors = let a = below-none (row_sectors (v ∷ [])) (λ c. below-none (sectors_at (items_at (v ∷ []) c)) (at-sectors c) (length (items_at (v ∷ []) c))) 16 in omega (arith, a)

-- ## The setup

module _ {L D : Type 0} (lay : LayoutGhosts L) (disk : DiskGhosts D) where
  device-there : (first second third : D) → 128 ≤ disk.size first → 128 ≤ disk.size second → 128 ≤ disk.size third → (device : ℕ) → device < 3 → (x : D) × (slice_get (Some first ∷ Some second ∷ Some third ∷ []) device ≡ Some (Some x)) × (128 ≤ disk.size x)
  device-there first second third one two three zero lt = (first, refl, one)
  device-there first second third one two three (suc zero) lt = (second, refl, two)
  device-there first second third one two three (suc (suc zero)) lt = (third, refl, three)
  device-there first second third one two three (suc (suc (suc device))) lt = absurd (omega (arith, lt))

  module _ (setup : Setup L D) (first second third : D) (v : ItemList) (shape : lay.shape setup.layout ≡ left_symmetric 3 1 64) (columns : setup.columns.items ≡ set.Live 0 ∷ set.Live 1 ∷ set.Live 2 ∷ []) (devices : setup.devices.items ≡ Some first ∷ Some second ∷ Some third ∷ []) (one : 128 ≤ disk.size first) (two : 128 ≤ disk.size second) (third_large : 128 ≤ disk.size third) (is_fails : v.items ≡ fails) (clients : setup.clients.items ≡ v ∷ []) (graphs : setup.graphs.items ≡ []) where
    states : states_of (lay.shape setup.layout) setup.columns.items ≡ three
    states = ap (λ (l : List Column). states_of (lay.shape setup.layout) l) columns

    live : (c device : ℕ) → HasDevice (states_of (lay.shape setup.layout) setup.columns.items) c device → (c < 3) × (device ≡ c)
    live c device has = has-live c device (subst (λ (l : List ColumnState). HasDevice l c device) states has)

    many : (lay.shape setup.layout).columns ≡ 3
    many = ap (λ (y : Shape). y.columns) shape

    is-setup : IsSetup lay disk setup
    is-setup = record {
      entries = ap (λ (l : List Column). length l) columns ∙ sym many;
      filling = let e : count_by is_set_filling setup.columns.items ≡ 0 = ap (λ (l : List Column). count_by is_set_filling l) columns in omega (arith, e);
      spread = let e : count_by is_set_spread setup.columns.items ≡ 0 = ap (λ (l : List Column). count_by is_set_spread l) columns in omega (arith, e);
      spares = λ c s done is lt. let h = live-at c (Spread done) (subst (λ (l : List ColumnState). slice_get l c ≡ Some (Spread done)) states is) in let e : Spread done ≡ Live c = h.1 in cc;
      there = λ c device has.
          let h = live c device has in
          let lt : device < 3 = let e = h.1 in let l = h.0 in omega (arith, e, l) in
          let x = device-there first second third one two third_large device lt in (
            x.0,
            subst (λ (l : List (Option D)). slice_get l device ≡ Some (Some x.0)) (sym devices) x.1,
            subst (λ (y : Shape). 64 + y.rows * y.unit_sectors ≤ disk.size x.0) (sym shape) x.2,
          );
      one_column = λ c k device a b. sym (live c device a).1 ∙ (live k device b).1;
      asked = λ c n i is. given-asked v is_fails (lay.shape setup.layout) (length setup.graphs.items) c n i many (subst (λ (l : List ItemList). slice_get (items_at l c) n ≡ Some i) clients is);
      fit = λ n. subst (λ (l : List Held). length (slice_index_or l n no_graph).drawn.bufs ≤ 2048) (sym graphs) (omega arith);
    }

module _ {L D : Type 0} (lay : LayoutGhosts L) (disk : DiskGhosts D) (l : Labelled L D) (first second third : D) (v : ItemList) (shown : List Column) where
  -- the judge was shown these columns
  pub three-can-run : lay.shape l.setup.layout ≡ left_symmetric 3 1 64 → l.setup.columns.items ≡ set.Live 0 ∷ set.Live 1 ∷ set.Live 2 ∷ [] → l.setup.devices.items ≡ Some first ∷ Some second ∷ Some third ∷ []
      → 128 ≤ disk.size first → 128 ≤ disk.size second → 128 ≤ disk.size third → v.items ≡ fails → l.setup.clients.items ≡ v ∷ [] → l.setup.graphs.items ≡ [] → l.setup.trace ≡ false
      → shown ≡ l.setup.columns.items → NotLost (lay.shape l.setup.layout) (states_of (lay.shape l.setup.layout) shown) → IsHeld l.label → l.label.columns ≡ 3 → l.label.counter ≡ 5 → IsFor (lay.shape l.setup.layout) l.judge → l.room ≡ 1024 → l.start ≡ None → CanRunLabelled lay disk l
  three-can-run shape columns devices one two third_large is_fails clients graphs trace are kept held numbered counter judge room unasked =
      let may = is-setup lay disk l.setup first second third v shape columns devices one two third_large is_fails clients graphs in
      let three_columns : length l.setup.columns.items ≡ 3 = ap (λ (cs : List Column). length cs) columns in
      let unit : (lay.shape l.setup.layout).unit_sectors ≡ 1 = ap (λ (y : Shape). y.unit_sectors) shape in
      record {
        setup = may;
        few = record {
          clients = let e = ap (λ (k : List ItemList). length k) clients in omega (arith, e);
          items = subst (λ (k : List ItemList). items_before k 16 ≤ 65536) (sym clients) (few-items v is_fails);
          sectors = subst (λ (k : List ItemList). sectors_before k 16 ≤ 262144) (sym clients) (few-sectors v is_fails);
          devices = let e : length l.setup.devices.items ≡ 3 = ap (λ (k : List (Option D)). length k) devices in omega (arith, e);
        };
        trace = λ on. let z : false ≡ true = sym trace ∙ on in absurd (let u : ⊥ = cc in u);
        kept = subst (λ (cs : List Column). NotLost (lay.shape l.setup.layout) (states_of (lay.shape l.setup.layout) cs)) are kept;
        array = labels-of lay disk l.setup may (omega (arith, three_columns)) (subst (λ (cs : List Column). All (IsNumbered (length cs)) cs) (sym columns) three-numbered);
        held = record { held = held; count = numbered ∙ sym three_columns };
        counter = omega (arith, counter);
        judge = judge;
        room = omega (arith, unit, room);
        rebuilds = subst (λ (o : Option Start). RebuildsIf lay disk l.setup o) (sym unasked) tt;
      }
