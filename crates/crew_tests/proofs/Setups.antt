-- The setups of the tests may be served.
use Rattle.std.proofs.Common.{◌≡◌, ◌⊎◌, ◌<◌, ◌≤◌, ◌+◌, ◌*◌, ◌^◌, ℕ, zero, suc, List, [], ◌∷◌, length, All, Bool, true, false, Option, Some, None, refl, sym, ◌∙◌, ap, subst, arith, inl, inr}
use Rattle.std.specs.Prelude.{slice_get, slice_index_or, count_by}
use Rattle.std.proofs.lemmas.Option.{slice_get_within, get_or_from_slice_get}
use Rattle.blk_plain.specs.declared.op.Op.{Op}
use Rattle.blk_plain.specs.declared.op.Op.TheVariants as op
use Rattle.blk_disk.specs.declared.disk.Disk.{Ghosts as DiskGhosts}
use Rattle.lay_core.specs.Layout.{Shape}
use Rattle.lay_core.specs.declared.layout.Layout.{Ghosts as LayoutGhosts}
use Rattle.lay_plain.specs.LeftSymmetric.{left_symmetric}
use Rattle.graph_mean.specs.Graph.{Held}
use Rattle.eng_cols.specs.declared.column.Column.{Column}
use Rattle.eng_cols.specs.declared.column.Column.TheVariants as set
use Rattle.eng_cols.specs.Cols.{ColumnState, Live, Dead, Filling, Spread, HasDevice, is_set_filling, is_set_spread, HasDeviceOn}
use Rattle.eng_world.specs.declared.item.Item.{Item}
use Rattle.eng_world.specs.declared.item.Item.TheVariants as item
use Rattle.eng_world.specs.Step.{MayBeAsked}
use Rattle.item_list.specs.ItemList.{ItemList}
use Rattle.eng_parts.specs.declared.setup.Setup.{Setup}
use Rattle.eng_log.specs.Given.{items_in, items_at}
use Rattle.eng_plan.specs.Asked.{no_graph}
use Rattle.eng_log.specs.Laid.{items_before, sectors_before}
use Rattle.eng_state.specs.Beginning.{IsAsked}
use Rattle.eng_cols.specs.Stripes.{filled_in, states_of}
use Rattle.eng_events.specs.Opened.{NamesGraph}
use Rattle.crew_tests.specs.Trial.{IsSmallOp, IsSmall, AreSmall}
use Rattle.crew_tests.proofs.Trials.{device-there, items-few, sectors-few, is-setup}
use Rattle.top_serve.specs.Setups.{IsNotLost}
use Rattle.crew_tests.specs.Ready.{IsReadyToServe, IsDegraded, IsPaused}

-- ## Small items

small-at : {A : Type 0} (P : A → Type 0) (xs : List A) (n : ℕ) (x : A) → All P xs → slice_get xs n ≡ Some x → P x
small-at P xs n x all is = subst (λ a. P a) (get_or_from_slice_get xs n x x is) (all n x (slice_get_within xs n x is))

asked-op : (y : Shape) (o : Op) → IsSmallOp o → IsAsked y (item.Run o None) × MayBeAsked y (item.Run o None)
asked-op y (op.Write span pattern) s = (s, tt)
asked-op y (op.Writes patches) s = (s, s.0)
asked-op y (op.Read span) s = (s.0, tt)
asked-op y (op.Rebuild stripe) s = absurd s
asked-op y (op.Sync stripe) s = absurd s

asked-item : (y : Shape) (graphs : ℕ) (i : Item) → IsSmall i → IsAsked y i × MayBeAsked y i × NamesGraph graphs i
asked-item y graphs (item.Run o None) s = let a = asked-op y o s in (a.0, a.1, tt)
asked-item y graphs (item.Run o (Some graph)) s = absurd s
asked-item y graphs (item.Fail column) s = absurd s

asked-in : (y : Shape) (graphs : ℕ) (o : Option ItemList) → ((v : ItemList) → o ≡ Some v → AreSmall v) → (n : ℕ) (i : Item) → slice_get (items_in o) n ≡ Some i → IsAsked y i × MayBeAsked y i × NamesGraph graphs i
asked-in y graphs None h n i is = let z : None ≡ Some i = is in absurd (let u : ⊥ = cc in u)
asked-in y graphs (Some v) h n i is = asked-item y graphs i (small-at IsSmall v.items n i (h v refl).1 is)

module _ {L D : Type 0} (lay : LayoutGhosts L) (disk : DiskGhosts D) (setup : Setup L D) (first second : D) (shape : lay.shape setup.layout ≡ left_symmetric 2 1 64) (devices : setup.devices.items ≡ Some first ∷ Some second ∷ []) (graphs : setup.graphs.items ≡ []) (trace : setup.trace ≡ false) where
  two-devices : length setup.devices.items < 2 ^ 32
  two-devices = let e : length setup.devices.items ≡ 2 = ap (λ (l : List (Option D)). length l) devices in omega (arith, e)

  untraced : {A : Type 0} → setup.trace ≡ true → A
  untraced on = let z : false ≡ true = sym trace ∙ on in absurd (let u : ⊥ = cc in u)

  pub live-ready : setup.columns.items ≡ set.Live 0 ∷ set.Live 1 ∷ [] → 128 ≤ disk.size first → 128 ≤ disk.size second → length setup.clients.items ≤ 16 → All AreSmall setup.clients.items → IsReadyToServe lay disk setup
  live-ready columns one two few small = record {
    may = is-setup lay disk setup first second shape columns devices one two small graphs;
    few = record {
      clients = few;
      items = items-few setup.clients.items small;
      sectors = sectors-few setup.clients.items small;
      devices = two-devices;
    };
    trace = λ on. untraced on;
  }

  -- ## The second column is dead

  module _ (columns : setup.columns.items ≡ set.Live 0 ∷ set.Dead ∷ []) (one : 128 ≤ disk.size first) (two : 128 ≤ disk.size second) (few : length setup.clients.items ≤ 16) (small : All AreSmall setup.clients.items) where
    half : states_of (lay.shape setup.layout) setup.columns.items ≡ Live 0 ∷ Dead ∷ []
    half = ap (λ (l : List Column). states_of (lay.shape setup.layout) l) columns

    first-live : (c : ℕ) (x : ColumnState) → slice_get (Live 0 ∷ Dead ∷ []) c ≡ Some x → ((c ≡ 0) × (x ≡ Live 0)) ⊎ (x ≡ Dead)
    first-live zero x is = inl (refl, cc)
    first-live (suc zero) x is = inr cc
    first-live (suc (suc c)) x is = let z : None ≡ Some x = is in cc

    has-first : (c device : ℕ) → HasDevice (states_of (lay.shape setup.layout) setup.columns.items) c device → (c ≡ 0) × (device ≡ 0)
    has-first c device has = by (subst (λ (l : List ColumnState). HasDevice l c device) half has)
      where
        by : HasDevice (Live 0 ∷ Dead ∷ []) c device → (c ≡ 0) × (device ≡ 0)
        by (inl h) = elim (first-live c (Live device) h) [
          | inl e ↦ let z : Live device ≡ Live 0 = e.1 in (e.0, (let d : device ≡ 0 = cc in d))
          | inr e ↦ let z : Live device ≡ Dead = e in absurd (let u : ⊥ = cc in u)
        ]
        by (inr h) = elim (first-live c (Filling device h.0) h.1) [
          | inl e ↦ let z : Filling device h.0 ≡ Live 0 = e.1 in absurd (let u : ⊥ = cc in u)
          | inr e ↦ let z : Filling device h.0 ≡ Dead = e in absurd (let u : ⊥ = cc in u)
        ]

    none-spread : {A : Type 0} (c : ℕ) (done : List Bool) → slice_get (states_of (lay.shape setup.layout) setup.columns.items) c ≡ Some (Spread done) → A
    none-spread c done is = elim (first-live c (Spread done) (subst (λ (l : List ColumnState). slice_get l c ≡ Some (Spread done)) half is)) [
      | inl e ↦ let z : Spread done ≡ Live 0 = e.1 in absurd (let u : ⊥ = cc in u)
      | inr e ↦ let z : Spread done ≡ Dead = e in absurd (let u : ⊥ = cc in u)
    ]

    large : (x : D) → 128 ≤ disk.size x → 64 + (lay.shape setup.layout).rows * (lay.shape setup.layout).unit_sectors ≤ disk.size x
    large x le = subst (λ (y : Shape). 64 + y.rows * y.unit_sectors ≤ disk.size x) (sym shape) le

    none-fit : (n : ℕ) → length (slice_index_or setup.graphs.items n no_graph).drawn.bufs ≤ 2048
    none-fit n = subst (λ (l : List Held). length (slice_index_or l n no_graph).drawn.bufs ≤ 2048) (sym graphs) (omega arith)

    half-ready : IsReadyToServe lay disk setup
    half-ready = record {
      may = record {
        entries = ap (λ (l : List Column). length l) columns ∙ sym (ap (λ (y : Shape). y.columns) shape);
        filling = let e : count_by is_set_filling setup.columns.items ≡ 0 = ap (λ (l : List Column). count_by is_set_filling l) columns in omega (arith, e);
        spread = let e : count_by is_set_spread setup.columns.items ≡ 0 = ap (λ (l : List Column). count_by is_set_spread l) columns in omega (arith, e);
        spares = λ c s done is lt. none-spread c done is;
        there = λ c device has. (
          first,
          subst (λ d. slice_get setup.devices.items d ≡ Some (Some first)) (sym (has-first c device has).1) (ap (λ (l : List (Option D)). slice_get l 0) devices),
          large first one,
        );
        one_column = λ c k device a b. (has-first c device a).0 ∙ sym (has-first k device b).0;
        asked = λ c n i is. asked-in (lay.shape setup.layout) (length setup.graphs.items) (slice_get setup.clients.items c) (λ v at. small-at AreSmall setup.clients.items c v small at) n i is;
        fit = none-fit;
      };
      few = record {
        clients = few;
        items = items-few setup.clients.items small;
        sectors = sectors-few setup.clients.items small;
        devices = two-devices;
      };
      trace = λ on. untraced on;
    }

    not-second : (k : ℕ) → HasDeviceOn setup.columns.items k 1 → ⊥
    not-second k is = by k (subst (λ (l : List Column). HasDeviceOn l k 1) columns is)
      where
        by : (k : ℕ) → HasDeviceOn (set.Live 0 ∷ set.Dead ∷ []) k 1 → ⊥
        by zero h = let z : Some 0 ≡ Some 1 = h in let e : zero ≡ suc zero = cc in omega (arith, e)
        by (suc zero) h = let z : None ≡ Some 1 = h in let u : ⊥ = cc in u
        by (suc (suc k)) h = let z : None ≡ Some 1 = h in let u : ⊥ = cc in u

    pub degraded-ready : IsNotLost lay setup → IsDegraded lay disk setup
    degraded-ready kept = record {
      ready = half-ready;
      kept = kept;
      may = λ most. record {
        target = (
          record { dead = ap (λ (l : List Column). slice_get l 1) columns; none_filling = ap (λ (l : List Column). count_by is_set_filling l) columns },
          record {
            there = second;
            there_is = ap (λ (l : List (Option D)). slice_get l 1) devices;
            size = large second two;
            unused = not-second;
          },
        );
        room = λ on. untraced on;
      };
    }

  -- ## The second column is filling

  module _ (done : ℕ) (columns : setup.columns.items ≡ set.Live 0 ∷ set.Filling 1 done ∷ []) (one : 128 ≤ disk.size first) (two : 128 ≤ disk.size second) (few : length setup.clients.items ≤ 16) (small : All AreSmall setup.clients.items) where
    abbrev y : Shape
    y = lay.shape setup.layout

    abbrev marked : List Bool
    marked = filled_in (lay.shape setup.layout) (set.Live 0 ∷ set.Filling 1 done ∷ [])

    part : states_of (lay.shape setup.layout) setup.columns.items ≡ Live 0 ∷ Filling 1 marked ∷ []
    part = ap (λ (l : List Column). states_of (lay.shape setup.layout) l) columns

    own : (c device : ℕ) → HasDevice (Live 0 ∷ Filling 1 marked ∷ []) c device → (c < 2) × (device ≡ c)
    own zero device (inl h) = let z : Some (Live 0) ≡ Some (Live device) = h in let e : 0 ≡ device = cc in (omega arith, sym e)
    own zero device (inr h) = let z : Some (Live 0) ≡ Some (Filling device h.0) = h.1 in absurd (let u : ⊥ = cc in u)
    own (suc zero) device (inl h) = let z : Some (Filling 1 marked) ≡ Some (Live device) = h in absurd (let u : ⊥ = cc in u)
    own (suc zero) device (inr h) = let z : Some (Filling 1 marked) ≡ Some (Filling device h.0) = h.1 in let e : 1 ≡ device = cc in (omega arith, sym e)
    own (suc (suc c)) device (inl h) = let z : None ≡ Some (Live device) = h in absurd (let u : ⊥ = cc in u)
    own (suc (suc c)) device (inr h) = let z : None ≡ Some (Filling device h.0) = h.1 in absurd (let u : ⊥ = cc in u)

    has-own : (c device : ℕ) → HasDevice (states_of (lay.shape setup.layout) setup.columns.items) c device → (c < 2) × (device ≡ c)
    has-own c device has = own c device (subst (λ (l : List ColumnState). HasDevice l c device) part has)

    unspread : {A : Type 0} (c : ℕ) (more : List Bool) → slice_get (Live 0 ∷ Filling 1 marked ∷ []) c ≡ Some (Spread more) → A
    unspread zero more h = let z : Some (Live 0) ≡ Some (Spread more) = h in absurd (let u : ⊥ = cc in u)
    unspread (suc zero) more h = let z : Some (Filling 1 marked) ≡ Some (Spread more) = h in absurd (let u : ⊥ = cc in u)
    unspread (suc (suc c)) more h = let z : None ≡ Some (Spread more) = h in absurd (let u : ⊥ = cc in u)

    part-ready : IsReadyToServe lay disk setup
    part-ready = record {
      may = record {
        entries = ap (λ (l : List Column). length l) columns ∙ sym (ap (λ (y : Shape). y.columns) shape);
        filling = let e : count_by is_set_filling setup.columns.items ≡ 1 = ap (λ (l : List Column). count_by is_set_filling l) columns in omega (arith, e);
        spread = let e : count_by is_set_spread setup.columns.items ≡ 0 = ap (λ (l : List Column). count_by is_set_spread l) columns in omega (arith, e);
        spares = λ c s more is lt. unspread c more (subst (λ (l : List ColumnState). slice_get l c ≡ Some (Spread more)) part is);
        there = λ c device has.
            let h = has-own c device has in
            let lt : device < 2 = let e = h.1 in let l = h.0 in omega (arith, e, l) in
            let x = device-there lay disk first second one two device lt in (
              x.0,
              subst (λ (l : List (Option D)). slice_get l device ≡ Some (Some x.0)) (sym devices) x.1,
              subst (λ (y : Shape). 64 + y.rows * y.unit_sectors ≤ disk.size x.0) (sym shape) x.2,
            );
        one_column = λ c k device a b. sym (has-own c device a).1 ∙ (has-own k device b).1;
        asked = λ c n i is. asked-in (lay.shape setup.layout) (length setup.graphs.items) (slice_get setup.clients.items c) (λ v at. small-at AreSmall setup.clients.items c v small at) n i is;
        fit = λ n. subst (λ (l : List Held). length (slice_index_or l n no_graph).drawn.bufs ≤ 2048) (sym graphs) (omega arith);
      };
      few = record {
        clients = few;
        items = items-few setup.clients.items small;
        sectors = sectors-few setup.clients.items small;
        devices = two-devices;
      };
      trace = λ on. untraced on;
    }

    pub paused-ready : IsNotLost lay setup → IsPaused lay disk setup
    paused-ready kept = record {
      ready = part-ready;
      kept = kept;
      may = λ most. record {
        target = (1, done, ap (λ (l : List Column). slice_get l 1) columns);
        room = λ on. untraced on;
      };
    }

  -- ## No column is alive, and there are no clients

  module _ (columns : setup.columns.items ≡ set.Dead ∷ set.Dead ∷ []) (clients : setup.clients.items ≡ []) where
    states : states_of (lay.shape setup.layout) setup.columns.items ≡ Dead ∷ Dead ∷ []
    states = ap (λ (l : List Column). states_of (lay.shape setup.layout) l) columns

    dead-at : (c : ℕ) (x : ColumnState) → slice_get (Dead ∷ Dead ∷ []) c ≡ Some x → x ≡ Dead
    dead-at zero x is = cc
    dead-at (suc zero) x is = cc
    dead-at (suc (suc c)) x is = let z : None ≡ Some x = is in cc

    no-device : {A : Type 0} (c d : ℕ) → HasDevice (states_of (lay.shape setup.layout) setup.columns.items) c d → A
    no-device c d has = by (subst (λ (l : List ColumnState). HasDevice l c d) states has)
      where
        by : {A : Type 0} → HasDevice (Dead ∷ Dead ∷ []) c d → A
        by (inl h) = let z : Live d ≡ Dead = dead-at c (Live d) h in absurd (let u : ⊥ = cc in u)
        by (inr h) = let z : Filling d h.0 ≡ Dead = dead-at c (Filling d h.0) h.1 in absurd (let u : ⊥ = cc in u)

    no-item : {A : Type 0} (c n : ℕ) (i : Item) → slice_get (items_at setup.clients.items c) n ≡ Some i → A
    no-item c n i is = let z : None ≡ Some i = sym (ap (λ (l : List ItemList). slice_get (items_at l c) n) clients) ∙ is in absurd (let u : ⊥ = cc in u)

    none-fits : (n : ℕ) → length (slice_index_or setup.graphs.items n no_graph).drawn.bufs ≤ 2048
    none-fits n = subst (λ (l : List Held). length (slice_index_or l n no_graph).drawn.bufs ≤ 2048) (sym graphs) (omega arith)

    pub dead-ready : IsReadyToServe lay disk setup
    dead-ready = record {
      may = record {
        entries = ap (λ (l : List Column). length l) columns ∙ sym (ap (λ (y : Shape). y.columns) shape);
        filling = let e : count_by is_set_filling setup.columns.items ≡ 0 = ap (λ (l : List Column). count_by is_set_filling l) columns in omega (arith, e);
        spread = let e : count_by is_set_spread setup.columns.items ≡ 0 = ap (λ (l : List Column). count_by is_set_spread l) columns in omega (arith, e);
        spares = λ c s done is lt. let z : Spread done ≡ Dead = dead-at c (Spread done) (subst (λ (l : List ColumnState). slice_get l c ≡ Some (Spread done)) states is) in absurd (let u : ⊥ = cc in u);
        there = λ c device has. no-device c device has;
        one_column = λ c k device a b. no-device c device a;
        asked = λ c n i is. no-item c n i is;
        fit = none-fits;
      };
      few = record {
        clients = let e = ap (λ (l : List ItemList). length l) clients in omega (arith, e);
        items = subst (λ (l : List ItemList). items_before l 16 ≤ 65536) (sym clients) (items-few [] (λ k d lt. absurd (omega (arith, lt))));
        sectors = subst (λ (l : List ItemList). sectors_before l 16 ≤ 262144) (sym clients) (sectors-few [] (λ k d lt. absurd (omega (arith, lt))));
        devices = two-devices;
      };
      trace = λ on. untraced on;
    }
