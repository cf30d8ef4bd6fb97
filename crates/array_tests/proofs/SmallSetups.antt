-- What a small setup gives an opening.
use Rattle.std.proofs.Common.{◌≡◌, ℕ, suc, ◌≤◌, inl, inr, Bool, false, cond, List, [], ◌∷◌, Option, Some, None, refl, sym, ◌∙◌, subst, length, map, arith}
use Rattle.std.specs.Prelude.{◌+◌, ◌*◌, All, count_by, slice_get, option_map}
use Rattle.std.proofs.lemmas.Bool.{cases_lt}
use Rattle.std.proofs.lemmas.List.{get_or_past}
use Rattle.std.proofs.lemmas.List.Recursion.{is_count_by}
use Rattle.std.proofs.lemmas.Option.{slice_get-map, slice_get_within, get_or_from_slice_get}
use Rattle.blk_disk.specs.declared.disk.Disk.{Ghosts as DiskGhosts}
use Rattle.lay_core.specs.Layout.{Shape}
use Rattle.lay_core.specs.declared.layout.Layout.{Ghosts as LayoutGhosts}
use Rattle.graph_mean.specs.Graph.{Held}
use Rattle.eng_cols.specs.declared.column.Column.{Column}
use Rattle.eng_cols.specs.declared.column.Column.TheVariants as column
use Rattle.eng_cols.specs.Cols.{Live, Filling, Spread, HasDevice, state_set, is_set_filling, is_set_spread}
use Rattle.eng_cols.specs.Stripes.{filled_in}
use Rattle.eng_cols.specs.Laws.{HaveSpares}
use Rattle.eng_rest.specs.Left.{below}
use Rattle.eng_rest.proofs.Summing.{below-le}
use Rattle.eng_world.specs.declared.item.Item.{Item}
use Rattle.item_list.specs.ItemList.{ItemList}
use Rattle.eng_parts.specs.declared.setup.Setup.{Setup}
use Rattle.eng_plan.specs.Asked.{no_graph}
use Rattle.eng_log.specs.Given.{items_in, items_at}
use Rattle.eng_log.specs.Laid.{sectors_in, sectors_at, row_sectors, sectors_before, items_before}
use Rattle.eng_log.proofs.Laying.{below-grows}
use Rattle.eng_events.specs.Opened.{FitThePool, IsSetup}
use Rattle.eng_state.specs.Steps.{graphs_of}
use Rattle.array_tests.specs.Small.{HasSectors, IsOwn, AreOwn, IsSmall, IsSlim, IsScript, AreScripts}

-- an element of a list of which each has a property
all-get : {X : Type 0} (P : X → Type 0) (xs : List X) (k : ℕ) (x : X) → All P xs → slice_get xs k ≡ Some x → P x
all-get P xs k x all e = subst P (get_or_from_slice_get xs k x x e) (all k x (slice_get_within xs k x e))

-- ## Columns

-- how many pass
counted : {X : Type 0} → (X → Bool) → List X → ℕ
counted p [] = 0
counted p (x ∷ xs) = cond (p x) (1 + counted p xs) (counted p xs)

none-passes : {X : Type 0} (p : X → Bool) (xs : List X) → ((k : ℕ) (x : X) → slice_get xs k ≡ Some x → p x ≡ false) → counted p xs ≡ 0
unfolding counted
none-passes p [] none = refl
none-passes p (x ∷ xs) none = subst (λ (b : Bool). cond b (1 + counted p xs) (counted p xs) ≡ 0) (sym (none 0 x refl)) (none-passes p xs (λ k y e. none (suc k) y e))

none-counted : {X : Type 0} (p : X → Bool) (xs : List X) → ((k : ℕ) (x : X) → slice_get xs k ≡ Some x → p x ≡ false) → count_by p xs ≡ 0
unfolding counted
none-counted p xs none = sym (is_count_by (counted p) p refl (λ x ys. refl) xs) ∙ none-passes p xs none

-- what a list is mapped from
pub was : {A B : Type 0} (f : A → B) (xs : List A) (k : ℕ) (y : B) → slice_get (map f xs) k ≡ Some y → (x : A) × (slice_get xs k ≡ Some x) × (f x ≡ y)
was {A} {B} f xs k y e = from (slice_get xs k) refl (sym (slice_get-map f xs k) ∙ e)
  where
    from : (o : Option A) → slice_get xs k ≡ o → option_map f o ≡ Some y → (x : A) × (slice_get xs k ≡ Some x) × (f x ≡ y)
    from None is h = absurd (let z : ⊥ = cc in z)
    from (Some x) is h = (x, is, let z : f x ≡ y = cc in z)

module _ {D : Type 0} (disk : DiskGhosts D) (devices : List (Option D)) (need : ℕ) where
  own-unfilled : (c : ℕ) (x : Column) → IsOwn disk devices need c x → is_set_filling x ≡ false
  own-unfilled c (column.Live device) own = refl
  own-unfilled c column.Dead own = refl
  own-unfilled c (column.Filling device m) own = absurd own
  own-unfilled c column.Spread own = absurd own

  own-unspread : (c : ℕ) (x : Column) → IsOwn disk devices need c x → is_set_spread x ≡ false
  own-unspread c (column.Live device) own = refl
  own-unspread c column.Dead own = refl
  own-unspread c (column.Filling device m) own = absurd own
  own-unspread c column.Spread own = absurd own

  own-live : (n : ℕ) (filled : List Bool) (c device : ℕ) (x : Column) → IsOwn disk devices need c x → state_set n filled x ≡ Live device → (device ≡ c) × HasSectors disk devices c need
  own-live n filled c device (column.Live d) own e = (let z : d ≡ device = cc in sym z ∙ own.0, own.1)
  own-live n filled c device column.Dead own e = absurd (let z : ⊥ = cc in z)
  own-live n filled c device (column.Filling d m) own e = absurd own
  own-live n filled c device column.Spread own e = absurd own

  own-none : (n : ℕ) (filled : List Bool) (c device : ℕ) (done : List Bool) (x : Column) → IsOwn disk devices need c x → state_set n filled x ≡ Filling device done → ⊥
  own-none n filled c device done (column.Live d) own e = let z : ⊥ = cc in z
  own-none n filled c device done column.Dead own e = let z : ⊥ = cc in z
  own-none n filled c device done (column.Filling d m) own e = absurd own
  own-none n filled c device done column.Spread own e = absurd own

  own-nowhere : (n : ℕ) (filled : List Bool) (c : ℕ) (done : List Bool) (x : Column) → IsOwn disk devices need c x → state_set n filled x ≡ Spread done → ⊥
  own-nowhere n filled c done (column.Live d) own e = let z : ⊥ = cc in z
  own-nowhere n filled c done column.Dead own e = let z : ⊥ = cc in z
  own-nowhere n filled c done (column.Filling d m) own e = absurd own
  own-nowhere n filled c done column.Spread own e = absurd own

  module _ (columns : List Column) (own : AreOwn disk devices need columns) where
    pub own-device : (n : ℕ) (filled : List Bool) (c device : ℕ) → HasDevice (map (state_set n filled) columns) c device → (device ≡ c) × HasSectors disk devices c need
    own-device n filled c device (inl e) = let x = was (state_set n filled) columns c (Live device) e in own-live n filled c device x.0 (own c x.0 x.1) x.2
    own-device n filled c device (inr f) = let x = was (state_set n filled) columns c (Filling device f.0) f.1 in absurd (own-none n filled c device f.0 x.0 (own c x.0 x.1) x.2)

    own-there : (n : ℕ) (filled : List Bool) (c device : ℕ) → HasDevice (map (state_set n filled) columns) c device → HasSectors disk devices device need
    own-there n filled c device h = let d = own-device n filled c device h in subst (λ (k : ℕ). HasSectors disk devices k need) (sym d.0) d.1

    own-apart : (n : ℕ) (filled : List Bool) (c k device : ℕ) → HasDevice (map (state_set n filled) columns) c device → HasDevice (map (state_set n filled) columns) k device → c ≡ k
    own-apart n filled c k device h i = sym (own-device n filled c device h).0 ∙ (own-device n filled k device i).0

    own-spares : (y : Shape) → HaveSpares y (map (state_set y.stripes (filled_in y columns)) columns)
    own-spares y c s done e within = let x = was (state_set y.stripes (filled_in y columns)) columns c (Spread done) e in absurd (own-nowhere y.stripes (filled_in y columns) c done x.0 (own c x.0 x.1) x.2)

    own-fillings : count_by is_set_filling columns ≡ 0
    own-fillings = none-counted is_set_filling columns (λ k x e. own-unfilled k x (own k x e))

    own-spreads : count_by is_set_spread columns ≤ 1
    own-spreads = let none = none-counted is_set_spread columns (λ k x e. own-unspread k x (own k x e)) in omega (arith, none)

-- ## Scripts

module _ (y : Shape) (graphs : ℕ) (given : List ItemList) (small : AreScripts y graphs given) where
  script-at : (c : ℕ) → IsScript y graphs (items_at given c)
  script-at c = of (slice_get given c) refl
    where
      of : (o : Option ItemList) → slice_get given c ≡ o → IsScript y graphs (items_in o)
      of None e = record { few = omega arith; small = λ k d l. absurd (omega (arith, l)) }
      of (Some items) e = all-get (λ (items : ItemList). IsScript y graphs items.items) given c items small.each e

  item-at : (c n : ℕ) (i : Item) → slice_get (items_at given c) n ≡ Some i → IsSmall y graphs i
  item-at c n i e = all-get (IsSmall y graphs) (items_at given c) n i (script-at c).small e

  pub few-items : items_before given 16 ≤ 65536
  unfolding below
  few-items =
      let b = below-le (λ k. 16) (λ k. length (items_at given k)) 16 (λ c l. (script-at c).few) in
      let most : below (λ k. 16) 16 ≡ 256 = refl in
      omega (arith, b, most)

  short-items : (c n : ℕ) → sectors_at (items_at given c) n ≤ 1024
  short-items c n = of (slice_get (items_at given c) n) refl
    where
      of : (o : Option Item) → slice_get (items_at given c) n ≡ o → sectors_in o ≤ 1024
      of None e = omega arith
      of (Some i) e = (item-at c n i e).few

  short-rows : (c : ℕ) → row_sectors given c ≤ 16384
  unfolding below
  short-rows c =
      let n = length (items_at given c) in
      let b = below-le (λ k. 1024) (sectors_at (items_at given c)) n (λ k l. short-items c k) in
      let m = below-grows (λ k. 1024) n 16 (script-at c).few in
      let most : below (λ k. 1024) 16 ≡ 16384 = refl in
      omega (arith, b, m, most)

  pub few-sectors : sectors_before given 16 ≤ 262144
  unfolding below
  few-sectors =
      let b = below-le (λ k. 16384) (row_sectors given) 16 (λ c l. short-rows c) in
      let most : below (λ k. 16384) 16 ≡ 262144 = refl in
      omega (arith, b, most)

-- ## Graphs

fit-slim : (graphs : List Held) → All IsSlim graphs → FitThePool (graphs_of graphs)
fit-slim graphs slim n = elim (cases_lt n (length graphs)) [
  | inl lt ↦ slim n no_graph lt
  | inr past ↦ subst IsSlim (sym (get_or_past graphs n no_graph past)) (omega arith)
]

-- ## A setup

module _ {L D : Type 0} (lay : LayoutGhosts L) (disk : DiskGhosts D) where
  pub small-setup : (setup : Setup L D)
      → length setup.columns.items ≡ (lay.shape setup.layout).columns
      → AreOwn disk setup.devices.items (64 + (lay.shape setup.layout).rows * (lay.shape setup.layout).unit_sectors) setup.columns.items
      → AreScripts (lay.shape setup.layout) (length setup.graphs.items) setup.clients.items
      → All IsSlim setup.graphs.items
      → IsSetup lay disk setup
  small-setup setup many own small slim =
      let y = lay.shape setup.layout in
      let need = 64 + y.rows * y.unit_sectors in
      let columns = setup.columns.items in
      let devices = setup.devices.items in
      record {
        entries = many;
        filling = (let none = own-fillings disk devices need columns own in omega (arith, none));
        spread = own-spreads disk devices need columns own;
        spares = own-spares disk devices need columns own y;
        there = own-there disk devices need columns own y.stripes (filled_in y columns);
        one_column = own-apart disk devices need columns own y.stripes (filled_in y columns);
        asked = λ c n i e. let s = item-at y (length setup.graphs.items) setup.clients.items small c n i e in (s.asked, s.may, s.named);
        fit = fit-slim setup.graphs.items slim;
      }
