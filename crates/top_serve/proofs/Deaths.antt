-- Between the taking of room and the run columns may die, and devices may change: what is asked of a setup is so still.
use Rattle.std.proofs.Common.{◌≡◌, ◌⊎◌, inl, inr, ℕ, zero, suc, ◌+◌, ◌*◌, ◌≤◌, Bool, false, cond, List, [], ◌∷◌, length, Option, Some, None, refl, sym, ◌∙◌, ap, subst, arith}
use Rattle.std.specs.Prelude.{Vec, count_by, slice_get}
use Rattle.std.specs.declared.alloc.Global.{Global}
use Rattle.std.proofs.Math.Nat.{mul-le-mul}
use Rattle.std.proofs.lemmas.List.{length-map}
use Rattle.std.proofs.lemmas.List.Sums.{sum_by-cons}
use Rattle.std.proofs.lemmas.Option.{slice_get_within, get_or_from_slice_get}
use Rattle.blk_disk.specs.declared.disk.Disk.{Ghosts as DiskGhosts}
use Rattle.blk_disk.specs.Devices.{device_at, StaysIf, Changes}
use Rattle.blk_disk.proofs.DeviceLaws.{device_at-get}
use Rattle.lay_core.specs.Layout.{Shape}
use Rattle.lay_core.specs.declared.layout.Layout.{Ghosts as LayoutGhosts}
use Rattle.graph_mean.specs.Graph.{Held}
use Rattle.eng_cols.specs.declared.column.Column.{Column}
use Rattle.eng_cols.specs.declared.column.Column.TheVariants as column
use Rattle.eng_cols.specs.Fewer.{DieApart}
use Rattle.eng_cols.proofs.Fewer.{states-die as apart-die}
use Rattle.eng_cols.specs.Cols.{ColumnState, Live, Dead, Filling, Spread, AtMostOne, HasDevice, state_set, is_set_filling, is_set_spread}
use Rattle.eng_cols.specs.Deaths.{Dies}
use Rattle.eng_world.specs.declared.item.Item.{Item}
use Rattle.item_list.specs.ItemList.{ItemList}
use Rattle.eng_rest.specs.Left.{alive, is_alive}
use Rattle.eng_rest.proofs.Summing.{below-le}
use Rattle.eng_parts.specs.declared.core_room.CoreRoom.{CoreRoom}
use Rattle.eng_parts.specs.declared.setup.Setup.{Setup}
use Rattle.eng_log.specs.Given.{items_at}
use Rattle.eng_cols.specs.Stripes.{filled_in, states_of}
use Rattle.eng_events.specs.Opened.{IsSetup}
use Rattle.eng_array.specs.Fitting.{FitsTrace, item_events, row_events, opening_events, most_in}
use Rattle.top_serve.specs.Setups.{IsFew, IsRoomOf}

-- the setup with these devices and columns
abbrev pub later : {L D : Type 0} → Setup L D → Vec (Option D) Global → Vec Column Global → Setup L D
later setup devices columns = record setup { devices = devices; columns = columns }

-- ## Counts

one_if : Bool → ℕ
one_if b = cond b 1 0

or_else : Column → Option Column → Column
or_else d None = d
or_else d (Some x) = x

passes-less : (p : Column → Bool) → p column.Dead ≡ false → (x y : Column) → (Some y ≡ Some x) ⊎ (Some y ≡ Some column.Dead) → one_if (p y) ≤ one_if (p x)
unfolding or_else one_if
passes-less p none x y h = elim h [
  | inl same ↦ let e : one_if (p y) ≡ one_if (p x) = ap (λ o. one_if (p (or_else x o))) same in omega (arith, e)
  | inr dead ↦ let e : one_if (p y) ≡ one_if false = ap (λ o. one_if (p (or_else x o))) dead ∙ ap one_if none in omega (arith, e)
]

pass-less : (p : Column → Bool) → p column.Dead ≡ false → (old new : List Column) → length new ≡ length old → ((c : ℕ) → (slice_get new c ≡ slice_get old c) ⊎ (slice_get new c ≡ Some column.Dead)) → count_by p new ≤ count_by p old
unfolding one_if
pass-less p none [] [] long each = omega arith
pass-less p none [] (y ∷ ys) long each = absurd (omega (arith, long))
pass-less p none (x ∷ xs) [] long each = absurd (omega (arith, long))
pass-less p none (x ∷ xs) (y ∷ ys) long each =
    let rest = pass-less p none xs ys (omega (arith, long)) (λ c. each (suc c)) in
    let first = passes-less p none x y (each 0) in
    let a : count_by p (x ∷ xs) ≡ one_if (p x) + count_by p xs = sum_by-cons (λ z. cond (p z) 1 0) x xs in
    let b : count_by p (y ∷ ys) ≡ one_if (p y) + count_by p ys = sum_by-cons (λ z. cond (p z) 1 0) y ys in
    omega (arith, rest, first, a, b)

-- ## States

abbrev StatesDie : List ColumnState → List ColumnState → Type 0
StatesDie old new = (c : ℕ) → (slice_get new c ≡ slice_get old c) ⊎ (slice_get new c ≡ Some Dead)

state-of : Option ColumnState → ColumnState → ColumnState
state-of None d = d
state-of (Some x) d = x

alive-one : (x y : ColumnState) → (Some y ≡ Some x) ⊎ (Some y ≡ Some Dead) → is_alive y ≤ is_alive x
unfolding state-of
alive-one x y h = elim h [
  | inl same ↦ let e : is_alive y ≡ is_alive x = ap (λ o. is_alive (state-of o x)) same in omega (arith, e)
  | inr dead ↦ let e : is_alive y ≡ 0 = ap (λ o. is_alive (state-of o x)) dead in omega (arith, e)
]

pub alive-less : (old new : List ColumnState) → length new ≡ length old → StatesDie old new → alive new ≤ alive old
alive-less [] [] long each = omega arith
alive-less [] (y ∷ ys) long each = absurd (omega (arith, long))
alive-less (x ∷ xs) [] long each = absurd (omega (arith, long))
alive-less (x ∷ xs) (y ∷ ys) long each =
    let rest = alive-less xs ys (omega (arith, long)) (λ c. each (suc c)) in
    let first = alive-one x y (each 0) in
    omega (arith, rest, first)

-- ## Events

pub events-less : (n m k : ℕ) → n ≤ k → item_events n m ≤ item_events k m
events-less n m k le = let a : n * (2 * m + 1) ≤ k * (2 * m + 1) = mul-le-mul le (omega arith) in omega (arith, a)

pub row-less : (y : Shape) (graphs : List Held) (n k : ℕ) (items : List Item) → n ≤ k → row_events y graphs n items ≤ row_events y graphs k items
row-less y graphs n k items le = below-le (λ i. item_events k (most_in y graphs (slice_get items i))) (λ i. item_events n (most_in y graphs (slice_get items i))) (length items) (λ i l. events-less n (most_in y graphs (slice_get items i)) k le)

opening-less : (y : Shape) (graphs : List Held) (old new : List ColumnState) (given : List ItemList) → alive new ≤ alive old → opening_events y graphs new given ≤ opening_events y graphs old given
opening-less y graphs old new given le =
    let a = below-le (λ c. row_events y graphs (alive old) (items_at given c)) (λ c. row_events y graphs (alive new) (items_at given c)) 16 (λ c l. row-less y graphs (alive new) (alive old) (items_at given c) le) in
    omega (arith, a, le)

-- ## Devices

pub there-later : {D : Type 0} (g : DiskGhosts D) (may : ℕ → Type 0) (x : D) (z : Option D) → StaysIf g may (Some x) z → (after : D) × (z ≡ Some after) × (g.size after ≡ g.size x)
there-later g may x None stays = absurd stays
there-later g may x (Some z) stays = (z, refl, stays.size)

pub get-device : {D : Type 0} (ds : List (Option D)) (d : ℕ) (x : D) → device_at ds d ≡ Some x → slice_get ds d ≡ Some (Some x)
unfolding device_at
get-device [] d x h = let z : None ≡ Some x = h in absurd (let u : ⊥ = cc in u)
get-device (y ∷ ds) zero x h = ap (λ o. Some o) h
get-device (y ∷ ds) (suc d) x h = get-device ds d x h

module _ {L D : Type 0} (lay : LayoutGhosts L) (disk : DiskGhosts D) (setup : Setup L D) (devices : Vec (Option D) Global) (columns : Vec Column Global) (cause : ℕ → Type 0) (may : ℕ → ℕ → Type 0) (dies : Dies cause setup.columns.items columns.items) (apart : DieApart setup.columns.items columns.items) (one : AtMostOne is_set_filling setup.columns.items) (changes : Changes disk may setup.devices.items devices.items) where
  abbrev y : Shape
  y = lay.shape setup.layout

  abbrev new : Setup L D
  new = later setup devices columns

  only : (c : ℕ) → (slice_get columns.items c ≡ slice_get setup.columns.items c) ⊎ (slice_get columns.items c ≡ Some column.Dead)
  only c = elim (dies.each c) [ inl same ↦ inl same | inr dead ↦ inr dead.0 ]

  pub states-die : (c : ℕ) → (slice_get (states_of y columns.items) c ≡ slice_get (states_of y setup.columns.items) c) ⊎ (slice_get (states_of y columns.items) c ≡ Some Dead)
  states-die c = apart-die y setup.columns.items columns.items apart one c

  -- a column that has a device had it
  pub had-device : (c d : ℕ) → HasDevice (states_of y columns.items) c d → HasDevice (states_of y setup.columns.items) c d
  had-device c d (inl h) = elim (states-die c) [
    | inl same ↦ inl (sym same ∙ h)
    | inr dead ↦ let z : Some Dead ≡ Some (Live d) = sym dead ∙ h in absurd (let u : ⊥ = cc in u)
  ]
  had-device c d (inr h) = elim (states-die c) [
    | inl same ↦ inr (h.0, sym same ∙ h.1)
    | inr dead ↦ let z : Some Dead ≡ Some (Filling d h.0) = sym dead ∙ h.1 in absurd (let u : ⊥ = cc in u)
  ]

  was-spread : (c : ℕ) (done : List Bool) → slice_get (states_of y columns.items) c ≡ Some (Spread done) → slice_get (states_of y setup.columns.items) c ≡ Some (Spread done)
  was-spread c done h = elim (states-die c) [
    | inl same ↦ sym same ∙ h
    | inr dead ↦ let z : Some Dead ≡ Some (Spread done) = sym dead ∙ h in absurd (let u : ⊥ = cc in u)
  ]

  device-there : (given : IsSetup lay disk setup) (c d : ℕ) → HasDevice (states_of y columns.items) c d → (x : D) × (slice_get devices.items d ≡ Some (Some x)) × (64 + y.rows * y.unit_sectors ≤ disk.size x)
  device-there given c d has =
      let there = given.there c d (had-device c d has) in
      let is : device_at setup.devices.items d ≡ Some there.0 =
      device_at-get setup.devices.items d None (slice_get_within setup.devices.items d (Some there.0) there.1) ∙ get_or_from_slice_get setup.devices.items d (Some there.0) None there.1 in
      let after = there-later disk (may d) there.0 (device_at devices.items d) (subst (λ o. StaysIf disk (may d) o (device_at devices.items d)) is (changes.each d)) in
      let size = after.2 in
      let large = there.2 in
      (after.0, get-device devices.items d after.0 after.1, omega (arith, size, large))

  pub setup-later : IsSetup lay disk setup → IsSetup lay disk new
  setup-later given = record {
    entries = dies.count ∙ given.entries;
    filling = let a = pass-less is_set_filling refl setup.columns.items columns.items dies.count only in let b = given.filling in omega (arith, a, b);
    spread = let a = pass-less is_set_spread refl setup.columns.items columns.items dies.count only in let b = given.spread in omega (arith, a, b);
    spares = λ c s done is sw. given.spares c s done (was-spread c done is) sw;
    there = device-there given;
    one_column = λ c k d one two. given.one_column c k d (had-device c d one) (had-device k d two);
    asked = given.asked;
    fit = given.fit;
  }

  pub few-later : IsFew setup → IsFew new
  few-later few = record { clients = few.clients; items = few.items; sectors = few.sectors; devices = let a = changes.count in let b = few.devices in omega (arith, a, b) }

  pub trace-later : FitsTrace lay setup → FitsTrace lay new
  trace-later fits kept =
      let a = opening-less y setup.graphs.items (states_of y setup.columns.items) (states_of y columns.items) setup.clients.items
      (alive-less (states_of y setup.columns.items) (states_of y columns.items)
      (let p = length-map columns.items (state_set y.stripes (filled_in y columns.items)) in let q = length-map setup.columns.items (state_set y.stripes (filled_in y setup.columns.items)) in let r = dies.count in omega (arith, p, q, r))
      states-die) in
      let b = fits kept in
      omega (arith, a, b)

  pub room-later : (room : CoreRoom D) → IsRoomOf lay setup room → IsRoomOf lay new room
  room-later room is = record {
    cols = is.cols;
    devices = is.devices ∙ sym changes.count;
    unit = is.unit;
    pool = is.pool;
    locks = is.locks;
    lists = is.lists;
    few = is.few;
    clients = is.clients;
    log = is.log;
    laid = is.laid;
    rebuilds = is.rebuilds;
    spare = is.spare;
  }
