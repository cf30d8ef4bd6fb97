-- A rebuild that may start over a setup may start on the core that is opened over it.
use Rattle.std.proofs.Common.{◌≡◌, ℕ, zero, suc, ◌<◌, ◌≤◌, ◌+◌, ◌*◌, inl, inr, Bool, true, false, List, [], ◌∷◌, Option, Some, None, refl, sym, ◌∙◌, ap, subst, length, get_or, arith}
use Rattle.std.specs.Prelude.{IsSome, cond, count_by, slice_get, option_map}
use Rattle.std.specs.List.{list_any}
use Rattle.std.proofs.Math.ListN.{get_or-map}
use Rattle.std.proofs.lemmas.Bool.{cond-true}
use Rattle.std.proofs.lemmas.List.{get_or-replicate}
use Rattle.std.proofs.lemmas.List.Sums.{sum_by-cons}
use Rattle.std.proofs.lemmas.List.Folds.{list_any_none}
use Rattle.std.proofs.lemmas.Option.{slice_get-map, slice_get-get_or, slice_get_within, get_or_from_slice_get}
use Rattle.blk_disk.specs.declared.disk.Disk.{Ghosts as DiskGhosts}
use Rattle.lay_core.specs.Layout.{Shape}
use Rattle.lay_core.specs.declared.layout.Layout.{Ghosts as LayoutGhosts}
use Rattle.eng_cols.specs.declared.column.Column.{Column}
use Rattle.eng_cols.specs.declared.column.Column.TheVariants as column
use Rattle.eng_cols.specs.Cols.{ColumnState, Columns, Live, Dead, Filling, HasDevice, device_set, state_set, is_filling, is_set_filling, is_spread}
use Rattle.eng_cols.specs.Stripes.{filled_in, states_of}
use Rattle.eng_cols.proofs.Fewer.{states-at}
use Rattle.eng_parts.specs.Brought.{brought}
use Rattle.eng_clients.specs.Desk.{Desk}
use Rattle.eng_log.specs.Given.{items_at}
use Rattle.eng_clients.specs.Listing.{Listing}
use Rattle.eng_parts.specs.Shelf.{Shelved, seen_at, has_failed}
use Rattle.eng_parts.specs.declared.setup.Setup.{Setup}
use Rattle.eng_log.proofs.FewItems.{none-past}
use Rattle.eng_state.specs.declared.array.Array.{Array}
use Rattle.eng_events.specs.Opened.{IsSetup, IsOpened}
use Rattle.eng_starts.specs.Rebuilding.{CanRebuild, CanFill, CanResume, CanSpread}
use Rattle.eng_events.proofs.OpeningDesks.{idle, unreplied}
use Rattle.eng_array.specs.Fitting.{FitsRebuild, FitsRebuilding}
use Rattle.eng_array.specs.declared.start.Start.{Start}
use Rattle.eng_array.specs.declared.start.Start.TheVariants as start
use Rattle.eng_array.specs.Starts.{CanStart, begun_by, column_of, most_of}
use Rattle.eng_array.specs.Steady.{IsSteady}
use Rattle.top_serve.specs.Judged.{CanBegin, HasColumn}
use Rattle.top_serve.specs.Setups.{IsFreeDevice, HasSparePlaces, HasTarget, IsUnfilled, MayStart}

-- one that passes is counted
pub counted : {X : Type 0} (p : X → Bool) (xs : List X) (c : ℕ) (x : X) → slice_get xs c ≡ Some x → p x ≡ true → 1 ≤ count_by p xs
counted p [] c x at e = cc at
counted {X} p (y ∷ xs) zero x at e =
    let same : y ≡ x = cc at in
    let here : p y ≡ true = ap p same ∙ e in
    omega (arith, sum_by-cons (λ (z : X). cond (p z) 1 0) y xs, cond-true {A = ℕ} (p y) 1 0 here)
counted {X} p (y ∷ xs) (suc c) x at e = omega (arith, sum_by-cons (λ (z : X). cond (p z) 1 0) y xs, counted p xs c x at e)

-- a column that is set so isn't filling, where none is to be
unfilled : (n : ℕ) (l : List Bool) (o : Option Column) (x : ColumnState) → ((k : Column) → o ≡ Some k → is_set_filling k ≡ true → ⊥) → option_map (state_set n l) o ≡ Some x → is_filling x ≡ false
unfilled n l None x none is = let z : None ≡ Some x = is in absurd (let u : ⊥ = cc in u)
unfilled n l (Some (column.Live device)) x none is = let z : Some (Live device) ≡ Some x = is in let e : Live device ≡ x = cc in ap is_filling (sym e)
unfilled n l (Some column.Dead) x none is = let z : Some Dead ≡ Some x = is in let e : Dead ≡ x = cc in ap is_filling (sym e)
unfilled n l (Some (column.Filling device done)) x none is = absurd (none (column.Filling device done) refl refl)
unfilled n l (Some column.Spread) x none is = let z : Some (state_set n l column.Spread) ≡ Some x = is in let e : state_set n l column.Spread ≡ x = cc in ap is_filling (sym e)

-- a column that is set so is none that is spread
unspread : (n : ℕ) (l : List Bool) (o : Option Column) (x : ColumnState) → (o ≡ Some column.Spread → ⊥) → option_map (state_set n l) o ≡ Some x → is_spread x ≡ false
unspread n l None x none is = let z : None ≡ Some x = is in absurd (let u : ⊥ = cc in u)
unspread n l (Some (column.Live device)) x none is = let z : Some (Live device) ≡ Some x = is in let e : Live device ≡ x = cc in ap is_spread (sym e)
unspread n l (Some column.Dead) x none is = let z : Some Dead ≡ Some x = is in let e : Dead ≡ x = cc in ap is_spread (sym e)
unspread n l (Some (column.Filling device done)) x none is = let z : Some (state_set n l (column.Filling device done)) ≡ Some x = is in let e : state_set n l (column.Filling device done) ≡ x = cc in ap is_spread (sym e)
unspread n l (Some column.Spread) x none is = absurd (none refl)

-- one that has the device was set so
pub was-live : (n : ℕ) (l : List Bool) (o : Option Column) (d : ℕ) → option_map (state_set n l) o ≡ Some (Live d) → device_set o ≡ Some d
was-live n l None d is = let z : None ≡ Some (Live d) = is in absurd (let u : ⊥ = cc in u)
was-live n l (Some (column.Live device)) d is = let z : Some (Live device) ≡ Some (Live d) = is in let e : device ≡ d = cc in ap (λ v. Some v) e
was-live n l (Some column.Dead) d is = let z : Some Dead ≡ Some (Live d) = is in absurd (let u : ⊥ = cc in u)
was-live n l (Some (column.Filling device done)) d is = let z : Some (state_set n l (column.Filling device done)) ≡ Some (Live d) = is in absurd (let u : ⊥ = cc in u)
was-live n l (Some column.Spread) d is = let z : Some (state_set n l column.Spread) ≡ Some (Live d) = is in absurd (let u : ⊥ = cc in u)

pub was-filling : (n : ℕ) (l done : List Bool) (o : Option Column) (d : ℕ) → option_map (state_set n l) o ≡ Some (Filling d done) → device_set o ≡ Some d
was-filling n l done None d is = let z : None ≡ Some (Filling d done) = is in absurd (let u : ⊥ = cc in u)
was-filling n l done (Some (column.Live device)) d is = let z : Some (Live device) ≡ Some (Filling d done) = is in absurd (let u : ⊥ = cc in u)
was-filling n l done (Some column.Dead) d is = let z : Some Dead ≡ Some (Filling d done) = is in absurd (let u : ⊥ = cc in u)
was-filling n l done (Some (column.Filling device m)) d is = let z : Some (Filling device l) ≡ Some (Filling d done) = is in let e : device ≡ d = cc in ap (λ v. Some v) e
was-filling n l done (Some column.Spread) d is = let z : Some (state_set n l column.Spread) ≡ Some (Filling d done) = is in absurd (let u : ⊥ = cc in u)

module _ {L D : Type 0} (lay : LayoutGhosts L) (disk : DiskGhosts D) (setup : Setup L D) (core : Array L D) (given : IsSetup lay disk setup) (o : IsOpened lay disk setup core) where
  abbrev y : Shape
  y = lay.shape setup.layout

  abbrev columns : List ColumnState
  columns = states_of y setup.columns.items

  abbrev done : List Bool
  done = filled_in y setup.columns.items

  states : core.cols.states ≡ columns
  states = ap (λ (v : Columns). v.states) o.cols

  shape : lay.shape core.layout ≡ y
  shape = ap lay.shape o.layout

  get-set : (c : ℕ) → slice_get columns c ≡ option_map (state_set y.stripes done) (slice_get setup.columns.items c)
  get-set c = slice_get-map (state_set y.stripes done) setup.columns.items c

  at-state : (c : ℕ) (x : Column) → slice_get setup.columns.items c ≡ Some x → slice_get core.cols.states c ≡ Some (state_set y.stripes done x)
  at-state c x is = ap (λ (l : List ColumnState). slice_get l c) states ∙ states-at y setup.columns.items c x is

  starts : CanRebuild lay disk core
  starts = record {
    not_lost = o.lost;
    unbegun = λ k. (unreplied core.clients (items_at setup.clients.items) o.count o.clients k, idle core.clients (items_at setup.clients.items) o.count o.clients k);
    no_items = ap (λ (d : Desk). d.items) (o.clients 16 (omega arith)) ∙ none-past setup.clients.items o.laid.few 16 (omega arith);
    none_listed = ap (λ (r : Listing). r.items) o.rebuilds;
    room = let r : core.rebuilds.room ≡ y.stripes = ap (λ (r : Listing). r.room) o.rebuilds in let s : (lay.shape core.layout).stripes ≡ y.stripes = ap (λ (v : Shape). v.stripes) shape in omega (arith, r, s);
  }

  module _ (device : ℕ) (free : IsFreeDevice lay disk setup device) where
    seen : seen_at core.devices device ≡ Some (record { out = false; device = free.there })
    seen = ap (λ (s : Shelved D). seen_at s device) o.devices
        ∙ (get_or-map brought setup.devices.items device None ∙ ap brought (get_or_from_slice_get setup.devices.items device (Some free.there) None free.there_is))

    unused : (k : ℕ) → HasDevice core.cols.states k device → ⊥
    unused k has = by (subst (λ (l : List ColumnState). HasDevice l k device) states has)
      where
        by : HasDevice columns k device → ⊥
        by (inl h) = free.unused k (was-live y.stripes done (slice_get setup.columns.items k) device (sym (get-set k) ∙ h))
        by (inr h) = free.unused k (was-filling y.stripes done h.0 (slice_get setup.columns.items k) device (sym (get-set k) ∙ h.1))

    can-fill : (c : ℕ) → IsUnfilled lay setup c → CanFill lay disk core c device
    can-fill c target = record {
      starts = starts;
      dead = at-state c column.Dead target.dead;
      none_filling = ap (λ (l : List ColumnState). list_any is_filling l) states ∙ list_any_none is_filling columns (λ k d lt.
          unfilled y.stripes done (slice_get setup.columns.items k) (get_or columns k d)
          (λ x is fills. let one = counted is_set_filling setup.columns.items k x is fills in let none = target.none_filling in omega (arith, one, none))
          (sym (get-set k) ∙ slice_get-get_or columns k d lt));
      home = (free.there, seen, subst (λ (v : Shape). 64 + v.rows * v.unit_sectors ≤ disk.size free.there) (sym shape) free.size);
      unfailed = ap (λ (s : Shelved D). has_failed s device) o.devices ∙ get_or-replicate (length setup.devices.items) device false false (slice_get_within setup.devices.items device (Some free.there) free.there_is);
      unused = unused;
    }

  can-resume : (c d m : ℕ) → slice_get setup.columns.items c ≡ Some (column.Filling d m) → CanResume lay disk core c
  can-resume c d m is = record {
    starts = starts;
    device = d;
    done = done;
    filling = at-state c (column.Filling d m) is;
  }

  can-spread : HasSparePlaces lay setup → (c : ℕ) → IsUnfilled lay setup c → CanSpread lay disk core c
  can-spread places c target = record {
    starts = starts;
    dead = at-state c column.Dead target.dead;
    none_spread = ap (λ (l : List ColumnState). list_any is_spread l) states ∙ list_any_none is_spread columns (λ k d lt.
        unspread y.stripes done (slice_get setup.columns.items k) (get_or columns k d) (places.none_spread k) (sym (get-set k) ∙ slice_get-get_or columns k d lt));
    spares = subst (λ (v : Shape). (s : ℕ) → s < v.stripes → IsSome (v.spare s)) (sym shape) places.spares;
  }

  can-start : (how : Start) → HasTarget lay disk setup how → CanStart lay disk core how
  can-start (start.Fill c device most) target = can-fill device target.1 c target.0
  can-start (start.Resume c most) target = can-resume c target.0 target.1 target.2
  can-start (start.Spread c) target = can-spread target.1 c target.0

  pub can-begin : (how : Option Start) → MayStart lay disk setup how → ((cols : List ColumnState) (column asked : ℕ) → FitsRebuilding lay setup cols column asked → FitsRebuild lay core cols column asked) → CanBegin lay disk core how
  can-begin None may fits = tt
  can-begin (Some how) may fits = (
    can-start how may.target,
    fits (begun_by core.cols how) (column_of how) (most_of how) (subst (λ (v : Columns). FitsRebuilding lay setup (begun_by v how) (column_of how) (most_of how)) (sym o.cols) may.room),
  )

-- ## The column that is rebuilt

module _ {L D : Type 0} (lay : LayoutGhosts L) (disk : DiskGhosts D) where
  start-within : (core : Array L D) (how : Start) → CanStart lay disk core how → column_of how < length core.cols.states
  start-within core (start.Fill c device most) can = slice_get_within core.cols.states c Dead can.dead
  start-within core (start.Resume c most) can = slice_get_within core.cols.states c (Filling can.device can.done) can.filling
  start-within core (start.Spread c) can = slice_get_within core.cols.states c Dead can.dead

  -- it is one of the core's
  pub has-column : (core : Array L D) → IsSteady lay disk core → (how : Option Start) → CanBegin lay disk core how → HasColumn lay disk core how
  has-column core steady None can = tt
  has-column core steady (Some how) can =
      let within = start-within core how can.0 in
      let count = steady.sound.seated.fit.columns in
      omega (arith, within, count)

  -- and one of each core that comes after
  pub column-on : (old new : Array L D) → lay.shape new.layout ≡ lay.shape old.layout → (how : Option Start) → HasColumn lay disk old how → HasColumn lay disk new how
  column-on old new same None has = tt
  column-on old new same (Some how) has = subst (λ (y : Shape). column_of how < y.columns) (sym same) has
