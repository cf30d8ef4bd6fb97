-- What a small setup gives a rebuild of a dead column.
use Rattle.std.proofs.Common.{◌≡◌, ℕ, ◌<◌, ◌≤◌, ◌+◌, ◌*◌, inl, inr, Bool, false, List, Option, Some, None, refl, sym, ◌∙◌, ap, subst, length, map, get_or, arith}
use Rattle.std.specs.Prelude.{IsSome, slice_get, option_map}
use Rattle.std.specs.List.{list_any}
use Rattle.std.proofs.Math.ListN.{get_or-map}
use Rattle.std.proofs.lemmas.List.{get_or-replicate, length-map}
use Rattle.std.proofs.lemmas.List.Folds.{list_any_none}
use Rattle.std.proofs.lemmas.Option.{slice_get-map, slice_get-get_or, slice_get_within, get_or_from_slice_get}
use Rattle.blk_disk.specs.declared.disk.Disk.{Ghosts as DiskGhosts}
use Rattle.lay_core.specs.Layout.{Shape}
use Rattle.lay_core.specs.declared.layout.Layout.{Ghosts as LayoutGhosts}
use Rattle.eng_cols.specs.declared.column.Column.{Column}
use Rattle.eng_cols.specs.declared.column.Column.TheVariants as column
use Rattle.eng_cols.specs.Stripes.{filled_in}
use Rattle.eng_cols.specs.Cols.{ColumnState, Columns, Live, Dead, Filling, HasDevice, state_set, is_filling, is_spread}
use Rattle.eng_parts.specs.Brought.{brought}
use Rattle.eng_clients.specs.Desk.{Desk}
use Rattle.eng_log.specs.Given.{items_at}
use Rattle.eng_clients.specs.Listing.{Listing}
use Rattle.eng_parts.specs.Shelf.{Shelved, seen_at, has_failed}
use Rattle.eng_parts.specs.declared.setup.Setup.{Setup}
use Rattle.eng_log.proofs.FewItems.{none-past}
use Rattle.eng_state.specs.declared.array.Array.{Array}
use Rattle.eng_events.specs.Opened.{IsOpened}
use Rattle.eng_starts.specs.Rebuilding.{CanRebuild, CanFill, CanSpread}
use Rattle.eng_events.proofs.OpeningDesks.{idle, unreplied}
use Rattle.array_tests.specs.Small.{HasSectors, IsOwn, AreOwn, needed}
use Rattle.array_tests.proofs.SmallSetups.{was, own-device}

module _ {D : Type 0} (disk : DiskGhosts D) (devices : List (Option D)) (need n : ℕ) (filled : List Bool) where
  state-unfilled : (c : ℕ) (x : Column) → IsOwn disk devices need c x → is_filling (state_set n filled x) ≡ false
  state-unfilled c (column.Live device) own = refl
  state-unfilled c column.Dead own = refl
  state-unfilled c (column.Filling device m) own = absurd own
  state-unfilled c column.Spread own = absurd own

  state-unspread : (c : ℕ) (x : Column) → IsOwn disk devices need c x → is_spread (state_set n filled x) ≡ false
  state-unspread c (column.Live device) own = refl
  state-unspread c column.Dead own = refl
  state-unspread c (column.Filling device m) own = absurd own
  state-unspread c column.Spread own = absurd own

  -- a test that no own column passes
  none-any : (columns : List Column) → AreOwn disk devices need columns → (p : ColumnState → Bool) → ((c : ℕ) (x : Column) → IsOwn disk devices need c x → p (state_set n filled x) ≡ false) → list_any p (map (state_set n filled) columns) ≡ false
  none-any columns own p each = list_any_none p (map (state_set n filled) columns) (λ k d lt.
      let x = was (state_set n filled) columns k (get_or (map (state_set n filled) columns) k d) (slice_get-get_or (map (state_set n filled) columns) k d lt) in
      sym (ap p x.2) ∙ each k x.0 (own k x.0 x.1))

module _ {L D : Type 0} (lay : LayoutGhosts L) (disk : DiskGhosts D) (setup : Setup L D) (core : Array L D) (o : IsOpened lay disk setup core)
    (own : AreOwn disk setup.devices.items (needed (lay.shape setup.layout)) setup.columns.items) (c : ℕ) (dead : slice_get setup.columns.items c ≡ Some column.Dead) where
  abbrev y : Shape
  y = lay.shape setup.layout

  abbrev columns : List ColumnState
  columns = map (state_set y.stripes (filled_in y setup.columns.items)) setup.columns.items

  states : core.cols.states ≡ columns
  states = ap (λ (v : Columns). v.states) o.cols

  shape : lay.shape core.layout ≡ y
  shape = ap lay.shape o.layout

  starts : CanRebuild lay disk core
  starts = record {
    not_lost = o.lost;
    unbegun = λ k. (unreplied core.clients (items_at setup.clients.items) o.count o.clients k, idle core.clients (items_at setup.clients.items) o.count o.clients k);
    no_items = ap (λ (d : Desk). d.items) (o.clients 16 (omega arith)) ∙ none-past setup.clients.items o.laid.few 16 (omega arith);
    none_listed = ap (λ (r : Listing). r.items) o.rebuilds;
    room = let r : core.rebuilds.room ≡ y.stripes = ap (λ (r : Listing). r.room) o.rebuilds in let s : (lay.shape core.layout).stripes ≡ y.stripes = ap (λ (v : Shape). v.stripes) shape in omega (arith, r, s);
  }

  is-dead : slice_get core.cols.states c ≡ Some Dead
  is-dead = ap (λ (l : List ColumnState). slice_get l c) states ∙ (slice_get-map (state_set y.stripes (filled_in y setup.columns.items)) setup.columns.items c ∙ ap (option_map (state_set y.stripes (filled_in y setup.columns.items))) dead)

  -- a device behind those of the columns, which is there
  module _ (device : ℕ) (behind : length setup.columns.items ≤ device) (there : HasSectors disk setup.devices.items device (needed y)) where
    seen : seen_at core.devices device ≡ Some (record { out = false; device = there.0 })
    seen = ap (λ (s : Shelved D). seen_at s device) o.devices
        ∙ (get_or-map brought setup.devices.items device None ∙ ap brought (get_or_from_slice_get setup.devices.items device (Some there.0) None there.1))

    unused : (k : ℕ) → HasDevice core.cols.states k device → ⊥
    unused k h =
        let at : HasDevice columns k device = subst (λ (l : List ColumnState). HasDevice l k device) states h in
        let is = (own-device disk setup.devices.items (needed y) setup.columns.items own y.stripes (filled_in y setup.columns.items) k device at).0 in
        let count = length-map setup.columns.items (state_set y.stripes (filled_in y setup.columns.items)) in
        elim at [
          | inl e ↦ let lt = slice_get_within columns k (Live device) e in omega (arith, lt, count, is, behind)
          | inr f ↦ let lt = slice_get_within columns k (Filling device f.0) f.1 in omega (arith, lt, count, is, behind)
        ]

    pub can-fill : CanFill lay disk core c device
    can-fill = record {
      starts = starts;
      dead = is-dead;
      none_filling = ap (λ (l : List ColumnState). list_any is_filling l) states ∙ none-any disk setup.devices.items (needed y) y.stripes (filled_in y setup.columns.items) setup.columns.items own is_filling (state-unfilled disk setup.devices.items (needed y) y.stripes (filled_in y setup.columns.items));
      home = (there.0, seen, subst (λ (v : Shape). 64 + v.rows * v.unit_sectors ≤ disk.size there.0) (sym shape) there.2);
      unfailed = ap (λ (s : Shelved D). has_failed s device) o.devices ∙ get_or-replicate (length setup.devices.items) device false false (slice_get_within setup.devices.items device (Some there.0) there.1);
      unused = unused;
    }

  -- a spare place in each stripe
  pub can-spread : ((s : ℕ) → s < y.stripes → IsSome (y.spare s)) → CanSpread lay disk core c
  can-spread spares = record {
    starts = starts;
    dead = is-dead;
    none_spread = ap (λ (l : List ColumnState). list_any is_spread l) states ∙ none-any disk setup.devices.items (needed y) y.stripes (filled_in y setup.columns.items) setup.columns.items own is_spread (state-unspread disk setup.devices.items (needed y) y.stripes (filled_in y setup.columns.items));
    spares = subst (λ (v : Shape). (s : ℕ) → s < v.stripes → IsSome (v.spare s)) (sym shape) spares;
  }
