-- A column that was admitted to be rebuilt may be.
use Rattle.std.specs.Prelude.{◌≡◌, ◌≢◌, ◌<◌, ◌≤◌, ◌+◌, ◌*◌, ◌==◌, ℕ, zero, suc, Bool, true, false, List, [], ◌∷◌, length, get_or, cond, count_by, Option, Some, None, IsSome, slice_get, slice_set}
use Rattle.std.proofs.Common.{arith, refl, sym, ap, subst, inl, inr, ◌∙◌}
use Rattle.std.proofs.lemmas.Bool.{cond-true, eqb-false, eqb-true}
use Rattle.std.proofs.lemmas.List.{length-set}
use Rattle.std.proofs.lemmas.List.Sums.{sum_by-cons}
use Rattle.std.proofs.lemmas.Option.{slice_get-get_or}
use Rattle.blk_disk.specs.Devices.{device_at, size_of}
use Rattle.blk_disk.specs.declared.disk.Disk.{Ghosts}
use Rattle.lay_core.specs.Layout.{Shape}
use Rattle.lay_core.specs.declared.layout.Layout.{Ghosts as LayoutGhosts}
use Rattle.eng_array.specs.Fitting.{FitsRebuilding}
use Rattle.eng_array.specs.Starts.{begun_by, column_of, most_of}
use Rattle.eng_array.specs.declared.start.Start.{Start}
use Rattle.eng_array.specs.declared.start.Start.TheVariants as start
use Rattle.eng_cols.specs.declared.column.Column.{Column}
use Rattle.eng_cols.specs.declared.column.Column.TheVariants as column
use Rattle.eng_cols.specs.Cols.{ColumnState, Dead, device_set, is_set_filling, is_set_spread, passes, HasDeviceOn}
use Rattle.eng_cols.specs.Lost.{NotLost}
use Rattle.eng_cols.proofs.Lists.{get_set_either, get_set_other, get_set_same}
use Rattle.eng_cols.specs.Stripes.{states_of}
use Rattle.eng_parts.specs.declared.setup.Setup.{Setup}
use Rattle.raid_conf.specs.Layouts.{shape_of}
use Rattle.raid_conf.proofs.TableLaws.{shape-rows, shape-unit}
use Rattle.top_bay.specs.Asked.{Asked}
use Rattle.top_bay.specs.Views.{IsWithinLimits}
use Rattle.top_close.proofs.DyingLaws.{lost_no_less}
use Rattle.top_open.specs.Opening.{Opened}
use Rattle.top_duty.specs.Steps.{with_dead, with_killed}
use Rattle.top_duty.specs.Fit.{IsFit, IsStart, MayGo}
use Rattle.top_duty.specs.Opening.{needs_of}
use Rattle.top_duty.proofs.Killing.{dead_is_killed}
use Rattle.top_serve.specs.Setups.{HasTarget, IsNotLost, IsUnfilled, columns_in}
use Rattle.top_labelled.proofs.Lists.{none-passing}
use Rattle.top_labelled.specs.Begun.{IsSeated}
use Rattle.top_labelled.specs.Given as given

-- ## What isn't lost with a column dead isn't lost as it is

pub kept_as_opened : (y : Shape) (c : Option ℕ) (states : List ColumnState) → NotLost y (with_killed c states) → NotLost y states
kept_as_opened y None states kept = kept
kept_as_opened y (Some c) states kept =
    lost_no_less y states (slice_set states c Dead)
    (record { count = length-set states c Dead; each = λ k. elim (get_set_either states c k Dead) [ inl dead ↦ inr dead | inr same ↦ inl same ] }) kept

-- ## Counts

-- one that passes is counted
counted : {X : Type 0} (p : X → Bool) (xs : List X) (c : ℕ) (x : X) → slice_get xs c ≡ Some x → p x ≡ true → 1 ≤ count_by p xs
counted p [] c x at e = cc at
counted {X} p (y ∷ xs) zero x at e =
    let same : y ≡ x = cc at in
    let here : p y ≡ true = ap p same ∙ e in
    omega (arith, sum_by-cons (λ (z : X). cond (p z) 1 0) y xs, cond-true {A = ℕ} (p y) 1 0 here)
counted {X} p (y ∷ xs) (suc c) x at e = omega (arith, sum_by-cons (λ (z : X). cond (p z) 1 0) y xs, counted p xs c x at e)

-- so none passes where none is
none_counted : {X : Type 0} (p : X → Bool) (xs : List X) → count_by p xs ≡ 0 → (c : ℕ) (x : X) → slice_get xs c ≡ Some x → p x ≡ true → ⊥
none_counted p xs none c x at e = absurd (omega (arith, none, counted p xs c x at e))

-- ## A column that was made dead

with_sectors : {D : Type 0} (g : Ghosts D) (ds : List (Option D)) (d need : ℕ) → 0 ≢ need → need ≤ size_of g ds d → (x : D) × (slice_get ds d ≡ Some (Some x)) × (need ≤ g.size x)
unfolding device_at
with_sectors g [] d need some h = absurd (some (omega (arith, h)))
with_sectors g (None ∷ ds) zero need some h = absurd (some (omega (arith, h)))
with_sectors g (Some x ∷ ds) zero need some h = (x, refl, h)
with_sectors g (y ∷ ds) (suc d) need some h = with_sectors g ds d need some h

module _ (columns : List Column) (c : ℕ) (below : c < length columns) where
  abbrev after : List Column
  after = slice_set columns c column.Dead

  is_dead : slice_get after c ≡ Some column.Dead
  is_dead = get_set_same columns c (get_or columns c column.Dead) column.Dead (slice_get-get_or columns c column.Dead below)

  -- a column that isn't dead is another, and what it was
  other : (k : ℕ) (x : Column) → (x ≡ column.Dead → ⊥) → slice_get after k ≡ Some x → (k ≡ c → ⊥) × (slice_get columns k ≡ Some x)
  other k x lives is = go (k == c) refl
    where
      go : (b : Bool) → (k == c) ≡ b → (k ≡ c → ⊥) × (slice_get columns k ≡ Some x)
      go true e =
          let here : slice_get after c ≡ Some x = ap (λ (j : ℕ). slice_get after j) (sym (eqb-true k c e)) ∙ is in
          absurd (lives (let z : column.Dead ≡ x = cc (is_dead, here) in sym z))
      go false e = let apart : k ≡ c → ⊥ = eqb-false k c e in (apart, sym (get_set_other columns c k column.Dead apart) ∙ is)

  -- a device that no other column has is in no column any more
  unused : (d : ℕ) → ((e : ℕ) → HasDeviceOn columns e d → e ≡ c) → (k : ℕ) → HasDeviceOn after k d → ⊥
  unused d only k on = by (slice_get after k) refl on
    where
      of : (x : Column) → (x ≡ column.Dead → ⊥) → slice_get after k ≡ Some x → device_set (Some x) ≡ Some d → ⊥
      of x lives is on = let at = other k x lives is in at.0 (only k (ap device_set at.1 ∙ on))

      by : (o : Option Column) → slice_get after k ≡ o → device_set o ≡ Some d → ⊥
      by None is on = cc on
      by (Some (column.Live e)) is on = of (column.Live e) (λ z. cc z) is on
      by (Some column.Dead) is on = cc on
      by (Some (column.Filling e m)) is on = of (column.Filling e m) (λ z. cc z) is on
      by (Some column.Spread) is on = cc on

  none_spread : count_by is_set_spread columns ≡ 0 → (k : ℕ) → slice_get after k ≡ Some column.Spread → ⊥
  none_spread none k is =
      let at = other k column.Spread (λ z. cc z) is in
      none_counted is_set_spread columns none k column.Spread at.1 refl

  -- where no other column is filling, none is any more
  none_filling : ((k d m : ℕ) → slice_get columns k ≡ Some (column.Filling d m) → k ≡ c) → count_by is_set_filling after ≡ 0
  none_filling alone = none-passing is_set_filling after (λ k. of k (slice_get after k) refl)
    where
      of : (k : ℕ) (x : Option Column) → slice_get after k ≡ x → passes is_set_filling x ≡ false
      of k None e = refl
      of k (Some (column.Live d)) e = refl
      of k (Some column.Dead) e = refl
      of k (Some (column.Filling d m)) e = let at = other k (column.Filling d m) (λ z. cc z) e in absurd (at.0 (alone k d m at.1))
      of k (Some column.Spread) e = refl

-- ## The setup

module _ {L D : Type 0} (lay : LayoutGhosts L) (g : Ghosts D) (setup : Setup L D) (k : Asked) (o : Opened) (within : IsWithinLimits k)
    (fit : IsFit g k o setup.devices.items) (columns : setup.columns.items ≡ o.columns) (shape : lay.shape setup.layout ≡ shape_of k.conf o.rows) where
  abbrev y : Shape
  y = lay.shape setup.layout

  abbrev z : Shape
  z = shape_of k.conf o.rows

  has_rows : (64 + o.rows * k.conf.unit) ≡ (64 + y.rows * y.unit_sectors)
  has_rows = ap (λ (r : ℕ). 64 + r * k.conf.unit) (sym (ap (λ (z : Shape). z.rows) shape ∙ shape-rows k.conf o.rows within.conf))
      ∙ ap (λ (u : ℕ). 64 + y.rows * u) (sym (ap (λ (z : Shape). z.unit_sectors) shape ∙ shape-unit k.conf o.rows within.conf))

  -- the columns before it starts
  pub columns_before : (s : Start) → MayGo g k o setup.devices.items s → (given.before_start setup s).columns.items ≡ with_dead (needs_of k).excused o.columns
  columns_before (start.Fill c d most) h = ap (λ (l : List Column). slice_set l c column.Dead) columns ∙ sym (ap (λ (e : Option ℕ). with_dead e o.columns) h.0)
  columns_before (start.Resume c most) h = columns ∙ sym (ap (λ (e : Option ℕ). with_dead e o.columns) h.0)
  columns_before (start.Spread c) h = ap (λ (l : List Column). slice_set l c column.Dead) columns ∙ sym (ap (λ (e : Option ℕ). with_dead e o.columns) h.0)

  abbrev IsOnly : ℕ → Type 0
  IsOnly c = (e d m : ℕ) → slice_get o.columns e ≡ Some (column.Filling d m) → e ≡ c

  -- the same column is named
  named_only : (c : ℕ) → (needs_of k).excused ≡ Some c → IsOnly c → (i : ℕ) → (needs_of k).excused ≡ Some i → IsOnly i
  named_only c named only i is e d m at = let same : c ≡ i = cc (named, is) in only e d m at ∙ same

  only_named : (s : Start) → MayGo g k o setup.devices.items s → IsOnly (column_of s) → (i : ℕ) → (needs_of k).excused ≡ Some i → IsOnly i
  only_named (start.Fill c d most) h only i is = named_only c h.0 only i is
  only_named (start.Resume c most) h only i is = absurd (let z : ⊥ = cc (h.0, is) in z)
  only_named (start.Spread c) h only i is = named_only c h.0 only i is

  abbrev IsKeptSo : List Column → Type 0
  IsKeptSo l = NotLost y (states_of y l)

  kept_before : (s : Start) → IsKeptSo (given.before_start setup s).columns.items → IsNotLost lay (given.before_start setup s)
  kept_before (start.Fill c d most) kept = kept
  kept_before (start.Resume c most) kept = kept
  kept_before (start.Spread c) kept = kept

  not_lost : (s : Start) → IsStart g k o setup.devices.items s → NotLost z (with_killed (needs_of k).excused (states_of z o.columns)) → IsNotLost lay (given.before_start setup s)
  not_lost s h kept =
      let dead : NotLost z (states_of z (with_dead (needs_of k).excused o.columns)) =
      subst (λ (cs : List ColumnState). NotLost z cs) (sym (dead_is_killed z o.columns (needs_of k).excused (only_named s h.may h.alone))) kept in
      kept_before s (subst (λ (l : List Column). NotLost y (states_of y l)) (sym (columns_before s h.may)) (subst (λ (x : Shape). NotLost x (states_of x (with_dead (needs_of k).excused o.columns))) (sym shape) dead))

  -- its column is dead, and none is filling
  unfilled : (c : ℕ) → c < length setup.columns.items → IsOnly c → IsUnfilled lay (given.with_dead setup c) c
  unfilled c below only = record {
    dead = is_dead setup.columns.items c below;
    none_filling = none_filling setup.columns.items c below (λ e d m at. only e d m (ap (λ (l : List Column). slice_get l e) (sym columns) ∙ at));
  }

  target : (s : Start) → column_of s < length setup.columns.items → IsOnly (column_of s) → MayGo g k o setup.devices.items s → HasTarget lay g (given.before_start setup s) s
  target (start.Fill c d most) below only h =
      let x = with_sectors g setup.devices.items d (64 + y.rows * y.unit_sectors) (λ e. omega (arith, e)) (subst (λ (n : ℕ). n ≤ size_of g setup.devices.items d) has_rows h.1.large) in (
        unfilled c below only,
        record {
          there = x.0;
          there_is = x.1;
          size = x.2;
          unused = unused setup.columns.items c below d (subst (λ (l : List Column). (e : ℕ) → HasDeviceOn l e d → e ≡ c) (sym columns) h.1.apart);
        },
      )
  target (start.Resume c most) below only h = (h.1, h.2, ap (λ (l : List Column). slice_get l c) columns ∙ h.3)
  target (start.Spread c) below only h = (
    unfilled c below only,
    record {
      none_spread = none_spread setup.columns.items c below (ap (λ (l : List Column). count_by is_set_spread l) columns ∙ h.1.none_spread);
      spares = subst (λ (z : Shape). (i : ℕ) → i < z.stripes → IsSome (z.spare i)) (sym shape) h.1.each;
    },
  )

  seated : (s : Start) → MayGo g k o setup.devices.items s → IsSeated (length setup.columns.items) s
  seated (start.Fill c d most) h = subst (λ (l : List Column). d < length l + 8) (sym columns) h.1.numbered
  seated (start.Resume c most) h = tt
  seated (start.Spread c) h = tt

  pub may_rebuild : (s : Start) → IsStart g k o setup.devices.items s → NotLost z (with_killed (needs_of k).excused (states_of z o.columns))
      → FitsRebuilding lay (given.before_start setup s) (begun_by (columns_in lay (given.before_start setup s)) s) (column_of s) (most_of s) → given.IsRebuildable lay g setup s
  may_rebuild s h kept room =
      let below : column_of s < length setup.columns.items = subst (λ (n : ℕ). column_of s < n) (sym (ap (λ (l : List Column). length l) columns ∙ fit.entries)) h.within in
      record {
        within = below;
        alone = λ c d m at. h.alone c d m (ap (λ (l : List Column). slice_get l c) (sym columns) ∙ at);
        kept = not_lost s h kept;
        may = record { target = target s below h.alone h.may; room = room };
        seated = seated s h.may;
      }
